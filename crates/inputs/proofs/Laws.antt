-- What reading the inputs answers, and what its answer says.
use Prim.Native.Nat.{ℕ, ◌<◌}
use mathlib.Core.Path.{◌≡◌, sym, ap, subst, ◌∙◌}
use mathlib.Core.Logic.{⊎_elim}
use mathlib.Core.Bool.{Bool, true, false, not, ◌&&◌}
use mathlib.Core.List.{List, [], ◌∷◌}
use lib.Dec.{T, ltb, ltb→lt}
use Rattle.lts.specs.declared.Refusal.{Refusal}
use Rattle.lts.specs.declared.Refusal.TheVariants.{NoState}
use Rattle.lts.specs.Rule.{Rule, ◌otherwise◌, Nothing, First, broken, checked, check}
use Rattle.lts.proofs.Rule.{stop, pass, done, kept, refuses, passes, first_part, second-part, both-kept, second-checked, finding, check-broken, check-kept}
use Rattle.lts.proofs.Bounded.{and-iff}
use Rattle.encoding.specs.declared.Header.{Header}
use Rattle.encoding.specs.Records.{header_of}
use Rattle.encoding.specs.Encoding.{sheet_rules, read_encoding}
use Rattle.encoding.proofs.Reader.{sheet-broken, sheet-kept, kept-readable}
use Rattle.relation.specs.Check.{start_rules}
use Rattle.inputs.specs.Inputs.{input_rules, read_inputs, pair_rules, read_pair, Ready}
use Rattle.std.specs.Prelude.{Ok, Err}

-- the start's check, on a sheet that was read
module _ (h : Header) (start : List ℕ) where
  pub unchecked : {r : Refusal} → check (start_rules h.states start) ≡ Err r → Err r ≡ checked (start_rules h.states start) Err (Ok h)
  unchecked e = sym (refuses _ _ _ (check-broken _ e))

  pub passed : check (start_rules h.states start) ≡ Ok tt → Ok h ≡ checked (start_rules h.states start) Err (Ok h)
  passed e = sym (passes _ _ _ (check-kept _ e))

-- ## What a reading by rules answers, and what its answer says of them
module _ (rules : List Rule) (g : Header) where
  pub reading-refused : {r : Refusal} → broken rules ≡ First r → Err r ≡ checked rules Err (Ok g)
  reading-refused e = sym (refuses rules Err (Ok g) e)

  pub reading-passed : broken rules ≡ Nothing → Ok g ≡ checked rules Err (Ok g)
  reading-passed e = sym (passes rules Err (Ok g) e)

  pub reading-broken : {r : Refusal} → checked rules Err (Ok g) ≡ Err r → broken rules ≡ First r
  reading-broken {r} e = ⊎_elim (λ p. let f = reading-passed p in cc)
      (λ q. let f = reading-refused q.1 in let z : q.0 ≡ r = cc in q.1 ∙ ap First z) (finding rules)

  pub reading-kept : {h : Header} → checked rules Err (Ok g) ≡ Ok h → (broken rules ≡ Nothing) × (h ≡ g)
  reading-kept e = ⊎_elim (λ p. let f = reading-passed p in (p, cc)) (λ q. let f = reading-refused q.1 in (cc, cc)) (finding rules)

-- ## A sheet and a start
module _ (s start : List ℕ) where
  pub unreadable : {r : Refusal} → read_encoding s ≡ Err r → Err r ≡ read_inputs s start
  unfolding input_rules read_inputs
  unreadable e = reading-refused (input_rules s start) (header_of s) (first_part _ _ (sheet-broken s e))

  pub readable : {h : Header} → read_encoding s ≡ Ok h → checked (start_rules h.states start) Err (Ok h) ≡ read_inputs s start
  unfolding input_rules read_inputs
  readable e = let k = sheet-kept s e in rw k.1 (sym (second-checked (sheet_rules s) (start_rules (header_of s).states start) Err (Ok (header_of s)) k.0))

  -- what a caller learns
  pub input-broken : {r : Refusal} → read_inputs s start ≡ Err r → broken (input_rules s start) ≡ First r
  unfolding read_inputs
  input-broken e = reading-broken (input_rules s start) (header_of s) e

  pub input-kept : {h : Header} → read_inputs s start ≡ Ok h → (broken (input_rules s start) ≡ Nothing) × (h ≡ header_of s)
  unfolding read_inputs
  input-kept e = reading-kept (input_rules s start) (header_of s) e

  pub kept-ready : {h : Header} → h ≡ header_of s → broken (input_rules s start) ≡ Nothing → Ready s h start
  unfolding input_rules
  kept-ready q e = let b = both-kept _ _ e in rw q (record { readable = kept-readable s b.0; checked = b.1 })

-- ## And a pair of states
module _ (s start : List ℕ) (p q : ℕ) where
  pub pair-unread : {r : Refusal} → read_inputs s start ≡ Err r → Err r ≡ read_pair s start p q
  unfolding pair_rules read_pair
  pair-unread e = reading-refused (pair_rules s start p q) (header_of s) (first_part _ _ (input-broken s start e))

  -- what is left of the rules where the inputs keep theirs
  left : {h : Header} → read_inputs s start ≡ Ok h
      → broken (pair_rules s start p q) ≡ broken ((ltb p h.states && ltb q h.states) otherwise NoState ∷ [])
  unfolding pair_rules
  left e = let k = input-kept s start e in rw k.1 (second-part _ _ k.0)

  pub pair-outside : {h : Header} {b : Bool} → read_inputs s start ≡ Ok h → b ≡ (ltb p h.states && ltb q h.states) → not b ≡ true
      → Err NoState ≡ read_pair s start p q
  unfolding read_pair
  pair-outside e t n = reading-refused (pair_rules s start p q) (header_of s) (stop _ _ _ (left e) t n)

  pub pair_read : {h : Header} {b : Bool} → read_inputs s start ≡ Ok h → b ≡ (ltb p h.states && ltb q h.states) → not b ≡ false
      → Ok h ≡ read_pair s start p q
  unfolding read_pair
  pair_read e t n =
      ap Ok (input-kept s start e).1 ∙ reading-passed (pair_rules s start p q) (header_of s) (done (pass _ _ _ (left e) t n))

  -- what a caller learns
  pub pair-broken : {r : Refusal} → read_pair s start p q ≡ Err r → broken (pair_rules s start p q) ≡ First r
  unfolding read_pair
  pair-broken e = reading-broken (pair_rules s start p q) (header_of s) e

  pub pair-kept : {h : Header} → read_pair s start p q ≡ Ok h → (broken (pair_rules s start p q) ≡ Nothing) × (h ≡ header_of s)
  unfolding read_pair
  pair-kept e = reading-kept (pair_rules s start p q) (header_of s) e

  pub pair-inputs : broken (pair_rules s start p q) ≡ Nothing → broken (input_rules s start) ≡ Nothing
  unfolding pair_rules
  pair-inputs e = (both-kept _ _ e).0

  -- p and q are states
  pub pair-states : {h : Header} → h ≡ header_of s → broken (pair_rules s start p q) ≡ Nothing → (p < h.states) × (q < h.states)
  unfolding pair_rules
  pair-states {h} e k =
      let b = (kept (ltb p (header_of s).states && ltb q (header_of s).states) NoState [] (both-kept (input_rules s start) _ k).1).0 in
      let c = (and-iff (ltb p (header_of s).states) (ltb q (header_of s).states)).0 (subst T (sym b) tt) in
      rw e (ltb→lt p _ c.0, ltb→lt q _ c.1)
