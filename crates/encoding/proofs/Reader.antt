-- What reading answers by the rules, and what its answer says of them.
use Prim.Native.Nat.{ℕ}
use mathlib.Core.Path.{◌≡◌, refl, sym, ap, ◌∙◌}
use mathlib.Core.Logic.{⊎_elim}
use mathlib.Core.Bool.{true, and-eq-true_iff}
use mathlib.Core.List.{List}
use native.Mathlib.Omega.{arith}
use borrow.Author.Tests.{eq-eqb, le-leb, eqb-true, leb-true}
use lib.ListN.{length, drop}
use Rattle.encoding.specs.declared.Header.{Header}
use Rattle.lts.specs.declared.Refusal.{Refusal}
use Rattle.lts.specs.Rule.{Nothing, First, broken}
use Rattle.lts.proofs.Rule.{pass, done, kept, refuses, passes, finding}
use Rattle.encoding.specs.Records.{header_of}
use Rattle.encoding.specs.Encoding.{in_range, reached, all_reached, none_twice, distinct, headed_rules, sheet_rules, read_encoding}
use Rattle.encoding.specs.Checked.{Bounds, Recorded, ReadableAs, chains_fit}
use Rattle.encoding.proofs.Naming.{fit-none-twice, none-twice-distinct}
use Rattle.std.specs.Prelude.{Ok, Err}

-- rule 2, as facts on the numbers
pub in-range : (h : Header) → in_range h ≡ true → Bounds h
unfolding in_range
in-range h e = let p = simp and-eq-true_iff at e in omega (arith, leb-true)

-- ## What reading answers, by the rules
module _ (s : List ℕ) where
  pub sheet-refused : {r : Refusal} → broken (sheet_rules s) ≡ First r → Err r ≡ read_encoding s
  unfolding read_encoding
  sheet-refused e = sym (refuses (sheet_rules s) Err (Ok (header_of s)) e)

  pub sheet-passed : {h : Header} → h ≡ header_of s → broken (sheet_rules s) ≡ Nothing → Ok h ≡ read_encoding s
  unfolding read_encoding
  sheet-passed q e = ap Ok q ∙ sym (passes (sheet_rules s) Err (Ok (header_of s)) e)

  -- what is left of them after the first k, with the header h that the code has read
  abbrev pub ReadTo : ℕ → Header → Type 0
  ReadTo k h = broken (sheet_rules s) ≡ broken (drop k (headed_rules s h))

  pub headed : {h : Header} → h ≡ header_of s → broken (sheet_rules s) ≡ broken (headed_rules s h)
  unfolding sheet_rules
  headed q = ap (λ (h : Header). broken (headed_rules s h)) (sym q)

-- ## What a caller learns from an answer
pub sheet-broken : (s : List ℕ) {r : Refusal} → read_encoding s ≡ Err r → broken (sheet_rules s) ≡ First r
sheet-broken s {r} e = ⊎_elim (λ p. let f = sheet-passed s refl p in cc)
    (λ q. let f = sheet-refused s q.1 in let z : q.0 ≡ r = cc in q.1 ∙ ap First z) (finding (sheet_rules s))

pub sheet-kept : (s : List ℕ) {h : Header} → read_encoding s ≡ Ok h → (broken (sheet_rules s) ≡ Nothing) × (h ≡ header_of s)
sheet-kept s {h} e =
    ⊎_elim (λ p. let f = sheet-passed s refl p in (p, cc)) (λ q. let f = sheet-refused s q.1 in (cc, cc)) (finding (sheet_rules s))

-- rules 5 and 16 together
pub chains-kept : (s : List ℕ) (h : Header) → Recorded s h → all_reached s h ≡ true → none_twice s h ≡ true → chains_fit s h ≡ true
unfolding chains_fit
chains-kept s h g a b = rw (none-twice-distinct s h g b, a)

pub kept-chains : (s : List ℕ) (h : Header) → Recorded s h → chains_fit s h ≡ true → (all_reached s h ≡ true) × (none_twice s h ≡ true)
unfolding chains_fit
kept-chains s h g e = (((and-eq-true_iff (distinct (reached s h h.states)) (all_reached s h)).0 e).1, fit-none-twice s h g e)

pub kept-readable : (s : List ℕ) → broken (sheet_rules s) ≡ Nothing → ReadableAs s (header_of s)
unfolding sheet_rules headed_rules
kept-readable s e =
    let e₁ = kept _ _ _ e in
    let e₂ = kept _ _ _ e₁.1 in
    let e₃ = kept _ _ _ e₂.1 in
    let e₄ = kept _ _ _ e₃.1 in
    let e₅ = kept _ _ _ e₄.1 in
    let e₆ = kept _ _ _ e₅.1 in
    let e₇ = kept _ _ _ e₆.1 in
    let e₈ = kept _ _ _ e₇.1 in
    let e₉ = kept _ _ _ e₈.1 in
    let recorded : Recorded s (header_of s) = record { sized = record { bounds = in-range _ e₂.0; long = eqb-true _ _ e₃.0 }; states = e₅.0; transitions = e₆.0 } in
    record { recorded = recorded; header = refl; labels = e₄.0; chains = chains-kept s (header_of s) recorded e₇.0 e₈.0; successors = e₉.0 }

pub readable_of : {s : List ℕ} {h : Header} → read_encoding s ≡ Ok h → ReadableAs s h
readable_of {s} e = let k = sheet-kept s e in rw k.1 (kept-readable s k.0)

-- ## And the other way round
ranged : (h : Header) → Bounds h → in_range h ≡ true
unfolding in_range
ranged h b = rw (le-leb 1 h.states b.state, le-leb h.states 256 b.states, le-leb h.actions 64 b.actions, le-leb h.transitions 1024 b.transitions)

-- an encoding that keeps the rules is read
pub readable-kept : {s : List ℕ} {h : Header} → ReadableAs s h → broken (sheet_rules s) ≡ Nothing
unfolding headed_rules
readable-kept {s} {h} g =
    let z = g.recorded.sized.long in
    let e₁ = pass _ _ _ (headed s g.header) (sym (le-leb 6 (length s) (omega arith))) refl in
    let e₂ = pass _ _ _ e₁ (sym (ranged h g.recorded.sized.bounds)) refl in
    let e₃ = pass _ _ _ e₂ (sym (eq-eqb _ _ z)) refl in
    let e₄ = pass _ _ _ e₃ (sym g.labels) refl in
    let e₅ = pass _ _ _ e₄ (sym g.recorded.states) refl in
    let e₆ = pass _ _ _ e₅ (sym g.recorded.transitions) refl in
    let c = kept-chains s h g.recorded g.chains in
    let e₇ = pass _ _ _ e₆ (sym c.0) refl in
    let e₈ = pass _ _ _ e₇ (sym c.1) refl in
    done (pass _ _ _ e₈ (sym g.successors) refl)

pub reads : (s : List ℕ) (h : Header) → ReadableAs s h → read_encoding s ≡ Ok h
reads s h g = sym (sheet-passed s g.header (readable-kept g))
