-- The values of check plan and write plan fit their places.
use Prim.Native.Nat.{ℕ, ◌*◌, ◌-◌, ◌/◌, ◌≤◌, ◌<◌}
use native.Mathlib.Nat.{mul-le-mul}
use native.Mathlib.Omega.{arith}
use mathlib.Core.Path.{◌≡◌, refl, sym, ap, ◌∙◌}
use mathlib.Core.Logic.{⊎_elim}
use mathlib.Core.List.{List, [], ◌∷◌}
use borrow.Author.Tests.{leb-true}
use lib.Dec.{leb}
use lib.ListN.{length}
use Rattle.lts.specs.declared.Entry.{Entry}
use Rattle.lts.specs.declared.Refusal.TheVariants.{StillRelated, Buffer}
use Rattle.lts.specs.Rounds.{refutation_round}
use Rattle.lts.specs.Strategy.{last_of}
use Rattle.lts.specs.Rule.{◌otherwise◌, Nothing, broken, Reply, given}
use Rattle.lts.proofs.Rule.{kept, both-kept, finding, numbered}
use Rattle.encoding.specs.Records.{header_of}
use Rattle.encoding.specs.Denotation.{lts_of}
use Rattle.inputs.specs.Inputs.{input_rules, pair_rules}
use Rattle.inputs.proofs.Laws.{kept-ready, pair-inputs, pair-states}
use Rattle.strategy.specs.Check.{start_of, check_rules, CheckPromise}
use Rattle.strategy.specs.Write.{plan_length, write_rules, WritePromise}
use Rattle.strategy_rounds.proofs.Lengths.{length_most}

-- the states of a sheet that was read
few : (s start : List ℕ) → broken (input_rules s start) ≡ Nothing → (header_of s).states ≤ 256
few s start k = (kept-ready s start refl k).readable.recorded.sized.bounds.states

module _ {s start : List ℕ} {entries : List Entry} {reply : Reply} {p q depth : ℕ} (h : CheckPromise s start entries reply)
    (is : reply ≡ given (p ∷ q ∷ depth ∷ [])) where
  pub check-few : (p < 256) × (q < 256) × (depth < 65536)
  unfolding check_rules
  check-few = ⊎_elim
      (λ k.
      let a = h.answers k in
      let e : ◌≡◌ {A = List ℕ} (p ∷ q ∷ depth ∷ []) ((last_of entries).p ∷ (last_of entries).q ∷ a.depth ∷ []) = ap (λ (x : Reply). x.values) (sym is ∙ a.replied) in
      let x : p ≡ (last_of entries).p = cc in
      let y : q ≡ (last_of entries).q = cc in
      let z : depth ≡ a.depth = cc in
      let f = few s start (both-kept (input_rules s start) _ k).0 in
      let less : (header_of s).states - 1 ≤ 255 = omega (arith, f) in
      let m : (header_of s).states * ((header_of s).states - 1) ≤ 256 * 255 = mul-le-mul f less in
      (omega (arith, x, f, a.first), omega (arith, y, f, a.second), omega (arith, z, m, a.most)))
      (λ r. absurd (numbered r.0 (ap (λ (x : Reply). x.refusal) (sym is ∙ h.refuses r.0 r.1))))
      (finding (check_rules s start entries))

module _ {A : Type 0} {entries_in : List A → List Entry} {width : ℕ} {s start : List ℕ} {p q : ℕ} {plan₀ plan : List A} {reply : Reply} {count : ℕ}
    (h : WritePromise entries_in width s start p q plan₀ reply plan) (is : reply ≡ given (count ∷ [])) where
  abbrev n : ℕ
  n = (header_of s).states

  states : (lts_of s).states ≡ n
  unfolding lts_of
  states = refl

  pub count-few : count ≤ 65536
  unfolding write_rules lts_of
  count-few = ⊎_elim
      (λ k.
      let e : ◌≡◌ {A = List ℕ} (count ∷ []) (plan_length s start p q ∷ []) = ap (λ (x : Reply). x.values) (sym is ∙ (h.answers k).replied) in
      let x : count ≡ plan_length s start p q = cc in
      let parts = both-kept (pair_rules s start p q) (leb (refutation_round (lts_of s) (start_of s start) p q) (n * n) otherwise StillRelated ∷ leb (plan_length s start p q) (length plan₀ / width) otherwise Buffer ∷ []) k in
      let b = pair-states s start p q refl parts.0 in
      let falls = leb-true _ _ (kept (leb (refutation_round (lts_of s) (start_of s start) p q) (n * n)) StillRelated _ parts.1).0 in
      let f = few s start (pair-inputs s start p q parts.0) in
      let m : n * n ≤ 256 * 256 = mul-le-mul f f in
      omega (arith, x, m, length_most (lts_of s) (start_of s start) p q b.0 b.1 falls))
      (λ r. absurd (numbered r.0 (ap (λ (x : Reply). x.refusal) (sym is ∙ (h.refuses r.0 r.1).0))))
      (finding (write_rules s start p q (length plan₀ / width)))
