-- Compare's turns fit their place.
use Prim.Native.Nat.{ℕ, ◌*◌, ◌-◌, ◌≤◌}
use native.Mathlib.Nat.{mul-le-mul}
use native.Mathlib.Omega.{arith}
use mathlib.Core.Path.{◌≡◌, sym, ap, ◌∙◌}
use mathlib.Core.Logic.{⊎_elim}
use mathlib.Core.List.{List, [], ◌∷◌}
use Rattle.lts.specs.System.{Rel, Lts}
use Rattle.lts.specs.Rule.{Nothing, broken, Reply, given}
use Rattle.lts.proofs.Rule.{finding, numbered}
use Rattle.encoding.specs.Denotation.{lts_of}
use Rattle.inputs.specs.Both.{joined_lts, both_rules}
use Rattle.inputs.proofs.Joined.{both-joinable}
use Rattle.comparison.specs.Call.{start_run, ComparePromise}
use Rattle.release.specs.Turns.{FewTurns}

module _ {start : Lts → Rel} {Relating : Lts → ℕ → Rel → Type 0} {first second : List ℕ} {reply : Reply}
    (p : ComparePromise start Relating first second reply) where
  abbrev steps : ℕ
  steps = (start_run start (joined_lts first second)).steps

  states : broken (both_rules first second) ≡ Nothing → (joined_lts first second).states ≤ 256
  unfolding lts_of
  states k = let n = (p.joined k).states in let s = (both-joinable first second k).states in omega (arith, n, s)

  turns-are : (value turns : ℕ) → reply ≡ given (value ∷ turns ∷ []) → broken (both_rules first second) ≡ Nothing → turns ≡ steps
  turns-are value turns is k = ⊎_elim (λ y. by y) (λ y. by y) (p.answers k)
    where
      by : {v : ℕ} {Q : Type 0} → (reply ≡ given (v ∷ steps ∷ [])) × Q → turns ≡ steps
      by {v} y = let e : ◌≡◌ {A = List ℕ} (value ∷ turns ∷ []) (v ∷ steps ∷ []) = ap (λ (x : Reply). x.values) (sym is ∙ y.0) in cc

  pub turns-few : FewTurns reply
  turns-few value turns is = ⊎_elim
      (λ k.
      let N = (joined_lts first second).states in
      let f : N ≤ 256 = states k in
      let g : N - 1 ≤ 255 = omega arith in
      let m : N * (N - 1) ≤ 256 * 255 = mul-le-mul f g in
      omega (arith, turns-are value turns is k, p.bound k, m))
      (λ q. absurd (numbered q.0 (ap (λ (x : Reply). x.refusal) (sym is ∙ p.refuses q.0 q.1))))
      (finding (both_rules first second))
