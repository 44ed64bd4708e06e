-- What a run looks at: as many numbers of its schedule as it makes steps, and its start on the states.
use Prim.Native.Nat.{ℕ, zero, suc, ◌*◌, ◌≤◌, ◌<◌}
use native.Mathlib.Nat.{le_refl}
use native.Mathlib.Omega.{arith}
use mathlib.Core.Path.{◌≡◌, refl, sym, ap, ◌∙◌}
use mathlib.Core.Logic.{◌⊎◌, inl, inr}
use mathlib.Core.Bool.{Bool, true, ◌&&◌}
use mathlib.Core.List.{List}
use lib.Dec.{T}
use lib.ListN.{get_or}
use Rattle.lts.specs.Bounded.{◌⇒◌}
use Rattle.lts.specs.System.{Rel, Lts, any_state, all_actions, into}
use Rattle.lts.specs.Refinement.{Relations, pending, step, run, initial, coarsest}
use Rattle.lts.proofs.Bounded.{dec, restrict-same}
use Rattle.lts.proofs.Run.{run-stop, run_more}

steps-grow : (L : Lts) (es : List ℕ) (fuel k : ℕ) (s : Relations) → k ≤ (run L es fuel k s).steps
unfolding run
steps-grow L es zero k s = le_refl k
steps-grow L es (suc fuel) k s = go (dec (any_state L (pending L s))) (steps-grow L es fuel (suc k) (step L (get_or es k 0) s))
  where
    go : T (any_state L (pending L s)) ⊎ (T (any_state L (pending L s)) → ⊥) → suc k ≤ (run L es fuel (suc k) (step L (get_or es k 0) s)).steps → k ≤ (run L es (suc fuel) k s).steps
    go (inl t) ih = rw (run_more L es fuel k s t) (omega arith)
    go (inr f) ih = rw (run-stop L es (suc fuel) k s f) (le_refl k)

run-same : (L : Lts) (a b : List ℕ) (fuel k : ℕ) (s : Relations) → ((j : ℕ) → j < (run L a fuel k s).steps → get_or a j 0 ≡ get_or b j 0) → run L a fuel k s ≡ run L b fuel k s
unfolding run
run-same L a b zero k s same = refl
run-same L a b (suc fuel) k s same = go (dec (any_state L (pending L s))) (run-same L a b fuel (suc k) (step L (get_or a k 0) s))
  where
    go : T (any_state L (pending L s)) ⊎ (T (any_state L (pending L s)) → ⊥)
        → (((j : ℕ) → j < (run L a fuel (suc k) (step L (get_or a k 0) s)).steps → get_or a j 0 ≡ get_or b j 0) → run L a fuel (suc k) (step L (get_or a k 0) s) ≡ run L b fuel (suc k) (step L (get_or a k 0) s))
        → run L a (suc fuel) k s ≡ run L b (suc fuel) k s
    go (inr f) ih = run-stop L a (suc fuel) k s f ∙ sym (run-stop L b (suc fuel) k s f)
    go (inl t) ih =
        let m = run_more L a fuel k s t in
        let e : get_or a k 0 ≡ get_or b k 0 = same k (rw m (steps-grow L a fuel (suc k) (step L (get_or a k 0) s))) in
        m ∙ ih (λ j l. same j (rw m l)) ∙ (rw e (sym (run_more L b fuel k s t)))

-- two schedules that agree in the numbers that one's run uses
pub coarsest-same : (L : Lts) (start : Rel) (a b : List ℕ) → ((j : ℕ) → j < (coarsest L start a).steps → get_or a j 0 ≡ get_or b j 0) → coarsest L start a ≡ coarsest L start b
unfolding coarsest
coarsest-same L start a b same = run-same L a b _ 0 (initial L start) same

-- two starts that agree on the states
pub start-same : (L : Lts) (R S : Rel) (schedule : List ℕ) → ((p q : ℕ) → p < L.states → q < L.states → R p q ≡ S p q)
    → coarsest L R schedule ≡ coarsest L S schedule
unfolding coarsest initial
start-same L R S schedule same =
    ap (λ (K : Rel). run L schedule (L.states * L.states) 0 (record { related = K; viewed = (initial L S).viewed }))
    (restrict-same L.states _ _ (λ p q l m. ap (λ (b : Bool). b && all_actions L (λ a. into L a (λ t. true) p ⇒ into L a (λ t. true) q)) (same p q l m)))
