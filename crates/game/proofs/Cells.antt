-- The cells of known results: a cell's place, and what storing a right result leaves.
use Prim.Native.Nat.{ℕ, ◌+◌, ◌*◌, ◌-◌, ◌<◌, ◌≤◌, ◌/◌, ◌%◌}
use native.Mathlib.Nat.{mul-le-mul}
use mathlib.Core.Path.{◌≡◌, sym, ap, ◌∙◌}
use mathlib.Core.Bool.{true, false}
use mathlib.Core.List.{List}
use native.Mathlib.Omega.{arith}
use native.Mathlib.Decide.{ℕ_discrete}
use lib.Arith.{digits_lt, digits_div, digits_mod}
use lib.ListN.{length, get_or, set, take, replicate, length-set, length-replicate, get_or-replicate}
use lib.Seq.{get_or-set_same, get_or-set_other, length-take-le, get_or-take}
use Rattle.transitions.specs.Table.{states_of}
use Rattle.game.specs.declared.Known.{Known}
use Rattle.game.specs.declared.Known.TheVariants.{Open, Lost, Won}
use Rattle.game.specs.Memo.{wins, cell_of, Right, Says}

pub cell_below : {n rounds p q : ℕ} → 0 < rounds → rounds ≤ 6 → p < n → q < n → cell_of n rounds p q < 6 * n * n
cell_below {n} {rounds} h l hp hq = let k : rounds - 1 < 6 = omega arith in digits_lt (digits_lt k hp) hq

-- a place is the place of one pair and number of rounds only
cell-inj : {n k p q k' p' q' : ℕ} → p < n → q < n → p' < n → q' < n → (k * n + p) * n + q ≡ (k' * n + p') * n + q'
    → (k ≡ k') × (p ≡ p') × (q ≡ q')
cell-inj {n} {k} {p} {q} {k'} {p'} {q'} hp hq hp' hq' e =
    let row : k * n + p ≡ k' * n + p' = sym (digits_div (k * n + p) hq) ∙ ap (λ (x : ℕ). x / n) e ∙ digits_div (k' * n + p') hq' in (
      sym (digits_div k hp) ∙ ap (λ (x : ℕ). x / n) row ∙ digits_div k' hp',
      sym (digits_mod k hp) ∙ ap (λ (x : ℕ). x % n) row ∙ digits_mod k' hp',
      sym (digits_mod (k * n + p) hq) ∙ ap (λ (x : ℕ). x % n) e ∙ digits_mod (k' * n + p') hq',
    )

module _ (t start : List ℕ) (memo : List Known) (right : Right t start memo) (rounds p q : ℕ) (hr : 0 < rounds) (lr : rounds ≤ 6) (hp : p < states_of t) (hq : q < states_of t) where
  abbrev n : ℕ
  n = states_of t

  abbrev cell : ℕ
  cell = cell_of (states_of t) rounds p q

  cell_set : (v : Known) → Says v (wins t start rounds p q) → (k p' q' : ℕ) → 0 < k → k ≤ 6 → p' < n → q' < n → Dec (cell_of n k p' q' ≡ cell)
      → Says (get_or (set memo cell v) (cell_of n k p' q') Open) (wins t start k p' q')
  cell_set v s k p' q' hk lk hp' hq' (yes e) =
      let i = cell-inj hp' hq' hp hq e in
      let same : k ≡ rounds = omega (arith, i.0) in
      let l : cell < length memo = omega (arith, cell_below hr lr hp hq, right.size) in
      rw (e, get_or-set_same memo cell v Open l, same, i.1, i.2) s
  cell_set v s k p' q' hk lk hp' hq' (no e) = rw (get_or-set_other memo _ _ v Open e) (right.cells k p' q' hk lk hp' hq')

  right-set : (v : Known) → Says v (wins t start rounds p q) → Right t start (set memo cell v)
  right-set v s = record {
    size = length-set memo cell v ∙ right.size;
    cells = λ k p' q' hk lk hp' hq'. cell_set v s k p' q' hk lk hp' hq' (ℕ_discrete _ _);
  }

  pub right-won : wins t start rounds p q ≡ true → Right t start (set memo cell Won)
  right-won h = right-set Won (record { missed = λ e. cc; won = λ e. h })

  pub right-missed : wins t start rounds p q ≡ false → Right t start (set memo cell Lost)
  right-missed h = right-set Lost (record { missed = λ e. h; won = λ e. cc })

-- the cells for at most 256 states are at most 393,216
pub size_small : {n : ℕ} → n ≤ 256 → 6 * n * n ≤ 393216
size_small {n} h = mul-le-mul {n₁ = 6 * n} {m₁ = n} {n₂ = 1536} {m₂ = 256} (omega arith) h

-- blank cells are right
pub blank-size : (n room : ℕ) → 6 * n * n ≤ room → length (take (6 * n * n) (replicate room Open)) ≡ 6 * n * n
blank-size n room h = length-take-le (6 * n * n) (replicate room Open) (rw (length-replicate room Open) h)

pub right-blank : (t start : List ℕ) (n room : ℕ) → n ≡ states_of t → 6 * n * n ≤ room → Right t start (take (6 * n * n) (replicate room Open))
right-blank t start n room e h = record {
  size = blank-size n room h ∙ ap (λ (m : ℕ). 6 * m * m) e;
  cells = λ k p q hk lk hp hq.
      let l : cell_of (states_of t) k p q < 6 * n * n = rw e (cell_below hk lk hp hq) in
      let z : get_or (take (6 * n * n) (replicate room Open)) (cell_of (states_of t) k p q) Open ≡ Open = get_or-take (6 * n * n) (replicate room Open) _ Open l ∙ get_or-replicate room _ Open Open (omega arith) in
      record { missed = λ e. cc; won = λ e. cc };
}
