-- Laws of places that get a row when they have none. Assumes nothing.
use mathlib.Core.Path.{◌≡◌, sym, ap, ◌∙◌, subst, subst⁻¹}
use mathlib.Core.Bool.{Bool, cond}
use mathlib.Core.List.{List}
use mathlib.Core.Logic.{◌⊎◌, inl, inr, ⊎_elim}
use Prim.Native.Nat.{ℕ, ◌+◌, ◌*◌, ◌≤◌, ◌<◌}
use native.Mathlib.Omega.{arith}
use lib.ListN.{length, get_or, set, length-set}
use lib.Seq.{get_or-set_same, get_or-set_other}
use borrow.Author.Tests.{eq-eqb, ne_eqb}
use Rattle.rows.proofs.Rows.{eq-or-not}
use Rattle.adjacency.specs.Building.{claimed, Placing}

module _ (places : List ℕ) (x fresh : ℕ) where
  pub claimed-free : get_or places x 0 ≡ 0 → set places x fresh ≡ claimed places x fresh
  unfolding claimed
  claimed-free e = sym (ap (λ (b : Bool). cond b (set places x fresh) places) (eq-eqb (get_or places x 0) 0 e))

  pub claimed-kept : (get_or places x 0 ≡ 0 → ⊥) → places ≡ claimed places x fresh
  unfolding claimed
  claimed-kept ne = sym (ap (λ (b : Bool). cond b (set places x fresh) places) (ne_eqb (get_or places x 0) 0 ne))

  pub claim-cases : ((get_or places x 0 ≡ 0) × (set places x fresh ≡ claimed places x fresh)) ⊎ ((1 ≤ get_or places x 0) × (places ≡ claimed places x fresh))
  claim-cases = ⊎_elim (λ (e : get_or places x 0 ≡ 0). inl (e, claimed-free e)) (λ (ne : get_or places x 0 ≡ 0 → ⊥). inr (omega (arith, ne), claimed-kept ne))
      (eq-or-not (get_or places x 0) 0)

  pub claimed-length : length (claimed places x fresh) ≡ length places
  claimed-length = ⊎_elim (λ c. ap length (sym c.1) ∙ length-set places x fresh) (λ c. ap length (sym c.1)) claim-cases

  -- another place is as it was, and so is one that has a row
  pub claimed-other : (y : ℕ) → (y ≡ x → ⊥) → get_or (claimed places x fresh) y 0 ≡ get_or places y 0
  claimed-other y ne = ⊎_elim
      (λ c. ap (λ (l : List ℕ). get_or l y 0) (sym c.1) ∙ get_or-set_other places x y fresh 0 ne)
      (λ c. ap (λ (l : List ℕ). get_or l y 0) (sym c.1)) claim-cases

  pub claimed-stays : (y : ℕ) → 1 ≤ get_or places y 0 → get_or (claimed places x fresh) y 0 ≡ get_or places y 0
  claimed-stays y some = ⊎_elim
      (λ c. ap (λ (l : List ℕ). get_or l y 0) (sym c.1)
      ∙ get_or-set_other places x y fresh 0 (λ e. let z : get_or places y 0 ≡ 0 = ap (λ (j : ℕ). get_or places j 0) e ∙ c.0 in omega arith))
      (λ c. ap (λ (l : List ℕ). get_or l y 0) (sym c.1)) claim-cases

  module _ (inside : x < length places) where
    -- the place has a row now: `fresh`, or what it had
    pub claimed-at : (get_or (claimed places x fresh) x 0 ≡ fresh) ⊎ ((1 ≤ get_or places x 0) × (get_or (claimed places x fresh) x 0 ≡ get_or places x 0))
    claimed-at = ⊎_elim
        (λ c. inl (ap (λ (l : List ℕ). get_or l x 0) (sym c.1) ∙ get_or-set_same places x fresh 0 inside))
        (λ c. inr (c.0, ap (λ (l : List ℕ). get_or l x 0) (sym c.1))) claim-cases

    pub claimed-some : 1 ≤ fresh → 1 ≤ get_or (claimed places x fresh) x 0
    claimed-some l = ⊎_elim (λ e. omega (arith, e)) (λ c. omega (arith, c.0, c.1)) claimed-at

    -- a row that is below both bounds
    pub claimed-room : (n : ℕ) → (64 + fresh) * 4 + 4 ≤ n → (64 + get_or places x 0) * 4 + 4 ≤ n → (64 + get_or (claimed places x fresh) x 0) * 4 + 4 ≤ n
    claimed-room n a b = ⊎_elim (λ e. omega (arith, e)) (λ c. omega (arith, c.1)) claimed-at

    pub claimed-rooms : (n : ℕ) → (64 + fresh) * 4 + 4 ≤ n → ((y : ℕ) → (64 + get_or places y 0) * 4 + 4 ≤ n) → (y : ℕ)
        → (64 + get_or (claimed places x fresh) y 0) * 4 + 4 ≤ n
    claimed-rooms n a b y = ⊎_elim
        (λ (e : y ≡ x). subst⁻¹ (λ (z : ℕ). (64 + get_or (claimed places x fresh) z 0) * 4 + 4 ≤ n) e (claimed-room n a (b x)))
        (λ (ne : y ≡ x → ⊥). omega (arith, claimed-other y ne, b y)) (eq-or-not y x)

-- one row more
module _ {low high : ℕ} {places : List ℕ} (ok : Placing low high places) (x : ℕ) (inside : x < length places) (some : 1 ≤ low) (above : low ≤ high) where
  abbrev next : List ℕ
  next = claimed places x high

  pub claimed-placing : Placing low (high + 1) next
  claimed-placing = ⊎_elim free kept (claim-cases places x high)
    where
      kept : (1 ≤ get_or places x 0) × (places ≡ next) → Placing low (high + 1) next
      kept c = subst (Placing low (high + 1)) c.1 (record {
        range = λ y. ⊎_elim (λ e. inl e) (λ (l : (low ≤ get_or places y 0) × (get_or places y 0 < high)). inr (l.0, omega (arith, l.1))) (ok.range y);
        only = ok.only;
      })

      free : (get_or places x 0 ≡ 0) × (set places x high ≡ next) → Placing low (high + 1) next
      free c = subst (Placing low (high + 1)) c.1 (record { range = range; only = only })
        where
          at : get_or (set places x high) x 0 ≡ high
          at = get_or-set_same places x high 0 inside

          other : (y : ℕ) → (y ≡ x → ⊥) → get_or (set places x high) y 0 ≡ get_or places y 0
          other y ne = get_or-set_other places x y high 0 ne

          low-high : (y : ℕ) → get_or places y 0 < high
          low-high y = ⊎_elim (λ (e : get_or places y 0 ≡ 0). omega (arith, e)) (λ (l : (low ≤ get_or places y 0) × (get_or places y 0 < high)). l.1) (ok.range y)

          range : (y : ℕ) → (get_or (set places x high) y 0 ≡ 0) ⊎ ((low ≤ get_or (set places x high) y 0) × (get_or (set places x high) y 0 < high + 1))
          range y = ⊎_elim
              (λ (e : y ≡ x). let v : get_or (set places x high) y 0 ≡ high = ap (λ (z : ℕ). get_or (set places x high) z 0) e
              ∙ at in inr (omega (arith, v), omega (arith, v)))
              (λ (ne : y ≡ x → ⊥). ⊎_elim (λ (z : get_or places y 0 ≡ 0). inl (other y ne ∙ z))
              (λ (l : (low ≤ get_or places y 0) × (get_or places y 0 < high)). inr (omega (arith, other y ne, l.0), omega (arith, other y ne, l.1)))
              (ok.range y))
              (eq-or-not y x)

          only : (y z : ℕ) → get_or (set places x high) y 0 ≡ get_or (set places x high) z 0 → 1 ≤ get_or (set places x high) y 0 → y ≡ z
          only y z e l = ⊎_elim
              (λ (ey : y ≡ x). ⊎_elim (λ (ez : z ≡ x). ey ∙ sym ez)
              (λ (nz : z ≡ x → ⊥).
              let v : get_or (set places x high) y 0 ≡ high = ap (λ (j : ℕ). get_or (set places x high) j 0) ey ∙ at in
              absurd (omega (arith, v, e, other z nz, low-high z))) (eq-or-not z x))
              (λ (ny : y ≡ x → ⊥). ⊎_elim
              (λ (ez : z ≡ x).
              let v : get_or (set places x high) z 0 ≡ high = ap (λ (j : ℕ). get_or (set places x high) j 0) ez ∙ at in
              absurd (omega (arith, v, e, other y ny, low-high y)))
              (λ (nz : z ≡ x → ⊥). ok.only y z (sym (other y ny) ∙ e ∙ other z nz) (omega (arith, other y ny, l))) (eq-or-not z x))
              (eq-or-not y x)
