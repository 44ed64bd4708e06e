-- Laws of the index of a table's first transitions. Assumes nothing.
use mathlib.Core.Path.{◌≡◌, refl, sym, ap, ap₂, ◌∙◌, subst, subst⁻¹}
use mathlib.Core.Bool.{Bool, true, false, ◌||◌, or_comm}
use mathlib.Core.List.{List}
use mathlib.Core.Logic.{inl, ⊎_elim}
use Prim.Native.Nat.{ℕ, ◌+◌, ◌-◌, ◌*◌, ◌/◌, ◌%◌, ◌^◌, ◌≤◌, ◌<◌}
use native.Mathlib.Nat.{not-suc-le-zero}
use native.Mathlib.Omega.{arith}
use lib.Dec.{T, eqb, eqb→eq}
use lib.Pow.{pow_pos}
use lib.ListN.{length, get_or}
use Rattle.lts.specs.Bounded.{any_below}
use Rattle.lts.specs.System.{Set}
use Rattle.lts.proofs.Below.{lt-or-ge, any-more, any-cong, length-list_below}
use Rattle.lts.proofs.Bounded.{or_elim, or_left, or_right}
use Rattle.rows.specs.Rows.{bit, in_row, word_at, row_of}
use Rattle.rows.proofs.Bits.{bit-of-zero}
use Rattle.rows.proofs.Rows.{in_row-of, row_of-cong, row-ext}
use Rattle.transitions.specs.Table.{actions_of, count_of, source_at, action_at, target_at, Formed}
use Rattle.transitions.proofs.Entries.{eqb_of}
use Rattle.adjacency.specs.Building.{claimed, targets_place, sources_place, hits, hit, placed, Placing, hit_at, Building}
use Rattle.adjacency.proofs.Places.{claimed-length, claimed-other, claimed-stays, claimed-some, claimed-placing}

-- ---- one member after the other

abbrev put : List ℕ → ℕ → List ℕ
put l z = row_of (length l) (λ y. eqb y z || in_row l y)

put-more : (old : List ℕ) (H : Set) (z : ℕ) {l : List ℕ} → l ≡ row_of (length old) (λ y. H y || in_row old y)
    → put l z ≡ row_of (length old) (λ y. (eqb y z || H y) || in_row old y)
put-more old H z {l} e =
    ap (λ (n : ℕ). row_of n (λ y. eqb y z || in_row l y)) (ap length e ∙ length-list_below (length old) (word_at (λ y. H y || in_row old y)))
    ∙ row_of-cong (length old) _ _
    (λ y h. ap (λ (b : Bool). eqb y z || b) (ap (λ (r : List ℕ). in_row r y) e ∙ in_row-of (length old) _ y h) ∙ assoc (eqb y z) (H y) (in_row old y))
  where
    assoc : (a b c : Bool) → a || (b || c) ≡ (a || b) || c
    assoc true b c = refl
    assoc false b c = refl

-- the five members of a transition
pub all-put : (places : List ℕ) (fresh p a t : ℕ) → p < 256 → (old : List ℕ) {places₁ places₂ r₁ r₂ r₃ r₄ r₅ : List ℕ}
    → places₁ ≡ claimed places (targets_place a p) fresh → r₁ ≡ put old (256 * (64 + get_or (claimed places (targets_place a p) fresh) (targets_place a p) 0) + t)
    → places₂ ≡ claimed places₁ (sources_place a t) (fresh + 1)
    → r₂ ≡ put r₁ (256 * (64 + get_or (claimed places₁ (sources_place a t) (fresh + 1)) (sources_place a t) 0) + p)
    → r₃ ≡ put r₂ (256 * (63 + 2 * a) + p) → r₄ ≡ put r₃ (256 * (64 + 2 * a) + t) → r₅ ≡ put r₄ (64 * t + (a - 1))
    → (places₂ ≡ placed places fresh p a t) × (r₅ ≡ row_of (length old) (λ y. hit (placed places fresh p a t) p a t y || in_row old y))
unfolding hits
all-put places fresh p a t hp old {places₁} {places₂} {r₁} {r₂} {r₃} {r₄} {r₅} f₁ e₁ f₂ e₂ e₃ e₄ e₅ =
    let x₁ = targets_place a p in
    let x₂ = sources_place a t in
    let to = placed places fresh p a t in
    let two : claimed places₁ x₂ (fresh + 1) ≡ to = ap (λ (l : List ℕ). claimed l x₂ (fresh + 1)) f₁ in
    let u : get_or (claimed places x₁ fresh) x₁ 0 ≡ get_or to x₁ 0 = sym (claimed-other (claimed places x₁ fresh) x₂ (fresh + 1) x₁ (λ e. omega arith)) in
    let g₁ : r₁ ≡ row_of (length old) (λ y. eqb y (256 * (64 + get_or to x₁ 0) + t) || in_row old y) =
    e₁ ∙ ap (λ (n : ℕ). row_of (length old) (λ y. eqb y (256 * (64 + n) + t) || in_row old y)) u in
    let g₂ = e₂ ∙ put-more old (λ y. eqb y (256 * (64 + get_or to x₁ 0) + t)) (256 * (64 + get_or (claimed places₁ x₂ (fresh + 1)) x₂ 0) + p) g₁
    ∙ ap (λ (l : List ℕ). row_of (length old) (λ y. (eqb y (256 * (64 + get_or l x₂ 0) + p) || eqb y (256 * (64 + get_or to x₁ 0) + t)) || in_row old y)) two in
    let g₃ = e₃ ∙ put-more old _ (256 * (63 + 2 * a) + p) g₂ in
    let g₄ = e₄ ∙ put-more old _ (256 * (64 + 2 * a) + t) g₃ in
    (f₂ ∙ two, e₅ ∙ put-more old _ (64 * t + (a - 1)) g₄)

-- ---- what is put in, case by case

module _ (u v p a t y : ℕ) where
  pub hits-cases : {C : Type 0} → T (hits u v p a t y) → (y ≡ 256 * (64 + u) + t → C) → (y ≡ 256 * (64 + v) + p → C) → (y ≡ 256 * (63 + 2 * a) + p → C)
      → (y ≡ 256 * (64 + 2 * a) + t → C) → (y ≡ 64 * t + (a - 1) → C) → C
  unfolding hits
  hits-cases h c₁ c₂ c₃ c₄ c₅ =
      or_elim (eqb y (64 * t + (a - 1))) _ (λ e. c₅ (eqb→eq y _ e)) (λ h₄.
      or_elim (eqb y (256 * (64 + 2 * a) + t)) _ (λ e. c₄ (eqb→eq y _ e)) (λ h₃.
      or_elim (eqb y (256 * (63 + 2 * a) + p)) _ (λ e. c₃ (eqb→eq y _ e)) (λ h₂.
      or_elim (eqb y (256 * (64 + v) + p)) _ (λ e. c₂ (eqb→eq y _ e)) (λ e. c₁ (eqb→eq y _ e)) h₂) h₃) h₄) h

  pub hits-actions : y ≡ 64 * t + (a - 1) → T (hits u v p a t y)
  unfolding hits
  hits-actions e = or_left (eqb y (64 * t + (a - 1))) _ (eqb_of e)

  pub hits-entered : y ≡ 256 * (64 + 2 * a) + t → T (hits u v p a t y)
  unfolding hits
  hits-entered e = or_right (eqb y (64 * t + (a - 1))) _ (or_left (eqb y (256 * (64 + 2 * a) + t)) _ (eqb_of e))

  pub hits-enabled : y ≡ 256 * (63 + 2 * a) + p → T (hits u v p a t y)
  unfolding hits
  hits-enabled e = or_right (eqb y (64 * t + (a - 1))) _ (or_right (eqb y (256 * (64 + 2 * a) + t)) _
      (or_left (eqb y (256 * (63 + 2 * a) + p)) _ (eqb_of e)))

  pub hits-sources : y ≡ 256 * (64 + v) + p → T (hits u v p a t y)
  unfolding hits
  hits-sources e = or_right (eqb y (64 * t + (a - 1))) _ (or_right (eqb y (256 * (64 + 2 * a) + t)) _
      (or_right (eqb y (256 * (63 + 2 * a) + p)) _ (or_left (eqb y (256 * (64 + v) + p)) _ (eqb_of e))))

  pub hits-targets : y ≡ 256 * (64 + u) + t → T (hits u v p a t y)
  unfolding hits
  hits-targets e = or_right (eqb y (64 * t + (a - 1))) _ (or_right (eqb y (256 * (64 + 2 * a) + t)) _
      (or_right (eqb y (256 * (63 + 2 * a) + p)) _ (or_right (eqb y (256 * (64 + v) + p)) _ (eqb_of e))))

-- ---- transition by transition

pub building-begin : (t : List ℕ) {places rows : List ℕ} → ((x : ℕ) → get_or places x 0 ≡ 0) → ((x : ℕ) → get_or rows x 0 ≡ 0) → Building t 0 places rows
unfolding in_row any_below
building-begin t {places} {rows} none blank = record {
  placing = record { range = λ x. inl (none x); only = λ x y e l. absurd (omega (arith, none x, l)) };
  leaving = λ j h. absurd (not-suc-le-zero h);
  entering = λ j h. absurd (not-suc-le-zero h);
  members = row-ext (length rows) _ rows refl (λ j. subst⁻¹ (λ (x : ℕ). x < 2 ^ 64) (blank j) (pow_pos 64)) (λ y h.
      ap (λ (x : ℕ). bit x (y % 64)) (blank (y / 64)) ∙ bit-of-zero (y % 64));
}

module _ {t : List ℕ} {i : ℕ} {places rows : List ℕ} (ok : Formed t) (built : Building t i places rows) (low : i < count_of t)
    (long : 512 * (actions_of t + 1) ≤ length places) where
  abbrev fresh : ℕ
  fresh = 2 * actions_of t + 1 + 2 * i

  abbrev x₁ : ℕ
  x₁ = targets_place (action_at t i) (source_at t i)

  abbrev x₂ : ℕ
  x₂ = sources_place (action_at t i) (target_at t i)

  abbrev one : List ℕ
  one = claimed places x₁ fresh

  abbrev next : List ℕ
  next = claimed one x₂ (fresh + 1)

  inside₁ : x₁ < length places
  inside₁ = omega (arith, ok.source i low, ok.action i low, ok.states)

  inside₂ : x₂ < length one
  inside₂ = omega (arith, ok.target i low, ok.action i low, ok.states, claimed-length places x₁ fresh)

  stays : (y : ℕ) → 1 ≤ get_or places y 0 → get_or next y 0 ≡ get_or places y 0
  stays y some = let e = claimed-stays places x₁ fresh y some in claimed-stays one x₂ (fresh + 1) y (omega (arith, e, some)) ∙ e

  next-leaving : (j : ℕ) → j < i + 1 → 1 ≤ get_or next (targets_place (action_at t j) (source_at t j)) 0
  next-leaving j h = ⊎_elim
      (λ (l : j < i). omega (arith, stays (targets_place (action_at t j) (source_at t j)) (built.leaving j l), built.leaving j l))
      (λ (l : i ≤ j).
      let e : j ≡ i = omega arith in
      let some = claimed-some places x₁ fresh inside₁ (omega arith) in
      subst⁻¹ (λ (k : ℕ). 1 ≤ get_or next (targets_place (action_at t k) (source_at t k)) 0) e (omega (arith, claimed-stays one x₂ (fresh + 1) x₁ some, some)))
      (lt-or-ge j i)

  next-entering : (j : ℕ) → j < i + 1 → 1 ≤ get_or next (sources_place (action_at t j) (target_at t j)) 0
  next-entering j h = ⊎_elim
      (λ (l : j < i). omega (arith, stays (sources_place (action_at t j) (target_at t j)) (built.entering j l), built.entering j l))
      (λ (l : i ≤ j).
      let e : j ≡ i = omega arith in
      subst⁻¹ (λ (k : ℕ). 1 ≤ get_or next (sources_place (action_at t k) (target_at t k)) 0) e (claimed-some one x₂ (fresh + 1) inside₂ (omega arith)))
      (lt-or-ge j i)

  next-members : {rows' : List ℕ} → rows' ≡ row_of (length rows) (λ y. hit_at t next i y || in_row rows y)
      → rows' ≡ row_of (length rows') (λ y. any_below (i + 1) (λ j. hit_at t next j y))
  next-members {rows'} e =
      let same : length rows ≡ length rows' = sym (ap length e ∙ length-list_below (length rows) (word_at (λ y. hit_at t next i y || in_row rows y))) in
      e ∙ row_of-cong (length rows) _ _ (λ y h.
      ap (λ (b : Bool). hit_at t next i y || b) (ap (λ (l : List ℕ). in_row l y) built.members ∙ in_row-of (length rows) _ y h
      ∙ any-cong i _ _ (λ j l. ap₂ (λ (u v : ℕ). hits u v (source_at t j) (action_at t j) (target_at t j) y)
      (sym (stays (targets_place (action_at t j) (source_at t j)) (built.leaving j l)))
      (sym (stays (sources_place (action_at t j) (target_at t j)) (built.entering j l)))))
      ∙ or_comm (hit_at t next i y) (any_below i (λ j. hit_at t next j y)) ∙ sym (any-more (λ j. hit_at t next j y) i))
      ∙ ap (λ (n : ℕ). row_of n (λ y. any_below (i + 1) (λ j. hit_at t next j y))) same

  next-placing : Placing (2 * actions_of t + 1) (2 * actions_of t + 1 + 2 * (i + 1)) next
  next-placing =
      let end : fresh + 1 + 1 ≡ 2 * actions_of t + 1 + 2 * (i + 1) = omega arith in
      subst (λ (n : ℕ). Placing (2 * actions_of t + 1) n next) end
      (claimed-placing (claimed-placing built.placing x₁ inside₁ (omega arith) (omega arith)) x₂ inside₂ (omega arith) (omega arith))

  next_built : {rows' : List ℕ} → rows' ≡ row_of (length rows) (λ y. hit_at t next i y || in_row rows y) → Building t (i + 1) next rows'
  next_built e = record { placing = next-placing; leaving = next-leaving; entering = next-entering; members = next-members e }

  -- the same, with the numbers of the transition as they were read
  pub building-more : {f p a q : ℕ} {places' rows' : List ℕ} → f ≡ fresh → p ≡ source_at t i → a ≡ action_at t i → q ≡ target_at t i
      → places' ≡ placed places f p a q → rows' ≡ row_of (length rows) (λ y. hit (placed places f p a q) p a q y || in_row rows y)
      → Building t (i + 1) places' rows'
  building-more {f} {p} {a} {q} {places'} {rows'} ef ep ea eq now put =
      let read = numbers ef ep ea eq now put in
      subst⁻¹ (λ (l : List ℕ). Building t (i + 1) l rows') read.0 (next_built read.1)
    where
      numbers : {f p a q : ℕ} → f ≡ fresh → p ≡ source_at t i → a ≡ action_at t i → q ≡ target_at t i
          → places' ≡ placed places f p a q → rows' ≡ row_of (length rows) (λ y. hit (placed places f p a q) p a q y || in_row rows y)
          → (places' ≡ next) × (rows' ≡ row_of (length rows) (λ y. hit_at t next i y || in_row rows y))
      numbers {f} {p} {a} {q} ef ep ea eq now put =
          subst (λ (f : ℕ). (places' ≡ placed places f (source_at t i) (action_at t i) (target_at t i))
          × (rows' ≡ row_of (length rows) (λ y. hit_at t (placed places f (source_at t i) (action_at t i) (target_at t i)) i y || in_row rows y))) ef
          (subst (λ (p : ℕ). (places' ≡ placed places f p (action_at t i) (target_at t i))
          × (rows' ≡ row_of (length rows) (λ y. hit (placed places f p (action_at t i) (target_at t i)) p (action_at t i) (target_at t i) y || in_row rows y))) ep
          (subst (λ (a : ℕ). (places' ≡ placed places f p a (target_at t i))
          × (rows' ≡ row_of (length rows) (λ y. hit (placed places f p a (target_at t i)) p a (target_at t i) y || in_row rows y))) ea
          (subst (λ (q : ℕ). (places' ≡ placed places f p a q)
          × (rows' ≡ row_of (length rows) (λ y. hit (placed places f p a q) p a q y || in_row rows y))) eq (now, put))))
