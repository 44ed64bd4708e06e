-- The sets of actions as words: equal words hold the same set, and what the words of a table say of its system.
use Prim.Native.Nat.{ℕ, suc, ◌+◌, ◌-◌, ◌*◌, ◌/◌, ◌%◌, ◌^◌, ◌≤◌, ◌<◌}
use native.Mathlib.Omega.{arith}
use mathlib.Core.Path.{◌≡◌, refl, sym, ap, ap₂, ◌∙◌, subst}
use mathlib.Core.Logic.{⊎_elim}
use mathlib.Core.Bool.{Bool, true, false, ◌&&◌, ◌||◌, beq}
use mathlib.Core.List.{List}
use lib.Dec.{T, eqb}
use lib.ListN.{get_or, replicate}
use borrow.Author.Tests.{eq-eqb, ne_eqb, eqb-true}
use Rattle.lts.specs.Bounded.{◌⇒◌, any_below}
use Rattle.lts.specs.System.{Lts, WellFormed, all_actions, into, termination_preorder}
use Rattle.lts.specs.Ready.{same_actions, ready_preorder}
use Rattle.lts.proofs.Bounded.{all-iff, test-ext, eq→eqb, beq-iff}
use Rattle.lts.proofs.Below.{all-cong, all-shorter, any-cong, either, clash, get_or-list_below, true-T, T_true}
use Rattle.lts.proofs.System.{into-to}
use Rattle.rows.specs.Rows.{bit, in_row, row_of, word_at}
use Rattle.rows.proofs.Bits.{word-ext}
use Rattle.rows.proofs.Rows.{gathered, row_of-cong, in_row-zeros, bit-word_at}
use Rattle.transitions.specs.Table.{count_of, source_at, action_at, enters, table_lts, Formed}
use Rattle.transitions.proofs.Lookups.{hit, into-table}
use Rattle.starts.specs.Start.{action_bits, same_set, ready_row}

-- ## Equal words have the same bits, and no others do
beq_same : {a b : Bool} → T (beq a b) → a ≡ b
beq_same {a} {b} t = let e = (beq-iff a b).0 t in test-ext a b e.0 e.1

same-beq : {a b : Bool} → a ≡ b → T (beq a b)
same-beq {a} {b} e = (beq-iff a b).1 (subst T e, subst T (sym e))

pub same-words : {x y : ℕ} → x < 2 ^ 64 → y < 2 ^ 64 → eqb x y ≡ same_set x y
unfolding same_set
same-words {x} {y} hx hy = test-ext _ _
    (λ e. let same : x ≡ y = eqb-true x y (T_true _ e) in (all-iff 64 _).1 (λ i _. same-beq (ap (λ (z : ℕ). bit z i) same)))
    (λ e. eq→eqb x y (word-ext 64 (bit y) hx (λ i h. beq_same ((all-iff 64 _).0 e i h)) ∙ sym (word-ext 64 (bit y) hy (λ i h. refl))))

-- ## The bits that the transitions of a table set
module _ (t : List ℕ) where
  -- transition i sets bit x
  abbrev pub sets-bit : ℕ → ℕ → Bool
  sets-bit x i = eqb x (64 * source_at t i + (action_at t i - 1))

  module _ (ok : Formed t) where
    action-small : (i : ℕ) → i < count_of t → (1 ≤ action_at t i) × (action_at t i ≤ 64)
    action-small i h = (ok.named i h, omega (arith, ok.action i h, ok.labels))

    pub bit-room : (i : ℕ) → i < count_of t → 64 * source_at t i + (action_at t i - 1) < 16384
    bit-room i h = omega (arith, (action-small i h).0, (action-small i h).1, ok.source i h, ok.states)

    sets-hit : (x i : ℕ) → i < count_of t → sets-bit x i ≡ hit t (suc (x % 64)) (λ _. true) (x / 64) i
    unfolding enters
    sets-hit x i h =
        let a = action_at t i in
        let p = source_at t i in
        let s = action-small i h in
        ⊎_elim
        (λ (e : eqb (x / 64) p ≡ true). ⊎_elim
        (λ (f : eqb a (suc (x % 64)) ≡ true).
        let d : x / 64 ≡ p = eqb-true _ _ e in
        let m : a ≡ suc (x % 64) = eqb-true _ _ f in
        rw (e, f) (eq-eqb x (64 * p + (a - 1)) (omega (arith, d, m))))
        (λ (f : eqb a (suc (x % 64)) ≡ false). rw (e, f) (ne_eqb x (64 * p + (a - 1)) (λ w. clash (eq-eqb a (suc (x % 64)) (omega (arith, w, s.0, s.1))) f)))
        (either (eqb a (suc (x % 64)))))
        (λ (e : eqb (x / 64) p ≡ false). rw e (ne_eqb x (64 * p + (a - 1)) (λ w. clash (eq-eqb (x / 64) p (omega (arith, w, s.0, s.1))) e)))
        (either (eqb (x / 64) p))

    pub words-gathered : gathered (replicate 256 0) sets-bit (count_of t) ≡ row_of 256 (action_bits (table_lts t))
    unfolding action_bits
    words-gathered = row_of-cong 256 _ _ (λ x h.
        ap (λ (b : Bool). b || any_below (count_of t) (sets-bit x)) (in_row-zeros 256 x)
        ∙ any-cong (count_of t) _ _ (λ i l. sets-hit x i l)
        ∙ sym (into-table t (suc (x % 64)) (λ _. true) ok (x / 64)))

-- ## What the words of a system say
module _ (L : Lts) (wf : WellFormed L) (few : L.actions ≤ 64) {words : List ℕ} (is : words ≡ row_of 256 (action_bits L)) where
  word-bit : (p i : ℕ) → p < 256 → i < 64 → bit (get_or words p 0) i ≡ into L (suc i) (λ t. true) p
  unfolding action_bits
  word-bit p i hp hi =
      let d : (p * 64 + i) / 64 ≡ p = omega (arith, hi) in
      let m : (p * 64 + i) % 64 ≡ i = omega (arith, hi) in
      ap (λ (l : List ℕ). bit (get_or l p 0) i) is
      ∙ ap (λ (x : ℕ). bit x i) (get_or-list_below 0 256 (word_at (action_bits L)) p hp)
      ∙ bit-word_at (action_bits L) p i hi
      ∙ ap₂ (λ (x y : ℕ). into L (suc x) (λ t. true) y) m d

  -- no state has a transition by an action above m
  above : (p i : ℕ) → L.actions ≤ i → into L (suc i) (λ t. true) p ≡ false
  above p i h = ⊎_elim
      (λ (e : into L (suc i) (λ t. true) p ≡ true).
      let s = into-to L (suc i) (λ t. true) p (true-T _ e) in
      absurd (let l = (wf.action p (suc i) s.0 s.1).1 in omega (arith, l, h)))
      (λ e. e) (either (into L (suc i) (λ t. true) p))

  pub same-set-actions : (p q : ℕ) → p < 256 → q < 256 → same_set (get_or words p 0) (get_or words q 0) ≡ same_actions L p q
  unfolding same_set same_actions all_actions
  same-set-actions p q hp hq =
      all-cong 64 _ _ (λ i h. ap₂ beq (word-bit p i hp h) (word-bit q i hq h))
      ∙ all-shorter L.actions 64 _ few (λ i l h. T_true _ (same-beq (above p i l ∙ sym (above q i l))))

  pub ready-row : (ends : List ℕ) → ((q : ℕ) → q < 256 → in_row ends q ≡ L.terminating q)
      → (p q : ℕ) → p < 256 → q < 256 → ready_row ends words p q ≡ ready_preorder L p q
  unfolding ready_preorder termination_preorder
  ready-row ends at p q hp hq = ap₂ ◌&&◌ (ap₂ ◌⇒◌ (at p hp) (at q hq)) (same-set-actions p q hp hq)
