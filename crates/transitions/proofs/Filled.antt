-- A table that was filled with the transitions of a system holds the system. Assumes nothing.
use Prim.Native.Nat.{ℕ, zero, suc, ◌+◌, ◌*◌, ◌-◌, ◌≤◌, ◌<◌}
use mathlib.Core.Path.{◌≡◌, refl, sym, ap, ◌∙◌, fun_ext, subst}
use mathlib.Core.Bool.{Bool, true, false, cond, ◌&&◌}
use mathlib.Core.List.{List}
use native.Mathlib.Omega.{arith}
use native.Mathlib.Numerals.{add-one}
use native.Mathlib.Nat.{not-suc-le-zero, le_refl}
use native.Mathlib.Decide.{dec_lt}
use borrow.Author.Tests.{lt-ltb, le-ltb}
use lib.ListN.{length, get_or, set, length-set}
use lib.Seq.{get_or-set_same, get_or-set_other}
use lib.Dec.{T, ltb, eqb}
use Rattle.lts.specs.Bounded.{any_below}
use Rattle.lts.specs.System.{Lts, WellFormed}
use Rattle.lts.specs.Transitions.{Transition, transitions, transitions_below}
use Rattle.lts.proofs.Bounded.{any-iff, test-ext}
use Rattle.lts.proofs.Below.{T_true, true-T}
use Rattle.lts.proofs.Transitions.{nth, every-nth, Sourced, all_keep, source_is, row, up-grows, placed, Row, state-nth, up-length, row-order}
use Rattle.encoding.specs.declared.Header.{Header}
use Rattle.encoding.specs.Checked.{ReadableAs}
use Rattle.encoding.specs.Denotation.{lts_of}
use Rattle.transitions.proofs.Codes.{code, codes-rising}
use Rattle.encoding.proofs.Denotation.{lts-states, lts-actions}
use Rattle.encoding.proofs.Counting.{all-count}
use Rattle.transitions.specs.Table.{states_of, actions_of, count_of, mark_at, offset_at, source_at, action_at, target_at, entry_at, is_entry, table_transitions}
use Rattle.transitions.specs.Table.{rank, table_lts, Formed, Holds}
use Rattle.transitions.specs.Filling.{with_counts, Filling}
use Rattle.transitions.proofs.Writes.{table-length, table-nth, table_same}
use Rattle.transitions.proofs.Entries.{entry-iff}

-- What is filled in: a system within the limits, with all its numbers in the table.
pub record Whole (L : Lts) (t : List ℕ) : Type 0 where
  pub formed : WellFormed L
  pub ends : (p : ℕ) → L.states ≤ p → L.terminating p ≡ false
  pub some : 1 ≤ L.states
  pub few : L.states ≤ 256
  pub labels : L.actions ≤ 64
  pub size : count_of t ≤ 1024
  pub states : states_of t ≡ L.states
  pub actions : actions_of t ≡ L.actions
  pub list : table_transitions t (count_of t) ≡ transitions_below L L.states
  pub mark : (p : ℕ) → p < L.states → mark_at t p ≡ cond (L.terminating p) 1 0
  pub offset : (p : ℕ) → p ≤ L.states → offset_at t p ≡ length (transitions_below L p)

module _ (L : Lts) (t : List ℕ) (w : Whole L t) where
  abbrev n : ℕ
  n = L.states

  abbrev k : ℕ
  k = count_of t

  all : List Transition
  all = transitions_below L n

  count : length all ≡ k
  unfolding all
  count = ap length (sym w.list) ∙ table-length t k

  at : (i : ℕ) → i < k → nth all i ≡ entry_at t i
  unfolding all
  at i l = sym (ap (λ (x : List Transition). nth x i) w.list) ∙ table-nth t k i l

  valid : (i : ℕ) → i < k → Sourced L n (entry_at t i)
  unfolding all
  valid i l = let c = count in subst (Sourced L n) (at i l) (every-nth (Sourced L n) all i (all_keep L n) (omega arith))

  source_of : (i : ℕ) → i < k → source_at t i ≡ (nth all i).source
  source_of i l = sym (ap (λ (x : Transition). x.source) (at i l))

  -- ---- rows

  rising : (p : ℕ) → p < n → offset_at t p ≤ offset_at t (p + 1)
  rising p l = rw (w.offset p (omega arith), w.offset (p + 1) (omega arith)) (up-grows L (p + 1) p (omega arith))

  leaves : (p i : ℕ) → p < n → offset_at t p ≤ i → i < offset_at t (p + 1) → source_at t i ≡ p
  unfolding all
  leaves p i l u v =
      let c = count in
      let o = w.offset p (omega arith) in
      let q = w.offset (p + 1) (omega arith) in
      let e : p + 1 ≡ suc p = add-one p in
      let m = up-grows L n (suc p) l in
      let high : i < length (transitions_below L (suc p)) = subst (λ (x : ℕ). i < length (transitions_below L x)) e (omega (arith, v, q)) in
      source_of i (omega arith) ∙ source_is L n p i l (omega arith) high

  in_row : (i : ℕ) → i < k → (offset_at t (source_at t i) ≤ i) × (i < offset_at t (source_at t i + 1))
  unfolding all
  in_row i l =
      let c = count in
      let r = row L n i (omega arith) in
      let e : source_at t i ≡ r.state = source_of i l ∙ source_is L n r.state i r.under r.low r.high in
      let o = w.offset r.state (let u = r.under in omega arith) in
      let q = rw add-one at (w.offset (r.state + 1) (let u = r.under in omega arith)) in
      rw (e, o, add-one, q) (r.low, r.high)

  -- ---- normal order

  code_at : (i : ℕ) → i < k → code (nth all i) ≡ 256 * action_at t i + target_at t i
  unfolding code
  code_at i l = rw (at i l)

  within : (p i j : ℕ) → p < n → length (transitions_below L p) ≤ i → i < j → j < length (transitions_below L (suc p)) → code (nth all i) < code (nth all j)
  unfolding all
  within p i j l u v x =
      let z = up-length L p in
      let o = length (transitions_below L p) in
      let ei : i ≡ o + (i - o) = omega arith in
      let ej : j ≡ o + (j - o) = omega arith in
      rw (ei, ej, state-nth L n p (i - o) l (omega arith), state-nth L n p (j - o) l (omega arith))
      (codes-rising L w.few p (i - o) (j - o) (omega arith) (omega arith))

  before : (i j : ℕ) → i < j → j < k → rank t i < rank t j
  unfolding all
  before i j l u = let c = count in go (row L n i (omega arith)) (row L n j (omega arith))
    where
      go : Row L n i → Row L n j → rank t i < rank t j
      go p q = by (dec_lt p.state q.state)
        where
          si : source_at t i ≡ p.state
          si = source_of i (omega arith) ∙ source_is L n p.state i p.under p.low p.high

          sj : source_at t j ≡ q.state
          sj = source_of j u ∙ source_is L n q.state j q.under q.low q.high

          by : Dec (p.state < q.state) → rank t i < rank t j
          by (yes d) =
              let v = (valid i (omega arith)).valid in
              let a = v.high in
              let x = v.target in
              let m = w.labels in
              let s = w.few in
              let y = si in
              let z = sj in
              omega (arith, d, a, x, m, s, y, z)
          by (no d) =
              let r = row-order L n i j l p q in
              let e : q.state ≡ p.state = omega (arith, d, r) in
              let h : j < length (transitions_below L (suc p.state)) = rw e at q.high in
              let v = within p.state i j p.under p.low l h in
              let x = si in
              let y = sj in
              let ci = code_at i (omega arith) in
              let cj = code_at j u in
              omega (arith, v, ci, cj, x, y, e)

  -- ---- the same system

  same-terminating : (p : ℕ) → ltb p (states_of t) && eqb (mark_at t p) 1 ≡ L.terminating p
  same-terminating p = go (dec_lt p n)
    where
      one : (b : Bool) → eqb (cond b 1 0) 1 ≡ b
      one true = refl
      one false = refl

      go : Dec (p < n) → ltb p (states_of t) && eqb (mark_at t p) 1 ≡ L.terminating p
      go (yes l) = rw (w.states, lt-ltb p n l, w.mark p l) (one (L.terminating p))
      go (no l) = let z = le-ltb p n (omega (arith, l)) in rw (w.states, z) (sym (w.ends p (omega (arith, l))))

  to : (p a q : ℕ) → T (L.transition p a q) → T (any_below k (is_entry t p a q))
  unfolding all
  to p a q x = go a (w.formed.action p a q x) x
    where
      go : (a : ℕ) → (1 ≤ a) × (a ≤ L.actions) → T (L.transition p a q) → T (any_below k (is_entry t p a q))
      go zero l e = absurd (not-suc-le-zero l.0)
      go (suc b) l e =
          let c = count in
          let r = placed L p b q l.1 (w.formed.target p (suc b) q e) (T_true _ e) n (w.formed.source p (suc b) q e) in
          let i : r.0 < k = let u = r.1 in omega arith in
          let is = sym (at r.0 i) ∙ r.2 in
          (any-iff k (is_entry t p (suc b) q)).1
          (r.0, i, (entry-iff t p (suc b) q r.0).1 (ap (λ (z : Transition). z.source) is, ap (λ (z : Transition). z.action) is, ap (λ (z : Transition). z.target) is))

  from : (p a q : ℕ) → T (any_below k (is_entry t p a q)) → T (L.transition p a q)
  from p a q x =
      let r = (any-iff k (is_entry t p a q)).0 x in
      let e = (entry-iff t p a q r.0).0 r.2 in
      true-T _ (rw (e.0, e.1, e.2) at (valid r.0 r.1).valid.is)

  same : table_lts t ≡ L
  unfolding table_lts
  same =
      let states = w.states in
      let actions = w.actions in
      λ i.
      record {
        states = states i;
        actions = actions i;
        terminating = fun_ext same-terminating i;
        transition = fun_ext (λ p. fun_ext (λ a. fun_ext (λ q. test-ext (any_below k (is_entry t p a q)) (L.transition p a q) (from p a q) (to p a q)))) i;
      }

  -- the same numbers, by the table's own system
  pub whole-holds : Holds L t
  unfolding transitions
  whole-holds =
      let s = sym same in
      let e : L.states ≡ states_of t = sym w.states in
      record {
        formed = record {
          some = rw w.states w.some;
          states = rw w.states w.few;
          labels = rw w.actions w.labels;
          size = w.size;
          source = λ i l. rw w.states (valid i l).under;
          named = λ i l. (valid i l).valid.low;
          action = λ i l. rw w.actions (valid i l).valid.high;
          target = λ i l. rw w.states (valid i l).valid.target;
          rising = λ p l. rising p (rw w.states at l);
          end = rw w.states (w.offset n (le_refl n) ∙ ends);
          leaves = λ p i l. leaves p i (rw w.states at l);
          row = in_row;
          order = w.list ∙ ap transitions s;
          before = before;
          mark = λ p l. w.mark p (rw w.states at l) ∙ ap (λ (M : Lts). cond (M.terminating p) 1 0) s;
          offset = λ p l. w.offset p (rw w.states at l) ∙ ap (λ (M : Lts). length (transitions_below M p)) s;
        };
        same = same;
      }
    where
      ends : length (transitions_below L n) ≡ count_of t
      ends = ap length (sym w.list) ∙ table-length t k

-- ---- the counts are written last

module _ {L : Lts} {p at : ℕ} {t : List ℕ} (f : Filling L p at t) (n m : ℕ) where
  abbrev t₁ : List ℕ
  t₁ = set t 0 n

  abbrev t₂ : List ℕ
  t₂ = set (set t 0 n) 1 m

  counts-other : (j : ℕ) → 3 ≤ j → get_or (with_counts t n m at) j 0 ≡ get_or t j 0
  counts-other j h =
      get_or-set_other t₂ 2 j at 0 (λ e. omega (arith, e)) ∙ get_or-set_other t₁ 1 j m 0 (λ e. omega (arith, e)) ∙ get_or-set_other t 0 j n 0 (λ e. omega (arith, e))

  counts-count : count_of (with_counts t n m at) ≡ at
  counts-count = let long : 2 < length t₂ = omega (arith, length-set t₁ 1 m, length-set t 0 n, f.long) in get_or-set_same t₂ 2 at 0 long

  counts-actions : actions_of (with_counts t n m at) ≡ m
  counts-actions =
      let long : 1 < length t₁ = omega (arith, length-set t 0 n, f.long) in
      get_or-set_other t₂ 2 1 at 0 (λ e. omega (arith, e)) ∙ get_or-set_same t₁ 1 m 0 long

  counts-states : states_of (with_counts t n m at) ≡ n
  counts-states =
      let long : 0 < length t = omega (arith, f.long) in
      get_or-set_other t₂ 2 0 at 0 (λ e. omega (arith, e)) ∙ get_or-set_other t₁ 1 0 m 0 (λ e. omega (arith, e)) ∙ get_or-set_same t 0 n 0 long

  pub filled : WellFormed L → ((p : ℕ) → L.states ≤ p → L.terminating p ≡ false) → 1 ≤ n → n ≤ 256 → m ≤ 64 → at ≤ 1024 → p ≡ n → n ≡ L.states → m ≡ L.actions
      → Holds L (with_counts t n m at)
  filled formed ends some few labels most done states actions = whole-holds L (with_counts t n m at) (record {
    formed = formed;
    ends = ends;
    some = omega (arith, some, states);
    few = omega (arith, few, states);
    labels = omega (arith, labels, actions);
    size = omega (arith, counts-count, most);
    states = counts-states ∙ states;
    actions = counts-actions ∙ actions;
    list = ap (table_transitions (with_counts t n m at)) counts-count
        ∙ table_same at (with_counts t n m at) t same ∙ f.list ∙ ap (transitions_below L) (done ∙ states);
    mark = λ q l. counts-other (3 + q) (omega arith) ∙ f.mark q (omega (arith, l, done, states));
    offset = λ q l. counts-other (259 + q) (omega arith) ∙ f.offset q (omega (arith, l, done, states));
  })
    where
      same : (i : ℕ) → i < at → entry_at (with_counts t n m at) i ≡ entry_at t i
      same i l = λ z. record {
        source = counts-other (516 + i) (omega arith) z;
        action = counts-other (1540 + i) (omega arith) z;
        target = counts-other (2564 + i) (omega arith) z;
      }

-- a formed table counts its system's transitions
pub transitions-count : (t : List ℕ) → Formed t → length (transitions (table_lts t)) ≡ count_of t
transitions-count t ok = ap length (sym ok.order) ∙ table-length t (count_of t)

-- ---- a sheet

module _ (s : List ℕ) (h : Header) (g : ReadableAs s h) where
  -- the table's counts are the header's
  pub sheet-states : {t : List ℕ} → Holds (lts_of s) t → states_of t ≡ h.states
  unfolding table_lts
  sheet-states k = ap (λ (L : Lts). L.states) k.same ∙ lts-states s h g.header

  pub sheet-actions : {t : List ℕ} → Holds (lts_of s) t → actions_of t ≡ h.actions
  unfolding table_lts
  sheet-actions k = ap (λ (L : Lts). L.actions) k.same ∙ lts-actions s h g.header

  pub sheet-count : {t : List ℕ} → Holds (lts_of s) t → count_of t ≡ h.transitions
  unfolding transitions
  sheet-count {t} k =
      sym (transitions-count t k.formed) ∙ ap (λ (L : Lts). length (transitions L)) k.same
      ∙ ap (λ (n : ℕ). length (transitions_below (lts_of s) n)) (lts-states s h g.header) ∙ all-count s h g
