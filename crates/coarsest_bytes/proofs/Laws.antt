-- Coarsest on bytes: what its rules say of the lengths, what is carried back, what a run uses of its schedule, and how large its counts are.
use Prim.Native.Nat.{ℕ, ◌*◌, ◌-◌, ◌/◌, ◌<◌, ◌≤◌}
use native.Mathlib.Nat.{le_refl, le_trans, mul-le-mul}
use native.Mathlib.Omega.{arith}
use mathlib.Core.Path.{◌≡◌, refl, sym, ap, subst, ◌∙◌}
use mathlib.Core.Logic.{◌⊎◌, ⊎_elim}
use mathlib.Core.Bool.{◌&&◌}
use mathlib.Core.List.{List, [], ◌∷◌, head-eq_of_cons-eq}
use lib.Dec.{T, eqb, eqb→eq}
use lib.ListN.{length, take}
use lib.Seq.{get_or-take, take_all, length-take-le}
use Rattle.lts.specs.Bounded.{count_below}
use Rattle.lts.specs.Refinement.{pair_count, block_count, is_representative, representatives as representatives_of, coarsest}
use Rattle.lts.specs.declared.Refusal.{Refusal}
use Rattle.lts.specs.declared.Refusal.TheVariants.{Buffer}
use Rattle.lts.specs.Rule.{Rule, Nothing, broken, Reply, Answer}
use Rattle.lts.proofs.Bounded.{and-iff}
use Rattle.lts.proofs.Count.{count_most}
use Rattle.lts.proofs.Run.{pair-count-most}
use Rattle.lts.proofs.Rule.{kept, both-kept, finding, refuses, passes, when-broken, when-kept, numbered}
use Rattle.encoding.specs.Records.{header_of}
use Rattle.encoding.specs.Checked.{Bounds}
use Rattle.encoding.specs.Denotation.{lts_of}
use Rattle.rows.specs.Rows.{row_words}
use Rattle.relation.specs.Matrix.{relation_of}
use Rattle.relation.proofs.Matrices.{matrix-small, length-matrix_of}
use Rattle.lts.proofs.Below.{length-list_below, lt-or-ge}
use Rattle.inputs.specs.Inputs.{input_rules}
use Rattle.inputs.proofs.Laws.{kept-ready}
use Rattle.carry.specs.Carried.{list_of, stored}
use Rattle.carry.specs.Bytes.{words_of, state_numbers}
use Rattle.carry.proofs.Laws.{stored-all, numbers-front, numbers-take}
use Rattle.carry.proofs.Bytes.{same_length}
use Rattle.coarsest.specs.declared.Counts.{Counts}
use Rattle.coarsest.specs.Call.{CoarsestOutcome, coarsest_reply, coarsest_rules, refined, coarsest_call, grid_relation, CoarsestPromise}
use Rattle.coarsest.proofs.Promise.{promised}
use Rattle.coarsest_bytes.specs.Call.{carried_back}
use Rattle.coarsest_bytes.specs.Carried.{coarsest_on_words, Small}
use Rattle.lts.proofs.Schedule.{coarsest-same}
use Rattle.std.specs.Prelude.{Ok, Err}

-- ## What is known where every rule is kept
module _ (s start words numbers : List ℕ) (ok : broken (coarsest_rules s start words numbers) ≡ Nothing) where
  abbrev n : ℕ
  n = (header_of s).states

  pub bounds : Bounds (header_of s)
  unfolding coarsest_rules
  bounds = (kept-ready s start refl (both-kept (input_rules s start) _ ok).0).readable.recorded.sized.bounds

  lengths : (length words ≡ n * row_words n) × (length numbers ≡ n)
  unfolding coarsest_rules
  lengths =
      let both = (kept (eqb (length words) (n * row_words n) && eqb (length numbers) n) Buffer [] (both-kept (input_rules s start) _ ok).1).0 in
      let t = (and-iff (eqb (length words) (n * row_words n)) (eqb (length numbers) n)).0 (subst T (sym both) tt) in
      (eqb→eq _ _ t.0, eqb→eq _ _ t.1)

  states : (lts_of s).states ≡ n
  unfolding lts_of
  states = refl

  -- a run on at most k states makes at most k * (k - 1) steps, so it uses no more of its schedule
  steps-within : (k : ℕ) (es : List ℕ) → n ≤ k → (coarsest (lts_of s) (relation_of n start) es).steps ≤ k * (k - 1)
  steps-within k es few =
      let f : (lts_of s).states ≤ k = omega (arith, states, few) in
      let g : (lts_of s).states - 1 ≤ k - 1 = omega (arith, f) in
      le_trans ((promised s start es words numbers _ _ _ refl).answers ok).bound (mul-le-mul f g)

  steps-few : (es : List ℕ) → (coarsest (lts_of s) (relation_of n start) es).steps ≤ 65280
  steps-few es = steps-within 256 es bounds.states

  refined-cut : (k most : ℕ) (es : List ℕ) → n ≤ k → k * (k - 1) ≤ most
      → refined (lts_of s) (relation_of n start) (take most es) ≡ refined (lts_of s) (relation_of n start) es
  unfolding refined
  refined-cut k most es few l =
      let fits = le_trans (steps-within k (take most es) few) l in
      rw (coarsest-same (lts_of s) (relation_of n start) (take most es) es (λ j b. get_or-take most es j 0 (le_trans b fits)))

-- the lengths of both buffers in bytes
module _ (s start grid representatives : List ℕ) (ok : broken (coarsest_rules s start (words_of grid) (state_numbers representatives)) ≡ Nothing) where
  abbrev size : ℕ
  size = (header_of s).states

  grid-long : length grid ≡ 8 * (size * row_words size)
  grid-long =
      let b = bounds s start _ _ ok in
      let w : 1 ≤ row_words size = omega (arith, b.state) in
      let some : 1 * 1 ≤ size * row_words size = mul-le-mul b.state w in
      (same_length 8 1024 grid (size * row_words size) (omega arith) some (matrix-small size b.states)).0 (lengths s start _ _ ok).0

  representatives-long : length representatives ≡ 2 * size
  representatives-long =
      let b = bounds s start _ _ ok in
      (same_length 2 256 representatives size (omega arith) b.state b.states).0 (lengths s start _ _ ok).1

-- ## What is carried back, by the answer on the words and numbers that the bytes carry
module _ (s start schedule grid representatives : List ℕ) where
  abbrev rules : List Rule
  rules = coarsest_rules s start (words_of grid) (state_numbers representatives)

  abbrev on_words : List ℕ → CoarsestOutcome
  on_words es = coarsest_on_words s start es grid representatives

  module _ {words₀ numbers₀ words numbers : List ℕ} (a : Answer Counts) (w : words₀ ≡ words_of grid) (m : numbers₀ ≡ state_numbers representatives)
      (is : coarsest_call s start schedule words₀ numbers₀ ≡ record { reply = coarsest_reply a; grid = words; representatives = numbers }) where
    on : coarsest_call s start schedule (words_of grid) (state_numbers representatives) ≡ record { reply = coarsest_reply a; grid = words; representatives = numbers }
    on = rw (w, m) at is

    pub back-refused : {r : Refusal} → a ≡ Err r → on_words schedule ≡ record { reply = coarsest_reply (Err r); grid = grid; representatives = representatives }
    unfolding coarsest_on_words coarsest_call refined coarsest_reply
    back-refused {r} e = ⊎_elim
        (λ k. absurd (numbered r (sym (ap (λ (o : CoarsestOutcome). o.reply.refusal) (when-kept rules _ _ on k)) ∙ ap (λ (x : Answer Counts). (coarsest_reply x).refusal) e)))
        (λ q. refuses rules _ _ q.1 ∙ (rw (← ap (λ (o : CoarsestOutcome). o.reply) (when-broken rules _ _ on q.1), e)))
        (finding rules)

    pub back_done : {c : Counts} {g r : List ℕ} → a ≡ Ok c → g ≡ stored 8 words grid → r ≡ stored 2 numbers representatives
        → on_words schedule ≡ record { reply = coarsest_reply (Ok c); grid = g; representatives = r }
    unfolding coarsest_on_words coarsest_call carried_back refined representatives_of lts_of coarsest_reply
    back_done e gs rs = ⊎_elim
        (λ k.
        let f = when-kept rules _ _ on k in
        let l : length words ≡ _ = ap (λ (o : CoarsestOutcome). length o.grid) f ∙ length-matrix_of (header_of s).states _ in
        let h : length numbers ≡ _ = ap (λ (o : CoarsestOutcome). length o.representatives) f ∙ length-list_below (header_of s).states _ in
        let x = stored-all 8 words grid (rw l (grid-long s start grid representatives k)) in
        let y = stored-all 2 numbers representatives (rw h (representatives-long s start grid representatives k)) in
        passes rules _ _ k ∙ ap carried_back (sym f) ∙ (rw (e, gs, x, rs, y)))
        (λ q. absurd (numbered q.0 (ap (λ (x : Answer Counts). (coarsest_reply x).refusal) (sym e) ∙ ap (λ (o : CoarsestOutcome). o.reply.refusal) (when-broken rules _ _ on q.1))))
        (finding rules)

  -- numbers of the schedule that no run uses change nothing
  cut-same : (k most : ℕ) → (broken rules ≡ Nothing → (header_of s).states ≤ k) → k * (k - 1) ≤ most → on_words (take most schedule) ≡ on_words schedule
  unfolding coarsest_on_words
  cut-same k most few l = ⊎_elim
      (λ o. passes rules _ _ o ∙ ap carried_back (refined-cut s start _ _ o k most schedule (few o) l) ∙ sym (passes rules _ _ o))
      (λ q. refuses rules _ _ q.1 ∙ sym (refuses rules _ _ q.1))
      (finding rules)

  pub front-is : {es : List ℕ} → es ≡ take 65280 schedule → on_words es ≡ on_words schedule
  front-is e = rw e (cut-same 256 65280 (λ o. (bounds s start _ _ o).states) (le_refl 65280))

-- a schedule's first 130560 bytes are enough, and its first 512 for 16 states
module _ (s start bytes grid representatives : List ℕ) where
  abbrev on_bytes : List ℕ → CoarsestOutcome
  on_bytes b = coarsest_on_words s start (list_of b) grid representatives

  front-list : (most : ℕ) → 2 * most ≤ length bytes → list_of (take (2 * most) bytes) ≡ take most (list_of bytes)
  unfolding list_of
  front-list most h =
      let l : length (take (2 * most) bytes) ≡ 2 * most = length-take-le (2 * most) bytes h in
      let half : 2 * most / 2 ≡ most = omega arith in
      rw (l, half) (numbers-front 2 most bytes h) ∙ sym (numbers-take 2 most (length bytes / 2) bytes (omega (arith, h)))

  pub used-same : (k : ℕ) → k ≤ length bytes → (k < length bytes → (k ≡ 130560) ⊎ ((k ≡ 512) × ((header_of s).states ≤ 16))) → on_bytes (take k bytes) ≡ on_bytes bytes
  used-same k h w = ⊎_elim
      (λ (l : k < length bytes).
      ⊎_elim
      (λ e. rw (e, front-list 65280 (omega (arith, l, e))) (cut-same s start (list_of bytes) grid representatives 256 65280 (λ o. (bounds s start _ _ o).states) (le_refl 65280)))
      (λ few. rw (few.0, front-list 256 (omega (arith, l, few.0))) (cut-same s start (list_of bytes) grid representatives 16 256 (λ _. few.1) (omega arith)))
      (w l))
      (λ (g : length bytes ≤ k). rw (take_all k bytes g) refl)
      (lt-or-ge k (length bytes))

-- ## How large the counts are
pub small : {s start schedule grid₀ representatives₀ grid representatives : List ℕ} {a : Answer Counts} {c : Counts}
    → CoarsestPromise s start schedule grid₀ representatives₀ (coarsest_reply a) grid representatives → a ≡ Ok c → Small c
unfolding coarsest_reply block_count
small {s} {start} {schedule} {grid₀} {representatives₀} {grid} {representatives} {a} {c} p done = ⊎_elim
    (λ k.
    let f : (lts_of s).states ≤ 256 = omega (arith, states s start grid₀ representatives₀ k, (bounds s start grid₀ representatives₀ k).states) in
    let m : (lts_of s).states * (lts_of s).states ≤ 256 * 256 = mul-le-mul f f in
    let K = grid_relation s grid in
    let e : c.steps ∷ c.pairs ∷ c.blocks ∷ [] ≡ (coarsest (lts_of s) (relation_of (header_of s).states start) schedule).steps ∷ pair_count (lts_of s) K ∷ block_count (lts_of s) K ∷ []
    = ap (λ (x : Reply). x.values) (ap coarsest_reply (sym done) ∙ (p.answers k).replied) in
    let x : c.steps ≡ _ = head-eq_of_cons-eq e in
    let y : c.pairs ≡ pair_count (lts_of s) K = cc in
    let z : c.blocks ≡ count_below (lts_of s).states (is_representative (lts_of s) K) = cc in
    record {
      steps = omega (arith, x, steps-few s start grid₀ representatives₀ k schedule);
      pairs = omega (arith, y, pair-count-most (lts_of s) K, m);
      blocks = omega (arith, z, count_most (lts_of s).states (is_representative (lts_of s) K), f);
    })
    (λ q. absurd (numbered q.0 (ap (λ (x : Reply). x.refusal) (ap coarsest_reply (sym done) ∙ (p.refuses q.0 q.1).0))))
    (finding (coarsest_rules s start grid₀ representatives₀))
