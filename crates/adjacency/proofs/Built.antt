-- The index of all transitions of a table is its index. Assumes nothing.
use mathlib.Core.Path.{◌≡◌, refl, sym, ap, ◌∙◌, subst, subst⁻¹}
use mathlib.Core.Bool.{Bool, true, false}
use mathlib.Core.List.{List}
use mathlib.Core.Logic.{◌⊎◌, inl, inr, ⊎_elim, ◌↔◌}
use Prim.Native.Nat.{ℕ, ◌+◌, ◌-◌, ◌*◌, ◌≤◌, ◌<◌}
use native.Mathlib.Omega.{arith}
use lib.Dec.{T}
use lib.ListN.{length, get_or}
use Rattle.lts.specs.Bounded.{any_below}
use Rattle.lts.specs.System.{into}
use Rattle.lts.proofs.Bounded.{any-iff, test-ext}
use Rattle.lts.proofs.System.{into-to, into-from}
use Rattle.rows.specs.Rows.{bit, in_row}
use Rattle.rows.proofs.Rows.{in_row-at, in_row-of}
use Rattle.sets.specs.Sets.{set_at}
use Rattle.transitions.specs.Table.{actions_of, count_of, source_at, action_at, target_at, table_lts, Formed}
use Rattle.transitions.proofs.Entries.{entry-leads, entry_of, table-formed}
use Rattle.adjacency.specs.Adjacency.{Index}
use Rattle.adjacency.specs.Building.{targets_place, sources_place, hit_at, Building}
use Rattle.adjacency.proofs.Building.{hits-cases, hits-actions, hits-entered, hits-enabled, hits-sources, hits-targets}

-- every place's row is there
pub building-room : {t places rows : List ℕ} {i : ℕ} → Building t i places rows → (n : ℕ) → (65 + 2 * actions_of t + 2 * i) * 4 ≤ n → (x : ℕ)
    → (64 + get_or places x 0) * 4 + 4 ≤ n
building-room {t} {places} {rows} {i} built n wide x = ⊎_elim
    (λ (e : get_or places x 0 ≡ 0). omega (arith, e))
    (λ (l : (2 * actions_of t + 1 ≤ get_or places x 0) × (get_or places x 0 < 2 * actions_of t + 1 + 2 * i)). omega (arith, l.1)) (built.placing.range x)

module _ {t places rows : List ℕ} (ok : Formed t) (built : Building t (count_of t) places rows) (long : 512 * (actions_of t + 1) ≤ length places)
    (wide : (65 + 2 * actions_of t + 2 * count_of t) * 4 ≤ length rows) where
  abbrev m : ℕ
  m = actions_of t

  abbrev P : ℕ → ℕ
  P x = get_or places x 0

  abbrev leads : ℕ → ℕ → ℕ → Type 0
  leads p a q = T ((table_lts t).transition p a q)

  -- a member was put in by a transition
  member : (y : ℕ) → y < length rows * 64 → T (in_row rows y) ↔ ((j : ℕ) × (j < count_of t) × T (hit_at t places j y))
  member y h =
      let e : in_row rows y ≡ any_below (count_of t) (λ j. hit_at t places j y) = ap (λ (l : List ℕ). in_row l y) built.members ∙ in_row-of (length rows) _ y h in
      (λ u. (any-iff (count_of t) (λ j. hit_at t places j y)).0 (subst T e u), λ s. subst⁻¹ T e ((any-iff (count_of t) (λ j. hit_at t places j y)).1 s))

  room : (x : ℕ) → (64 + P x) * 4 + 4 ≤ length rows
  room = building-room built (length rows) wide

  range : (x : ℕ) → (P x ≡ 0) ⊎ (2 * m + 1 ≤ P x)
  range x = ⊎_elim (λ (e : P x ≡ 0). inl e) (λ (l : (2 * m + 1 ≤ P x) × (P x < 2 * m + 1 + 2 * count_of t)). inr l.0) (built.placing.range x)

  above : (x : ℕ) → 1 ≤ P x → 2 * m + 1 ≤ P x
  above x h = ⊎_elim (λ (e : P x ≡ 0). absurd (omega (arith, e, h))) (λ l. l) (range x)

  record Facts (j : ℕ) : Type 0 where
    source : source_at t j < 256
    target : target_at t j < 256
    named : 1 ≤ action_at t j
    action : action_at t j ≤ m
    leaving : 2 * m + 1 ≤ P (targets_place (action_at t j) (source_at t j))
    entering : 2 * m + 1 ≤ P (sources_place (action_at t j) (target_at t j))

  facts : (j : ℕ) → j < count_of t → Facts j
  facts j h = record {
    source = omega (arith, ok.source j h, ok.states);
    target = omega (arith, ok.target j h, ok.states);
    named = ok.named j h;
    action = ok.action j h;
    leaving = above (targets_place (action_at t j) (source_at t j)) (built.leaving j h);
    entering = above (sources_place (action_at t j) (target_at t j)) (built.entering j h);
  }

  -- the cases of a member that transition j put in
  cases : {C : Type 0} (j y : ℕ) → T (hit_at t places j y) → (y ≡ 256 * (64 + P (targets_place (action_at t j) (source_at t j))) + target_at t j → C)
      → (y ≡ 256 * (64 + P (sources_place (action_at t j) (target_at t j))) + source_at t j → C) → (y ≡ 256 * (63 + 2 * action_at t j) + source_at t j → C)
      → (y ≡ 256 * (64 + 2 * action_at t j) + target_at t j → C) → (y ≡ 64 * target_at t j + (action_at t j - 1) → C) → C
  cases j y u = hits-cases (P (targets_place (action_at t j) (source_at t j))) (P (sources_place (action_at t j) (target_at t j))) (source_at t j) (action_at t j)
      (target_at t j) y u

  -- no row of a place is one of an action, or among the words of the states
  apart : (x r : ℕ) → r < 256 → (j : ℕ) → Facts j → (256 * (64 + P x) + r ≡ 256 * (63 + 2 * action_at t j) + source_at t j → ⊥)
      × (256 * (64 + P x) + r ≡ 256 * (64 + 2 * action_at t j) + target_at t j → ⊥)
  apart x r hr j f = (
    λ e. ⊎_elim (λ (z : P x ≡ 0). omega (arith, e, z, f.source)) (λ (l : 2 * m + 1 ≤ P x). omega (arith, e, l, f.source, f.action)) (range x),
    λ e. ⊎_elim (λ (z : P x ≡ 0). omega (arith, e, z, f.target, f.named)) (λ (l : 2 * m + 1 ≤ P x). omega (arith, e, l, f.target, f.action)) (range x),
  )

  targets : (a p q : ℕ) → p < 256 → q < 256 → set_at rows (64 + P (targets_place a p)) q ≡ (table_lts t).transition p a q
  targets a p q hp hq = test-ext _ _ to from
    where
      x : ℕ
      x = targets_place a p

      mem : T (set_at rows (64 + P x) q) ↔ ((j : ℕ) × (j < count_of t) × T (hit_at t places j (256 * (64 + P x) + q)))
      mem = member (256 * (64 + P x) + q) (omega (arith, room x))

      to : T (set_at rows (64 + P x) q) → leads p a q
      to u =
          let s = mem.0 u in
          let j = s.0 in
          let f = facts j s.1 in
          cases j (256 * (64 + P x) + q) s.2
          (λ e.
          let row : P x ≡ P (targets_place (action_at t j) (source_at t j)) = omega (arith, e, f.target) in
          let same : x ≡ targets_place (action_at t j) (source_at t j) = built.placing.only _ _ row (omega (arith, row, f.leaving)) in
          entry-leads t j s.1 (omega (arith, same, f.source)) (omega (arith, same, f.source)) (omega (arith, e, row)))
          (λ e.
          let row : P x ≡ P (sources_place (action_at t j) (target_at t j)) = omega (arith, e, f.source) in
          let same : x ≡ sources_place (action_at t j) (target_at t j) = built.placing.only _ _ row (omega (arith, row, f.entering)) in
          absurd (omega (arith, same, f.target)))
          (λ e. absurd ((apart x q hq j f).0 e)) (λ e. absurd ((apart x q hq j f).1 e)) (λ e. absurd (omega (arith, e, f.target, f.action, ok.labels)))

      from : leads p a q → T (set_at rows (64 + P x) q)
      from u =
          let s = entry_of t p a q u in
          let j = s.0 in
          let same : x ≡ targets_place (action_at t j) (source_at t j) = omega (arith, s.2, s.3) in
          let row : P x ≡ P (targets_place (action_at t j) (source_at t j)) = ap (λ (z : ℕ). get_or places z 0) same in
          mem.1 (j, s.1, hits-targets _ _ (source_at t j) (action_at t j) (target_at t j) (256 * (64 + P x) + q) (omega (arith, row, s.4)))

  sources : (a p q : ℕ) → p < 256 → q < 256 → set_at rows (64 + P (sources_place a q)) p ≡ (table_lts t).transition p a q
  sources a p q hp hq = test-ext _ _ to from
    where
      x : ℕ
      x = sources_place a q

      mem : T (set_at rows (64 + P x) p) ↔ ((j : ℕ) × (j < count_of t) × T (hit_at t places j (256 * (64 + P x) + p)))
      mem = member (256 * (64 + P x) + p) (omega (arith, room x))

      to : T (set_at rows (64 + P x) p) → leads p a q
      to u =
          let s = mem.0 u in
          let j = s.0 in
          let f = facts j s.1 in
          cases j (256 * (64 + P x) + p) s.2
          (λ e.
          let row : P x ≡ P (targets_place (action_at t j) (source_at t j)) = omega (arith, e, f.target) in
          let same : x ≡ targets_place (action_at t j) (source_at t j) = built.placing.only _ _ row (omega (arith, row, f.leaving)) in
          absurd (omega (arith, same, f.source)))
          (λ e.
          let row : P x ≡ P (sources_place (action_at t j) (target_at t j)) = omega (arith, e, f.source) in
          let same : x ≡ sources_place (action_at t j) (target_at t j) = built.placing.only _ _ row (omega (arith, row, f.entering)) in
          entry-leads t j s.1 (omega (arith, e, row)) (omega (arith, same, f.target)) (omega (arith, same, f.target)))
          (λ e. absurd ((apart x p hp j f).0 e)) (λ e. absurd ((apart x p hp j f).1 e)) (λ e. absurd (omega (arith, e, f.target, f.action, ok.labels)))

      from : leads p a q → T (set_at rows (64 + P x) p)
      from u =
          let s = entry_of t p a q u in
          let j = s.0 in
          let same : x ≡ sources_place (action_at t j) (target_at t j) = omega (arith, s.3, s.4) in
          let row : P x ≡ P (sources_place (action_at t j) (target_at t j)) = ap (λ (z : ℕ). get_or places z 0) same in
          mem.1 (j, s.1, hits-sources _ _ (source_at t j) (action_at t j) (target_at t j) (256 * (64 + P x) + p) (omega (arith, row, s.2)))

  enabled : (a p : ℕ) → 1 ≤ a → a ≤ m → p < 256 → set_at rows (63 + 2 * a) p ≡ into (table_lts t) a (λ q. true) p
  enabled a p la ha hp = test-ext _ _ to from
    where
      y : ℕ
      y = 256 * (63 + 2 * a) + p

      to : T (in_row rows y) → T (into (table_lts t) a (λ q. true) p)
      to u =
          let s = (member y (omega arith)).0 u in
          let j = s.0 in
          let f = facts j s.1 in
          cases j y s.2
          (λ e. absurd (omega (arith, e, f.leaving, f.target))) (λ e. absurd (omega (arith, e, f.entering, f.source)))
          (λ e. into-from (table-formed t ok) a (λ q. true) p
          (target_at t j, entry-leads t j s.1 (omega (arith, e, f.source)) (omega (arith, e, f.source)) refl, tt))
          (λ e. absurd (omega (arith, e, f.target))) (λ e. absurd (omega (arith, e, f.target, f.action, ok.labels)))

      from : T (into (table_lts t) a (λ q. true) p) → T (in_row rows y)
      from u =
          let i = into-to (table_lts t) a (λ q. true) p u in
          let s = entry_of t p a i.0 i.1 in
          let j = s.0 in
          (member y (omega arith)).1 (j, s.1, hits-enabled _ _ (source_at t j) (action_at t j) (target_at t j) y (omega (arith, s.2, s.3)))

  abbrev enters : ℕ → ℕ → Bool
  enters a q = any_below 256 (λ p. (table_lts t).transition p a q)

  enters-by : (a q j : ℕ) → j < count_of t → action_at t j ≡ a → target_at t j ≡ q → T (enters a q)
  enters-by a q j h ea et = (any-iff 256 (λ p. (table_lts t).transition p a q)).1 (source_at t j, (facts j h).source, entry-leads t j h refl ea et)

  enters-of : (a q : ℕ) → T (enters a q) → (j : ℕ) × (j < count_of t) × (action_at t j ≡ a) × (target_at t j ≡ q)
  enters-of a q u =
      let i = (any-iff 256 (λ p. (table_lts t).transition p a q)).0 u in
      let s = entry_of t i.0 a q i.2 in
      (s.0, s.1, s.3, s.4)

  entered : (a q : ℕ) → 1 ≤ a → a ≤ m → q < 256 → set_at rows (64 + 2 * a) q ≡ enters a q
  entered a q la ha hq = test-ext _ _ to from
    where
      y : ℕ
      y = 256 * (64 + 2 * a) + q

      to : T (in_row rows y) → T (enters a q)
      to u =
          let s = (member y (omega arith)).0 u in
          let j = s.0 in
          let f = facts j s.1 in
          cases j y s.2
          (λ e. absurd (omega (arith, e, f.leaving, f.target))) (λ e. absurd (omega (arith, e, f.entering, f.source)))
          (λ e. absurd (omega (arith, e, f.source)))
          (λ e. enters-by a q j s.1 (omega (arith, e, f.target)) (omega (arith, e, f.target)))
          (λ e. absurd (omega (arith, e, f.target, f.action, ok.labels)))

      from : T (enters a q) → T (in_row rows y)
      from u =
          let s = enters-of a q u in
          let j = s.0 in
          (member y (omega arith)).1 (j, s.1, hits-entered _ _ (source_at t j) (action_at t j) (target_at t j) y (omega (arith, s.2, s.3)))

  -- a member of the words of the states
  word-member : (x i : ℕ) → x < 256 → i < 64 → T (in_row rows (x * 64 + i)) → (j : ℕ) × (j < count_of t) × (action_at t j ≡ i + 1) × (target_at t j ≡ x)
  word-member x i hx hi u =
      let y = x * 64 + i in
      let s = (member y (omega arith)).0 u in
      let j = s.0 in
      let f = facts j s.1 in
      let found : (action_at t j ≡ i + 1) × (target_at t j ≡ x) = cases j y s.2
      (λ e. absurd (omega (arith, e))) (λ e. absurd (omega (arith, e))) (λ e. absurd (omega (arith, e, f.named))) (λ e. absurd (omega (arith, e)))
      (λ e. (omega (arith, e, f.named, f.action, ok.labels), omega (arith, e, f.action, f.named, ok.labels))) in
      (j, s.1, found.0, found.1)

  actions : (a q : ℕ) → 1 ≤ a → a ≤ m → q < 256 → bit (get_or rows q 0) (a - 1) ≡ enters a q
  actions a q la ha hq = sym (in_row-at rows q (a - 1) (omega (arith, ok.labels))) ∙ test-ext _ _ to from
    where
      y : ℕ
      y = q * 64 + (a - 1)

      to : T (in_row rows y) → T (enters a q)
      to u =
          let s = word-member q (a - 1) hq (omega (arith, ok.labels)) u in
          enters-by a q s.0 s.1 (omega (arith, s.2)) s.3

      from : T (enters a q) → T (in_row rows y)
      from u =
          let s = enters-of a q u in
          let j = s.0 in
          (member y (omega (arith, ok.labels))).1 (j, s.1, hits-actions _ _ (source_at t j) (action_at t j) (target_at t j) y (omega (arith, s.2, s.3)))

  no_more : (j x : ℕ) → x < 256 → m ≤ j → j < 64 → bit (get_or rows x 0) j ≡ false
  no_more j x hx lj hj = sym (in_row-at rows x j hj) ∙ test-ext _ false none (λ u. absurd u)
    where
      none : T (in_row rows (x * 64 + j)) → T false
      none u = let s = word-member x j hx hj u in absurd (omega (arith, s.2, (facts s.0 s.1).action))

  pub index-built : Index t places rows
  index-built = record {
    formed = ok;
    long = long;
    wide = omega arith;
    room = room;
    targets = λ a p q _ _. targets a p q;
    sources = λ a p q _ _. sources a p q;
    enabled = enabled;
    entered = entered;
    actions = actions;
    no_more = no_more;
  }
