-- K, V and the blocks at the beginning of a run, on lists of sets. Assumes nothing.
use Prim.Native.Nat.{ℕ, zero, suc, ◌+◌, ◌*◌, ◌/◌, ◌%◌, ◌^◌, ◌≤◌, ◌<◌}
use native.Mathlib.Nat.{not-suc-le-zero}
use native.Mathlib.Numerals.{add-one}
use native.Mathlib.Omega.{arith}
use mathlib.Core.Path.{◌≡◌, refl, sym, ap, ap₂, ◌∙◌, subst}
use mathlib.Core.Bool.{Bool, true, false, cond, not, ◌&&◌, ◌||◌, and-true, and_assoc, true≢false}
use mathlib.Core.Logic.{⊎_elim}
use mathlib.Core.List.{List}
use lib.Dec.{T, eqb, ltb, eqb→eq}
use lib.ListN.{length, get_or}
use borrow.Author.Tests.{eq-eqb, ne_eqb, eqb-true}
use Rattle.lts.specs.Bounded.{◌⇒◌, all_below, restrict}
use Rattle.lts.specs.System.{Set, Rel, Lts, all_actions, into}
use Rattle.lts.specs.Refinement.{initial}
use Rattle.lts.proofs.Bounded.{and-iff, imp-iff, all-iff, test-ext, restrict-iff}
use Rattle.lts.proofs.Below.{all-cong, T_true, either}
use Rattle.lts.proofs.System.{Preorder, into-to, into-from}
use Rattle.lts.proofs.Run.{initial-inv}
use Rattle.rows.specs.Rows.{in_row, row_of}
use Rattle.relation.specs.Matrix.{relation_of}
use Rattle.sets.specs.Sets.{set_at, sets_of}
use Rattle.sets.proofs.Lists.{set-in, sets-in, sets-cong, sets-long, sets-ext, put-sets}
use Rattle.transitions.specs.Table.{states_of, actions_of, count_of, source_at, action_at, target_at, table_lts, Formed}
use Rattle.transitions.proofs.Entries.{eqb_of, entry-leads, entry_of, table-formed}
use Rattle.adjacency.specs.Adjacency.{Index}
use Rattle.partition.specs.Pending.{Ordered}
use Rattle.refinement.specs.Engine.{Start}

-- K without the pairs that the first i transitions refute: (p, q) where p has a transition by an action that q has none by
abbrev pub kept_below : List ℕ → List ℕ → Rel → ℕ → Rel
kept_below t rows K i p q = K p q && all_below i (λ j. eqb (source_at t j) p ⇒ set_at rows (63 + 2 * action_at t j) q)

pub kept-none : (t rows related : List ℕ) → length related ≡ 1024 → ((j : ℕ) → get_or related j 0 < 2 ^ 64) → related ≡ sets_of 256 (kept_below t rows (set_at related) 0)
unfolding all_below
kept-none t rows related long words = sets-ext 256 related long words ∙ sets-cong 256 _ _ (λ p q _ _. sym (and-true (set_at related p q)))

-- one transition more
module _ (t rows : List ℕ) (K : Rel) (i : ℕ) (related row able met : List ℕ) {p a : ℕ} (source : p ≡ source_at t i) (action : a ≡ action_at t i)
    (now : related ≡ sets_of 256 (kept_below t rows K i)) (row_is : row ≡ row_of 4 (set_at related p)) (able-is : able ≡ row_of 4 (set_at rows (63 + 2 * a)))
    (met-is : met ≡ row_of 4 (λ q. in_row row q && in_row able q)) where
  met-in : (q : ℕ) → q < 256 → in_row met q ≡ set_at related p q && set_at rows (63 + 2 * action_at t i) q
  met-in q h =
      set-in _ met-is q h
      ∙ ap₂ ◌&&◌ (set-in _ row_is q h) (set-in _ able-is q h ∙ ap (λ (x : ℕ). set_at rows (63 + 2 * x) q) action)

  here : (k b s : Bool) → (k && b) && s ≡ k && (b && (not true || s))
  here true b s = refl
  here false b s = refl

  there : (k b s : Bool) → k && b ≡ k && (b && (not false || s))
  there true true s = refl
  there true false s = refl
  there false b s = refl

  pub kept_more : {related' : List ℕ} → related' ≡ row_of (length related) (λ x. cond (eqb (x / 256) p) (in_row met (x % 256)) (in_row related x))
      → related' ≡ sets_of 256 (kept_below t rows K (i + 1))
  unfolding all_below
  kept_more e =
      put-sets 256 p (in_row met) related (sets-long 256 _ now) e
      ∙ rw add-one (sets-cong 256 _ _ (λ x q h l. ⊎_elim
      (λ (same : eqb x p ≡ true).
      let k = eqb-true x p same in
      ap (λ (b : Bool). cond b (in_row met q) (set_at related x q)) same ∙ met-in q l
      ∙ ap (λ (y : ℕ). set_at related y q && set_at rows (63 + 2 * action_at t i) q) (sym k)
      ∙ ap (λ (b : Bool). b && set_at rows (63 + 2 * action_at t i) q) (sets-in 256 _ now x q h l)
      ∙ here (K x q) (all_below i (λ j. eqb (source_at t j) x ⇒ set_at rows (63 + 2 * action_at t j) q)) (set_at rows (63 + 2 * action_at t i) q)
      ∙ ap (λ (b : Bool). K x q && (all_below i (λ j. eqb (source_at t j) x ⇒ set_at rows (63 + 2 * action_at t j) q) && (not b || set_at rows (63 + 2 * action_at t i) q)))
      (sym (eq-eqb (source_at t i) x (sym source ∙ sym k))))
      (λ (other : eqb x p ≡ false).
      ap (λ (b : Bool). cond b (in_row met q) (set_at related x q)) other ∙ sets-in 256 _ now x q h l
      ∙ there (K x q) (all_below i (λ j. eqb (source_at t j) x ⇒ set_at rows (63 + 2 * action_at t j) q)) (set_at rows (63 + 2 * action_at t i) q)
      ∙ ap (λ (b : Bool). K x q && (all_below i (λ j. eqb (source_at t j) x ⇒ set_at rows (63 + 2 * action_at t j) q) && (not b || set_at rows (63 + 2 * action_at t i) q)))
      (sym (ne_eqb (source_at t i) x (λ z. off x (sym z ∙ sym source) other))))
      (either (eqb x p))))
    where
      off : (x : ℕ) → x ≡ p → eqb x p ≡ false → ⊥
      off x z o = true≢false (sym (eq-eqb x p z) ∙ o)

-- whether q has each action of p
abbrev answers_all : Lts → ℕ → ℕ → Bool
answers_all L p q = all_actions L (λ a. into L a (λ t. true) p ⇒ into L a (λ t. true) q)

-- the same, transition by transition
has-actions : {t : List ℕ} → Formed t → (p q : ℕ) → all_below (count_of t) (λ i. eqb (source_at t i) p ⇒ into (table_lts t) (action_at t i) (λ t. true) q) ≡ answers_all (table_lts t) p q
unfolding all_actions table_lts
has-actions {t} ok p q = test-ext _ _ to from
  where
    able : ℕ → Set
    able a = into (table_lts t) a (λ t. true)

    shown : ℕ → Bool
    shown i = eqb (source_at t i) p ⇒ able (action_at t i) q

    answer : ℕ → Bool
    answer b = able (suc b) p ⇒ able (suc b) q

    to : T (all_below (count_of t) shown) → T (all_below (actions_of t) answer)
    to u = (all-iff (actions_of t) answer).1 (λ b h. (imp-iff (able (suc b) p) (able (suc b) q)).1 (λ v.
        let s = into-to (table_lts t) (suc b) (λ t. true) p v in
        let e = entry_of t p (suc b) s.0 s.1 in
        let i = e.0 in
        subst (λ (a : ℕ). T (able a q)) e.3
        ((imp-iff (eqb (source_at t i) p) (able (action_at t i) q)).0 ((all-iff (count_of t) shown).0 u i e.1) (eqb_of e.2))))

    at : T (all_below (actions_of t) answer) → (a : ℕ) → 1 ≤ a → a ≤ actions_of t → T (able a p) → T (able a q)
    at u zero l h v = absurd (not-suc-le-zero l)
    at u (suc b) l h v = (imp-iff (able (suc b) p) (able (suc b) q)).0 ((all-iff (actions_of t) answer).0 u b h) v

    from : T (all_below (actions_of t) answer) → T (all_below (count_of t) shown)
    from u = (all-iff (count_of t) shown).1 (λ i h. (imp-iff (eqb (source_at t i) p) (able (action_at t i) q)).1 (λ v.
        at u (action_at t i) (ok.named i h) (ok.action i h)
        (into-from (table-formed t ok) (action_at t i) (λ t. true) p
        (target_at t i, entry-leads t i h (eqb→eq (source_at t i) p v) refl refl, tt))))

module _ {t places rows : List ℕ} (index : Index t places rows) (start : Rel) where
  abbrev n : ℕ
  n = states_of t

  abbrev L : Lts
  L = table_lts t

  -- K at the beginning
  pub initial-related : {first related : List ℕ} → first ≡ sets_of 256 (restrict n start) → related ≡ sets_of 256 (kept_below t rows (set_at first) (count_of t))
      → related ≡ sets_of 256 (initial L start).related
  unfolding initial restrict table_lts
  initial-related {first} e d = d ∙ sets-cong 256 _ _ (λ p q h l.
      ap₂ ◌&&◌ (sets-in 256 _ e p q h l) (all-cong (count_of t) _ _ (λ i u. ap (λ (b : Bool). not (eqb (source_at t i) p) || b)
      (index.enabled (action_at t i) q (index.formed.named i u) (index.formed.action i u) l)) ∙ has-actions index.formed p q)
      ∙ and_assoc (ltb p n && ltb q n) (start p q) (answers_all L p q))

  -- V at the beginning
  pub initial-viewed : {all none viewed : List ℕ} → all ≡ row_of 4 (λ q. ltb q n) → none ≡ sets_of 256 (λ p q. false)
      → viewed ≡ sets_of 256 (λ p q. cond (in_row all p) (in_row all q) (set_at none p q)) → viewed ≡ sets_of 256 (initial L start).viewed
  unfolding initial restrict table_lts
  initial-viewed {all} all-is empty e = e ∙ sets-cong 256 _ _ (λ p q h l.
      ap₂ (λ (x y : Bool). cond x (in_row all q) y) (set-in _ all-is p h) (sets-in 256 _ empty p q h l) ∙ ap (λ (x : Bool). cond (ltb p n) x false) (set-in _ all-is q l)
      ∙ both (ltb p n) (ltb q n))
    where
      both : (a b : Bool) → cond a b false ≡ (a && b) && true
      both true true = refl
      both true false = refl
      both false b = refl

-- K is a preorder at the beginning
module _ {t : List ℕ} (ok : Formed t) {start : List ℕ} (st : Start (states_of t) start) {related : List ℕ}
    (is : related ≡ sets_of 256 (initial (table_lts t) (relation_of (states_of t) start)).related) where
  abbrev from : Rel
  from = relation_of (states_of t) start

  abbrev K : Rel
  K = (initial (table_lts t) from).related

  pre : Preorder (table_lts t) from
  unfolding table_lts
  pre = record { loop = st.loop; chain = st.chain }

  pair : (p q : ℕ) → T (K p q) → (p < states_of t) × (q < states_of t) × T (from p q) × T (answers_all (table_lts t) p q)
  unfolding initial table_lts
  pair p q e =
      let r = (restrict-iff (states_of t) _ p q).0 e in
      let u = (and-iff (from p q) (answers_all (table_lts t) p q)).0 r.2 in
      (r.0, r.1, u.0, u.1)

  unpair : (p q : ℕ) → p < states_of t → q < states_of t → T (from p q) → T (answers_all (table_lts t) p q) → T (K p q)
  unfolding initial table_lts
  unpair p q h l e d = (restrict-iff (states_of t) _ p q).1 (h, l, (and-iff (from p q) (answers_all (table_lts t) p q)).1 (e, d))

  -- what answers an answer answers
  answers-chain : (L : Lts) (p q r : ℕ) → T (answers_all L p q) → T (answers_all L q r) → T (answers_all L p r)
  unfolding all_actions
  answers-chain L p q r u v = (all-iff L.actions (able p r)).1 (λ a h. (imp-iff (into L (suc a) (λ t. true) p) (into L (suc a) (λ t. true) r)).1 (λ x.
      (imp-iff (into L (suc a) (λ t. true) q) (into L (suc a) (λ t. true) r)).0 ((all-iff L.actions (able q r)).0 v a h)
      ((imp-iff (into L (suc a) (λ t. true) p) (into L (suc a) (λ t. true) q)).0 ((all-iff L.actions (able p q)).0 u a h) x)))
    where
      able : ℕ → ℕ → ℕ → Bool
      able p q a = into L (suc a) (λ t. true) p ⇒ into L (suc a) (λ t. true) q

  pub ordered-first : Ordered (states_of t) (set_at related)
  unfolding table_lts
  ordered-first = record {
    loop = λ p h. let u : p < 256 = omega (arith, h, ok.states) in sets-in 256 K is p p u u ∙ T_true (K p p) ((initial-inv (table_lts t) (table-formed t ok) from pre).blocks.loop h);
    trans = λ p q r hp hq hr e d.
        let x = pair p q (subst T (sym e ∙ sets-in 256 K is p q hp hq) tt) in
        let y = pair q r (subst T (sym d ∙ sets-in 256 K is q r hq hr) tt) in
        sets-in 256 K is p r hp hr
        ∙ T_true (K p r) (unpair p r x.0 y.1 (st.chain p q r x.0 x.1 y.1 x.2 y.2) (answers-chain (table_lts t) p q r x.3 y.3));
    inside = λ p q hp hq e. let x = pair p q (subst T (sym e ∙ sets-in 256 K is p q hp hq) tt) in (x.0, x.1);
  }
