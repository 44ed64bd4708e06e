-- Systems with the same states, terminating states and transitions by label have the same coarsest simulation inside the end start and inside
-- the ready start, whatever their action numbers; and so have their joined flows. So compare's yes depends on the transitions by label alone.
use Prim.Native.Nat.{ℕ, suc, ◌+◌, ◌-◌, ◌≤◌, ◌<◌, zero-le, suc-le-suc}
use native.Mathlib.Omega.{arith}
use mathlib.Core.Path.{◌≡◌, refl, sym, ◌∙◌, ap, subst, fun_ext}
use mathlib.Core.Logic.{⊎_elim}
use mathlib.Core.List.{List, []}
use lib.Dec.{T}
use lib.ListN.{get_or}
use Rattle.lts.specs.Bounded.{◌⇒◌}
use Rattle.lts.specs.System.{Rel, Lts, WellFormed, termination_preorder}
use Rattle.lts.specs.Refinement.{coarsest}
use Rattle.lts.specs.Mapped.{mapped, Sends}
use Rattle.lts.specs.Union.{disjoint_union, comparison, simulated}
use Rattle.lts.specs.Ready.{Offers, SameActions, ready_preorder}
use Rattle.lts.specs.Labels.{same_label, label_of, joined_labels, joined_second, Labels, JoinedByLabel, Move, SameByLabel}
use Rattle.lts.proofs.Bounded.{test-ext}
use Rattle.lts.proofs.Below.{lt-or-ge}
use Rattle.lts.proofs.System.{Preorder}
use Rattle.lts.proofs.Run.{coarsest-is}
use Rattle.lts.proofs.Carried.{Corresponds, carried}
use Rattle.lts.proofs.Comparison.{termination-preorder}
use Rattle.lts.proofs.Ready.{ready-iff, ready-preorder}
use Rattle.lts.proofs.Mapped.{mapped-iff, mapped-formed, move, self-terminating}
use Rattle.lts.proofs.Places.{distinct-iff}
use Rattle.lts.proofs.Labels.{label-tests, label-once, label-upto, joined-formed, joined-by-label}

same_back : {A B : List (List ℕ)} {L M : Lts} → SameByLabel A L B M → SameByLabel B M A L
same_back {A} {B} {L} {M} same = record {
  states = sym same.states;
  terminating = λ p l. sym (same.terminating p (subst (λ (n : ℕ). p < n) (sym same.states) l));
  move = λ p x t. ((same.move p x t).1, (same.move p x t).0);
}

pub same_self : (A : List (List ℕ)) (L : Lts) → SameByLabel A L A L
same_self A L = record { states = refl; terminating = λ _ _. refl; move = λ p x t. (λ s. s, λ s. s) }

-- a start of every system that the states, the terminating states and the transitions by label determine
pub record LabelledStart (start : Lts → Rel) : Type 0 where
  pub preorder : (L : Lts) → WellFormed L → Preorder L (start L)
  pub same : (A B : List (List ℕ)) (L M : Lts) → WellFormed L → WellFormed M → Labels B M → SameByLabel A L B M
      → (p q : ℕ) → p < L.states → q < L.states → T (start L p q) → T (start M p q)

pub end-labelled : LabelledStart termination_preorder
unfolding termination_preorder
end-labelled = record {
  preorder = λ L _. termination-preorder L;
  same = λ A B L M _ _ _ same p q lp lq u.
      subst (λ b. T (M.terminating p ⇒ b)) (same.terminating q lq) (subst (λ b. T (b ⇒ L.terminating q)) (same.terminating p lp) u);
}

-- the same set of actions is the same set of labels
same-actions-labelled : (A B : List (List ℕ)) (L M : Lts) → WellFormed M → Labels B M → SameByLabel A L B M
    → (p q : ℕ) → SameActions L p q → SameActions M p q
same-actions-labelled A B L M wm labels same p q h a = (carry p q (λ b. (h b).0), carry q p (λ b. (h b).1))
  where
    carry : (p q : ℕ) → ((b : ℕ) → Offers L p b → Offers L q b) → Offers M p a → Offers M q a
    carry p q g (t, u) =
        let (b, v, e) = (same.move p (label_of B a) t).1 (a, u, refl) in
        let (r, w) = g b (t, v) in
        let (c, x, f) = (same.move q (label_of A b) r).0 (b, w, refl) in
        let l = wm.action p a t u in
        let m = wm.action q c r x in
        let is = label-once B labels.once c a m.0 (label-upto B M labels c m.1) l.0 (label-upto B M labels a l.1) (f ∙ e) in
        (r, move M refl is refl x)

pub ready-labelled : LabelledStart ready_preorder
ready-labelled = record {
  preorder = ready-preorder;
  same = λ A B L M wl wm labels same p q lp lq u.
      let c = (ready-iff L wl p q).0 u in
      let ends : (p : ℕ) → p < L.states → L.terminating p ≡ M.terminating p = same.terminating in
      (ready-iff M wm p q).1 (
        λ t. subst T (ends q lq) (c.0 (subst T (sym (ends p lp)) t)),
        same-actions-labelled A B L M wm labels same p q c.1,
      );
}

module _ {start : Lts → Rel} (by : LabelledStart start) (A B : List (List ℕ)) (L M : Lts) (wl : WellFormed L) (wm : WellFormed M)
    (labels : Labels B M) (same : SameByLabel A L B M) where
  abbrev State : ℕ → ℕ → Type 0
  State p q = (p ≡ q) × (p < L.states)

  abbrev Action : ℕ → ℕ → Type 0
  Action a b = (1 ≤ b) × (b ≤ M.actions) × (label_of A a ≡ label_of B b)

  label-corresponds : Corresponds L M (start L) (start M) State Action
  label-corresponds = record {
    state = λ {p} {p'} d. subst (λ (n : ℕ). p' < n) same.states (subst (λ (x : ℕ). x < L.states) d.0 d.1);
    inside = λ {p} {p'} {q} {q'} d e u.
        let v = by.same A B L M wl wm labels same p q d.1 e.1 u in
        subst (λ (x : ℕ). T (start M p' x)) e.0 (subst (λ (x : ℕ). T (start M x q)) d.0 v);
    back = λ {p} {p'} b t d u.
        let l = wm.action p' b t u in
        let s = (same.move p (label_of B b) t).1 (b, move M (sym d.0) refl refl u, refl) in
        (s.0, t, (l.0, l.1, s.2), s.1, (refl, wl.target p s.0 t s.1));
    forth = λ {q} {q'} {a} {a'} r d e u.
        let s = (same.move q (label_of A a) r).0 (a, u, refl) in
        let l = wm.action q s.0 r s.1 in
        let is = label-once B labels.once s.0 a' l.0 (label-upto B M labels s.0 l.1) e.0 (label-upto B M labels a' e.1) (s.2 ∙ e.2) in
        (r, move M d.0 is refl s.1, (refl, wl.target q a r u));
  }

  label_kept : (es fs : List ℕ) (p q : ℕ) → T ((coarsest L (start L) es).final.related p q) → T ((coarsest M (start M) fs).final.related p q)
  label_kept es fs p q u =
      let k = coarsest-is L wl (start L) (by.preorder L wl) es in
      let n = coarsest-is M wm (start M) (by.preorder M wm) fs in
      let l = k.simulates.states u in
      carried label-corresponds (coarsest L (start L) es).final.related (coarsest M (start M) fs).final.related k n (refl, l.0) (refl, l.1) u

pub same_kept : {start : Lts → Rel} → LabelledStart start → (A B : List (List ℕ)) (L M : Lts) → WellFormed L → WellFormed M
    → Labels A L → Labels B M → SameByLabel A L B M
    → (es fs : List ℕ) → (coarsest L (start L) es).final.related ≡ (coarsest M (start M) fs).final.related
same_kept {start} by A B L M wl wm la lb same es fs =
    fun_ext (λ p. fun_ext (λ q.
    test-ext ((coarsest L (start L) es).final.related p q) ((coarsest M (start M) fs).final.related p q)
    (label_kept by A B L M wl wm lb same es fs p q) (label_kept by B A M L wm wl la (same_back same) fs es p q)))

-- ---- joined flows

-- two labelled systems, and their joined flow by name
pub record Joined (A : List (List ℕ)) (L : Lts) (B : List (List ℕ)) (M : Lts) (J : List (List ℕ)) (U : Lts) : Type 0 where
  pub first : WellFormed L
  pub second : WellFormed M
  pub whole : WellFormed U
  pub first_labels : Labels A L
  pub second_labels : Labels B M
  pub joined : JoinedByLabel A L B M J U

module _ {A : List (List ℕ)} {L : Lts} {B : List (List ℕ)} {M : Lts} {J : List (List ℕ)} {U : Lts} (g : Joined A L B M J U) where
  joined-label : (p a t : ℕ) → T (L.transition p a t) → label_of J a ≡ label_of A a
  unfolding label_of
  joined-label p a t u =
      let l = g.first.action p a t u in
      let m = label-upto A L g.first_labels a l.1 in
      (g.joined.front (a - 1) (omega (arith, l.0, m))).1

  flow-labels : Labels J U
  flow-labels = record { count = sym g.joined.actions; once = (distinct-iff same_label label-tests [] J).1 g.joined.once }

  -- its transitions by label: those of the first
  first-from : (p : ℕ) (x : List ℕ) (t : ℕ) → p < L.states → Move J U p x t → Move A L p x t
  first-from p x t l (a, u, e) = let v = (g.joined.first_moves p a t l).0 u in (a, v, sym (joined-label p a t v) ∙ e)

  first_to : (p : ℕ) (x : List ℕ) (t : ℕ) → Move A L p x t → Move J U p x t
  first_to p x t (a, u, e) = (a, (g.joined.first_moves p a t (g.first.source p a t u)).1 u, joined-label p a t u ∙ e)

  -- and those of the second
  second_from : (p : ℕ) (x : List ℕ) (t : ℕ) → p < M.states → Move J U (L.states + p) x t → (r : ℕ) × Move B M p x r × (t ≡ L.states + r)
  second_from p x t l (a, u, e) =
      let (b, r, v, f, la, ma, et) = (g.joined.second_moves p a t l).0 u in
      (r, (b, v, sym f ∙ e), et)

  second-to : (p : ℕ) (x : List ℕ) (r : ℕ) → Move B M p x r → Move J U (L.states + p) x (L.states + r)
  unfolding label_of
  second-to p x r (b, v, e) =
      let l = g.second.action p b r v in
      let m = label-upto B M g.second_labels b l.1 in
      let (i, h, f) = g.joined.whole (b - 1) (omega (arith, l.0, m)) in
      let k : suc i - 1 ≡ i = omega arith in
      let d = ap (λ (j : ℕ). get_or J j []) k ∙ f in
      (suc i, (g.joined.second_moves p (suc i) (L.states + r) (g.second.source p b r v)).1 (b, r, v, d, suc-le-suc zero-le, h, refl), d ∙ e)

module _ {A : List (List ℕ)} {L : Lts} {B : List (List ℕ)} {M : Lts} {J : List (List ℕ)} {U : Lts} (g : Joined A L B M J U)
    {A' : List (List ℕ)} {L' : Lts} {B' : List (List ℕ)} {M' : Lts} {J' : List (List ℕ)} {U' : Lts} (g' : Joined A' L' B' M' J' U')
    (first : SameByLabel A L A' L') (second : SameByLabel B M B' M') where
  -- a state of the joined flow is one of the first or of the second
  by_state : (P : ℕ → Type 0) → ((p : ℕ) → p < L.states → P p) → ((p : ℕ) → p < M.states → P (L.states + p)) → (p : ℕ) → p < U.states → P p
  by_state P l r p h =
      let n = g.joined.states in
      ⊎_elim (l p)
      (λ (k : L.states ≤ p).
      let e : L.states + (p - L.states) ≡ p = omega (arith, k) in
      subst P e (r (p - L.states) (omega (arith, h, k, n)))) (lt-or-ge p L.states)

  flow-terminating : (p : ℕ) → p < U.states → U.terminating p ≡ U'.terminating p
  flow-terminating =
      by_state (λ p. U.terminating p ≡ U'.terminating p)
      (λ p l. g.joined.first_ends p l ∙ first.terminating p l ∙ sym (g'.joined.first_ends p (subst (λ (n : ℕ). p < n) first.states l)))
      (λ p l. g.joined.second_ends p l ∙ second.terminating p l ∙ sym (g'.joined.second_ends p (subst (λ (n : ℕ). p < n) second.states l))
      ∙ ap (λ (n : ℕ). U'.terminating (n + p)) (sym first.states))

  flow-move : (p : ℕ) (x : List ℕ) (t : ℕ) → Move J U p x t → Move J' U' p x t
  flow-move p x t s =
      by_state (λ p. Move J U p x t → Move J' U' p x t)
      (λ p l s. first_to g' p x t ((first.move p x t).0 (first-from g p x t l s)))
      (λ p l s.
      let (r, v, e) = second_from g p x t l s in
      let n = sym first.states in
      let w = second-to g' p x r ((second.move p x r).0 v) in
      subst (λ (y : ℕ). Move J' U' (L.states + p) x y) (sym e) (subst (λ (y : ℕ). Move J' U' (y + p) x (y + r)) n w))
      p (g.whole.source p s.0 t s.1) s

module _ {A : List (List ℕ)} {L : Lts} {B : List (List ℕ)} {M : Lts} {J : List (List ℕ)} {U : Lts} (g : Joined A L B M J U)
    {A' : List (List ℕ)} {L' : Lts} {B' : List (List ℕ)} {M' : Lts} {J' : List (List ℕ)} {U' : Lts} (g' : Joined A' L' B' M' J' U')
    (first : SameByLabel A L A' L') (second : SameByLabel B M B' M') where
  -- systems that are the same by label are so when joined
  pub joined-same-by-label : SameByLabel J U J' U'
  joined-same-by-label = record {
    states = g.joined.states ∙ ap (λ n. n + M.states) first.states ∙ ap (λ n. L'.states + n) second.states ∙ sym g'.joined.states;
    terminating = flow-terminating g g' first second;
    move = λ p x t. (flow-move g g' first second p x t, flow-move g' g (same_back first) (same_back second) p x t);
  }

  pub joined-kept : {start : Lts → Rel} → LabelledStart start
      → (es fs : List ℕ) → (coarsest U (start U) es).final.related ≡ (coarsest U' (start U') fs).final.related
  joined-kept by = same_kept by J J' U U' g.whole g'.whole (flow-labels g) (flow-labels g') joined-same-by-label

-- compare's answer on the disjoint union under the joined numbers
abbrev flow : List (List ℕ) → Lts → List (List ℕ) → Lts → Lts
flow A L B M = disjoint_union L (joined_second A B M)

pub joined_is : (A B : List (List ℕ)) (L M : Lts) → WellFormed L → WellFormed M → Labels A L → Labels B M
    → Joined A L B M (joined_labels A B) (disjoint_union L (joined_second A B M))
joined_is A B L M wl wm la lb = record {
  first = wl;
  second = wm;
  whole = joined-formed A B L M wl wm la lb;
  first_labels = la;
  second_labels = lb;
  joined = joined-by-label A B L M wl wm la lb;
}

pub same_answer : {start : Lts → Rel} → LabelledStart start → (A B A' B' : List (List ℕ)) (L M L' M' : Lts)
    → WellFormed L → WellFormed M → WellFormed L' → WellFormed M'
    → Labels A L → Labels B M → Labels A' L' → Labels B' M' → SameByLabel A L A' L' → SameByLabel B M B' M'
    → simulated start L (joined_second A B M) ≡ simulated start L' (joined_second A' B' M')
unfolding simulated comparison
same_answer {start} by A B A' B' L M L' M' wl wm wl' wm' la lb la' lb' first second =
    let U = flow A' L' B' M' in
    ap (λ (K : Rel). K 0 L.states) (joined-kept (joined_is A B L M wl wm la lb) (joined_is A' B' L' M' wl' wm' la' lb') first second by [] [])
    ∙ ap (λ n. (coarsest U (start U) []).final.related 0 n) first.states

-- ---- actions renumbered

-- with the labels carried along they are the same by label
pub renumbered-same : (A B : List (List ℕ)) (m : ℕ) (g : ℕ → ℕ) (L : Lts) → WellFormed L
    → ((a : ℕ) → 1 ≤ a → a ≤ L.actions → label_of B (g a) ≡ label_of A a) → SameByLabel A L B (mapped L.states m (λ p. p) g L)
unfolding mapped
renumbered-same A B m g L wf labels = record {
  states = refl;
  terminating = λ p l. sym (self-terminating L.states m (λ p. p) g L (λ _ _. refl) p l);
  move = λ p x t. (
    λ (a, u, e).
        let l = wf.action p a t u in
        (g a, (mapped-iff L.states m (λ p. p) g L wf p (g a) t).1 (p, a, t, u, refl, refl, refl), labels a l.0 l.1 ∙ e),
    λ (b, u, e).
        let (q, a, r, v, ep, ea, et) = (mapped-iff L.states m (λ p. p) g L wf p b t).0 u in
        let l = wf.action q a r v in
        (a, move L ep refl et v, sym (labels a l.0 l.1) ∙ ap (label_of B) ea ∙ e),
  );
}

-- compare's answer is unchanged when the second's actions are renumbered with the labels carried along
pub renumbered-answer : {start : Lts → Rel} → LabelledStart start → (A B B' : List (List ℕ)) (m : ℕ) (g : ℕ → ℕ) (L M : Lts)
    → WellFormed L → WellFormed M → Labels A L → Labels B M
    → Sends M.states m (λ p. p) g M → Labels B' (mapped M.states m (λ p. p) g M)
    → ((b : ℕ) → 1 ≤ b → b ≤ M.actions → label_of B' (g b) ≡ label_of B b)
    → simulated start L (joined_second A B M) ≡ simulated start L (joined_second A B' (mapped M.states m (λ p. p) g M))
renumbered-answer by A B B' m g L M wl wm la lb new lb' labels =
    same_answer by A B A B' L M L (mapped M.states m (λ p. p) g M) wl wm wl (mapped-formed wm new) la lb la lb'
    (same_self A L) (renumbered-same B B' m g M wm labels)
