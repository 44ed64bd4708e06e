-- Sheets in a table, state by state: one sheet under maps, one as it is, and two side by side. Assumes nothing.
use Prim.Native.Nat.{ℕ, suc, ◌+◌, ◌*◌, ◌≤◌, ◌<◌}
use mathlib.Core.Path.{◌≡◌, refl, sym, ap, ◌∙◌, subst}
use mathlib.Core.Bool.{Bool, true, false, cond}
use mathlib.Core.List.{List}
use mathlib.Core.Logic.{⊎_elim}
use native.Mathlib.Omega.{arith}
use lib.Dec.{T}
use lib.ListN.{length, get_or, replicate}
use Rattle.lts.specs.Bounded.{passing, concat_below}
use Rattle.lts.specs.System.{Lts, WellFormed}
use Rattle.lts.specs.Transitions.{transitions_to, transitions_by, transitions_of, transitions_below, transitions}
use Rattle.lts.specs.Union.{disjoint_union}
use Rattle.lts.specs.Mapped.{mapped, Sends}
use Rattle.lts.proofs.Union.{union-formed, union-count, union-ends}
use Rattle.lts.proofs.Mapped.{mapped-formed, mapped-ends, mapped-count, mapped-self, mapped-cong, mapped-composed}
use Rattle.lts.proofs.Mapped.{union-first-row, union-first-terminating, union-second-row, union-second-terminating}
use Rattle.lts.proofs.Count.{passing-shorter}
use Rattle.lts.proofs.Below.{either, true-T}
use Rattle.lts.proofs.Lists.{passing-same, concat-same}
use Rattle.lts.proofs.Transitions.{up-grows}
use Rattle.rows.specs.Rows.{in_row, row_of}
use Rattle.rows.proofs.Rows.{in_row-of, get_or-zeros}
use Rattle.encoding.specs.declared.Header.{Header}
use Rattle.encoding.specs.Checked.{ReadableAs}
use Rattle.encoding.specs.Denotation.{lts_of}
use Rattle.encoding.proofs.Denotation.{lts-states, lts-actions, lts-ends, well-formed}
use Rattle.encoding.proofs.Counting.{all-count}
use Rattle.transitions.specs.Table.{offset_at, Holds}
use Rattle.transitions.specs.Maps.{state_to, action_to, Raises, Within}
use Rattle.transitions.specs.Filling.{action_set, row_transitions, with_state, with_counts, Extends, Filling}
use Rattle.transitions.specs.Loading.{row_image, mark_image, Image, Images, Loading}
use Rattle.transitions.proofs.Links.{Keeps}
use Rattle.transitions.proofs.Filling.{concat-shorter, to-empty, filling-start, filling-room, filling-more, state-offset}
use Rattle.transitions.proofs.Filled.{filled}
use Rattle.transitions.proofs.Images.{row_is, mark-is}

-- ---- one state more

module _ {L : Lts} {s : List ℕ} {h : Header} {maps : List ℕ} {m i : ℕ} {t : List ℕ} (g : Loading L s h maps m i t) where
  pub loading-within : Within h maps
  loading-within = record {
    state = λ p l. let k = g.sends.state p (omega (arith, l, lts-states s h g.readable.header)) in omega (arith, k, g.few);
    action = λ a l k. let z = (g.sends.action a l (omega (arith, k, lts-actions s h g.readable.header))).1 in omega (arith, z, g.last, g.labels);
    named = λ a l k. (g.sends.action a l (omega (arith, k, lts-actions s h g.readable.header))).0;
  }

  -- the numbers that are used
  pub loading-most : i ≤ L.states → offset_at t i ≤ 1024
  loading-most l = omega (arith, g.filling.place, up-grows L L.states i l, g.size)

  module _ (im : Image L s maps i) where
    pub image-below : i < 256
    image-below = omega (arith, im.below, g.few)

    abbrev M : Lts
    M = mapped L.states L.actions (state_to maps) (action_to maps) (lts_of s)

    -- L's row leads to states of L alone, by actions of L alone
    not_there : (a j : ℕ) → (T (M.transition i a j) → ⊥) → L.transition i a j ≡ false
    not_there a j f = im.step a j ∙ ⊎_elim (λ (x : M.transition i a j ≡ true). absurd (f (true-T _ x))) (λ x. x) (either (M.transition i a j))

    far : (a j : ℕ) → L.states ≤ j → L.transition i a j ≡ false
    unfolding mapped
    far a j l =
        let wf = mapped-formed (well-formed s h g.readable) g.sends in
        not_there a j (λ x. let z = wf.target i a j x in omega (arith, z, l))

    unnamed : (a j : ℕ) → L.actions < a → L.transition i a j ≡ false
    unfolding mapped
    unnamed a j l =
        let wf = mapped-formed (well-formed s h g.readable) g.sends in
        not_there a j (λ x. let z = (wf.action i a j x).1 in omega (arith, z, l))

    module _ {sets : List ℕ} (e : sets ≡ row_of 260 (row_image maps s h i)) where
      held-is : (a j : ℕ) → a ≤ 64 → j < 256 → action_set sets a j ≡ L.transition i a j
      held-is a j k u =
          ap (λ (l : List ℕ). in_row l (256 * a + j)) e ∙ in_row-of 260 _ (256 * a + j) (omega arith)
          ∙ row_is s h g.readable L.states L.actions maps loading-within i a j u ∙ sym (im.step a j)

      by-target : (a : ℕ) → a ≤ 64 → passing 256 (action_set sets a) ≡ passing L.states (L.transition i a)
      by-target a k =
          passing-shorter L.states 256 (action_set sets a) g.few (λ j u v. held-is a j k v ∙ far a j u)
          ∙ passing-same L.states _ _ (λ j u. held-is a j k (omega (arith, u, g.few)))

      row : row_transitions sets i 64 ≡ transitions_of L i
      unfolding row_transitions transitions_of transitions_by
      row =
          concat-same 64 _ _ (λ a u. ap (transitions_to i (suc a)) (by-target (suc a) u))
          ∙ concat-shorter m 64 _ g.labels (λ a u v. to-empty i (suc a) L.states _ (λ j w. unnamed (suc a) j (omega (arith, u, g.last))))
          ∙ ap (λ (x : ℕ). concat_below x (λ a. transitions_to i (suc a) (passing L.states (L.transition i (suc a))))) g.last

      pub loading-room : offset_at t i + length (row_transitions sets i 64) ≤ 1024
      loading-room = filling-room g.filling row im.below g.size

      pub loading-more : {u : List ℕ} {r x : ℕ} → r ≡ offset_at t i + length (row_transitions sets i 64)
          → Extends (row_transitions sets i 64) (offset_at t i) t u → x ≡ cond (mark_image maps s h i) 1 0 → Loading L s h maps m (i + 1) (with_state u i x r)
      loading-more {u} {r} {x} k w is = record {
        readable = g.readable;
        sends = g.sends;
        few = g.few;
        labels = g.labels;
        last = g.last;
        size = g.size;
        filling = subst (λ (y : ℕ). Filling L (i + 1) y (with_state u i x r)) (sym (state-offset u i x r (w.long ∙ g.filling.long) image-below))
            (filling-more g.filling row image-below loading-room k w mark);
      }
        where
          mark : x ≡ cond (L.terminating i) 1 0
          mark = is ∙ ap (λ (b : Bool). cond b 1 0) (mark-is s h g.readable L.states L.actions maps i ∙ sym im.mark)

-- nothing is loaded yet
zero-filling : (L : Lts) → Filling L 0 (offset_at (replicate 3588 0) 0) (replicate 3588 0)
zero-filling L = subst (λ (y : ℕ). Filling L 0 y (replicate 3588 0)) (sym (get_or-zeros 3588 259)) (filling-start L)

-- ---- a sheet's system

module _ (s : List ℕ) (h : Header) (g : ReadableAs s h) where
  sheet-size : length (transitions (lts_of s)) ≡ h.transitions
  unfolding transitions
  sheet-size = ap (λ (n : ℕ). length (transitions_below (lts_of s) n)) (lts-states s h g.header) ∙ all-count s h g

  -- ---- under maps

  module _ (maps : List ℕ) (n m : ℕ) (ok : Sends n m (state_to maps) (action_to maps) (lts_of s)) (few : n ≤ 256) (labels : m ≤ 64) where
    abbrev N : Lts
    N = mapped n m (state_to maps) (action_to maps) (lts_of s)

    pub mapped-start : Loading N s h maps m 0 (replicate 3588 0)
    unfolding mapped transitions
    mapped-start = record {
      readable = g;
      sends = ok;
      few = few;
      labels = labels;
      last = refl;
      size = let c = mapped-count n m (state_to maps) (action_to maps) (lts_of s) (well-formed s h g) in omega (arith, c, sheet-size, g.recorded.sized.bounds.transitions);
      filling = zero-filling N;
    }

    pub mapped-images : Images N s maps 0 n
    unfolding mapped
    mapped-images i l u = record { below = u; mark = refl; step = λ a j. refl }

    pub mapped-filled : {t : List ℕ} → Loading N s h maps m n t → Holds N (with_counts t n m (offset_at t n))
    unfolding mapped
    mapped-filled f =
        let b = g.recorded.sized.bounds in
        let low = ok.state 0 (omega (arith, lts-states s h g.header, b.state)) in
        filled f.filling n m (mapped-formed (well-formed s h g) ok) (mapped-ends ok) (omega (arith, low)) few labels (loading-most f (omega arith)) refl refl refl

  -- ---- as it is

  module _ (maps : List ℕ) (r : Keeps h.states h.actions maps) where
    same-state : (p : ℕ) → p < (lts_of s).states → state_to maps p ≡ p
    same-state p l = r.state p (omega (arith, l, lts-states s h g.header))

    same-action : (a : ℕ) → 1 ≤ a → a ≤ (lts_of s).actions → action_to maps a ≡ a
    same-action a l k = r.action a l (omega (arith, k, lts-actions s h g.header))

    pub same-sends : Sends h.states h.actions (state_to maps) (action_to maps) (lts_of s)
    same-sends = record {
      state = λ p l. omega (arith, same-state p l, l, lts-states s h g.header);
      action = λ a l k. let e = same-action a l k in (omega (arith, e, l), omega (arith, e, k, lts-actions s h g.header));
    }

    pub same-system : mapped h.states h.actions (state_to maps) (action_to maps) (lts_of s) ≡ lts_of s
    same-system =
        ap (λ (n : ℕ). mapped n h.actions (state_to maps) (action_to maps) (lts_of s)) (sym (lts-states s h g.header))
        ∙ ap (λ (m : ℕ). mapped (lts_of s).states m (state_to maps) (action_to maps) (lts_of s)) (sym (lts-actions s h g.header))
        ∙ mapped-self (lts_of s) (well-formed s h g) (lts-ends s h g.header) (state_to maps) (action_to maps) same-state same-action

-- ---- two sheets

-- both go into one table with m actions, the second's actions where `to` says
pub record Both (s u : List ℕ) (h g : Header) (to : List ℕ) (m : ℕ) : Type 0 where
  pub first : ReadableAs s h
  pub second : ReadableAs u g
  pub room : h.states + g.states ≤ 256
  pub space : h.transitions + g.transitions ≤ 1024
  pub own : h.actions ≤ m
  pub labels : m ≤ 64
  pub sent : (b : ℕ) → 1 ≤ b → b ≤ g.actions → (1 ≤ get_or to b 0) × (get_or to b 0 ≤ m)

module _ {s u : List ℕ} {h g : Header} {to : List ℕ} {m : ℕ} (b : Both s u h g to m) where
  -- the second's system by the actions of both, and the joined one
  abbrev W : Lts
  W = mapped g.states m (λ p. p) (λ a. get_or to a 0) (lts_of u)

  abbrev U : Lts
  U = disjoint_union (lts_of s) W

  named-sends : Sends g.states m (λ p. p) (λ a. get_or to a 0) (lts_of u)
  named-sends = record {
    state = λ p l. omega (arith, l, lts-states u g b.second.header);
    action = λ a l k. b.sent a l (omega (arith, k, lts-actions u g b.second.header));
  }

  named-formed : WellFormed W
  named-formed = mapped-formed (well-formed u g b.second) named-sends

  union-states : U.states ≡ h.states + g.states
  unfolding disjoint_union mapped
  union-states = rw (lts-states s h b.first.header)

  union-actions : U.actions ≡ m
  unfolding disjoint_union mapped
  union-actions = omega (arith, lts-actions s h b.first.header, b.own)

  union-size : length (transitions_below U U.states) ≤ h.transitions + g.transitions
  unfolding transitions
  union-size =
      let c = union-count (well-formed s h b.first) named-formed in
      let d = mapped-count g.states m (λ p. p) (λ a. get_or to a 0) (lts_of u) (well-formed u g b.second) in
      omega (arith, c, d, sheet-size s h b.first, sheet-size u g b.second)

  -- the first sheet's states are as they are
  module _ {own : List ℕ} (r : Keeps h.states h.actions own) where
    pub both-start : Loading U s h own m 0 (replicate 3588 0)
    both-start =
        let o = same-sends s h b.first own r in
        record {
          readable = b.first;
          sends = record {
            state = λ p l. let k = o.state p l in omega (arith, k, union-states);
            action = λ a l k. let z = o.action a l k in (z.0, let y = z.1 in omega (arith, y, b.own, union-actions));
          };
          few = omega (arith, union-states, b.room);
          labels = b.labels;
          last = sym union-actions;
          size = omega (arith, union-size, b.space);
          filling = zero-filling U;
        }

    pub first-images : Images U s own 0 h.states
    first-images i l k =
        let low : i < (lts_of s).states = omega (arith, k, lts-states s h b.first.header) in
        record {
          below = omega (arith, k, union-states);
          mark = union-first-terminating U.states U.actions (state_to own) (action_to own) (lts_of s) W (same-state s h b.first own r) i low;
          step = λ a j. union-first-row U.states U.actions (state_to own) (action_to own) (lts_of s) W (well-formed s h b.first)
              (same-state s h b.first own r) (same-action s h b.first own r) i a j low;
        }

  -- the second's are raised behind them, and its actions go where `to` says
  module _ {behind : List ℕ} (r : Raises g.states g.actions h.states to behind) where
    raised-state : (p : ℕ) → p < (lts_of u).states → state_to behind p ≡ (lts_of s).states + p
    raised-state p l = r.state p (omega (arith, l, lts-states u g b.second.header)) ∙ ap (λ (n : ℕ). n + p) (sym (lts-states s h b.first.header))

    raised-action : (a : ℕ) → 1 ≤ a → a ≤ (lts_of u).actions → action_to behind a ≡ get_or to a 0
    raised-action a l k = r.action a l (omega (arith, k, lts-actions u g b.second.header))

    -- what is behind the first's states is the second under the maps
    raised-system : mapped U.states U.actions (λ p. (lts_of s).states + p) (λ a. a) W
        ≡ mapped U.states U.actions (state_to behind) (action_to behind) (lts_of u)
    raised-system =
        mapped-composed U.states U.actions (λ p. (lts_of s).states + p) (λ a. a) (well-formed u g b.second) named-sends
        ∙ mapped-cong U.states U.actions _ _ (state_to behind) (action_to behind) (lts_of u)
        (λ p l. sym (raised-state p l)) (λ a l k. sym (raised-action a l k))

    pub both-middle : {own : List ℕ} {t : List ℕ} → Loading U s h own m h.states t → Loading U u g behind m h.states t
    both-middle f = record {
      readable = b.second;
      sends = record {
        state = λ p l. let e = raised-state p l in omega (arith, e, l, union-states, lts-states s h b.first.header, lts-states u g b.second.header);
        action = λ a l k. rw (raised-action a l k, union-actions) (named-sends.action a l k);
      };
      few = f.few;
      labels = f.labels;
      last = f.last;
      size = f.size;
      filling = f.filling;
    }

    pub second-images : Images U u behind h.states (h.states + g.states)
    unfolding mapped
    second-images i l k =
        let low : (lts_of s).states ≤ i = omega (arith, l, lts-states s h b.first.header) in
        let high : i < (lts_of s).states + g.states = omega (arith, k, lts-states s h b.first.header) in
        record {
          below = omega (arith, k, union-states);
          mark = union-second-terminating U.states U.actions (λ p. (lts_of s).states + p) (λ a. a) (lts_of s) W (λ p h. refl) i low high
              ∙ ap (λ (L : Lts). L.terminating i) raised-system;
          step = λ a j. union-second-row U.states U.actions (λ p. (lts_of s).states + p) (λ a. a) (lts_of s) W named-formed
              (λ p h. refl) (λ a h k. refl) i a j low ∙ ap (λ (L : Lts). L.transition i a j) raised-system;
        }

    pub both-filled : {t : List ℕ} → Loading U u g behind m (h.states + g.states) t
        → Holds U (with_counts t (h.states + g.states) m (offset_at t (h.states + g.states)))
    unfolding disjoint_union mapped
    both-filled f =
        let some = b.first.recorded.sized.bounds.state in
        filled f.filling (h.states + g.states) _ (union-formed (lts_of s) W (well-formed s h b.first) named-formed)
        (union-ends (lts_of s) W (mapped-ends named-sends))
        (omega (arith, some)) b.room f.labels (loading-most f (omega (arith, union-states))) refl (sym union-states) f.last
