-- What is gathered for a state is the state of the sheet's system under the maps. Assumes nothing.
use Prim.Native.Nat.{ℕ, ◌+◌, ◌*◌, ◌<◌}
use mathlib.Core.Path.{◌≡◌, refl, sym, ap, ◌∙◌}
use mathlib.Core.Bool.{Bool, true, false, ◌&&◌, ◌||◌, or-true, false≢true}
use mathlib.Core.List.{List, [], ◌∷◌, map}
use native.Mathlib.Omega.{arith}
use lib.Dec.{eqb, ltb}
use borrow.Author.Tests.{eq-eqb, eqb-true, lt-ltb, ltb-true}
use Rattle.lts.specs.Bounded.{any_below}
use Rattle.lts.specs.System.{Lts, any_state}
use Rattle.lts.specs.Mapped.{mapped}
use Rattle.lts.proofs.Below.{bool_iff, T_true, true-T, and-fst, and-snd, any_some, any-yes, any-cong}
use Rattle.lts.proofs.Mapped.{mapped-iff}
use Rattle.encoding.specs.declared.Header.{Header}
use Rattle.encoding.specs.Records.{state_record, transition_record}
use Rattle.encoding.specs.Encoding.{chain, member}
use Rattle.encoding.specs.Checked.{TransitionKnown, ReadableAs}
use Rattle.encoding.specs.Denotation.{any, lts_of}
use Rattle.encoding.proofs.Chains.{chain-all, transition-known}
use Rattle.encoding.proofs.Denotation.{lts-states, lts-terminating, lts-transition, well-formed}
use Rattle.transitions.specs.Maps.{state_to, action_to, Within}
use Rattle.transitions.specs.Loading.{record_to, chain_image, row_image, mark_image}
use Rattle.transitions.proofs.Codes.{every-member}

-- ---- members of a list, and of its image

any-some-of : (f : ℕ → Bool) (l : List ℕ) → any f l ≡ true → (j : ℕ) × (member j l ≡ true) × (f j ≡ true)
unfolding any member
any-some-of f [] e = absurd (false≢true e)
any-some-of f (x ∷ l) e = go (any-some-of f l) (f x) refl
  where
    go : (any f l ≡ true → (j : ℕ) × (member j l ≡ true) × (f j ≡ true)) → (b : Bool) → f x ≡ b → (j : ℕ) × (member j (x ∷ l) ≡ true) × (f j ≡ true)
    go i true q = (x, ap (λ (b : Bool). b || member x l) (eq-eqb x x refl), q)
    go i false q = let (j, m, h) = i (rw q at e) in (j, rw m (or-true (eqb j x)), h)

any_of : (f : ℕ → Bool) (j : ℕ) (l : List ℕ) → member j l ≡ true → f j ≡ true → any f l ≡ true
unfolding any member
any_of f j [] m h = absurd (false≢true m)
any_of f j (x ∷ l) m h = go (any_of f j l) (eqb j x) refl
  where
    go : (member j l ≡ true → f j ≡ true → any f l ≡ true) → (b : Bool) → eqb j x ≡ b → f x || any f l ≡ true
    go i true q = rw (sym (eqb-true j x q), h)
    go i false q = rw (i (rw q at m) h) (or-true (f x))

member-map : (x : ℕ) (f : ℕ → ℕ) (l : List ℕ) → member x (map f l) ≡ any (λ j. eqb x (f j)) l
unfolding any member
member-map x f [] = refl
member-map x f (j ∷ l) = rw (member-map x f l)

-- ---- the row and the mark of a state

module _ (s : List ℕ) (h : Header) (g : ReadableAs s h) (n m : ℕ) (maps : List ℕ) where
  abbrev M : Lts
  M = mapped n m (state_to maps) (action_to maps) (lts_of s)

  pub mark-is : (i : ℕ) → mark_image maps s h i ≡ M.terminating i
  unfolding mark_image mapped any_state
  mark-is i =
      any-cong h.states _ _ (λ p l. ap (λ (b : Bool). eqb (state_to maps p) i && (b && eqb (state_record s h p).mark 1)) (sym (lt-ltb p h.states l))
      ∙ ap (λ (b : Bool). eqb (state_to maps p) i && b) (sym (lts-terminating s h g.header p)))
      ∙ ap (λ (k : ℕ). any_below k (λ p. eqb (state_to maps p) i && (lts_of s).terminating p)) (sym (lts-states s h g.header))

  module _ (ok : Within h maps) (i a t : ℕ) (small : t < 256) where
    abbrev x : ℕ
    x = 256 * a + t

    abbrev is-record : ℕ → ℕ → ℕ → Bool
    is-record b r j = eqb (transition_record s h j).action b && eqb (transition_record s h j).target r

    known : (p j : ℕ) → p < h.states → member j (chain s h p) ≡ true → TransitionKnown s h j (transition_record s h j)
    known p j l e =
        every-member (λ k. TransitionKnown s h k (transition_record s h k)) j (chain s h p)
        (chain-all s h g.recorded (λ k. TransitionKnown s h k (transition_record s h k)) (transition-known s h g.recorded) p l) e

    to : row_image maps s h i x ≡ true → M.transition i a t ≡ true
    unfolding row_image chain_image record_to
    to e =
        let (p, l, f) = any_some h.states _ e in
        let ep = eqb-true (state_to maps p) i (and-fst _ (chain_image maps s h p x) f) in
        let held : chain_image maps s h p x ≡ true = and-snd (eqb (state_to maps p) i) _ f in
        let (j, on, q) = any-some-of (λ k. eqb x (record_to maps s h k)) (chain s h p) (sym (member-map x (record_to maps s h) (chain s h p)) ∙ held) in
        let r = known p j l on in
        let b = (transition_record s h j).action in
        let t' = (transition_record s h j).target in
        let same : x ≡ 256 * action_to maps b + state_to maps t' = eqb-true x _ q in
        let low = ok.state t' r.target in
        let ea : action_to maps b ≡ a = omega (arith, same, low, small) in
        let et : state_to maps t' ≡ t = omega (arith, same, low, small) in
        let hit : is-record b t' j ≡ true = rw (eq-eqb b b refl, eq-eqb t' t' refl) in
        let u : (lts_of s).transition p b t' ≡ true = lts-transition s h g.header p b t' ∙ rw (lt-ltb p h.states l, any_of (is-record b t') j (chain s h p) on hit) in
        T_true _ ((mapped-iff n m (state_to maps) (action_to maps) (lts_of s) (well-formed s h g) i a t).1 (p, b, t', true-T _ u, ep, ea, et))

    from : M.transition i a t ≡ true → row_image maps s h i x ≡ true
    unfolding row_image chain_image record_to
    from e =
        let (p, b, t', u, ep, ea, et) = (mapped-iff n m (state_to maps) (action_to maps) (lts_of s) (well-formed s h g) i a t).0 (true-T _ e) in
        let v = sym (lts-transition s h g.header p b t') ∙ T_true _ u in
        let l = ltb-true p h.states (and-fst _ (any (is-record b t') (chain s h p)) v) in
        let (j, on, q) = any-some-of (is-record b t') (chain s h p) (and-snd (ltb p h.states) _ v) in
        let eb = eqb-true (transition_record s h j).action b (and-fst _ (eqb (transition_record s h j).target t') q) in
        let er = eqb-true (transition_record s h j).target t' (and-snd (eqb (transition_record s h j).action b) _ q) in
        let same : x ≡ record_to maps s h j = rw (eb, er, ea, et) in
        let hit : member x (map (record_to maps s h) (chain s h p)) ≡ true =
        member-map x (record_to maps s h) (chain s h p) ∙ any_of (λ k. eqb x (record_to maps s h k)) j (chain s h p) on (eq-eqb x _ same) in
        sym (any-yes h.states _ p l (rw (eq-eqb (state_to maps p) i ep, hit)))

    pub row_is : row_image maps s h i x ≡ M.transition i a t
    row_is = bool_iff to from
