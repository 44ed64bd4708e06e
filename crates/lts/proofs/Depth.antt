-- The depth of a strategy: the written one's is the round of its pair, and no accepted one that ends there has less. What it states is the
-- record `Depths` of specs/Depth.antt.
use Prim.Native.Nat.{ℕ, zero, suc, ◌+◌, ◌*◌, ◌-◌, ◌≤◌, ◌<◌, min, zero-le, suc-le-suc}
use native.Mathlib.Nat.{le_refl, le_trans, le_step, le_of_eq, le_antisymm, not-suc-le-zero}
use native.Mathlib.Decide.{dec_le, ℕ_discrete}
use native.Mathlib.Omega.{arith}
use mathlib.Core.Path.{◌≡◌, refl, sym, ◌∙◌, ap, subst}
use mathlib.Core.Logic.{◌⊎◌, inl, inr}
use mathlib.Core.Bool.{Bool, true, false, cond, not, ◌&&◌}
use mathlib.Core.List.{List, [], ◌∷◌, ◌++◌, reverse_aux}
use lib.Dec.{T, eqb, eqb→eq}
use lib.ListN.{length, get_or, take, drop, take-append-drop}
use lib.Seq.{take-suc, take-length, drop-cons}
use Rattle.lts.specs.declared.Entry.{Entry}
use Rattle.lts.specs.Bounded.{concat_below, largest_below}
use Rattle.lts.specs.System.{Rel, Lts, WellFormed, any_state, reflexive, into, Simulation}
use Rattle.lts.specs.Refinement.{pair_count}
use Rattle.lts.specs.Rounds.{round, refuted_at}
use Rattle.lts.specs.Strategy.{holds, sound, all_sound, accepted, last_of, blank, unanswered, entry_at, entries_in, entries_before, strategy_at, strategy}
use Rattle.lts.specs.Depth.{Measured, depths_at, least, least_depth, depth_over, measure, measured, first_depth, depth_of}
use Rattle.lts.specs.Depth.{HoldsAt, LeastBefore, LargestReply, EntryDepth, LastDepth, Depths}
use Rattle.lts.proofs.Bounded.{and-iff, not_iff, dec, eq→eqb, below_suc}
use Rattle.lts.proofs.Count.{largest-least, largest-most, largest-found}
use Rattle.lts.proofs.Lists.{Every, concat-keeps}
use Rattle.lts.proofs.System.{into-from, any-state-iff, all-state-iff}
use Rattle.lts.proofs.Step.{On}
use Rattle.lts.proofs.Run.{pair-count-le, pair-count-lt, pair-count-off}
use Rattle.lts.proofs.Rounds.{first-iff, next-iff, round-antitone, round-contains, refuted-by, refuted-once, refutation-round-is}
use Rattle.lts.proofs.Strategy.{holds-none, holds-cons, holds-here, holds_later, Sound, sound-to, all-sound-last}
use Rattle.lts.proofs.Strategy.{unanswered-at, entry-pair-is, strategy-all-sound, strategy-at-accepted, strategy-last}

-- ---- the least of a list

-- some number of the list is at most d
abbrev pub Below : List ℕ → ℕ → Type 0
Below [] d = ⊥
Below (x ∷ l) d = (x ≤ d) ⊎ Below l d

below-le : (l : List ℕ) (c d : ℕ) → c ≤ d → Below l c → Below l d
below-le [] c d h b = b
below-le (x ∷ l) c d h (inl u) = inl (le_trans u h)
below-le (x ∷ l) c d h (inr b) = inr (below-le l c d h b)

-- then so is the least
least-le : (l : List ℕ) (d : ℕ) → Below l d → least l ≤ d
unfolding least
least-le [] d b = absurd b
least-le (x ∷ []) d (inl h) = h
least-le (x ∷ []) d (inr b) = absurd b
least-le (x ∷ y ∷ l) d (inl h) = omega (arith, h)
least-le (x ∷ y ∷ l) d (inr b) = let h = least-le (y ∷ l) d b in omega (arith, h)

-- and it is one of the list
least-every : (P : ℕ → Type 0) (l : List ℕ) (d : ℕ) → Below l d → Every P l → P (least l)
unfolding least
least-every P [] d b e = absurd b
least-every P (x ∷ []) d b e = e.0
least-every P (x ∷ y ∷ l) d b e = go (dec_le x (least (y ∷ l))) (least-every P (y ∷ l) y (inl (le_refl y)) e.1)
  where
    go : Dec (x ≤ least (y ∷ l)) → P (least (y ∷ l)) → P (min x (least (y ∷ l)))
    go (yes h) u = let m : x ≡ min x (least (y ∷ l)) = omega (arith, h) in subst P m e.0
    go (no h) u = let m : least (y ∷ l) ≡ min x (least (y ∷ l)) = omega (arith, h) in subst P m u

-- ---- the depths of a pair

same-pair : (m : Measured) (p q : ℕ) → T (eqb m.p p && eqb m.q q) → (m.p ≡ p) × (m.q ≡ q)
same-pair m p q t = let c = (and-iff (eqb m.p p) (eqb m.q q)).0 t in (eqb→eq m.p p c.0, eqb→eq m.q q c.1)

-- by cases: the first entry has the pair, or not
depths-cons : (P : List ℕ → Type 0) (m : Measured) (ms : List Measured) (p q : ℕ)
    → (m.p ≡ p → m.q ≡ q → P (m.depth ∷ depths_at ms p q)) → P (depths_at ms p q) → P (depths_at (m ∷ ms) p q)
unfolding depths_at
depths-cons P m ms p q f g = go (eqb m.p p && eqb m.q q) (same-pair m p q)
  where
    go : (b : Bool) → (T b → (m.p ≡ p) × (m.q ≡ q)) → P (cond b (m.depth ∷ depths_at ms p q) (depths_at ms p q))
    go true k = f (k tt).0 (k tt).1
    go false k = g

-- an entry more takes none away, and its own depth counts
below_more : (m : Measured) (ms : List Measured) (p q d : ℕ) → Below (depths_at ms p q) d → Below (depths_at (m ∷ ms) p q) d
below_more m ms p q d b = depths-cons (λ l. Below l d) m ms p q (λ _ _. inr b) b

below_new : (m : Measured) (ms : List Measured) (p q d : ℕ) → m.p ≡ p → m.q ≡ q → m.depth ≤ d → Below (depths_at (m ∷ ms) p q) d
unfolding depths_at
below_new m ms p q d e f h = go (eqb m.p p && eqb m.q q) ((and-iff (eqb m.p p) (eqb m.q q)).1 (eq→eqb m.p p e, eq→eqb m.q q f))
  where
    go : (b : Bool) → T b → Below (cond b (m.depth ∷ depths_at ms p q) (depths_at ms p q)) d
    go true t = inl h
    go false t = absurd t

-- ---- the last entry

snoc-last : (e : Entry) (es : List Entry) → (xs : List Entry) × (e ∷ es ≡ xs ++ (last_of (e ∷ es) ∷ []))
unfolding last_of
snoc-last e [] = ([], refl)
snoc-last e (f ∷ es) = let r = snoc-last f es in (e ∷ r.0, ap (λ (l : List Entry). e ∷ l) r.1)

pub measured-snoc : (L : Lts) (ms : List Measured) (xs : List Entry) (e : Entry)
    → measured L ms (xs ++ (e ∷ [])) ≡ measure L (measured L ms xs) e ∷ measured L ms xs
unfolding measured
measured-snoc L ms [] e = refl
measured-snoc L ms (x ∷ xs) e = measured-snoc L (measure L ms x ∷ ms) xs e

pub depth-snoc : (L : Lts) (xs : List Entry) (e : Entry) → depth_of L (xs ++ (e ∷ [])) ≡ depth_over L (least_depth (measured L [] xs)) e
unfolding depth_of first_depth measure
depth-snoc L xs e = ap first_depth (measured-snoc L [] xs e)

-- ---- the depth of an entry

module _ (L : Lts) (wf : WellFormed L) (depths : ℕ → ℕ → ℕ) (e : Entry) where
  abbrev pub reply : ℕ → ℕ
  reply r = cond (L.transition e.q e.a r) (depths e.t r) 0

  reply-is : (r : ℕ) → T (L.transition e.q e.a r) → reply r ≡ depths e.t r
  reply-is r m = go (L.transition e.q e.a r) m
    where
      go : (b : Bool) → T b → cond b (depths e.t r) 0 ≡ depths e.t r
      go true t = refl
      go false t = absurd t

  reply-most : (c r : ℕ) → (T (L.transition e.q e.a r) → depths e.t r ≤ c) → reply r ≤ c
  reply-most c r h = go (L.transition e.q e.a r) h
    where
      go : (b : Bool) → (T b → depths e.t r ≤ c) → cond b (depths e.t r) 0 ≤ c
      go true k = k tt
      go false k = zero-le

  pub depth-zero : e.a ≡ 0 → depth_over L depths e ≡ 0
  unfolding depth_over
  depth-zero h = go (eqb e.a 0) (subst (λ (x : ℕ). T (eqb x 0)) (sym h) tt)
    where
      go : (b : Bool) → T b → cond b 0 (suc (largest_below L.states (λ r. cond (L.transition e.q e.a r) (depths e.t r) 0))) ≡ 0
      go true t = refl
      go false t = absurd t

  -- for a > 0 it is one more than a number that is at least the depth of every reply, and at most any that is
  pub depth-suc : 1 ≤ e.a → depth_over L depths e ≡ suc (largest_below L.states reply)
  unfolding depth_over
  depth-suc h = go (eqb e.a 0) (λ t. let z = eqb→eq e.a 0 t in omega (arith, h, z))
    where
      go : (b : Bool) → (T b → ⊥) → cond b 0 (suc (largest_below L.states reply)) ≡ suc (largest_below L.states reply)
      go true k = absurd (k tt)
      go false k = refl

  pub depth-reply : (r : ℕ) → T (L.transition e.q e.a r) → depths e.t r ≤ largest_below L.states reply
  depth-reply r m = subst (λ (x : ℕ). x ≤ largest_below L.states reply) (reply-is r m) (largest-least L.states reply r (wf.target e.q e.a r m))

  depth-most : (c : ℕ) → 1 ≤ e.a → ((r : ℕ) → T (L.transition e.q e.a r) → depths e.t r ≤ c) → depth_over L depths e ≤ suc c
  depth-most c h k = subst (λ (x : ℕ). x ≤ suc c) (sym (depth-suc h)) (suc-le-suc (largest-most L.states c reply (λ r _. reply-most c r (k r))))

-- ---- accepted strategies

module _ (L : Lts) (wf : WellFormed L) (preorder : Rel) where
  abbrev W : ℕ → Rel
  W j = round L preorder j

  abbrev SoundAt : List Entry → Entry → Type 0
  SoundAt earlier e = T (sound L preorder earlier e)

  -- how many pairs the entries hold
  abbrev Held : List Entry → ℕ
  Held es = pair_count L (holds es)

  -- what holds of the earlier entries, and is kept by each sound entry with G, holds before the entry e
  module _ (G : Entry → Type 0) (I : List Entry → List Measured → Type 0)
      (step : (earlier : List Entry) (ms : List Measured) (e : Entry) → I earlier ms → SoundAt earlier e → G e → I (e ∷ earlier) (measure L ms e ∷ ms)) where
    before : (earlier : List Entry) (ms : List Measured) (xs : List Entry) (e : Entry) (ys : List Entry)
        → I earlier ms → T (all_sound L preorder earlier (xs ++ (e ∷ ys))) → Every G xs
        → I (reverse_aux xs earlier) (measured L ms xs) × SoundAt (reverse_aux xs earlier) e
    unfolding all_sound measured
    before earlier ms [] e ys i t g = (i, ((and-iff (sound L preorder earlier e) (all_sound L preorder (e ∷ earlier) ys)).0 t).0)
    before earlier ms (x ∷ xs) e ys i t g =
        let c = (and-iff (sound L preorder earlier x) (all_sound L preorder (x ∷ earlier) (xs ++ (e ∷ ys)))).0 t in
        before (x ∷ earlier) (measure L ms x ∷ ms) xs e ys (step earlier ms x i c.0 g.0) c.1 g.1

  -- what a sound entry says, by its two cases
  pub sound-cases : (earlier : List Entry) (e : Entry) (P : Type 0) → SoundAt earlier e
      → (e.a ≡ 0 → (T (preorder e.p e.q) → ⊥) → P)
      → (1 ≤ e.a → T (L.transition e.p e.a e.t) → ((r : ℕ) → T (L.transition e.q e.a r) → T (holds earlier e.t r)) → P) → P
  sound-cases earlier e P s f g = go (sound-to L wf preorder earlier e s)
    where
      go : Sound L wf preorder earlier e → P
      go (inl c) = f c.0 c.2
      go (inr c) = g (wf.action e.p e.a e.t c.0).0 c.0 c.1

  pub sound-states : (earlier : List Entry) (e : Entry) → SoundAt earlier e → (e.p < L.states) × (e.q < L.states)
  unfolding all_sound last_of
  sound-states earlier e s = all-sound-last L wf preorder earlier e [] ((and-iff (sound L preorder earlier e) true).1 (s, tt))

  -- No entry's pair is in the round of its depth, and the least depth of a pair is at most the number of pairs that are held.
  record Inv (earlier : List Entry) (ms : List Measured) : Type 0 where
    out : (p q : ℕ) → Every (λ d. On (W d) p q → ⊥) (depths_at ms p q)
    low : (p q : ℕ) → T (holds earlier p q) → Below (depths_at ms p q) (Held earlier)

  inv-begin : Inv [] []
  unfolding depths_at
  inv-begin = record { out = λ p q. tt; low = λ p q t. absurd (holds-none p q t) }

  module _ (earlier : List Entry) (ms : List Measured) (i : Inv earlier ms) where
    -- so it is with the least depth of a held pair
    held_out : (p q : ℕ) → T (holds earlier p q) → On (W (least_depth ms p q)) p q → ⊥
    unfolding least_depth
    held_out p q h = least-every (λ d. On (W d) p q → ⊥) (depths_at ms p q) (Held earlier) (i.low p q h) (i.out p q)

    held_low : (p q : ℕ) → T (holds earlier p q) → least_depth ms p q ≤ Held earlier
    unfolding least_depth
    held_low p q h = least-le (depths_at ms p q) (Held earlier) (i.low p q h)

    -- and with a sound entry
    module _ (e : Entry) (s : SoundAt earlier e) where
      abbrev depth : ℕ
      depth = depth_over L (least_depth ms) e

      entry-out : On (W depth) e.p e.q → ⊥
      entry-out w =
          sound-cases earlier e ⊥ s
          (λ z n. n ((first-iff L wf preorder e.p e.q).0 (subst (λ (d : ℕ). On (W d) e.p e.q) (depth-zero L wf (least_depth ms) e z) w)).2)
          (λ h m k.
          let d = largest_below L.states (reply L wf (least_depth ms) e) in
          let w' = subst (λ (d : ℕ). On (W d) e.p e.q) (depth-suc L wf (least_depth ms) e h) w in
          let r = ((next-iff L wf preorder d e.p e.q).0 w').1 e.a e.t m in
          let l = depth-reply L wf (least_depth ms) e r.0 r.1 in
          held_out e.t r.0 (k r.0 r.1) (round-antitone L wf preorder (least_depth ms e.t r.0) d e.t r.0 l r.2))

      entry-low : depth ≤ suc (Held earlier)
      entry-low =
          sound-cases earlier e (depth ≤ suc (Held earlier)) s
          (λ z _. subst (λ (d : ℕ). d ≤ suc (Held earlier)) (sym (depth-zero L wf (least_depth ms) e z)) zero-le)
          (λ h _ k. depth-most L wf (least_depth ms) e (Held earlier) h (λ r m. held_low e.t r (k r m)))

  inv-step : (earlier : List Entry) (ms : List Measured) (e : Entry) → Inv earlier ms → SoundAt earlier e → Unit {0} → Inv (e ∷ earlier) (measure L ms e ∷ ms)
  unfolding measure
  inv-step earlier ms e i s _ = record {
    out = λ p q. depths-cons (Every (λ d. On (W d) p q → ⊥)) (measure L ms e) ms p q (λ a b. (λ w. new p q a b w, i.out p q)) (i.out p q);
    low = λ p q h. held p q (holds-cons e earlier p q h) (dec (holds earlier p q));
  }
    where
      d : ℕ
      d = depth_over L (least_depth ms) e

      new : (p q : ℕ) → e.p ≡ p → e.q ≡ q → On (W d) p q → ⊥
      new p q a b w = entry-out earlier ms i e s (subst (λ (x : ℕ). On (W d) x e.q) (sym a) (subst (λ (y : ℕ). On (W d) p y) (sym b) w))

      more : (p q : ℕ) → T (holds earlier p q) → T (holds (e ∷ earlier) p q)
      more = holds_later e earlier

      Low : ℕ → ℕ → Type 0
      Low p q = Below (depths_at (measure L ms e ∷ ms) p q) (Held (e ∷ earlier))

      old : (p q : ℕ) → T (holds earlier p q) → Low p q
      old p q h =
          let c = pair-count-le L (holds earlier) (holds (e ∷ earlier)) more in
          below_more (measure L ms e) ms p q (Held (e ∷ earlier)) (below-le (depths_at ms p q) (Held earlier) (Held (e ∷ earlier)) c (i.low p q h))

      first : (p q : ℕ) → e.p ≡ p → e.q ≡ q → (T (holds earlier p q) → ⊥) → Low p q
      first p q a b f =
          let l = sound-states earlier e s in
          let g : T (holds earlier e.p e.q) → ⊥ =
          λ h. f (subst (λ (x : ℕ). T (holds earlier x q)) a (subst (λ (y : ℕ). T (holds earlier e.p y)) b h)) in
          let c = pair-count-lt L (holds earlier) (holds (e ∷ earlier)) more e.p e.q l.0 l.1 g (holds-here e earlier) in
          below_new (measure L ms e) ms p q (Held (e ∷ earlier)) a b (le_trans (entry-low earlier ms i e s) c)

      held : (p q : ℕ) → ((e.p ≡ p) × (e.q ≡ q)) ⊎ T (holds earlier p q) → T (holds earlier p q) ⊎ (T (holds earlier p q) → ⊥) → Low p q
      held p q (inr h) c = old p q h
      held p q (inl k) (inl h) = old p q h
      held p q (inl k) (inr f) = first p q k.0 k.1 f

  every-unit : (es : List Entry) → Every (λ _. Unit {0}) es
  every-unit [] = tt
  every-unit (e ∷ es) = (tt, every-unit es)

  -- so it is before any entry of an accepted strategy
  inv-before : (xs : List Entry) (e : Entry) (ys : List Entry) → T (all_sound L preorder [] (xs ++ (e ∷ ys)))
      → Inv (reverse_aux xs []) (measured L [] xs) × SoundAt (reverse_aux xs []) e
  inv-before xs e ys t = before (λ _. Unit {0}) Inv inv-step [] [] xs e ys inv-begin t (every-unit xs)

  pub sound-before : (xs : List Entry) (e : Entry) (ys : List Entry) → T (all_sound L preorder [] (xs ++ (e ∷ ys))) → SoundAt (reverse_aux xs []) e
  sound-before xs e ys t = (inv-before xs e ys t).1

  -- and before its last
  record Last (es : List Entry) : Type 0 where
    earlier : List Entry
    ms : List Measured
    inv : Inv earlier ms
    sound : SoundAt earlier (last_of es)
    depth : depth_of L es ≡ depth_over L (least_depth ms) (last_of es)

  last-is : (es : List Entry) → T (accepted L preorder es) → Last es
  unfolding accepted
  last-is [] t = absurd t
  last-is (e ∷ es) t =
      let s = snoc-last e es in
      let b = inv-before s.0 (last_of (e ∷ es)) [] (subst (λ (l : List Entry). T (all_sound L preorder [] l)) s.1 t) in
      record {
        earlier = reverse_aux s.0 [];
        ms = measured L [] s.0;
        inv = b.0;
        sound = b.1;
        depth = ap (depth_of L) s.1 ∙ depth-snoc L s.0 (last_of (e ∷ es));
      }

  -- the last pair is not in the round of the depth, so it has fallen by then
  accepted-out : (es : List Entry) → T (accepted L preorder es) → On (W (depth_of L es)) (last_of es).p (last_of es).q → ⊥
  accepted-out es t w =
      let l = last-is es t in
      entry-out l.earlier l.ms l.inv (last_of es) l.sound (subst (λ (d : ℕ). On (W d) (last_of es).p (last_of es).q) l.depth w)

  pub accepted-least : (es : List Entry) (j : ℕ) → T (accepted L preorder es) → T (refuted_at L preorder j (last_of es).p (last_of es).q) → j ≤ depth_of L es
  accepted-least es j t f =
      let r = refuted-by L wf preorder (depth_of L es) (last_of es).p (last_of es).q (accepted-out es t) in
      let e = refuted-once L wf preorder r.0 j (last_of es).p (last_of es).q r.2 f in
      subst (λ (i : ℕ). i ≤ depth_of L es) e r.1

  -- ---- the bound

  -- the identity on the states is a simulation inside a reflexive preorder, so no strategy holds a pair of the diagonal
  abbrev Same : ℕ → ℕ → Type 0
  Same p q = (p < L.states) × (p ≡ q)

  same-simulation : T (reflexive L preorder) → Simulation L preorder Same
  unfolding reflexive
  same-simulation loop = record {
    states = λ {p} {q} s. (s.0, subst (λ (x : ℕ). x < L.states) s.1 s.0);
    inside = λ {p} {q} s. subst (λ (x : ℕ). T (preorder p x)) s.1 ((all-state-iff L (λ p. preorder p p)).0 loop p s.0);
    answer = λ {p} {q} a t s m. (t, subst (λ (x : ℕ). T (L.transition x a t)) s.1 m, (wf.target p a t m, refl));
  }

  held-most : T (reflexive L preorder) → (earlier : List Entry) (ms : List Measured) → Inv earlier ms → Held earlier ≤ L.states * (L.states - 1)
  held-most loop earlier ms i =
      pair-count-off L (holds earlier)
      (λ p l h. held_out earlier ms i p p h (round-contains L wf preorder Same (same-simulation loop) (least_depth ms p p) p p (l, refl)))

  pub accepted-most : T (reflexive L preorder) → (es : List Entry) → T (accepted L preorder es) → depth_of L es ≤ L.states * (L.states - 1) + 1
  accepted-most loop es t =
      let l = last-is es t in
      let c = held-most loop l.earlier l.ms l.inv in
      let d = entry-low l.earlier l.ms l.inv (last_of es) l.sound in
      let e = l.depth in
      omega (arith, c, d, e)

  -- at any entry of an accepted strategy each reply has been measured, and the depth is within the bound
  pub replies-measured : (xs : List Entry) (e : Entry) (ys : List Entry) → T (all_sound L preorder [] (xs ++ (e ∷ ys)))
      → (r : ℕ) → T (L.transition e.q e.a r) → Below (depths_at (measured L [] xs) e.t r) (Held (reverse_aux xs []))
  replies-measured xs e ys t r m =
      let b = inv-before xs e ys t in
      sound-cases (reverse_aux xs []) e (Below (depths_at (measured L [] xs) e.t r) (Held (reverse_aux xs []))) b.1
      (λ z _. absurd (omega (arith, z, wf.action e.q e.a r m)))
      (λ _ _ k. b.0.low e.t r (k r m))

  pub entry-most : T (reflexive L preorder) → (xs : List Entry) (e : Entry) (ys : List Entry) → T (all_sound L preorder [] (xs ++ (e ∷ ys)))
      → (measure L (measured L [] xs) e).depth ≤ L.states * (L.states - 1) + 1
  unfolding measure
  entry-most loop xs e ys t =
      let b = inv-before xs e ys t in
      let c = held-most loop (reverse_aux xs []) (measured L [] xs) b.0 in
      let d = entry-low (reverse_aux xs []) (measured L [] xs) b.0 e b.1 in
      omega (arith, c, d)

  -- ---- the strategy that is written

  -- each reply to the transition of an entry falls before its pair does
  abbrev Good : Entry → Type 0
  Good e = (e.a ≡ 0)
      ⊎ ((i : ℕ) → T (refuted_at L preorder i e.p e.q)
      → (j : ℕ) × (i ≡ suc j) × ((r : ℕ) → T (L.transition e.q e.a r) → (k : ℕ) × (k ≤ j) × T (refuted_at L preorder k e.t r)))

  entry-good : (j p q : ℕ) → T (refuted_at L preorder j p q) → Good (entry_at L preorder j p q)
  unfolding entry_at unanswered
  entry-good zero p q f = inl refl
  entry-good (suc j) p q f = inr (λ i g. (j, refuted-once L wf preorder i (suc j) p q g f, replies))
    where
      a : ℕ
      a = (entry_at L preorder (suc j) p q).a

      t : ℕ
      t = (entry_at L preorder (suc j) p q).t

      d : T (L.transition p a t) × T (not (into L a (W j t) q))
      d = (and-iff (L.transition p a t) (not (into L a (W j t) q))).0 (unanswered-at L wf preorder j p q f)

      replies : (r : ℕ) → T (L.transition q a r) → (k : ℕ) × (k ≤ j) × T (refuted_at L preorder k t r)
      replies r m = refuted-by L wf preorder j t r (λ w. (not_iff (into L a (W j t) q)).0 d.1 (into-from wf a (W j t) q (r, m, w)))

  before-good : (j : ℕ) → Every Good (entries_before L preorder j)
  unfolding entries_before entries_in
  before-good j =
      concat-keeps (entries_in L preorder) Good j
      (λ i _. concat-keeps (λ p. concat_below L.states (cell i p)) Good L.states
      (λ p _. concat-keeps (cell i p) Good L.states (λ q _. go i p q (refuted_at L preorder i p q) (entry-good i p q))))
    where
      cell : ℕ → ℕ → ℕ → List Entry
      cell i p q = cond (refuted_at L preorder i p q) (entry_at L preorder i p q ∷ []) []

      go : (i p q : ℕ) (b : Bool) → (T b → Good (entry_at L preorder i p q)) → Every Good (cond b (entry_at L preorder i p q ∷ []) [])
      go i p q true k = (k tt, tt)
      go i p q false k = tt

  -- the least depth of a held pair is at most the round in which it falls
  abbrev Prompt : List Entry → List Measured → Type 0
  Prompt earlier ms = (p q : ℕ) → T (holds earlier p q) → (i : ℕ) → T (refuted_at L preorder i p q) → Below (depths_at ms p q) i

  entry-prompt : (earlier : List Entry) (ms : List Measured) (e : Entry) → Prompt earlier ms → SoundAt earlier e → Good e
      → (i : ℕ) → T (refuted_at L preorder i e.p e.q) → depth_over L (least_depth ms) e ≤ i
  unfolding least_depth
  entry-prompt earlier ms e prompt s g i f =
      sound-cases earlier e (depth_over L (least_depth ms) e ≤ i) s
      (λ z _. subst (λ (d : ℕ). d ≤ i) (sym (depth-zero L wf (least_depth ms) e z)) zero-le) (λ h _ k. go h k g)
    where
      go : 1 ≤ e.a → ((r : ℕ) → T (L.transition e.q e.a r) → T (holds earlier e.t r)) → Good e → depth_over L (least_depth ms) e ≤ i
      go h k (inl z) = absurd (omega (arith, h, z))
      go h k (inr c) =
          let b = c i f in
          subst (λ (x : ℕ). depth_over L (least_depth ms) e ≤ x) (sym b.1)
          (depth-most L wf (least_depth ms) e b.0 h
          (λ r m. let u = b.2 r m in le_trans (least-le (depths_at ms e.t r) u.0 (prompt e.t r (k r m) u.0 u.2)) u.1))

  falls-same : (i : ℕ) {p q x y : ℕ} → p ≡ x → q ≡ y → T (refuted_at L preorder i p q) → T (refuted_at L preorder i x y)
  falls-same i {p} {q} {x} {y} a b f =
      subst (λ (z : ℕ). T (refuted_at L preorder i z y)) a (subst (λ (z : ℕ). T (refuted_at L preorder i p z)) b f)

  prompt-step : (earlier : List Entry) (ms : List Measured) (e : Entry) → Prompt earlier ms → SoundAt earlier e → Good e
      → Prompt (e ∷ earlier) (measure L ms e ∷ ms)
  unfolding measure
  prompt-step earlier ms e prompt s g p q h i f = go (holds-cons e earlier p q h)
    where
      go : ((e.p ≡ p) × (e.q ≡ q)) ⊎ T (holds earlier p q) → Below (depths_at (measure L ms e ∷ ms) p q) i
      go (inl c) = below_new (measure L ms e) ms p q i c.0 c.1 (entry-prompt earlier ms e prompt s g i (falls-same i (sym c.0) (sym c.1) f))
      go (inr k) = below_more (measure L ms e) ms p q i (prompt p q k i f)

  strategy-at-depth : (p q j : ℕ) → p < L.states → q < L.states → T (refuted_at L preorder j p q) → depth_of L (strategy_at L preorder j p q) ≤ j
  unfolding strategy_at
  strategy-at-depth p q j l m f =
      let xs = entries_before L preorder j in
      let e = entry_at L preorder j p q in
      let s = strategy-all-sound L wf preorder j p q l m f in
      let b = before Good Prompt prompt-step [] [] xs e [] (λ p q h. absurd (holds-none p q h)) s (before-good j) in
      let c = entry-pair-is L wf preorder j p q in
      subst (λ (d : ℕ). d ≤ j) (sym (depth-snoc L xs e))
      (entry-prompt (reverse_aux xs []) (measured L [] xs) e b.0 b.1 (entry-good j p q f) j (falls-same j (sym c.0) (sym c.1) f))

  pub written-depth : (p q j : ℕ) → p < L.states → q < L.states → T (refuted_at L preorder j p q) → depth_of L (strategy L preorder p q) ≡ j
  unfolding strategy
  written-depth p q j l m f =
      let e = refutation-round-is L wf preorder p q j f in
      let c = strategy-last L wf preorder p q in
      let t = subst (λ (i : ℕ). T (accepted L preorder (strategy_at L preorder i p q))) (sym e) (strategy-at-accepted L wf preorder j p q l m f) in
      le_antisymm
      (subst (λ (i : ℕ). depth_of L (strategy_at L preorder i p q) ≤ j) (sym e) (strategy-at-depth p q j l m f))
      (accepted-least (strategy L preorder p q) j t (falls-same j (sym c.0) (sym c.1) f))

  -- ---- L8's sentence, by the entries' numbers

  module _ (es : List Entry) where
    depth-at : ℕ → ℕ
    depth-at i = depth_of L (take (suc i) es)

    -- entry i among the first i + 1
    upto : (i : ℕ) → i < length es → measured L [] (take (suc i) es) ≡ measure L (measured L [] (take i es)) (get_or es i blank) ∷ measured L [] (take i es)
    upto i l = ap (measured L []) (take-suc es i blank l) ∙ measured-snoc L [] (take i es) (get_or es i blank)

    depth-upto : (i : ℕ) → i < length es → depth-at i ≡ depth_over L (least_depth (measured L [] (take i es))) (get_or es i blank)
    unfolding depth-at
    depth-upto i l = ap (depth_of L) (take-suc es i blank l) ∙ depth-snoc L (take i es) (get_or es i blank)

    -- the depths of a pair before number i are those of the entries that hold it
    depths-from : (P : ℕ → Type 0) (i p q : ℕ) → i ≤ length es → ((j : ℕ) → j < i → HoldsAt es j p q → P (depth-at j))
        → Every P (depths_at (measured L [] (take i es)) p q)
    unfolding measured depths_at measure
    depths-from P zero p q l h = tt
    depths-from P (suc i) p q l h =
        let ms = measured L [] (take i es) in
        let e = get_or es i blank in
        let rest = depths-from P i p q (le_trans (le_step (le_refl i)) l) (λ j m. h j (le_step m)) in
        subst (λ (ns : List Measured). Every P (depths_at ns p q)) (sym (upto i l))
        (depths-cons (Every P) (measure L ms e) ms p q (λ a b. (subst P (depth-upto i l) (h i (le_refl (suc i)) (a, b)), rest)) rest)

    depths-below : (i p q j : ℕ) → i ≤ length es → j < i → HoldsAt es j p q → Below (depths_at (measured L [] (take i es)) p q) (depth-at j)
    unfolding measure
    depths-below zero p q j l m h = absurd (not-suc-le-zero m)
    depths-below (suc i) p q j l m h =
        subst (λ (ns : List Measured). Below (depths_at ns p q) (depth-at j)) (sym (upto i l))
        (go (below_suc m) (λ k. depths-below i p q j (le_trans (le_step (le_refl i)) l) k h))
      where
        ms : List Measured
        ms = measured L [] (take i es)

        e : Entry
        e = get_or es i blank

        go : (j < i) ⊎ (j ≡ i) → (j < i → Below (depths_at ms p q) (depth-at j)) → Below (depths_at (measure L ms e ∷ ms) p q) (depth-at j)
        go (inl k) ih = below_more (measure L ms e) ms p q (depth-at j) (ih k)
        go (inr k) ih =
            subst (λ (x : ℕ). Below (depths_at (measure L ms e ∷ ms) p q) (depth-at x)) (sym k)
            (let g = subst (λ (x : ℕ). HoldsAt es x p q) k h in
            below_new (measure L ms e) ms p q (depth-at i) g.0 g.1 (le_of_eq (sym (depth-upto i l))))

    least-before : (i p q d : ℕ) → i ≤ length es → Below (depths_at (measured L [] (take i es)) p q) d
        → LeastBefore es depth-at i p q (least_depth (measured L [] (take i es)) p q)
    unfolding least_depth
    least-before i p q d l b = record {
      found = least-every (λ x. (j : ℕ) × (j < i) × HoldsAt es j p q × (depth-at j ≡ x)) (depths_at (measured L [] (take i es)) p q) d b
          (depths-from (λ x. (j : ℕ) × (j < i) × HoldsAt es j p q × (depth-at j ≡ x)) i p q l (λ j m h. (j, m, h, refl)));
      most = λ j m h. least-le (depths_at (measured L [] (take i es)) p q) (depth-at j) (depths-below i p q j l m h);
    }

    module _ (t : T (all_sound L preorder [] es)) (i : ℕ) (l : i < length es) where
      abbrev e : Entry
      e = get_or es i blank

      abbrev depths-before : ℕ → ℕ → ℕ
      depths-before = least_depth (measured L [] (take i es))

      parts : es ≡ take i es ++ (e ∷ drop (suc i) es)
      parts = sym (take-append-drop i es) ∙ ap (λ (r : List Entry). take i es ++ r) (drop-cons es i blank l)

      reply-before : (r : ℕ) → T (L.transition e.q e.a r) → LeastBefore es depth-at i e.t r (depths-before e.t r)
      reply-before r m =
          let s = subst (λ (x : List Entry). T (all_sound L preorder [] x)) parts t in
          least-before i e.t r (Held (reverse_aux (take i es) [])) (le_trans (le_step (le_refl i)) l) (replies-measured (take i es) e (drop (suc i) es) s r m)

      no-reply : ((r : ℕ) → T (not (L.transition e.q e.a r))) → (r : ℕ) → reply L wf depths-before e r ≤ 0
      no-reply f r = reply-most L wf depths-before e 0 r (λ m. absurd ((not_iff (L.transition e.q e.a r)).0 (f r) m))

      abbrev top : ℕ
      top = largest_below L.states (reply L wf depths-before e)

      -- the largest is that of a reply, where there is one
      attained : (r : ℕ) → T (L.transition e.q e.a r) → (x : ℕ) × T (L.transition e.q e.a x) × (depths-before e.t x ≡ top)
      attained r m = largest-found L.states (L.transition e.q e.a) (depths-before e.t) r (wf.target e.q e.a r m) m

      entry-depth : EntryDepth L es depth-at i
      entry-depth = record {
        outside = λ z. depth-upto i l ∙ depth-zero L wf depths-before e z;
        unmatched = λ h f. depth-upto i l ∙ depth-suc L wf depths-before e h
            ∙ ap suc (le_antisymm (largest-most L.states 0 (reply L wf depths-before e) (λ r _. no-reply f r)) zero-le);
        matched = λ h r m.
            let x = attained r m in (
              top,
              record {
                found = (x.0, x.1, subst (λ (d : ℕ). LeastBefore es depth-at i e.t x.0 d) x.2 (reply-before x.0 x.1));
                most = λ y k. (depths-before e.t y, reply-before y k, depth-reply L wf depths-before e y k);
              },
              depth-upto i l ∙ depth-suc L wf depths-before e h,
            );
      }

  pub last-depth : (es : List Entry) → T (accepted L preorder es) → LastDepth L es (depth_of L es)
  unfolding accepted depth-at
  last-depth [] t = absurd t
  last-depth (e ∷ es) t = record {
    depth = depth-at (e ∷ es);
    each = entry-depth (e ∷ es) t;
    last =
        let n : length es ≡ suc (length es) - 1 = omega arith in
        ap (λ (l : List Entry). depth_of L (e ∷ l)) (sym (take-length es)) ∙ ap (depth-at (e ∷ es)) n;
  }

  -- ---- the sentence gives each entry one depth

  -- two ways to say the least depth before number i, where the depths before it are the same
  least-same : (es : List Entry) (f g : ℕ → ℕ) (i p q d c : ℕ) → ((j : ℕ) → j < i → f j ≡ g j) → LeastBefore es f i p q d → LeastBefore es g i p q c → d ≤ c
  least-same es f g i p q d c same a b =
      let j = b.found in
      omega (arith, a.most j.0 j.1 j.2, same j.0 j.1, j.3)

  largest-same : (es : List Entry) (f g : ℕ → ℕ) (i k l : ℕ) → ((j : ℕ) → j < i → f j ≡ g j) → LargestReply L es f i k → LargestReply L es g i l → k ≤ l
  largest-same es f g i k l same a b =
      let r = a.found in
      let d = b.most r.0 r.1 in
      le_trans (least-same es f g i _ r.0 k d.0 same r.2 d.1) d.2

  module _ (es : List Entry) (f g : ℕ → ℕ) (each : (i : ℕ) → i < length es → EntryDepth L es f i) (other : (i : ℕ) → i < length es → EntryDepth L es g i) where
    entry-only : (i : ℕ) → i < length es → ((j : ℕ) → j < i → f j ≡ g j) → f i ≡ g i
    entry-only i l same = go (ℕ_discrete e.a 0) (dec (any_state L (L.transition e.q e.a)))
      where
        e : Entry
        e = get_or es i blank

        none : (T (any_state L (L.transition e.q e.a)) → ⊥) → (r : ℕ) → T (not (L.transition e.q e.a r))
        none h r = (not_iff (L.transition e.q e.a r)).1 (λ m. h ((any-state-iff L (L.transition e.q e.a)).1 (r, wf.target e.q e.a r m, m)))

        go : Dec (e.a ≡ 0) → T (any_state L (L.transition e.q e.a)) ⊎ (T (any_state L (L.transition e.q e.a)) → ⊥) → f i ≡ g i
        go (yes z) s = (each i l).outside z ∙ sym ((other i l).outside z)
        go (no z) (inr h) = let some : 0 < e.a = omega (arith, z) in (each i l).unmatched some (none h) ∙ sym ((other i l).unmatched some (none h))
        go (no z) (inl s) =
            let some : 0 < e.a = omega (arith, z) in
            let r = (any-state-iff L (L.transition e.q e.a)).0 s in
            let k = (each i l).matched some r.0 r.2 in
            let m = (other i l).matched some r.0 r.2 in
            let low = largest-same es f g i k.0 m.0 same k.1 m.1 in
            let high = largest-same es g f i m.0 k.0 (λ j n. sym (same j n)) m.1 k.1 in
            omega (arith, k.2, m.2, low, high)

    depths-only : (n : ℕ) → n ≤ length es → (j : ℕ) → j < n → f j ≡ g j
    depths-only zero h j l = absurd (not-suc-le-zero l)
    depths-only (suc n) h j l = go (below_suc l) (depths-only n (le_trans (le_step (le_refl n)) h))
      where
        go : (j < n) ⊎ (j ≡ n) → ((j : ℕ) → j < n → f j ≡ g j) → f j ≡ g j
        go (inl m) ih = ih j m
        go (inr e) ih = subst (λ (x : ℕ). f x ≡ g x) (sym e) (entry-only n h ih)

  pub last-depth-only : (es : List Entry) (d c : ℕ) → 0 < length es → LastDepth L es d → LastDepth L es c → d ≡ c
  last-depth-only es d c h a b =
      a.last ∙ depths-only es a.depth b.depth a.each b.each (length es) (le_refl (length es)) (length es - 1) (omega (arith, h)) ∙ sym b.last

  -- what document 02 says of depths
  pub depths : T (reflexive L preorder) → Depths L preorder
  depths loop = record { depth = last-depth; written = written-depth; least = accepted-least; most = accepted-most loop }
