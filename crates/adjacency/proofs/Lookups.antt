-- What the rows of an index say of the transitions of its table. Assumes nothing.
use mathlib.Core.Path.{◌≡◌, refl, sym, ap, ap₂, ◌∙◌, subst}
use mathlib.Core.Bool.{Bool, true, not, ◌&&◌, ◌||◌}
use mathlib.Core.List.{List}
use Prim.Native.Nat.{ℕ, ◌+◌, ◌*◌, ◌^◌, ◌≤◌, ◌<◌}
use native.Mathlib.Omega.{arith}
use lib.Dec.{T}
use lib.ListN.{get_or, replicate}
use lib.Pow.{pow_pos}
use Rattle.lts.specs.Bounded.{any_below}
use Rattle.lts.specs.System.{Set, into}
use Rattle.lts.specs.Refinement.{remove}
use Rattle.lts.proofs.Below.{any-cong, true-T}
use Rattle.lts.proofs.Bounded.{and-iff, not_iff, any-iff, or_elim, test-ext}
use Rattle.lts.proofs.System.{into-to, into-from}
use Rattle.rows.specs.Rows.{bit, in_row, row_of, word_of}
use Rattle.rows.proofs.Bits.{bit-of-zero, bit-word_of, word_of-lt, word-ext}
use Rattle.rows.proofs.Rows.{in_row-at, in_row-of, in_row-zeros, get_or-zeros, row_of-cong, row-ext}
use Rattle.sets.specs.Sets.{set_at}
use Rattle.sets.proofs.Lists.{set-in}
use Rattle.transitions.specs.Table.{states_of, actions_of, table_lts}
use Rattle.transitions.proofs.Entries.{entry_of, table-formed}
use Rattle.adjacency.specs.Adjacency.{Index}
use Rattle.adjacency.proofs.Words.{any-add}

-- the states that a transition by a from q leads to, as the rows say
abbrev pub targets_of : List ℕ → List ℕ → ℕ → ℕ → Set
targets_of places rows a q = set_at rows (64 + get_or places (512 * a + q) 0)

-- and those that one into q comes from
abbrev pub sources_of : List ℕ → List ℕ → ℕ → ℕ → Set
sources_of places rows a q = set_at rows (64 + get_or places (512 * a + 256 + q) 0)

-- ---- the sources of the states of a set, word by word

module _ (places rows : List ℕ) (a : ℕ) (met : List ℕ) where
  abbrev pub found : ℕ → Set
  found n x = any_below n (λ q. in_row met q && sources_of places rows a q x)

  pub found_none : replicate {A = ℕ} 4 0 ≡ row_of 4 (found (64 * 0))
  unfolding any_below
  found_none = row-ext 4 _ (replicate {A = ℕ} 4 0) refl (λ j. subst (λ (x : ℕ). x < 2 ^ 64) (sym (get_or-zeros 4 j)) (pow_pos 64)) (λ q h. in_row-zeros 4 q)

  pub found-more : (c : ℕ) {out next : List ℕ} → out ≡ row_of 4 (found (64 * c))
      → next ≡ row_of 4 (λ x. in_row out x || any_below 64 (λ i. bit (get_or met c 0) i && sources_of places rows a (64 * c + i) x))
      → next ≡ row_of 4 (found (64 * (c + 1)))
  found-more c {out} now e =
      let more : 64 * c + 64 ≡ 64 * (c + 1) = omega arith in
      e ∙ row_of-cong 4 _ _ (λ x h.
      ap₂ ◌||◌ (ap (λ (l : List ℕ). in_row l x) now ∙ in_row-of 4 (found (64 * c)) x h)
      (any-cong 64 _ _ (λ i l.
      let same : c * 64 + i ≡ 64 * c + i = omega arith in
      ap (λ (b : Bool). b && sources_of places rows a (64 * c + i) x) (sym (in_row-at met c i l) ∙ ap (in_row met) same)))
      ∙ sym (any-add (64 * c) 64 (λ q. in_row met q && sources_of places rows a q x)) ∙ ap (λ (n : ℕ). found n x) more)

-- ---- the words of the states of a set, joined word by word

module _ (rows set : List ℕ) where
  abbrev pub entering : ℕ → ℕ
  entering n = word_of 64 (λ j. any_below n (λ q. in_row set q && bit (get_or rows q 0) j))

  pub entering-none : 0 ≡ entering (64 * 0)
  unfolding any_below
  entering-none = word-ext 64 _ (pow_pos 64) (λ j h. bit-of-zero j)

  pub entering-more : (c : ℕ) {out next : ℕ} → out ≡ entering (64 * c)
      → next ≡ word_of 64 (λ j. bit out j || any_below 64 (λ i. bit (get_or set c 0) i && bit (get_or rows (64 * c + i) 0) j)) → next ≡ entering (64 * (c + 1))
  entering-more c {out} {next} now e =
      let more : 64 * c + 64 ≡ 64 * (c + 1) = omega arith in
      word-ext 64 _ (subst (λ (x : ℕ). x < 2 ^ 64) (sym e) (word_of-lt 64 _)) (λ j h.
      ap (λ (x : ℕ). bit x j) e ∙ bit-word_of 64 _ j h
      ∙ ap₂ ◌||◌ (ap (λ (x : ℕ). bit x j) now ∙ bit-word_of 64 _ j h)
      (any-cong 64 _ _ (λ i l.
      let same : c * 64 + i ≡ 64 * c + i = omega arith in
      ap (λ (b : Bool). b && bit (get_or rows (64 * c + i) 0) j) (sym (in_row-at set c i l) ∙ ap (in_row set) same)))
      ∙ sym (any-add (64 * c) 64 (λ q. in_row set q && bit (get_or rows q 0) j))
      ∙ ap (λ (n : ℕ). any_below n (λ q. in_row set q && bit (get_or rows q 0) j)) more)

-- ---- the states of a set that lack a transition, word by word

-- q has no transition by a into the set
abbrev pub lacks : List ℕ → List ℕ → ℕ → List ℕ → Set
lacks places rows a inside q = not (any_below 256 (λ r. targets_of places rows a q r && in_row inside r))

abbrev pub kept : List ℕ → List ℕ → ℕ → List ℕ → List ℕ → Set
kept places rows a set inside q = in_row set q && lacks places rows a inside q

-- ---- against the table

module _ {t places rows : List ℕ} (ix : Index t places rows) (a : ℕ) (named : 1 ≤ a) (known : a ≤ actions_of t) where
  target-low : (p q : ℕ) → T ((table_lts t).transition p a q) → q < 256
  target-low p q u = let s = entry_of t p a q u in omega (arith, s.4, ix.formed.target s.0 s.1, ix.formed.states)

  -- the sources of the states of the set that are entered are those of the states of the set
  pub found-into : (set : List ℕ) {ent met out : List ℕ} → ent ≡ row_of 4 (set_at rows (64 + 2 * a)) → met ≡ row_of 4 (λ q. in_row set q && in_row ent q)
      → out ≡ row_of 4 (found places rows a met 256) → out ≡ row_of 4 (into (table_lts t) a (in_row set))
  found-into set {ent} {met} een emt e = e ∙ row_of-cong 4 _ _ (λ x h. test-ext _ _ (to x h) (from x h))
    where
      entered : ℕ → Bool
      entered q = any_below 256 (λ p. (table_lts t).transition p a q)

      mem : (q : ℕ) → q < 256 → in_row met q ≡ in_row set q && entered q
      mem q h = set-in _ emt q h ∙ ap (λ (b : Bool). in_row set q && b) (set-in _ een q h ∙ ix.entered a q named known h)

      to : (x : ℕ) → x < 256 → T (found places rows a met 256 x) → T (into (table_lts t) a (in_row set) x)
      to x h u =
          let s = (any-iff 256 (λ q. in_row met q && sources_of places rows a q x)).0 u in
          let q = s.0 in
          let two = (and-iff (in_row met q) (sources_of places rows a q x)).0 s.2 in
          let inside = ((and-iff (in_row set q) (entered q)).0 (subst T (mem q s.1) two.0)).0 in
          into-from (table-formed t ix.formed) a (in_row set) x (q, subst T (ix.sources a x q named known h s.1) two.1, inside)

      from : (x : ℕ) → x < 256 → T (into (table_lts t) a (in_row set) x) → T (found places rows a met 256 x)
      from x h u =
          let s = into-to (table_lts t) a (in_row set) x u in
          let q = s.0 in
          let low = target-low x q s.1 in
          let goes = (any-iff 256 (λ p. (table_lts t).transition p a q)).1 (x, h, s.1) in
          let inside = subst T (sym (mem q low)) ((and-iff (in_row set q) (entered q)).1 (s.2, goes)) in
          (any-iff 256 (λ q. in_row met q && sources_of places rows a q x)).1
          (q, low, (and-iff (in_row met q) (sources_of places rows a q x)).1 (inside, subst T (sym (ix.sources a x q named known h low)) s.1))

  -- a state leads into the set
  pub targets-into : (inside : List ℕ) (q : ℕ) → q < 256
      → any_below 256 (λ r. targets_of places rows a q r && in_row inside r) ≡ into (table_lts t) a (in_row inside) q
  targets-into inside q h = any-cong 256 _ _ (λ r l. ap (λ (b : Bool). b && in_row inside r) (ix.targets a q r named known h l)) ∙ test-ext _ _ to from
    where
      goes : ℕ → Bool
      goes r = (table_lts t).transition q a r && in_row inside r

      to : T (any_below 256 goes) → T (into (table_lts t) a (in_row inside) q)
      to u =
          let s = (any-iff 256 goes).0 u in
          let two = (and-iff ((table_lts t).transition q a s.0) (in_row inside s.0)).0 s.2 in
          into-from (table-formed t ix.formed) a (in_row inside) q (s.0, two.0, two.1)

      from : T (into (table_lts t) a (in_row inside) q) → T (any_below 256 goes)
      from u =
          let s = into-to (table_lts t) a (in_row inside) q u in
          (any-iff 256 goes).1 (s.0, target-low q s.0 s.1, (and-iff ((table_lts t).transition q a s.0) (in_row inside s.0)).1 (s.1, s.2))

  pub kept-lacking : (set inside : List ℕ) → row_of 4 (kept places rows a set inside) ≡ row_of 4 (λ q. in_row set q && not (into (table_lts t) a (in_row inside) q))
  kept-lacking set inside = row_of-cong 4 _ _ (λ q h. ap (λ (b : Bool). in_row set q && not b) (targets-into inside q h))

  -- Rem, from what leads into the outside and lacks a transition into the inside
  pub removed-lacking : (inside outside : List ℕ) {set out : List ℕ} → set ≡ row_of 4 (into (table_lts t) a (in_row outside))
      → out ≡ row_of 4 (λ q. in_row set q && not (into (table_lts t) a (in_row inside) q)) → out ≡ row_of 4 (remove (table_lts t) a (in_row inside) (in_row outside))
  unfolding remove
  removed-lacking inside outside es e =
      e ∙ row_of-cong 4 _ _ (λ q h. ap (λ (b : Bool). b && not (into (table_lts t) a (in_row inside) q)) (set-in (into (table_lts t) a (in_row outside)) es q h))

  -- and where the two have every state, from all that have a transition
  pub removed-whole : (inside outside : List ℕ) {able set out : List ℕ} → ((q : ℕ) → q < states_of t → in_row inside q || in_row outside q ≡ true)
      → able ≡ row_of 4 (set_at rows (63 + 2 * a)) → set ≡ row_of 4 (into (table_lts t) a (in_row inside)) → out ≡ row_of 4 (λ q. in_row able q && not (in_row set q))
      → out ≡ row_of 4 (remove (table_lts t) a (in_row inside) (in_row outside))
  unfolding remove
  removed-whole inside outside whole ea es e =
      e ∙ row_of-cong 4 _ _ (λ q h.
      ap₂ (λ (x y : Bool). x && not y) (set-in _ ea q h ∙ ix.enabled a q named known h) (set-in (into (table_lts t) a (in_row inside)) es q h)
      ∙ test-ext _ _ (to q) (from q))
    where
      any : Set
      any = into (table_lts t) a (λ r. true)

      yes-in : Set
      yes-in = into (table_lts t) a (in_row inside)

      yes-out : Set
      yes-out = into (table_lts t) a (in_row outside)

      to : (q : ℕ) → T (any q && not (yes-in q)) → T (yes-out q && not (yes-in q))
      to q u =
          let two = (and-iff (any q) (not (yes-in q))).0 u in
          let s = into-to (table_lts t) a (λ r. true) q two.0 in
          let j = entry_of t q a s.0 s.1 in
          let low : s.0 < states_of t = omega (arith, j.4, ix.formed.target j.0 j.1) in
          let wf = table-formed t ix.formed in
          (and-iff (yes-out q) (not (yes-in q))).1 (
            or_elim (in_row inside s.0) (in_row outside s.0)
                (λ v. absurd ((not_iff (yes-in q)).0 two.1 (into-from wf a (in_row inside) q (s.0, s.1, v))))
                (λ v. into-from wf a (in_row outside) q (s.0, s.1, v)) (true-T _ (whole s.0 low)),
            two.1,
          )

      from : (q : ℕ) → T (yes-out q && not (yes-in q)) → T (any q && not (yes-in q))
      from q u =
          let two = (and-iff (yes-out q) (not (yes-in q))).0 u in
          let s = into-to (table_lts t) a (in_row outside) q two.0 in
          (and-iff (any q) (not (yes-in q))).1 (into-from (table-formed t ix.formed) a (λ r. true) q (s.0, s.1, tt), two.1)
