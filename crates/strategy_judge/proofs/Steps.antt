-- One entry more: what is known of the entries that were judged. Assumes nothing.
use Prim.Native.Nat.{ℕ, ◌+◌, ◌*◌, ◌-◌, ◌%◌, ◌≤◌, ◌<◌}
use mathlib.Core.Path.{◌≡◌, refl, sym, ◌∙◌, ap, ap₂}
use mathlib.Core.Logic.{⊎_elim}
use mathlib.Core.Bool.{Bool, true, false, cond, ◌&&◌, ◌||◌, and-true, and_assoc, or-false, or_comm, or_assoc}
use mathlib.Core.List.{List, [], ◌∷◌, ◌++◌, reverse_aux}
use native.Mathlib.Omega.{arith}
use lib.Dec.{T, eqb}
use lib.ListN.{length, get_or, set, length-set}
use lib.Seq.{get_or-set_same, get_or-set_other}
use Rattle.lts.specs.declared.Entry.{Entry}
use Rattle.lts.specs.System.{Rel, Lts, WellFormed, reflexive}
use Rattle.lts.specs.Strategy.{holds, sound, all_sound, last_of}
use Rattle.lts.proofs.Below.{clash, either, true-T}
use Rattle.lts.specs.Game.{defender_loses}
use Rattle.strategy_depth.specs.Marks.{mark_of, lowered, marked, entry_mark}
use Rattle.strategy_depth.proofs.Steps.{marked-holds, mark-is, marked_more}
use Rattle.strategy_check.specs.Entries.{outside}
use Rattle.strategy_judge.specs.Judging.{sound_on, mark_over, with_entry, Noted, Judging, Judges}
use Rattle.strategy_judge.proofs.Marks.{mark-some, mark-none, sound-states, Small, small-some, sound-agree}

or-middle : (a b c : Bool) → b || (a || c) ≡ (a || b) || c
or-middle a b c = sym (or_assoc b a c) ∙ ap (λ (x : Bool). x || c) (or_comm b a)

-- ---- lists of entries: one more at the end

pub all-sound-append : (L : Lts) (start : Rel) (earlier es others : List Entry)
    → all_sound L start earlier (es ++ others) ≡ all_sound L start earlier es && all_sound L start (reverse_aux es earlier) others
unfolding all_sound
all-sound-append L start earlier [] others = refl
all-sound-append L start earlier (x ∷ es) others =
    ap (λ (b : Bool). sound L start earlier x && b) (all-sound-append L start (x ∷ earlier) es others)
    ∙ sym (and_assoc (sound L start earlier x) (all_sound L start (x ∷ earlier) es) (all_sound L start (reverse_aux es (x ∷ earlier)) others))

all-sound-more : (L : Lts) (start : Rel) (earlier es : List Entry) (e : Entry)
    → all_sound L start earlier (es ++ e ∷ []) ≡ all_sound L start earlier es && sound L start (reverse_aux es earlier) e
unfolding all_sound
all-sound-more L start earlier es e =
    all-sound-append L start earlier es (e ∷ [])
    ∙ ap (λ (b : Bool). all_sound L start earlier es && b) (and-true (sound L start (reverse_aux es earlier) e))

holds-reversed : (es earlier : List Entry) (p q : ℕ) → holds (reverse_aux es earlier) p q ≡ holds es p q || holds earlier p q
unfolding holds
holds-reversed [] earlier p q = refl
holds-reversed (x ∷ es) earlier p q = holds-reversed es (x ∷ earlier) p q ∙ or-middle (eqb x.p p && eqb x.q q) (holds es p q) (holds earlier p q)

last_more : (es : List Entry) (e : Entry) → last_of (es ++ e ∷ []) ≡ e
unfolding last_of
last_more [] e = refl
last_more (x ∷ []) e = refl
last_more (x ∷ y ∷ es) e = last_more (y ∷ es) e

-- ---- what is written

-- a sound entry: each place of what was judged
module _ (judged : List ℕ) (long : length judged ≡ 65540) (e : Entry) (lp : e.p < 256) (lq : e.q < 256) (mark : ℕ) where
  abbrev at : ℕ
  at = 256 * e.p + e.q

  abbrev set₀ : List ℕ
  set₀ = set judged at (lowered (mark_of judged e.p e.q) mark % 65536)

  abbrev set₁ : List ℕ
  set₁ = set set₀ 65537 e.p

  abbrev set₂ : List ℕ
  set₂ = set set₁ 65538 e.q

  long₀ : length set₀ ≡ 65540
  long₀ = length-set judged at _ ∙ long

  long₁ : length set₁ ≡ 65540
  long₁ = length-set set₀ 65537 e.p ∙ long₀

  long₂ : length set₂ ≡ 65540
  long₂ = length-set set₁ 65538 e.q ∙ long₁

  pub entry_length : length (with_entry judged e mark) ≡ 65540
  entry_length = length-set set₂ 65539 (mark - 1) ∙ long₂

  entry-low : (y : ℕ) → y ≤ 65536 → get_or (with_entry judged e mark) y 0 ≡ get_or set₀ y 0
  entry-low y h =
      get_or-set_other set₂ 65539 y (mark - 1) 0 (λ d. omega (arith, d, h)) ∙ get_or-set_other set₁ 65538 y e.q 0 (λ d. omega (arith, d, h))
      ∙ get_or-set_other set₀ 65537 y e.p 0 (λ d. omega (arith, d, h))

  entry-verdict : get_or (with_entry judged e mark) 65536 0 ≡ get_or judged 65536 0
  entry-verdict = entry-low 65536 (omega arith) ∙ get_or-set_other judged at 65536 _ 0 (λ d. omega (arith, d, lp, lq))

  entry_first : get_or (with_entry judged e mark) 65537 0 ≡ e.p
  entry_first =
      let room : 65537 < length set₀ = omega (arith, long₀) in
      get_or-set_other set₂ 65539 65537 (mark - 1) 0 (λ d. omega (arith, d)) ∙ get_or-set_other set₁ 65538 65537 e.q 0 (λ d. omega (arith, d))
      ∙ get_or-set_same set₀ 65537 e.p 0 room

  entry-second : get_or (with_entry judged e mark) 65538 0 ≡ e.q
  entry-second =
      let room : 65538 < length set₁ = omega (arith, long₁) in
      get_or-set_other set₂ 65539 65538 (mark - 1) 0 (λ d. omega (arith, d)) ∙ get_or-set_same set₁ 65538 e.q 0 room

  entry-depth : get_or (with_entry judged e mark) 65539 0 ≡ mark - 1
  entry-depth = let room : 65539 < length set₂ = omega (arith, long₂) in get_or-set_same set₂ 65539 (mark - 1) 0 room

-- ---- one entry more

module _ (L : Lts) (start : Rel) (small : Small L start) (judged : List ℕ) (long : length judged ≡ 65540) (e : Entry)
    {mark : ℕ} (is : mark ≡ mark_over L start (mark_of judged) e) where
  -- whether the marks call the entry sound
  abbrev fine : Bool
  fine = sound_on L start (marked (mark_of judged)) e

  module _ (es : List Entry) (known : Judging L start es judged) where
    abbrev more : List Entry
    more = es ++ e ∷ []

    -- where all entries so far are sound, the marks call e sound exactly if it is sound over them
    fine-is : all_sound L start [] es ≡ true → sound L start (reverse_aux es []) e ≡ fine
    unfolding sound sound_on outside defender_loses holds
    fine-is all =
        sound-agree L start (holds (reverse_aux es [])) (marked (mark_of judged))
        (λ p q lp lq. holds-reversed es [] p q ∙ or-false (holds es p q) ∙ sym (marked-holds L es judged (known.noted all).marks p q lp lq)) e small

    all_more : all_sound L start [] more ≡ all_sound L start [] es && sound L start (reverse_aux es []) e
    all_more = all-sound-more L start [] es e

    fails : (other : List ℕ) → all_sound L start [] more ≡ false → get_or other 65536 0 ≡ 1 → Judging L start more other
    fails other f v = record { verdict = v ∙ sym (ap (λ (b : Bool). cond b 0 1) f); noted = λ u. absurd (clash u f) }

    unsound-before : all_sound L start [] es ≡ false → all_sound L start [] more ≡ false
    unsound-before f = all_more ∙ ap (λ (b : Bool). b && sound L start (reverse_aux es []) e) f

    -- an unsound entry
    judged-unsound : fine ≡ false → Judging L start more (set judged 65536 1)
    judged-unsound y = fails (set judged 65536 1) (⊎_elim (λ u. all_more ∙ ap₂ (λ (a b : Bool). a && b) u (fine-is u ∙ y)) unsound-before (either (all_sound L start [] es)))
        (let room : 65536 < length judged = omega (arith, long) in get_or-set_same judged 65536 1 0 room)

    -- a sound one
    module _ (y : fine ≡ true) (own : mark ≡ entry_mark L (mark_of judged) e.q e.a e.t) where
      below : (e.p < L.states) × (e.q < L.states)
      below = sound-states L start (marked (mark_of judged)) e y

      good : WellFormed L × (L.states ≤ 256) × T (reflexive L start)
      good = small-some L start small below.0

      lp : e.p < 256
      lp = omega (arith, below.0, good.1)

      lq : e.q < 256
      lq = omega (arith, below.1, good.1)

      abbrev other : List ℕ
      other = with_entry judged e mark

      verdict-kept : get_or other 65536 0 ≡ cond (all_sound L start [] es) 0 1
      verdict-kept = entry-verdict judged long e lp lq mark ∙ known.verdict

      noted_more : all_sound L start [] es ≡ true → T (all_sound L start [] more) → Noted L more other
      noted_more all sounds =
          let marks = (known.noted all).marks in
          let next = marked_more L good.0 good.1 start good.2 es e sounds judged marks (omega (arith, long)) in
          let depth = mark-is L good.0 good.1 start good.2 es e sounds judged marks in
          record {
            marks = λ p q l m. entry-low judged long e lp lq mark (256 * p + q) (omega (arith, l, m)) ∙ ap (λ (k : ℕ). mark_of (set judged (256 * e.p + e.q) (lowered (mark_of judged e.p e.q) k % 65536)) p q) own ∙ next p q l m;
            first = entry_first judged long e lp lq mark ∙ ap (λ (l : Entry). l.p) (sym (last_more es e));
            second = entry-second judged long e lp lq mark ∙ ap (λ (l : Entry). l.q) (sym (last_more es e));
            depth = entry-depth judged long e lp lq mark ∙ omega (arith, own, depth);
          }

      judged-sound : Judging L start more other
      judged-sound = ⊎_elim
          (λ u.
          let all : all_sound L start [] more ≡ true = all_more ∙ ap₂ (λ (a b : Bool). a && b) u (fine-is u ∙ y) in
          record { verdict = verdict-kept ∙ ap (λ (b : Bool). cond b 0 1) (u ∙ sym all); noted = λ t. noted_more u (true-T _ t) })
          (λ f. fails other (unsound-before f) (verdict-kept ∙ ap (λ (b : Bool). cond b 0 1) f))
          (either (all_sound L start [] es))

  pub judges-unsound : mark ≡ 0 → Judges L start judged e (set judged 65536 1)
  judges-unsound z es known = judged-unsound es known (mark-none L start (mark_of judged) e is z)

  -- the pair of a sound entry lies below 256
  pub judged-below : (mark ≡ 0 → ⊥) → (e.p < 256) × (e.q < 256)
  judged-below h =
      let b = sound-states L start (marked (mark_of judged)) e (mark-some L start (mark_of judged) e is h).0 in
      let few = (small-some L start small b.0).1 in
      (omega (arith, b.0, few), omega (arith, b.1, few))

  pub judges-sound : (mark ≡ 0 → ⊥) → (length (with_entry judged e mark) ≡ 65540) × Judges L start judged e (with_entry judged e mark)
  judges-sound h =
      let c = mark-some L start (mark_of judged) e is h in
      let b = judged-below h in
      (entry_length judged long e b.0 b.1 mark, λ es known. judged-sound es known c.0 c.1)
