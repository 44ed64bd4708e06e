-- The entries of a list of numbers, one by one: a strategy is accepted exactly if each entry is sound over those before it. Assumes nothing.
use Prim.Native.Nat.{ℕ, zero, suc, ◌+◌, ◌*◌, ◌/◌}
use mathlib.Core.Path.{◌≡◌, refl, sym, ◌∙◌, ap, fun_ext}
use mathlib.Core.Bool.{Bool, true, false, ◌&&◌, ◌||◌, and-true, and_assoc}
use mathlib.Core.List.{List, [], ◌∷◌}
use native.Mathlib.Omega.{arith}
use lib.Dec.{ltb}
use lib.ListN.{length, get_or}
use Rattle.lts.specs.Bounded.{◌⇒◌, any_below, all_below, list_below}
use Rattle.lts.specs.System.{Rel, Lts, all_states}
use Rattle.lts.specs.declared.Entry.{Entry}
use Rattle.lts.specs.Strategy.{holds, sound, all_sound, accepted, entries_of}
use Rattle.lts.specs.Game.{defender_loses}
use Rattle.strategy_check.specs.Entries.{entry_of, holds_pair, held_before, replies_held, outside, sound_over, sound_at}

-- the entries f 0 .. f (e - 1), the last first, before those of `earlier`
unfoldable pub entries_up_to : List Entry → (ℕ → Entry) → ℕ → List Entry
entries_up_to earlier f zero = earlier
entries_up_to earlier f (suc e) = f e ∷ entries_up_to earlier f e

up-to-shift : (earlier : List Entry) (f : ℕ → Entry) (e : ℕ) → entries_up_to (f 0 ∷ earlier) (λ i. f (suc i)) e ≡ entries_up_to earlier f (suc e)
unfolding entries_up_to
up-to-shift earlier f zero = refl
up-to-shift earlier f (suc e) = ap (λ (l : List Entry). f (suc e) ∷ l) (up-to-shift earlier f e)

or_swap : (a b : Bool) → a || b ≡ b || a
or_swap true true = refl
or_swap true false = refl
or_swap false true = refl
or_swap false false = refl

all_cons : (n : ℕ) (f : ℕ → Bool) → all_below (suc n) f ≡ f 0 && all_below n (λ i. f (suc i))
unfolding all_below
all_cons zero f = sym (and-true (f 0))
all_cons (suc n) f = ap (λ (b : Bool). b && f (suc n)) (all_cons n f) ∙ and_assoc (f 0) (all_below n (λ i. f (suc i))) (f (suc n))

-- each of the entries f 0 .. f (n - 1) is sound exactly if the list of them is
all-sound-below : (L : Lts) (start : Rel) (n : ℕ) (earlier : List Entry) (f : ℕ → Entry)
    → all_sound L start earlier (list_below n f) ≡ all_below n (λ e. sound L start (entries_up_to earlier f e) (f e))
unfolding all_sound list_below all_below entries_up_to
all-sound-below L start zero earlier f = refl
all-sound-below L start (suc n) earlier f =
    ap (λ (b : Bool). sound L start earlier (f 0) && b)
    (all-sound-below L start n (f 0 ∷ earlier) (λ i. f (suc i))
    ∙ ap (λ (g : ℕ → List Entry). all_below n (λ e. sound L start (g e) (f (suc e)))) (fun_ext (up-to-shift earlier f)))
    ∙ sym (all_cons n (λ e. sound L start (entries_up_to earlier f e) (f e)))

-- what the entries before number e hold
pub holds-before : (xs : List ℕ) (e : ℕ) → holds (entries_up_to [] (entry_of xs) e) ≡ held_before xs e
unfolding holds entries_up_to held_before any_below holds_pair entry_of
holds-before xs zero = refl
holds-before xs (suc e) =
    fun_ext (λ t. fun_ext (λ r.
    or_swap (holds_pair xs t r e) (holds (entries_up_to [] (entry_of xs) e) t r)
    ∙ ap (λ (H : Rel). H t r || holds_pair xs t r e) (holds-before xs e)))

-- ---- the entries of a list

number-shift : (p q a t : ℕ) (xs : List ℕ) (e i : ℕ) → get_or (p ∷ q ∷ a ∷ t ∷ xs) (4 * suc e + i) 0 ≡ get_or xs (4 * e + i) 0
number-shift p q a t xs e i = let at : 4 * suc e + i ≡ suc (suc (suc (suc (4 * e + i)))) = omega arith in ap (λ (j : ℕ). get_or (p ∷ q ∷ a ∷ t ∷ xs) j 0) at

number-first : (p q a t : ℕ) (xs : List ℕ) (e : ℕ) → get_or (p ∷ q ∷ a ∷ t ∷ xs) (4 * suc e) 0 ≡ get_or xs (4 * e) 0
number-first p q a t xs e = let at : 4 * suc e ≡ suc (suc (suc (suc (4 * e)))) = omega arith in ap (λ (j : ℕ). get_or (p ∷ q ∷ a ∷ t ∷ xs) j 0) at

entry-shift : (p q a t : ℕ) (xs : List ℕ) (e : ℕ) → entry_of (p ∷ q ∷ a ∷ t ∷ xs) (suc e) ≡ entry_of xs e
unfolding entry_of
entry-shift p q a t xs e = cc (number-first p q a t xs e, number-shift p q a t xs e 1, number-shift p q a t xs e 2, number-shift p q a t xs e 3)

pub entries_below : (xs : List ℕ) → entries_of xs ≡ list_below (length xs / 4) (entry_of xs)
unfolding entries_of list_below entry_of
entries_below (p ∷ q ∷ a ∷ t ∷ xs) =
    let whole : suc (suc (suc (suc (length xs)))) / 4 ≡ suc (length xs / 4) = omega arith in
    ap (λ (l : List Entry). record { p = p; q = q; a = a; t = t } ∷ l)
    (entries_below xs ∙ ap (list_below (length xs / 4)) (sym (fun_ext (entry-shift p q a t xs))))
    ∙ ap (λ (n : ℕ). list_below n (entry_of (p ∷ q ∷ a ∷ t ∷ xs))) (sym whole)
entries_below [] = refl
entries_below (p ∷ []) = refl
entries_below (p ∷ q ∷ []) = refl
entries_below (p ∷ q ∷ a ∷ []) = refl

module _ (L : Lts) (start : Rel) (xs : List ℕ) where
  sound-at : (e : ℕ) → sound L start (entries_up_to [] (entry_of xs) e) (entry_of xs e) ≡ sound_at L start xs e
  unfolding sound sound_at sound_over outside replies_held defender_loses entry_of
  sound-at e =
      let x = entry_of xs e in
      ap (λ (H : Rel). ltb x.p L.states && ltb x.q L.states && (outside start x.p x.q x.a x.t || L.transition x.p x.a x.t && all_states L (λ r. L.transition x.q x.a r ⇒ H x.t r)))
      (holds-before xs e)

  pub all-sound-at : (n : ℕ) → all_sound L start [] (list_below n (entry_of xs)) ≡ all_below n (sound_at L start xs)
  all-sound-at n = all-sound-below L start n [] (entry_of xs) ∙ ap (all_below n) (fun_ext sound-at)

  pub accepted-some : (length xs / 4 ≡ 0 → ⊥) → accepted L start (entries_of xs) ≡ all_below (length xs / 4) (sound_at L start xs)
  unfolding accepted list_below
  accepted-some h = ap (accepted L start) (entries_below xs) ∙ some (length xs / 4) h
    where
      some : (n : ℕ) → (n ≡ 0 → ⊥) → accepted L start (list_below n (entry_of xs)) ≡ all_below n (sound_at L start xs)
      some zero h = absurd (h refl)
      some (suc n) h = all-sound-at (suc n)

  pub accepted-none : length xs / 4 ≡ 0 → accepted L start (entries_of xs) ≡ false
  unfolding accepted list_below
  accepted-none h = ap (accepted L start) (entries_below xs ∙ ap (λ (n : ℕ). list_below n (entry_of xs)) h)
