-- The states whose block has a member of a set, as blocks are added; and what such a set says of a split. Assumes nothing.
use mathlib.Core.Path.{◌≡◌, refl, sym, ap, ap₂, ◌∙◌}
use mathlib.Core.Bool.{Bool, true, false, ◌&&◌, ◌||◌, and-false, or-true}
use mathlib.Core.Logic.{⊎_elim}
use Prim.Native.Nat.{ℕ, ◌<◌}
use lib.Dec.{eqb}
use borrow.Author.Tests.{eq-eqb, eqb-true}
use Rattle.lts.specs.Bounded.{any_below}
use Rattle.lts.specs.System.{Set, Rel}
use Rattle.lts.proofs.Below.{either, bool_iff, and-fst, and-snd, any-yes, any_some, any-no, any-cong}
use Rattle.sets.specs.Parts.{Parted, Owned}
use Rattle.splitting.specs.Split.{Unsplit, Meets}

pub meets-cong : (P : Rel) (A B out : Set) → ((t : ℕ) → t < 256 → A t ≡ B t) → Meets P A out → Meets P B out
meets-cong P A B out same meets g hg = meets g hg ∙ any-cong 256 _ _ (λ x hx. ap (λ (b : Bool). P g x && b) (same x hx))

pub meets-none : (P : Rel) (A out : Set) → ((t : ℕ) → t < 256 → A t ≡ false) → ((t : ℕ) → t < 256 → out t ≡ false) → Meets P A out
meets-none P A out off clear g hg =
    clear g hg ∙ any-no 256 (λ x. P g x && A x) (λ x hx. ap (λ (b : Bool). P g x && b) (off x hx) ∙ and-false (P g x))

-- x is in the block of g, and in the set
met_by : (P : Rel) (A out : Set) → Meets P A out → (g x : ℕ) → g < 256 → x < 256 → P g x ≡ true → A x ≡ true → out g ≡ true
met_by P A out meets g x hg hx p a = meets g hg ∙ sym (any-yes 256 (λ y. P g y && A y) x hx (ap₂ ◌&&◌ p a))

module _ (P : Rel) (shared : Set) (parts : Parted P shared) where
  -- a set with the states of whole blocks
  met-closed : (A out : Set) → Meets P A out → (g x : ℕ) → g < 256 → x < 256 → P g x ≡ true → out x ≡ true → out g ≡ true
  met-closed A out meets g x hg hx p o =
      let some = any_some 256 (λ y. P x y && A y) (sym (meets x hx) ∙ o) in
      let y = some.0 in
      met_by P A out meets g y hg some.1 (parts.trans g x y hg hx some.1 p (and-fst (P x y) (A y) some.2)) (and-snd (P x y) (A y) some.2)

  -- the block of t is added
  pub meets-add : (A A' out out' : Set) (t : ℕ) → t < 256 → ((x : ℕ) → x < 256 → A' x ≡ A x || eqb x t) → ((g : ℕ) → g < 256 → out' g ≡ out g || P t g)
      → Meets P A out → Meets P A' out'
  meets-add A A' out out' t ht more grown meets g hg = bool_iff to from
    where
      with : (x : ℕ) → x < 256 → P g x ≡ true → A' x ≡ true → any_below 256 (λ x. P g x && A' x) ≡ true
      with x hx p a = sym (any-yes 256 (λ x. P g x && A' x) x hx (ap₂ ◌&&◌ p a))

      to : out' g ≡ true → any_below 256 (λ x. P g x && A' x) ≡ true
      to e = ⊎_elim
          (λ (o : out g ≡ true).
          let some = any_some 256 (λ x. P g x && A x) (sym (meets g hg) ∙ o) in
          let x = some.0 in
          with x some.1 (and-fst (P g x) (A x) some.2) (more x some.1 ∙ ap (λ (b : Bool). b || eqb x t) (and-snd (P g x) (A x) some.2)))
          (λ (o : out g ≡ false).
          let p : P t g ≡ true = sym (grown g hg ∙ ap (λ (b : Bool). b || P t g) o) ∙ e in
          with t ht (parts.sym t g ht hg p) (more t ht ∙ ap (λ (b : Bool). A t || b) (eq-eqb t t refl) ∙ or-true (A t))) (either (out g))

      from : any_below 256 (λ x. P g x && A' x) ≡ true → out' g ≡ true
      from e =
          let some = any_some 256 (λ x. P g x && A' x) e in
          let x = some.0 in
          let hx = some.1 in
          let p = and-fst (P g x) (A' x) some.2 in
          ⊎_elim (λ (a : A x ≡ true). grown g hg ∙ ap (λ (b : Bool). b || P t g) (met_by P A out meets g x hg hx p a))
          (λ (a : A x ≡ false).
          let same : x ≡ t = eqb-true x t (sym (more x hx ∙ ap (λ (b : Bool). b || eqb x t) a) ∙ and-snd (P g x) (A' x) some.2) in
          grown g hg ∙ ap (λ (b : Bool). out g || b) (parts.sym g t hg ht (sym (ap (P g) same) ∙ p)) ∙ or-true (out g)) (either (A x))

  -- states that are there are passed over
  pub meets-pass : (A A' U out : Set) → ((x : ℕ) → x < 256 → A' x ≡ A x || U x) → ((x : ℕ) → x < 256 → U x ≡ true → out x ≡ true)
      → Meets P A out → Meets P A' out
  meets-pass A A' U out more there meets g hg = bool_iff to from
    where
      to : out g ≡ true → any_below 256 (λ x. P g x && A' x) ≡ true
      to o =
          let some = any_some 256 (λ x. P g x && A x) (sym (meets g hg) ∙ o) in
          let x = some.0 in
          sym (any-yes 256 (λ x. P g x && A' x) x some.1 (ap₂ ◌&&◌ (and-fst (P g x) (A x) some.2)
          (more x some.1 ∙ ap (λ (b : Bool). b || U x) (and-snd (P g x) (A x) some.2))))

      from : any_below 256 (λ x. P g x && A' x) ≡ true → out g ≡ true
      from e =
          let some = any_some 256 (λ x. P g x && A' x) e in
          let x = some.0 in
          let hx = some.1 in
          let p = and-fst (P g x) (A' x) some.2 in
          ⊎_elim (λ (a : A x ≡ true). met_by P A out meets g x hg hx p a)
          (λ (a : A x ≡ false). met-closed A out meets g x hg hx p
          (there x hx (sym (more x hx ∙ ap (λ (b : Bool). b || U x) a) ∙ and-snd (P g x) (A' x) some.2))) (either (A x))

  -- the members outside `shared` are alone in their blocks
  pub meets-shared : (S cut part out : Set) → Owned P S → ((x : ℕ) → x < 256 → cut x ≡ S x && shared x) → Meets P cut part
      → ((g : ℕ) → g < 256 → out g ≡ S g || part g) → Meets P S out
  meets-shared S cut part out own both meets grown g hg = grown g hg ∙ bool_iff to from
    where
      to : S g || part g ≡ true → any_below 256 (λ x. P g x && S x) ≡ true
      to e = ⊎_elim (λ (s : S g ≡ true). sym (any-yes 256 (λ x. P g x && S x) g hg (ap₂ ◌&&◌ (own g hg s) s)))
          (λ (s : S g ≡ false).
          let some = any_some 256 (λ x. P g x && cut x) (sym (meets g hg) ∙ sym (ap (λ (b : Bool). b || part g) s) ∙ e) in
          let x = some.0 in
          sym (any-yes 256 (λ x. P g x && S x) x some.1 (ap₂ ◌&&◌ (and-fst (P g x) (cut x) some.2)
          (and-fst (S x) (shared x) (sym (both x some.1) ∙ and-snd (P g x) (cut x) some.2))))) (either (S g))

      from : any_below 256 (λ x. P g x && S x) ≡ true → S g || part g ≡ true
      from e =
          let some = any_some 256 (λ x. P g x && S x) e in
          let x = some.0 in
          let hx = some.1 in
          let p = and-fst (P g x) (S x) some.2 in
          let s = and-snd (P g x) (S x) some.2 in
          ⊎_elim (λ (h : shared x ≡ true). ap (λ (b : Bool). S g || b) (met_by P cut part meets g x hg hx p (both x hx ∙ ap₂ ◌&&◌ s h)) ∙ or-true (S g))
          (λ (h : shared x ≡ false). ap (λ (b : Bool). b || part g) (ap S (parts.single x g hx hg h (parts.sym g x hg hx p)) ∙ s)) (either (shared x))

  -- Rem's members in `shared` are whole blocks: it splits none
  pub whole-unsplit : (Rem cut whole rows : Set) → ((x : ℕ) → x < 256 → cut x ≡ Rem x && shared x) → Meets P cut whole
      → ((g : ℕ) → g < 256 → whole g ≡ cut g) → Unsplit P Rem rows
  whole-unsplit Rem cut whole rows both meets same g h hg hh out p = bool_iff (inside g h hg hh p) (inside h g hh hg (parts.sym g h hg hh p))
    where
      inside : (g h : ℕ) → g < 256 → h < 256 → P g h ≡ true → Rem h ≡ true → Rem g ≡ true
      inside g h hg hh p r = ⊎_elim
          (λ (s : shared h ≡ true). and-fst (Rem g) (shared g)
          (sym (both g hg) ∙ sym (same g hg) ∙ met_by P cut whole meets g h hg hh p (both h hh ∙ ap₂ ◌&&◌ r s)))
          (λ (s : shared h ≡ false). ap Rem (parts.single h g hh hg s (parts.sym g h hg hh p)) ∙ r) (either (shared h))
