-- What reading two sheets answers, and what its answer says.
use Prim.Native.Nat.{ℕ, ◌+◌, ◌≤◌, ◌<◌}
use native.Mathlib.Omega.{arith}
use mathlib.Core.Path.{◌≡◌, refl, sym, ap, subst₂, ◌∙◌}
use mathlib.Core.Logic.{◌⊎◌, inl, inr, ⊎_elim}
use mathlib.Core.Bool.{Bool, true, false, not, ◌&&◌, and-eq-true_iff}
use mathlib.Core.List.{List, [], ◌++◌, append_assoc}
use borrow.Author.Tests.{leb-true, le-leb, lt-leb}
use lib.Dec.{leb}
use lib.ListN.{length}
use Rattle.lts.specs.declared.Refusal.{Refusal}
use Rattle.lts.specs.declared.Refusal.TheVariants.{TooLarge, TooManyLabels}
use Rattle.lts.specs.Rule.{Nothing, First, broken, checked, Answer}
use Rattle.lts.proofs.Rule.{stop, pass, done, kept, refuses, passes, first_part, both-kept, second-checked, finding}
use Rattle.encoding.specs.declared.Header.{Header}
use Rattle.encoding.specs.Records.{header_of}
use Rattle.encoding.specs.Labels.{labels_in}
use Rattle.encoding.specs.Encoding.{sheet_rules, read_encoding}
use Rattle.encoding.proofs.Reader.{sheet-broken, sheet-kept, kept-readable}
use Rattle.labels.specs.Maps.{Matches}
use Rattle.inputs.specs.Both.{joint_labels, fits, joint_rules, both_rules, read_both, read_second, Matched, Joinable, joint_of}
use Rattle.std.specs.Prelude.{Ok, Err}
use Rattle.inputs.specs.declared.Joint.{Joint}

-- equal answers have equal parts
same_joint : {h h' g g' : Header} {m m' : ℕ} → joint_of h g m ≡ joint_of h' g' m' → (h ≡ h') × (g ≡ g') × (m ≡ m')
same_joint {h} {h'} {g} {g'} {m} {m'} e =
    let j : ◌≡◌ {A = Joint} (record { first = h; second = g; labels = m }) (record { first = h'; second = g'; labels = m' }) = cc in
    (ap (λ (x : Joint). x.first) j, ap (λ (x : Joint). x.second) j, ap (λ (x : Joint). x.labels) j)

-- a refusal says nothing of the list
pub unmatched : {first second to : List ℕ} {r : Refusal} {both : (Answer Joint)} → both ≡ Err r → length to ≡ 65 → Matched first second both to
unmatched {first} {second} {to} {r} e l = record { long = l; matches = λ h g m f. absurd (apart (sym e ∙ f)) }
  where
    apart : {h g : Header} {m : ℕ} → Err r ≡ joint_of h g m → ⊥
    apart f = let z : ◌≡◌ {A = ℕ} 1 0 = cc in omega (arith, z)

-- where both sheets are read, it is what the labels say
pub matched : {first second to : List ℕ} (h g : Header) (m : ℕ) {both : (Answer Joint)} → checked (joint_rules h g m) Err (joint_of h g m) ≡ both
    → Matches (labels_in first h) (labels_in second g) g.actions to → Matched first second both to
matched {first} {second} {to} h g m e k = record { long = k.long; matches = λ h' g' m' f. by h' g' m' (finding (joint_rules h g m)) (e ∙ f) }
  where
    by : (h' g' : Header) (m' : ℕ) → (broken (joint_rules h g m) ≡ Nothing) ⊎ ((r : Refusal) × (broken (joint_rules h g m) ≡ First r))
        → checked (joint_rules h g m) Err (joint_of h g m) ≡ joint_of h' g' m' → Matches (labels_in first h') (labels_in second g') g'.actions to
    by h' g' m' (inl p) f =
        let c = sym (passes (joint_rules h g m) Err (joint_of h g m) p) ∙ f in
        let s = same_joint c in
        subst₂ (λ (x y : Header). Matches (labels_in first x) (labels_in second y) y.actions to) s.0 s.1 k
    by h' g' m' (inr q) f =
        let c = sym (refuses (joint_rules h g m) Err (joint_of h g m) q.1) ∙ f in
        let z : ◌≡◌ {A = ℕ} 1 0 = cc in
        omega (arith, z)

-- ## The joined flow of two sheets that are read, with m joined labels
module _ (h g : Header) (m : ℕ) where
  -- the code's test of the size
  abbrev small : Bool
  small = leb (h.states + g.states) 256 && leb (h.transitions + g.transitions) 1024

  abbrev pub joint : (Answer Joint)
  joint = checked (joint_rules h g m) Err (joint_of h g m)

  pub too_large : not small ≡ true → Err TooLarge ≡ joint
  unfolding joint_rules fits
  too_large t = sym (refuses _ Err (joint_of h g m) (stop small TooLarge _ refl refl t))

  pub too_many : not small ≡ false → 64 < m → Err TooManyLabels ≡ joint
  unfolding joint_rules fits
  too_many t l = sym (refuses _ Err (joint_of h g m) (stop _ TooManyLabels [] (pass small TooLarge _ refl refl t) (sym (lt-leb m 64 l)) refl))

  pub well-joined : not small ≡ false → m ≤ 64 → joint_of h g m ≡ joint
  unfolding joint_rules fits
  well-joined t l = sym (passes _ Err (joint_of h g m) (done (pass _ TooManyLabels [] (pass small TooLarge _ refl refl t) (sym (le-leb m 64 l)) refl)))

-- ## The second sheet, after a first one with header h
module _ (first : List ℕ) (h : Header) (second : List ℕ) where
  pub second-unread : {r : Refusal} → read_encoding second ≡ Err r → Err r ≡ read_second first h second
  unfolding read_second
  second-unread e = sym (refuses _ Err _ (first_part (sheet_rules second) _ (sheet-broken second e)))

  pub second-read : {g : Header} {m : ℕ} → read_encoding second ≡ Ok g → m ≡ length (joint_labels first h second g) → joint h g m ≡ read_second first h second
  unfolding read_second
  second-read e c = let k = sheet-kept second e in rw (c, k.1) (sym (second-checked (sheet_rules second) _ Err _ k.0))

-- ## (Answer Joint) sheets
module _ (first second : List ℕ) where
  abbrev one : Header
  one = header_of first

  abbrev two : Header
  two = header_of second

  -- the rules as the code goes through them
  parts : both_rules first second ≡ sheet_rules first ++ (sheet_rules second ++ joint_rules one two (length (joint_labels first one second two)))
  unfolding both_rules
  parts = append_assoc (sheet_rules first) (sheet_rules second) _

  abbrev both : (Answer Joint)
  both = joint_of one two (length (joint_labels first one second two))

  pub first-unread : {r : Refusal} → read_encoding first ≡ Err r → Err r ≡ read_both first second
  unfolding read_both
  first-unread e = sym (refuses _ Err both (rw parts (first_part (sheet_rules first) _ (sheet-broken first e))))

  pub first_read : {h : Header} → read_encoding first ≡ Ok h → read_second first h second ≡ read_both first second
  unfolding read_both read_second
  first_read e = let k = sheet-kept first e in rw (parts, k.1) (sym (second-checked (sheet_rules first) _ Err both k.0))

  -- what a caller learns
  both-refused : {r : Refusal} → broken (both_rules first second) ≡ First r → read_both first second ≡ Err r
  unfolding read_both
  both-refused e = refuses (both_rules first second) Err both e

  both-passed : broken (both_rules first second) ≡ Nothing → read_both first second ≡ both
  unfolding read_both
  both-passed e = passes (both_rules first second) Err both e

  pub both-broken : {r : Refusal} → read_both first second ≡ Err r → broken (both_rules first second) ≡ First r
  both-broken {r} e = ⊎_elim (λ p. let f = both-passed p in cc)
      (λ q. let f = both-refused q.1 in let z : q.0 ≡ r = cc in q.1 ∙ ap First z) (finding (both_rules first second))

  pub both_read : {h g : Header} {m : ℕ} → read_both first second ≡ joint_of h g m
      → (broken (both_rules first second) ≡ Nothing) × (h ≡ one) × (g ≡ two) × (m ≡ length (joint_labels first one second two))
  both_read e = ⊎_elim (λ p. let s = same_joint (sym e ∙ both-passed p) in (p, s.0, s.1, s.2)) (λ q. let f = both-refused q.1 in (cc, cc, cc, cc)) (finding (both_rules first second))

  pub both-joinable : broken (both_rules first second) ≡ Nothing → Joinable first one second two (length (joint_labels first one second two))
  unfolding both_rules joint_rules fits
  both-joinable e =
      let sheets = both-kept (sheet_rules first ++ sheet_rules second) _ e in
      let each = both-kept (sheet_rules first) (sheet_rules second) sheets.0 in
      let size = kept (fits one two) TooLarge _ sheets.1 in
      let sum = simp and-eq-true_iff at size.0 in
      record {
        one = kept-readable first each.0;
        two = kept-readable second each.1;
        states = leb-true _ _ sum.0;
        transitions = leb-true _ _ sum.1;
        count = refl;
        labels = leb-true _ _ (kept _ TooManyLabels [] size.1).0;
      }

  pub joinable : {h g : Header} {m : ℕ} → read_both first second ≡ joint_of h g m → Joinable first h second g m
  joinable e = let k = both_read e in rw (k.3, k.1, k.2) (both-joinable k.0)
