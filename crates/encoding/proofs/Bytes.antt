-- The bytes of labels, one after the other: none, one more, their length, and each byte.
use Prim.Native.Nat.{ℕ, suc, ◌+◌, ◌*◌, ◌<◌}
use native.Mathlib.Numerals.{add-one}
use native.Mathlib.Omega.{arith}
use mathlib.Core.Path.{◌≡◌, refl, ap, ap₂, ◌∙◌}
use mathlib.Core.List.{List, [], ◌∷◌, ◌++◌}
use lib.ListN.{length, get_or, length-append, get_or-append}
use lib.Seq.{get_or-append_seam}
use Rattle.lts.specs.Bounded.{concat_below}
use Rattle.lts.proofs.Lists.{concat-same, concat-each, concat-at}
use Rattle.encoding.specs.declared.Header.{Header}
use Rattle.encoding.specs.Labels.{labels_in, labels_bytes}
use Rattle.encoding.proofs.Labels.{label-length, labels_length_lem, labels_at}

-- each label has 16 bytes
abbrev pub Sixteen : List (List ℕ) → Type 0
Sixteen J = (i : ℕ) → i < length J → length (get_or J i []) ≡ 16

-- those of a sheet do
pub label-sixteen : (s : List ℕ) (h : Header) → Sixteen (labels_in s h)
label-sixteen s h i l =
    let n = labels_length_lem s h in
    ap (λ (x : List ℕ). length x) (labels_at s h i (omega (arith, l, n))) ∙ label-length s h (suc i)

pub bytes-none : labels_bytes [] ≡ []
unfolding labels_bytes concat_below
bytes-none = refl

pub bytes-more : (J : List (List ℕ)) (x : List ℕ) → labels_bytes (J ++ (x ∷ [])) ≡ labels_bytes J ++ x
unfolding labels_bytes concat_below
bytes-more J x =
    let n : length (J ++ (x ∷ [])) ≡ suc (length J) = length-append J (x ∷ []) ∙ add-one (length J) in
    ap (λ (k : ℕ). concat_below k (λ i. get_or (J ++ (x ∷ [])) i [])) n
    ∙ ap₂ ◌++◌ (concat-same (length J) _ _ (λ i l. get_or-append J (x ∷ []) [] i l)) (get_or-append_seam J x [] [])

pub bytes-length : (J : List (List ℕ)) → Sixteen J → length (labels_bytes J) ≡ 16 * length J
unfolding labels_bytes
bytes-length J each = concat-each (λ i. get_or J i []) 16 (length J) each

-- byte d of label i, from 0
pub bytes-at : (J : List (List ℕ)) → Sixteen J → (i d : ℕ) → i < length J → d < 16 → get_or (labels_bytes J) (16 * i + d) 0 ≡ get_or (get_or J i []) d 0
unfolding labels_bytes
bytes-at J each i d l u =
    let n = concat-each (λ j. get_or J j []) 16 i (λ j k. each j (omega (arith, k, l))) in
    rw (← n) (concat-at (λ j. get_or J j []) 0 (length J) i d l (omega (arith, u, each i l)))
