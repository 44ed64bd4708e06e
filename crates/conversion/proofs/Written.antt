-- What is written of a sheet in the wanted kind: the front, then the records.
use Prim.Native.Nat.{ℕ, ◌+◌, ◌*◌, ◌-◌, ◌≤◌}
use native.Mathlib.Omega.{arith}
use mathlib.Core.Path.{◌≡◌, sym, ap, ap₂, ◌∙◌}
use mathlib.Core.Bool.{Bool, true, false}
use mathlib.Core.List.{List, ◌++◌, append-nil}
use lib.ListN.{length, take, drop}
use lib.Seq.{sets, sets-eq, length-sets, take-append_seam}
use Rattle.lts.proofs.Lists.{sets-append}
use Rattle.encoding.specs.declared.Header.{Header}
use Rattle.encoding.specs.Records.{header_bytes, of_kind, state_at, encoding_length, system_records}
use Rattle.encoding.specs.Labels.{labels_in, labels_bytes, records_of}
use Rattle.encoding.specs.Checked.{Sized, ReadableAs}
use Rattle.encoding.proofs.Sizes.{labels-all}
use Rattle.encoding.proofs.Parts.{header-length}
use Rattle.conversion.specs.Conversion.{in_kind}
use Rattle.conversion.proofs.InKind.{front, front_length}

module _ (s : List ℕ) (h : Header) (out : List ℕ) {named : Bool} {g : Header} (q : g ≡ of_kind named h) where
  -- the header alone, and the header and then the names
  pub plain-front : {now : List ℕ} → named ≡ false → now ≡ sets out 0 (header_bytes g) → now ≡ sets out 0 (front named s h)
  unfolding records_of
  plain-front e w = w ∙ rw (q, e) (ap (sets out 0) (sym (append-nil (header_bytes (of_kind false h)))))

  pub named-front : {next now : List ℕ} → named ≡ true → next ≡ sets out 0 (header_bytes g)
      → now ≡ sets next 6 (labels_bytes (labels_in s h)) → now ≡ sets out 0 (front named s h)
  unfolding records_of
  named-front e v w =
      w ∙ ap (λ (l : List ℕ). sets l 6 (labels_bytes (labels_in s h))) v ∙ rw (q, e, sets-append, header-length (of_kind true h))

-- there is room for the names
pub names-room : (h : Header) (n : ℕ) {named : Bool} → named ≡ true → state_at (of_kind named h) 0 ≤ n → 6 + 16 * h.actions ≤ n
names-room h n {named} e l = let all = labels-all (of_kind named h) e in omega (arith, all, l)

-- the records' size, and the place that they come to
module _ {s : List ℕ} {h : Header} (sized : Sized s h) where
  pub records-room : (named : Bool) (out : List ℕ) → length out ≡ encoding_length (of_kind named h) → length s - state_at h 0 ≤ length out
  records-room named out e = let l = sized.long in omega (arith, l, e)

  from_back : length s - (length s - state_at h 0) ≡ state_at h 0
  from_back = let l = sized.long in omega (arith, l)

  place-back : (named : Bool) (n : ℕ) → n ≡ encoding_length (of_kind named h) → n - (length s - state_at h 0) ≡ state_at (of_kind named h) 0
  place-back named n e = let l = sized.long in omega (arith, l, e)

module _ {s : List ℕ} {h : Header} (named : Bool) (g : ReadableAs s h) (out : List ℕ) (long : length out ≡ encoding_length (of_kind named h)) where
  -- the front of a buffer into which it was written
  front-written : take (state_at (of_kind named h) 0) (sets out 0 (front named s h)) ≡ front named s h
  front-written =
      let n = front_length named s h in
      ap₂ take (sym n) (sets-eq (front named s h) out 0 (omega (arith, n, long))) ∙ take-append_seam (front named s h) _

  -- the records of the sheet were copied behind it
  pub converts : {next now : List ℕ} {at : ℕ} → at ≡ state_at h 0 → next ≡ sets out 0 (front named s h)
      → now ≡ take (length next - (length s - at)) next ++ drop (length s - (length s - at)) s → now ≡ in_kind named s
  unfolding in_kind system_records
  converts {next} q e w =
      let size : length next ≡ encoding_length (of_kind named h) = ap length e ∙ length-sets out 0 (front named s h) ∙ long in
      w
      ∙ ap (λ (x : ℕ). take (length next - (length s - x)) next ++ drop (length s - (length s - x)) s) q
      ∙ ap₂ (λ (i j : ℕ). take i next ++ drop j s) (place-back g.recorded.sized named (length next) size) (from_back g.recorded.sized)
      ∙ ap (λ (l : List ℕ). take (state_at (of_kind named h) 0) l ++ drop (state_at h 0) s) e
      ∙ ap (λ (l : List ℕ). l ++ drop (state_at h 0) s) front-written
      ∙ ap (λ (x : Header). front named s x ++ system_records s x) g.header
