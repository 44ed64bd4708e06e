-- The labels that a sheet can hold: their records, and those of a readable sheet.
use Prim.Native.Nat.{ℕ, ◌+◌, ◌*◌, ◌≤◌, ◌<◌}
use mathlib.Core.Path.{◌≡◌, refl, sym, ap, ◌∙◌, subst}
use mathlib.Core.Logic.{⊎_elim}
use mathlib.Core.Bool.{Bool, true, false, cond}
use mathlib.Core.List.{List, []}
use native.Mathlib.Omega.{arith}
use lib.ListN.{length, get_or}
use Rattle.lts.specs.Bounded.{concat_below}
use Rattle.lts.specs.System.{Lts}
use Rattle.lts.proofs.Below.{lt-or-ge, true-T}
use Rattle.lts.proofs.Lists.{Every, every_of, concat-keeps}
use Rattle.encoding.specs.declared.Header.{Header}
use Rattle.encoding.specs.Records.{labels_length, label_records, encoding_length}
use Rattle.encoding.specs.Labels.{label_fits, labels_in, Labelling, labelling_of, labels_bytes, records_of}
use Rattle.encoding.specs.Checked.{ReadableAs}
use Rattle.encoding.proofs.Labels.{labels_length_lem, labels_at, label-fits-iff}
use Rattle.encoding.proofs.Bytes.{Sixteen, label-sixteen, bytes-length, bytes-at}
use Rattle.encoding.proofs.Parts.{own-records}
use Rattle.encoding.proofs.Laws.{plain-labels, label-fits-each, sheet-labels}
use Rattle.normal_form.specs.Normal.{normal_header, normal}
use Rattle.normal_form.specs.NormalForm.{Labelled}
use Rattle.normal_form.proofs.Bytes.{Small, sheet-long}

-- ## Their records
-- a label is a sequence of bytes
label_small : (x : List ℕ) → length x ≡ 16 → label_fits x ≡ true → Every Small x
unfolding Small
label_small x long fits =
    let is = (label-fits-iff x long).0 (true-T (label_fits x) fits) in
    every_of (λ b. b < 256) 0 x
    (λ d l. ⊎_elim (λ (k : d < is.size). omega (arith, (is.name d k).1)) (λ (k : is.size ≤ d). omega (arith, is.zeros d k)) (lt-or-ge d is.size))

module _ (K : Labelling) (m : ℕ) (k : Labelled K m) where
  abbrev each : ℕ → List ℕ
  each i = get_or K.labels i []

  sixteen : Sixteen K.labels
  sixteen i l = k.long i (omega (arith, l, k.count))

  -- byte d of label record i, from 0, of a named sheet
  pub label-byte : K.named ≡ true → (i d : ℕ) → i < m → d < 16 → get_or (records_of K) (16 * i + d) 0 ≡ get_or (get_or K.labels i []) d 0
  unfolding records_of
  label-byte n i d l u = rw n (bytes-at K.labels sixteen i d (omega (arith, l, k.count)) u)

  pub records-small : Every Small (records_of K)
  unfolding records_of labels_bytes
  records-small = go K.named
    where
      go : (b : Bool) → Every Small (cond b (concat_below (length K.labels) each) [])
      go true = rw k.count (concat-keeps each Small m (λ i l. label_small (each i) (k.long i l) (k.fit i l)))
      go false = tt

  pub records-length : (h : Header) → h.named ≡ K.named → h.actions ≡ m → length (records_of K) ≡ labels_length h
  unfolding records_of labels_length
  records-length h e f = rw (e, f) (go K.named)
    where
      go : (b : Bool) → length (cond b (labels_bytes K.labels) []) ≡ cond b (16 * m) 0
      go true = rw (← k.count) (bytes-length K.labels sixteen)
      go false = refl

pub normal-length : (K : Labelling) (L : Lts) → Labelled K L.actions → length (normal K L) ≡ encoding_length (normal_header K.named L)
unfolding normal
normal-length K L k = sheet-long K.named (records_of K) L (records-length K L.actions k (normal_header K.named L) refl refl)

-- ## The labels of a readable sheet
module _ (s : List ℕ) (h : Header) (g : ReadableAs s h) where
  labels-held : Labelled (record { named = h.named; labels = labels_in s h }) h.actions
  labels-held = record {
    count = labels_length_lem s h;
    plain = plain-labels s h;
    long = λ i l. label-sixteen s h i (omega (arith, l, labels_length_lem s h));
    fit = λ i l. rw (labels_at s h i l) (label-fits-each s h g.recorded.sized.bounds g.labels i l);
    once = (sheet-labels s h g).once;
  }

  pub sheet-labelled : Labelled (labelling_of s) h.actions
  sheet-labelled =
      subst (λ (x : Header). Labelled (record { named = x.named; labels = labels_in s x }) h.actions) g.header labels-held

-- the label records of a readable sheet are those of its labels
pub sheet-records : (s : List ℕ) (h : Header) → ReadableAs s h → records_of (labelling_of s) ≡ label_records s h
sheet-records s h g =
    ap (λ (x : Header). records_of (record { named = x.named; labels = labels_in s x })) (sym g.header) ∙ own-records s h g.recorded.sized
