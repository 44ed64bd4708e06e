-- The labels (names) of a sheet's actions, and the rule for them (document 02, L2). A label is a list of 16 bytes: the name, then zeros.
use Rattle.std.specs.Prelude.{ℕ, suc, ◌+◌, ◌≤◌, ◌<◌, ◌≡◌, Bool, cond, not, ◌&&◌, ◌||◌, List, [], leb, eqb, length, get_or}
use Rattle.lts.specs.Bounded.{all_below, concat_below, list_below}
use Rattle.lts.specs.Places.{distinct}
use Rattle.lts.specs.Labels.{same_label}
use Rattle.report.specs.Decimal.{decimal}
use Rattle.encoding.specs.declared.Header.{Header}
use Rattle.encoding.specs.Records.{header_of, label_record}

-- a byte of a name is from hexadecimal 21 to 7E
unfoldable pub visible : ℕ → Bool
visible x = leb 33 x && leb x 126

-- y may stand behind x in a label: it is zero, or both are bytes of the name
unfoldable pub follows : ℕ → ℕ → Bool
follows x y = eqb y 0 || visible x && visible y

-- rule 17, of one label: 1 to 16 bytes of a name, then zeros
unfoldable pub label_fits : List ℕ → Bool
label_fits x = visible (get_or x 0 0) && all_below 15 (λ d. follows (get_or x d 0) (get_or x (d + 1) 0))

-- a text and then zeros, 16 bytes in all
unfoldable pub padded : List ℕ → List ℕ
padded text = list_below 16 (λ d. get_or text d 0)

-- action a's name in a plain sheet: its decimal digits
unfoldable pub decimal_label : ℕ → List ℕ
decimal_label a = padded (decimal a)

-- the names of a plain sheet of m actions, in order
abbrev pub decimal_labels : ℕ → List (List ℕ)
decimal_labels m = list_below m (λ i. decimal_label (suc i))

-- the label of action a, from 1, and the labels in order
unfoldable pub label_in : List ℕ → Header → ℕ → List ℕ
label_in s h a = cond h.named (label_record s h a).bytes (decimal_label a)

unfoldable pub labels_in : List ℕ → Header → List (List ℕ)
labels_in s h = list_below h.actions (λ i. label_in s h (suc i))

-- rule 17: a named sheet's labels each fit, and none stands twice
unfoldable pub labels_fit : List ℕ → Header → Bool
labels_fit s h = not h.named || all_below h.actions (λ i. label_fits (label_in s h (suc i))) && distinct same_label (labels_in s h)

-- the kind of a sheet, and its labels
pub record Labelling : Type 0 where
  pub named : Bool
  pub labels : List (List ℕ)

abbrev pub labels_of : List ℕ → List (List ℕ)
labels_of s = labels_in s (header_of s)

abbrev pub labelling_of : List ℕ → Labelling
labelling_of s = record { named = (header_of s).named; labels = labels_of s }

-- the labels one after the other
unfoldable pub labels_bytes : List (List ℕ) → List ℕ
labels_bytes labels = concat_below (length labels) (λ i. get_or labels i [])

-- the label records of a sheet: a plain one has none
unfoldable pub records_of : Labelling → List ℕ
records_of K = cond K.named (labels_bytes K.labels) []

-- x is a label in the document's words: a name of 1 to 16 bytes from hexadecimal 21 to 7E, then zeros
pub record IsLabel (x : List ℕ) : Type 0 where
  pub long : length x ≡ 16
  pub size : ℕ
  pub some : 1 ≤ size
  pub most : size ≤ 16
  pub name : (d : ℕ) → d < size → (33 ≤ get_or x d 0) × (get_or x d 0 ≤ 126)
  pub zeros : (d : ℕ) → size ≤ d → get_or x d 0 ≡ 0
