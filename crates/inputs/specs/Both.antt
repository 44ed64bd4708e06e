-- The inputs of the calls that join two sheets: both sheets, and the joined flow (document 01, "Hand play and comparison"; document 02, L2).
use Rattle.std.specs.Prelude.{ℕ, ◌+◌, ◌≤◌, ◌≡◌, Bool, ◌&&◌, List, [], ◌∷◌, ◌++◌, leb, length, Ok, Err}
use Rattle.lts.specs.System.{Lts}
use Rattle.lts.specs.Labels.{joined_labels, joined_second}
use Rattle.lts.specs.Union.{disjoint_union}
use Rattle.lts.specs.declared.Refusal.TheVariants.{TooLarge, TooManyLabels}
use Rattle.lts.specs.Rule.{Rule, ◌otherwise◌, checked, Answer}
use Rattle.encoding.specs.declared.Header.{Header}
use Rattle.encoding.specs.Records.{header_of}
use Rattle.encoding.specs.Labels.{labels_in, labels_of}
use Rattle.encoding.specs.Encoding.{sheet_rules}
use Rattle.encoding.specs.Denotation.{lts_of}
use Rattle.encoding.specs.Checked.{ReadableAs}
use Rattle.labels.specs.Maps.{Matches}
use Rattle.inputs.specs.declared.Joint.{Joint}

-- what reading two sheets answers: their headers, and the number of their joined labels
abbrev pub joint_of : Header → Header → ℕ → Answer Joint
joint_of h g m = Ok (record { first = h; second = g; labels = m })

-- the joined labels of two sheets, by their headers
abbrev pub joint_labels : List ℕ → Header → List ℕ → Header → List (List ℕ)
joint_labels first h second g = joined_labels (labels_in first h) (labels_in second g)

-- the second sheet's flow with its actions matched by name: they have the numbers of the joined labels; and the joined flow
abbrev pub matched_lts : List ℕ → List ℕ → Lts
matched_lts first second = joined_second (labels_of first) (labels_of second) (lts_of second)

abbrev pub joined_lts : List ℕ → List ℕ → Lts
joined_lts first second = disjoint_union (lts_of first) (matched_lts first second)

-- the joined flow has at most 256 states and 1,024 transitions (7), and at most 64 labels (18)
unfoldable pub fits : Header → Header → Bool
fits h g = leb (h.states + g.states) 256 && leb (h.transitions + g.transitions) 1024

unfoldable pub joint_rules : Header → Header → ℕ → List Rule
joint_rules h g m = fits h g otherwise TooLarge ∷ leb m 64 otherwise TooManyLabels ∷ []

-- the first sheet (1 to 6, 16, 17), then the second, then the joined flow
unfoldable pub both_rules : List ℕ → List ℕ → List Rule
both_rules first second =
    let h = header_of first in
    let g = header_of second in
    sheet_rules first ++ sheet_rules second ++ joint_rules h g (length (joint_labels first h second g))

unfoldable pub read_both : List ℕ → List ℕ → Answer Joint
read_both first second =
    let h = header_of first in
    let g = header_of second in
    checked (both_rules first second) Err (joint_of h g (length (joint_labels first h second g)))

-- what is left to check once the first sheet is read, with header h
unfoldable pub read_second : List ℕ → Header → List ℕ → Answer Joint
read_second first h second =
    let g = header_of second in
    let m = length (joint_labels first h second g) in
    checked (sheet_rules second ++ joint_rules h g m) Err (joint_of h g m)

-- where both sheets keep the rules, the list has the second's actions by the joined labels
pub record Matched (first second : List ℕ) (both : Answer Joint) (to : List ℕ) : Type 0 where
  pub long : length to ≡ 65
  pub matches : (h g : Header) (m : ℕ) → both ≡ joint_of h g m → Matches (labels_in first h) (labels_in second g) g.actions to

-- what a caller has of two sheets that keep the rules
pub record Joinable (first : List ℕ) (h : Header) (second : List ℕ) (g : Header) (m : ℕ) : Type 0 where
  pub one : ReadableAs first h
  pub two : ReadableAs second g
  pub states : h.states + g.states ≤ 256
  pub transitions : h.transitions + g.transitions ≤ 1024
  pub count : m ≡ length (joint_labels first h second g)
  pub labels : m ≤ 64
