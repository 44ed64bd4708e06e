-- The lines that the program flowcheck prints (document 01, "Flows on each side"), as lists of bytes.
use Rattle.std.specs.Prelude.{ℕ, cond, List, [], ◌∷◌, ◌++◌, get_or}
use Rattle.lts.specs.Bounded.{concat_below}
use Rattle.lts.specs.System.{Rel}
use Rattle.report.specs.Decimal.{decimal}

-- The words of the lines, with the blanks around them, in ASCII.
abbrev pub blank : List ℕ
blank = 32 ∷ []

abbrev pub line_feed : List ℕ
line_feed = 10 ∷ []

-- "pages "
abbrev pub pages : List ℕ
pages = 112 ∷ 97 ∷ 103 ∷ 101 ∷ 115 ∷ 32 ∷ []

-- " turns "
abbrev pub turns : List ℕ
turns = 32 ∷ 116 ∷ 117 ∷ 114 ∷ 110 ∷ 115 ∷ 32 ∷ []

-- " kept "
abbrev pub kept : List ℕ
kept = 32 ∷ 107 ∷ 101 ∷ 112 ∷ 116 ∷ 32 ∷ []

-- " classes "
abbrev pub classes : List ℕ
classes = 32 ∷ 99 ∷ 108 ∷ 97 ∷ 115 ∷ 115 ∷ 101 ∷ 115 ∷ 32 ∷ []

-- "refused "
abbrev pub refused : List ℕ
refused = 114 ∷ 101 ∷ 102 ∷ 117 ∷ 115 ∷ 101 ∷ 100 ∷ 32 ∷ []

-- the first line: the states, the steps (turns), the related (kept) pairs and the blocks (classes)
unfoldable pub head_line : ℕ → ℕ → ℕ → ℕ → List ℕ
head_line n steps pairs blocks =
    (pages ++ decimal n) ++ (turns ++ decimal steps) ++ (kept ++ decimal pairs) ++ (classes ++ decimal blocks) ++ line_feed

-- a blank and q, where p is related to q
unfoldable pub related_text : Rel → ℕ → ℕ → List ℕ
related_text R p q = cond (R p q) (blank ++ decimal q) []

-- the line of state p: p, its block's name, and the states below n that p is related to, ascending
unfoldable pub state_line : ℕ → Rel → ℕ → ℕ → List ℕ
state_line n R name p = decimal p ++ (blank ++ decimal name) ++ concat_below n (related_text R p) ++ line_feed

-- the lines of all states below n, ascending, each with its block's name
unfoldable pub states_text : ℕ → Rel → List ℕ → List ℕ
states_text n R representatives = concat_below n (λ p. state_line n R (get_or representatives p 0) p)

-- the line of a refusal
unfoldable pub refused_line : ℕ → List ℕ
refused_line number = (refused ++ decimal number) ++ line_feed
