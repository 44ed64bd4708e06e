-- Document 01's lines of F3, computed.
use mathlib.Core.Path.{◌≡◌, refl}
use mathlib.Core.List.{[], ◌∷◌}
use lib.Dec.{eqb}
use mathlib.Core.Bool.{not}
use Rattle.lts.specs.Bounded.{concat_below}
use Rattle.report.specs.Decimal.{decimal_in, decimal}
use Rattle.lines.specs.Lines.{head_line, related_text, state_line, refused_line}

-- "0 0 0 2"
state-case : state_line 3 (λ p q. not (eqb q 1)) 0 0 ≡ 48 ∷ 32 ∷ 48 ∷ 32 ∷ 48 ∷ 32 ∷ 50 ∷ 10 ∷ []
unfolding state_line related_text concat_below decimal decimal_in
state-case = refl

-- "refused 15"
refused-case : refused_line 15 ≡ 114 ∷ 101 ∷ 102 ∷ 117 ∷ 115 ∷ 101 ∷ 100 ∷ 32 ∷ 49 ∷ 53 ∷ 10 ∷ []
unfolding refused_line decimal decimal_in
refused-case = refl

-- "pages 3 turns 2 kept 6 classes 3"
head-case : head_line 3 2 6 3 ≡ 112 ∷ 97 ∷ 103 ∷ 101 ∷ 115 ∷ 32 ∷ 51 ∷ 32 ∷ 116 ∷ 117 ∷ 114 ∷ 110 ∷ 115 ∷ 32 ∷ 50 ∷ 32 ∷ 107 ∷ 101 ∷ 112 ∷ 116 ∷ 32 ∷ 54 ∷ 32 ∷ 99 ∷ 108 ∷ 97 ∷ 115 ∷ 115 ∷ 101 ∷ 115 ∷ 32 ∷ 51 ∷ 10 ∷ []
unfolding head_line decimal decimal_in
head-case = refl
