-- A plain sheet and the named sheet with decimal names of the same records have one text (document 02, L2).
use Prim.Native.Nat.{ℕ}
use mathlib.Core.Path.{◌≡◌, ap}
use mathlib.Core.List.{List}
use Rattle.lts.specs.Refusal.{refusal_number}
use Rattle.encoding.specs.Encoding.{sheet_rules}
use Rattle.encoding.proofs.Twins.{Twins, twin-lts, twin-broken}
use Rattle.inputs.proofs.Twins.{checked-same}
use Rattle.lines.specs.Lines.{refused_line}
use Rattle.listing.specs.Text.{system_text, flow_text}

pub text_same : {s t : List ℕ} → Twins s t → flow_text s ≡ flow_text t
unfolding flow_text
text_same {s} {t} w = checked-same (sheet_rules s) (sheet_rules t) (λ r. refused_line (refusal_number r)) (twin-broken w) (ap system_text (twin-lts w))
