-- Laws of the bytes of a normal form: their lengths.
use Prim.Native.Nat.{ℕ, suc, ◌*◌, ◌<◌}
use mathlib.Core.Path.{◌≡◌, refl}
use mathlib.Core.Bool.{Bool, true, false, cond}
use mathlib.Core.List.{List, [], ◌∷◌}
use native.Mathlib.Omega.{arith}
use lib.ListN.{length, length-append}
use Rattle.lts.proofs.Lists.{concat-each}
use Rattle.lts.specs.System.{Lts}
use Rattle.lts.specs.Transitions.{Transition, transitions}
use Rattle.encoding.specs.declared.TransitionRecord.{TransitionRecord}
use Rattle.encoding.specs.Records.{two, state_bytes, transition_bytes, labels_length, encoding_length}
use Rattle.encoding.proofs.Parts.{header-length}
use Rattle.normal_form.specs.Normal.{normal_header, normal_state, states_bytes, transitions_bytes, sheet_bytes}

-- ## Lengths
pub record-length : (r : TransitionRecord) → length (transition_bytes r) ≡ 6
unfolding transition_bytes two
record-length r = refl

pub transitions-length : (i : ℕ) (l : List Transition) → length (transitions_bytes i l) ≡ 6 * length l
unfolding transitions_bytes
transitions-length i [] = refl
transitions-length i (x ∷ l) = rw (length-append, record-length, transitions-length (suc i) l) (omega arith)

pub states-length : (L : Lts) (n : ℕ) → length (states_bytes L n) ≡ 4 * n
unfolding states_bytes state_bytes two
states-length L n = concat-each (λ p. state_bytes (normal_state L p)) 4 n (λ p l. refl)

-- with the bytes of all label records
pub sheet-long : (named : Bool) (labels : List ℕ) (L : Lts) → length labels ≡ labels_length (normal_header named L)
    → length (sheet_bytes named labels L) ≡ encoding_length (normal_header named L)
unfolding sheet_bytes
sheet-long named labels L e =
    let p = states-length L L.states in
    let q = transitions-length 1 (transitions L) in
    rw (length-append, length-append, length-append, header-length) (omega (arith, e, p, q))

-- ## Bytes
unfoldable pub Small : ℕ → Type 0
Small x = x < 256

-- an end mark is a byte
pub mark-small : (b : Bool) → cond b 1 0 < 256
mark-small true = omega arith
mark-small false = omega arith
