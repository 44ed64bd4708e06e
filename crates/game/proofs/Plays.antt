-- The game on a readable encoding is the game on its loaded table, and what hand play answers by what its tests say.
use Prim.Native.Nat.{ℕ, ◌<◌, ◌≤◌}
use mathlib.Core.Path.{◌≡◌, refl, sym, ap₂, ◌∙◌}
use mathlib.Core.Bool.{Bool}
use mathlib.Core.List.{List, [], ◌∷◌}
use lib.Dec.{leb}
use borrow.Author.Tests.{le-leb, lt-leb}
use Rattle.lts.specs.System.{Lts}
use Rattle.lts.specs.Game.{challenger_wins}
use Rattle.lts.specs.declared.Refusal.{Refusal}
use Rattle.lts.specs.declared.Refusal.TheVariants.{TooManyRounds}
use Rattle.lts.specs.Rule.{◌otherwise◌, First, broken, Answer}
use Rattle.lts.proofs.Rule.{stop, pass, done, first_part, second-part, refuses, passes, passed_on}
use Rattle.encoding.specs.declared.Header.{Header}
use Rattle.encoding.specs.Denotation.{lts_of}
use Rattle.encoding.specs.Checked.{ReadableAs}
use Rattle.transitions.specs.Table.{Holds}
use Rattle.transitions.proofs.Filled.{sheet-states}
use Rattle.relation.specs.Matrix.{Matrix, relation_of}
use Rattle.inputs.specs.Inputs.{read_pair, Ready}
use Rattle.inputs.proofs.Laws.{kept-ready, pair-broken, pair-kept, pair-inputs, pair-states}
use Rattle.game.specs.Memo.{wins, Playable}
use Rattle.game.specs.Play.{play_reply, play_rules, play_call, PlayPromise}
use Rattle.game.proofs.Promise.{promised}
use Rattle.std.specs.Prelude.{Ok, Err, IsErrAnd}

-- ## The loaded table
module _ (s : List ℕ) (h : Header) (g : ReadableAs s h) {t : List ℕ} (k : Holds (lts_of s) t) where
  pub loaded-playable : (start : List ℕ) → Matrix h.states start → Playable t start
  loaded-playable start m = record { table = k.formed; matrix = rw (sheet-states s h g k) m }

  pub wins-loaded : (start : List ℕ) (rounds p q : ℕ) → wins t start rounds p q ≡ challenger_wins (lts_of s) (relation_of h.states start) rounds p q
  wins-loaded start rounds p q = ap₂ (λ (L : Lts) (n : ℕ). challenger_wins L (relation_of n start) rounds p q) k.same (sheet-states s h g k)

-- ## What hand play answers, by its tests
-- what `hand_play` says of its answer
abbrev Meets : List ℕ → List ℕ → ℕ → ℕ → ℕ → Answer Bool → Type 0
Meets s start p q rounds r = (play_call s start p q rounds ≡ play_reply r) × PlayPromise s start p q rounds (play_reply r)

-- what is known of inputs and a pair that were read
pub playable : (s start : List ℕ) (p q : ℕ) {h : Header} → read_pair s start p q ≡ Ok h → Ready s h start × (p < h.states) × (q < h.states)
playable s start p q e =
    let k = pair-kept s start p q e in
    let b = pair-states s start p q k.1 k.0 in
    (kept-ready s start k.1 (pair-inputs s start p q k.0), b.0, b.1)

module _ (s start : List ℕ) (p q rounds : ℕ) where
  meets : (r : Answer Bool) → play_call s start p q rounds ≡ play_reply r → Meets s start p q rounds r
  meets r e = (e, promised s start p q rounds e)

  refusing : {r : Refusal} → broken (play_rules s start p q rounds) ≡ First r → Meets s start p q rounds (Err r)
  unfolding play_call play_reply
  refusing {r} e = meets (Err r) (refuses (play_rules s start p q rounds) _ _ e)

  -- the refusal of the inputs is passed on as x
  pub unread : (x : Answer Bool) {r : Refusal} → read_pair s start p q ≡ Err r → IsErrAnd x (λ q. q ≡ r) → Meets s start p q rounds x
  unfolding play_rules
  unread x e k = rw (passed_on x k) (refusing (first_part _ _ (pair-broken s start p q e)))

  module _ {h : Header} (e : read_pair s start p q ≡ Ok h) where
    left : broken (play_rules s start p q rounds) ≡ broken (leb rounds 6 otherwise TooManyRounds ∷ [])
    unfolding play_rules
    left = second-part _ _ (pair-kept s start p q e).0

    pub too_many : 6 < rounds → Meets s start p q rounds (Err TooManyRounds)
    too_many l = refusing (stop _ _ _ left (sym (lt-leb rounds 6 l)) refl)

    pub played : rounds ≤ 6 → (b : Bool) → b ≡ challenger_wins (lts_of s) (relation_of h.states start) rounds p q → Meets s start p q rounds (Ok b)
    unfolding play_call play_reply
    played l b w =
        let kept = done (pass _ _ _ left (sym (le-leb rounds 6 l)) refl) in
        meets (Ok b) (passes _ _ _ kept ∙ rw (← (pair-kept s start p q e).1, ← w))
