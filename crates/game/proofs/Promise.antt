-- What is promised of hand play's reply follows from the call's equation.
use Prim.Native.Nat.{ℕ}
use mathlib.Core.Path.{◌≡◌, refl}
use mathlib.Core.Logic.{◌↔◌}
use mathlib.Core.Bool.{not}
use mathlib.Core.List.{List, []}
use lib.Dec.{T}
use Rattle.lts.specs.Rule.{Nothing, broken, Reply}
use Rattle.lts.specs.Rounds.{round}
use Rattle.lts.specs.Game.{challenger_wins}
use Rattle.lts.proofs.Bounded.{not_iff}
use Rattle.lts.proofs.Game.{wins-iff}
use Rattle.lts.proofs.Rule.{both-kept, when-broken, when-kept, decided}
use Rattle.encoding.specs.Records.{header_of}
use Rattle.encoding.specs.Denotation.{lts_of}
use Rattle.encoding.proofs.Reader.{reads}
use Rattle.encoding.proofs.Laws.{denoted}
use Rattle.relation.specs.Matrix.{relation_of}
use Rattle.inputs.specs.Inputs.{pair_rules}
use Rattle.inputs.proofs.Laws.{kept-ready, pair-inputs, pair-states}
use Rattle.game.specs.Play.{play_rules, play_call, PlayPromise}

module _ (s start : List ℕ) (p q rounds : ℕ) where
  -- won exactly outside W(rounds)
  won-iff : broken (play_rules s start p q rounds) ≡ Nothing
      → T (challenger_wins (lts_of s) (relation_of (header_of s).states start) rounds p q)
      ↔ T (not (round (lts_of s) (relation_of (header_of s).states start) rounds p q))
  unfolding play_rules
  won-iff e =
      let kept = (both-kept (pair_rules s start p q) _ e).0 in
      let ready = kept-ready s start refl (pair-inputs s start p q kept) in
      let known = denoted s (header_of s) (reads s (header_of s) ready.readable) in
      let below = rw (← known.states) at (pair-states s start p q refl kept) in
      let iff = wins-iff (lts_of s) known.formed (relation_of (header_of s).states start) rounds p q below.0 below.1 in
      let out = not_iff (round (lts_of s) (relation_of (header_of s).states start) rounds p q) in
      (λ t. out.1 (iff.0 t), λ t. iff.1 (out.0 t))

  pub promised : {reply : Reply} → play_call s start p q rounds ≡ reply → PlayPromise s start p q rounds reply
  unfolding play_call
  promised is = record {
    refuses = λ r e. when-broken (play_rules s start p q rounds) _ _ is e;
    answers = λ e. decided (challenger_wins (lts_of s) (relation_of (header_of s).states start) rounds p q) []
        (won-iff e) (when-kept (play_rules s start p q rounds) _ _ is e);
  }
