-- Hand play and the depths of plans (document 02, L8): with at least as many rounds as the depth of a plan that check plan accepts, hand play
-- wins from its pair; and it wins with k rounds exactly if the plan that write plan leaves for the pair has at most depth k.
use Prim.Native.Nat.{ℕ, ◌≤◌, ◌<◌}
use native.Mathlib.Nat.{le_trans}
use native.Mathlib.Omega.{arith}
use mathlib.Core.Path.{◌≡◌, refl, sym, ap, ◌∙◌, subst₂}
use mathlib.Core.Logic.{◌↔◌, ⊎_elim}
use mathlib.Core.Bool.{true, ◌&&◌}
use mathlib.Core.List.{List, [], ◌∷◌}
use lib.Dec.{T, ltb}
use lib.ListN.{take}
use borrow.Author.Tests.{lt-ltb, le-leb}
use Rattle.lts.specs.declared.Entry.{Entry}
use Rattle.lts.specs.Rounds.{round, refuted_at}
use Rattle.lts.specs.System.{WellFormed}
use Rattle.lts.specs.Strategy.{last_of}
use Rattle.lts.specs.Rule.{Nothing, broken, Reply, given}
use Rattle.lts.proofs.Bounded.{not_iff}
use Rattle.lts.proofs.Rounds.{refuted-by, refuted-out, refuted-once, round-antitone}
use Rattle.lts.proofs.Rule.{second-part, both-kept, finding, numbered}
use Rattle.encoding.specs.Records.{header_of}
use Rattle.encoding.specs.Denotation.{lts_of}
use Rattle.inputs.specs.Inputs.{input_rules, pair_rules}
use Rattle.game.specs.Play.{play_rules, play_call}
use Rattle.game.proofs.Promise.{promised}
use Rattle.strategy.specs.Check.{start_of, check_rules, check_call}
use Rattle.strategy.specs.Write.{round_of, plan_length, Writes}
use Rattle.strategy.proofs.Promise.{known, check-promised}

module _ (s start : List ℕ) (p q : ℕ) where
  -- the pair falls at a round that is at most k
  abbrev FallsBy : ℕ → Type 0
  FallsBy k = (j : ℕ) × (j ≤ k) × T (refuted_at (lts_of s) (start_of s start) j p q)

  module _ (read : broken (input_rules s start) ≡ Nothing) (lp : p < (header_of s).states) (lq : q < (header_of s).states) (rounds : ℕ) (few : rounds ≤ 6) where
    wf : WellFormed (lts_of s)
    wf = (known s start read).formed

    kept : broken (play_rules s start p q rounds) ≡ Nothing
    unfolding play_rules pair_rules broken
    kept =
        let states : ltb p (header_of s).states && ltb q (header_of s).states ≡ true = rw (lt-ltb p (header_of s).states lp, lt-ltb q (header_of s).states lq) in
        second-part (pair_rules s start p q) _ (second-part (input_rules s start) _ read ∙ rw states) ∙ rw (le-leb rounds 6 few)

    -- won exactly if it falls by then
    pub won-iff : (play_call s start p q rounds ≡ given (1 ∷ [])) ↔ FallsBy rounds
    won-iff =
        let out = not_iff (round (lts_of s) (start_of s start) rounds p q) in
        ⊎_elim
        (λ w. (λ _. refuted-by (lts_of s) wf (start_of s start) rounds p q (out.0 w.1), λ _. w.0))
        (λ w. (
          λ e. let z = ap (λ (r : Reply). r.values) (sym e ∙ w.0) in let x : ◌≡◌ {A = ℕ} 1 0 = cc in absurd (omega (arith, x)),
          λ j. absurd (w.1 (out.1 (λ k. refuted-out (lts_of s) wf (start_of s start) j.0 p q j.2 (round-antitone (lts_of s) wf (start_of s start) j.0 rounds p q j.1 k)))),
        ))
        ((promised s start p q rounds refl).answers kept)

  -- what check plan says of entries that it accepts for the pair
  module _ (entries : List Entry) (depth : ℕ) (is : check_call s start entries ≡ given (p ∷ q ∷ depth ∷ [])) where
    record About : Type 0 where
      read : broken (input_rules s start) ≡ Nothing
      first : p < (header_of s).states
      second : q < (header_of s).states
      falls : FallsBy depth

    about : About
    unfolding check_rules
    about = ⊎_elim
        (λ k.
        let a = (check-promised s start entries _ is).answers k in
        let e = ap (λ (x : Reply). x.values) a.replied in
        let x : p ≡ (last_of entries).p = cc in
        let y : q ≡ (last_of entries).q = cc in
        let z : depth ≡ a.depth = cc in
        record {
          read = (both-kept (input_rules s start) _ k).0;
          first = omega (arith, x, a.first);
          second = omega (arith, y, a.second);
          falls = (a.falls.0, omega (arith, z, a.falls.1), subst₂ (λ (m n : ℕ). T (refuted_at (lts_of s) (start_of s start) a.falls.0 m n)) (sym x) (sym y) a.falls.2);
        })
        (λ r. absurd (numbered r.0 (ap (λ (x : Reply). x.refusal) (sym is ∙ (check-promised s start entries _ refl).refuses r.0 r.1))))
        (finding (check_rules s start entries))

    pub won-within : (rounds : ℕ) → rounds ≤ 6 → depth ≤ rounds → play_call s start p q rounds ≡ given (1 ∷ [])
    won-within rounds few l =
        let a = about in
        (won-iff a.read a.first a.second rounds few).1 (a.falls.0, le_trans a.falls.1 l, a.falls.2)

  -- the plan that write plan leaves in its buffer: hand play wins exactly from its depth on
  pub play-depth : {A : Type 0} {entries_in : List A → List Entry} {width : ℕ} {plan₀ plan : List A} {reply : Reply} → Writes entries_in width s start p q plan₀ reply plan
      → (depth : ℕ) → check_call s start (take (plan_length s start p q) (entries_in plan)) ≡ given (p ∷ q ∷ depth ∷ []) → (rounds : ℕ) → rounds ≤ 6
      → (play_call s start p q rounds ≡ given (1 ∷ [])) ↔ (depth ≤ rounds)
  play-depth w depth is rounds few =
      let a = about _ depth is in
      let e = ap (λ (x : Reply). x.values) (sym is ∙ w.accepted) in
      let z : depth ≡ round_of s start p q = cc in (
        λ won.
            let j = (won-iff a.read a.first a.second rounds few).0 won in
            let once = refuted-once (lts_of s) (known s start a.read).formed (start_of s start) j.0 (round_of s start p q) p q j.2 w.falls in
            omega (arith, once, z, j.1),
        won-within _ depth is rounds few,
      )
