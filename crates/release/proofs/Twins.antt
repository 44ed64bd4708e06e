-- A plain sheet and the named sheet with decimal names of the same records: every call but normalise and join gives the same reply and the
-- same buffers for both (document 02, L2). The text of flowcheck is in `listing/proofs/Twins.antt`.
use Prim.Native.Nat.{ℕ, suc, ◌*◌, ◌/◌}
use native.Mathlib.Omega.{arith}
use mathlib.Core.Path.{◌≡◌, refl, sym, ap, ap₂, ◌∙◌}
use mathlib.Core.Logic.{⊎_elim}
use mathlib.Core.Bool.{Bool, true, false, cond, ◌&&◌}
use mathlib.Core.List.{List, [], ◌∷◌, ◌++◌}
use lib.Dec.{eqb, leb}
use lib.ListN.{length, drop}
use Rattle.lts.specs.declared.Entry.{Entry}
use Rattle.lts.specs.declared.Refusal.TheVariants.{NotDecimal, Grid, StillRelated, Unsound, Buffer}
use Rattle.lts.specs.System.{Rel, Lts}
use Rattle.lts.specs.Rounds.{refutation_round}
use Rattle.lts.specs.Strategy.{accepted, strategy_length, strategy, last_of}
use Rattle.lts.specs.Depth.{depth_of}
use Rattle.lts.specs.Game.{challenger_wins}
use Rattle.lts.specs.Union.{comparison, simulated}
use Rattle.lts.specs.Labels.{joined_second}
use Rattle.lts.specs.Rule.{Rule, ◌otherwise◌, broken, Reply, refused, given}
use Rattle.lts.proofs.Rule.{refuses, passes, finding}
use Rattle.rows.specs.Rows.{row_words}
use Rattle.relation.specs.Matrix.{relation_of, matrix_of}
use Rattle.relation.specs.Check.{is_matrix}
use Rattle.encoding.specs.declared.Header.{Header}
use Rattle.encoding.specs.Records.{header_of, header_bytes, of_kind, encoding_length, system_records}
use Rattle.encoding.specs.Labels.{labels_of, records_of}
use Rattle.encoding.proofs.Labels.{named-label}
use Rattle.encoding.specs.Encoding.{sheet_rules, read_encoding}
use Rattle.encoding.specs.Read.{reading_reply}
use Rattle.encoding.specs.Denotation.{lts_of}
use Rattle.encoding.proofs.Twins.{Twins, twin-lts, twin-labels, twin-broken}
use Rattle.inputs.specs.Inputs.{input_rules, pair_rules}
use Rattle.inputs.specs.Both.{both_rules}
use Rattle.inputs.proofs.Twins.{append-same, checked-same, inputs-same, pair_same, first-same, second-same}
use Rattle.conversion.specs.Conversion.{in_kind, named_in_decimal, fits, to_named_rules, to_plain_rules, ConversionOutcome, conversion, to_named_call, to_plain_call}
use Rattle.conversion.proofs.Rules.{plain-decimal, decimal-all}
use Rattle.simulation.specs.Calls.{WriteStartOutcome, write_start_rules, write_start_call, is_inside, simulation_rules, simulation_call}
use Rattle.game.specs.Play.{play_rules, play_call}
use Rattle.coarsest.specs.Call.{CoarsestOutcome, coarsest_rules, refined, coarsest_call}
use Rattle.carry.specs.Carried.{list_of, bytes_of}
use Rattle.carry.specs.Bytes.{words_of, state_numbers}
use Rattle.coarsest_bytes.specs.Call.{carried_back, coarsest_on_bytes}
use Rattle.strategy.specs.Check.{check_rules, check_call}
use Rattle.strategy.specs.Write.{WriteOutcome, write_rules, write_call}
use Rattle.comparison.specs.Call.{compare_call}
use Rattle.release.specs.Starts.{start_on_bytes}
use Rattle.std.specs.Prelude.{Ok, Err}

module _ {s t : List ℕ} (w : Twins s t) where
  -- what is computed from the number of states and the flow is the same
  both : {A : Type 0} (f : ℕ → Lts → A) → f (header_of s).states (lts_of s) ≡ f (header_of t).states (lts_of t)
  both f = ap₂ f w.states (twin-lts w)

  -- ## Read
  pub read_same : reading_reply (read_encoding s) ≡ reading_reply (read_encoding t)
  unfolding read_encoding reading_reply
  read_same = ⊎_elim
      (λ k.
      ap reading_reply (passes (sheet_rules s) Err (Ok (header_of s)) k)
      ∙ counts
      ∙ sym (ap reading_reply (passes (sheet_rules t) Err (Ok (header_of t)) (sym (twin-broken w) ∙ k))))
      (λ q.
      ap reading_reply (refuses (sheet_rules s) Err (Ok (header_of s)) q.1)
      ∙ sym (ap reading_reply (refuses (sheet_rules t) Err (Ok (header_of t)) (sym (twin-broken w) ∙ q.1))))
      (finding (sheet_rules s))
    where
      counts : given ((header_of s).states ∷ (header_of s).actions ∷ (header_of s).transitions ∷ [])
          ≡ given ((header_of t).states ∷ (header_of t).actions ∷ (header_of t).transitions ∷ [])
      counts = λ i. given (w.states i ∷ w.actions i ∷ w.transitions i ∷ [])

  -- ## To named and to plain
  kind-same : (named : Bool) → of_kind named (header_of s) ≡ of_kind named (header_of t)
  kind-same named = λ i. record { states = w.states i; actions = w.actions i; transitions = w.transitions i; named = named }

  in-kind-same : (named : Bool) → in_kind named s ≡ in_kind named t
  unfolding in_kind
  in-kind-same named =
      ap₂ (λ (h : Header) (l : List (List ℕ)). header_bytes h ++ records_of (record { named = named; labels = l }) ++ system_records s (header_of s))
      (kind-same named) (twin-labels w)
      ∙ ap (λ (r : List ℕ). header_bytes (of_kind named (header_of t)) ++ records_of (record { named = named; labels = labels_of t }) ++ r) w.records

  decimal-same : named_in_decimal s (header_of s) ≡ named_in_decimal t (header_of t)
  decimal-same =
      plain-decimal s (header_of s) w.plain
      ∙ sym (decimal-all t (header_of t) (λ i l.
      named-label t (header_of t) (suc i) w.named ∙ w.names (suc i) (omega arith) (omega (arith, l, w.actions))))

  converted-same : (named : Bool) (rules others : List Rule) (out : List ℕ) → broken rules ≡ broken others
      → conversion named rules s out ≡ conversion named others t out
  unfolding conversion
  converted-same named rules others out e =
      checked-same rules others (λ r. record { reply = refused r; out = out }) e
      (ap {B = ConversionOutcome} (λ (l : List ℕ). record { reply = given []; out = l }) (in-kind-same named))

  pub to-named-same : (out : List ℕ) → to_named_call s out ≡ to_named_call t out
  unfolding to_named_rules fits
  to-named-same out = converted-same true (to_named_rules s out) (to_named_rules t out) out
      (append-same (sheet_rules s) (sheet_rules t) _ _ (twin-broken w)
      (ap (λ (h : Header). broken (eqb (length out) (encoding_length h) otherwise Buffer ∷ [])) (kind-same true)))

  pub to-plain-same : (out : List ℕ) → to_plain_call s out ≡ to_plain_call t out
  unfolding to_plain_rules fits
  to-plain-same out = converted-same false (to_plain_rules s out) (to_plain_rules t out) out
      (append-same (sheet_rules s) (sheet_rules t) _ _ (twin-broken w)
      (ap₂ (λ (b : Bool) (h : Header). broken (b otherwise NotDecimal ∷ eqb (length out) (encoding_length h) otherwise Buffer ∷ []))
      decimal-same (kind-same false)))

  -- ## End start and ready start, on words and on bytes
  start-rules : (grid : List ℕ) → broken (write_start_rules s grid) ≡ broken (write_start_rules t grid)
  unfolding write_start_rules
  start-rules grid = append-same (sheet_rules s) (sheet_rules t) _ _ (twin-broken w)
      (ap (λ (n : ℕ). broken (eqb (length grid) (n * row_words n) otherwise Buffer ∷ [])) w.states)

  pub write-start-same : (start : Lts → Rel) (grid : List ℕ) → write_start_call start s grid ≡ write_start_call start t grid
  unfolding write_start_call
  write-start-same start grid = checked-same (write_start_rules s grid) (write_start_rules t grid) (λ r. record { reply = refused r; grid = grid }) (start-rules grid)
      (both {A = WriteStartOutcome} (λ n L. record { reply = given []; grid = matrix_of n (start L) }))

  pub start-bytes-same : (start : Lts → Rel) (grid : List ℕ) → start_on_bytes start s grid ≡ start_on_bytes start t grid
  unfolding start_on_bytes
  start-bytes-same start grid =
      checked-same (write_start_rules s (words_of grid)) (write_start_rules t (words_of grid)) (λ r. record { reply = refused r; grid = grid }) (start-rules (words_of grid))
      (both {A = WriteStartOutcome} (λ n L. record { reply = given []; grid = bytes_of 8 (matrix_of n (start L)) }))

  -- ## Test simulation
  pub simulation-same : (start claim : List ℕ) → simulation_call s start claim ≡ simulation_call t start claim
  unfolding simulation_call simulation_rules
  simulation-same start claim =
      checked-same (simulation_rules s start claim) (simulation_rules t start claim) refused
      (append-same (input_rules s start) (input_rules t start) _ _ (inputs-same w start)
      (ap (λ (n : ℕ). broken (is_matrix n claim otherwise Grid ∷ [])) w.states))
      (both {A = Reply} (λ n L. given (cond (is_inside L (relation_of n start) (relation_of n claim)) 1 0 ∷ [])))

  -- ## Coarsest, on words and on bytes
  coarsest-rules : (start grid representatives : List ℕ) → broken (coarsest_rules s start grid representatives) ≡ broken (coarsest_rules t start grid representatives)
  unfolding coarsest_rules
  coarsest-rules start grid representatives = append-same (input_rules s start) (input_rules t start) _ _ (inputs-same w start)
      (ap (λ (n : ℕ). broken ((eqb (length grid) (n * row_words n) && eqb (length representatives) n) otherwise Buffer ∷ [])) w.states)

  pub coarsest-same : (start schedule grid representatives : List ℕ) → coarsest_call s start schedule grid representatives ≡ coarsest_call t start schedule grid representatives
  unfolding coarsest_call
  coarsest-same start schedule grid representatives =
      checked-same (coarsest_rules s start grid representatives) (coarsest_rules t start grid representatives)
      (λ r. record { reply = refused r; grid = grid; representatives = representatives }) (coarsest-rules start grid representatives)
      (both {A = CoarsestOutcome} (λ n L. refined L (relation_of n start) schedule))

  pub coarsest-bytes-same : (start schedule grid representatives : List ℕ)
      → coarsest_on_bytes s start schedule grid representatives ≡ coarsest_on_bytes t start schedule grid representatives
  unfolding coarsest_on_bytes
  coarsest-bytes-same start schedule grid representatives =
      checked-same (coarsest_rules s (words_of start) (words_of grid) (state_numbers representatives))
      (coarsest_rules t (words_of start) (words_of grid) (state_numbers representatives))
      (λ r. record { reply = refused r; grid = grid; representatives = representatives })
      (coarsest-rules (words_of start) (words_of grid) (state_numbers representatives))
      (both {A = CoarsestOutcome} (λ n L. carried_back (refined L (relation_of n (words_of start)) (list_of schedule))))

  -- ## Hand play
  pub play-same : (start : List ℕ) (p q rounds : ℕ) → play_call s start p q rounds ≡ play_call t start p q rounds
  unfolding play_call play_rules
  play-same start p q rounds =
      checked-same (play_rules s start p q rounds) (play_rules t start p q rounds) refused
      (append-same (pair_rules s start p q) (pair_rules t start p q) _ _ (pair_same w start p q) refl)
      (both {A = Reply} (λ n L. given (cond (challenger_wins L (relation_of n start) rounds p q) 1 0 ∷ [])))

  -- ## Plans, however they are carried
  pub check-same : (start : List ℕ) (entries : List Entry) → check_call s start entries ≡ check_call t start entries
  unfolding check_call check_rules
  check-same start entries =
      checked-same (check_rules s start entries) (check_rules t start entries) refused
      (append-same (input_rules s start) (input_rules t start) _ _ (inputs-same w start)
      (both (λ n L. broken (accepted L (relation_of n start) entries otherwise Unsound ∷ []))))
      (both {A = Reply} (λ n L. given ((last_of entries).p ∷ (last_of entries).q ∷ depth_of L entries ∷ [])))

  pub write_same : {A : Type 0} (carried : List Entry → List A) (width : ℕ) (start : List ℕ) (p q : ℕ) (plan : List A)
      → write_call carried width s start p q plan ≡ write_call carried width t start p q plan
  unfolding write_call write_rules
  write_same {A} carried width start p q plan =
      checked-same (write_rules s start p q (length plan / width)) (write_rules t start p q (length plan / width)) (λ r. record { reply = refused r; plan = plan })
      (append-same (pair_rules s start p q) (pair_rules t start p q) _ _ (pair_same w start p q)
      (both (λ n L. broken (leb (refutation_round L (relation_of n start) p q) (n * n) otherwise StillRelated
      ∷ leb (strategy_length L (relation_of n start) p q) (length plan / width) otherwise Buffer ∷ []))))
      (both {A = WriteOutcome A} (λ n L.
      record {
        reply = given (strategy_length L (relation_of n start) p q ∷ []);
        plan = carried (strategy L (relation_of n start) p q) ++ drop (width * strategy_length L (relation_of n start) p q) plan;
      }))

  -- ## Compare and its ready form, in either place
  pub compare-first-same : (start : Lts → Rel) (second : List ℕ) → compare_call start s second ≡ compare_call start t second
  unfolding compare_call
  compare-first-same start second =
      checked-same (both_rules s second) (both_rules t second) refused (first-same w second)
      (ap₂ {A = Lts} {B = List (List ℕ)} (λ L A.
      let M = joined_second A (labels_of second) (lts_of second) in
      given (cond (simulated start L M) 1 0 ∷ (comparison start L M).steps ∷ [])) (twin-lts w) (twin-labels w))

  pub compare-second-same : (start : Lts → Rel) (first : List ℕ) → compare_call start first s ≡ compare_call start first t
  unfolding compare_call
  compare-second-same start first =
      checked-same (both_rules first s) (both_rules first t) refused (second-same w first)
      (ap₂ {A = Lts} {B = List (List ℕ)} (λ M B.
      let N = joined_second (labels_of first) B M in
      given (cond (simulated start (lts_of first) N) 1 0 ∷ (comparison start (lts_of first) N).steps ∷ [])) (twin-lts w) (twin-labels w))
