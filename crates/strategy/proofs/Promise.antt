-- What is promised of the two plan calls follows from what they come to.
use Prim.Native.Nat.{ℕ, suc, ◌+◌, ◌*◌, ◌-◌, ◌/◌, ◌≤◌, ◌<◌, suc-le-suc}
use native.Mathlib.Nat.{le_trans, mul-le-mul_left, mul-div-le}
use native.Mathlib.Omega.{arith}
use mathlib.Core.Path.{◌≡◌, refl, sym, ◌∙◌, ap, subst, subst₂}
use mathlib.Core.Logic.{◌↔◌, ⊎_elim}
use mathlib.Core.Bool.{Bool, true, false, not, ◌&&◌, ◌||◌}
use mathlib.Core.List.{List, [], ◌∷◌, ◌++◌}
use lib.Dec.{T, eqb, ltb, leb, eqb→eq, ltb→lt, leb→le, le→leb}
use lib.ListN.{length, take, drop, length-append, length-drop}
use lib.Seq.{drop_at}
use borrow.Author.Tests.{not-true, leb-true, leb-false, lt-leb}
use Rattle.lts.specs.Bounded.{◌⇒◌}
use Rattle.lts.specs.System.{Rel, Lts, WellFormed, all_states, reflexive}
use Rattle.lts.specs.Rounds.{round, refuted_at, refutation_round}
use Rattle.lts.specs.declared.Entry.{Entry}
use Rattle.lts.specs.Strategy.{holds, sound, all_sound, accepted, last_of, entries_of, entry_numbers}
use Rattle.lts.specs.Depth.{depth_of, Depths}
use Rattle.lts.specs.Demand.{Strategies}
use Rattle.lts.specs.declared.Refusal.{Refusal}
use Rattle.lts.specs.declared.Refusal.TheVariants.{StillRelated, Unsound, Buffer}
use Rattle.lts.specs.Refusal.{refusal_number}
use Rattle.lts.specs.Rule.{Rule, ◌otherwise◌, Nothing, First, broken, Reply, refused, given}
use Rattle.lts.proofs.Bounded.{and-iff, not_iff, or_elim}
use Rattle.lts.proofs.Count.{lowest-least}
use Rattle.lts.proofs.System.{preorder-iff}
use Rattle.lts.proofs.Step.{On}
use Rattle.lts.proofs.Run.{Coarsest, coarsest-is}
use Rattle.lts.proofs.Rounds.{next-iff, round-states, stable-round, refuted-by, refuted-once, dropped-refuted, dropped-iff}
use Rattle.lts.proofs.Depth.{depths, last-depth-only}
use Rattle.lts.proofs.Demand.{strategies}
use Rattle.lts.proofs.Rule.{second-part, kept, both-kept, when-broken, when-kept, AboutNone, refusal-iff, exactly, finding, numbered}
use Rattle.encoding.specs.Records.{header_of}
use Rattle.encoding.specs.Denotation.{lts_of}
use Rattle.encoding.specs.Read.{Denoted}
use Rattle.encoding.proofs.Reader.{reads}
use Rattle.encoding.proofs.Laws.{denoted}
use Rattle.lts.proofs.Below.{true-T, T_true, lowest-at}
use Rattle.relation.proofs.Checks.{checked-reflexive, checked-transitive}
use Rattle.inputs.specs.Inputs.{input_rules, pair_rules, Ready}
use Rattle.inputs.proofs.Laws.{kept-ready, pair-inputs, pair-states}
use Rattle.strategy_write.proofs.Writes.{length-numbers}
use Rattle.strategy.specs.Check.{check_reply, start_of, kept_pairs, check_rules, check_call, Accepts, CheckPromise}
use Rattle.strategy.specs.Write.{WriteOutcome, round_of, plan_of, plan_length, write_rules, write_call, Writes, WritePromise}
use Rattle.strategy.proofs.Checks.{accepts}

-- ## A pair outside the coarsest simulation falls by round n * n, and no other falls
module _ (L : Lts) (wf : WellFormed L) (start K : Rel) (is : Coarsest L start K) (p q : ℕ) where
  falls : T (not (K p q)) → refutation_round L start p q ≤ L.states * L.states
  unfolding refutation_round
  falls u =
      let s = stable-round L wf start in
      let out : On (round L start s.0) p q → ⊥ = λ w. (not_iff (K p q)).0 u (is.greatest (On (round L start s.0)) (record {
        states = λ {p} {q} w. let l = round-states L wf start s.0 p q w in (l.0, l.1);
        inside = λ {p} {q} w. (round-states L wf start s.0 p q w).2;
        answer = λ {p} {q} a t w m. ((next-iff L wf start s.0 p q).0 (s.2 p q w)).1 a t m;
      }) p q w) in
      let r = refuted-by L wf start s.0 p q out in
      le_trans (lowest-least (suc (L.states * L.states)) (λ j. refuted_at L start j p q) r.0 r.2) (le_trans r.1 s.1)

  fallen : refutation_round L start p q ≤ L.states * L.states → T (not (K p q))
  unfolding refutation_round
  fallen l =
      let f = lowest-at (suc (L.states * L.states)) (λ j. refuted_at L start j p q) (suc-le-suc l) in
      (not_iff (K p q)).1 ((dropped-iff L wf start K is p q).1 (refutation_round L start p q, true-T _ f))

-- ## The numbers of entries that are accepted are small
pub record Small (e : Entry) : Type 0 where
  pub p : e.p < 65536
  pub q : e.q < 65536
  pub a : e.a < 65536
  pub t : e.t < 65536

abbrev pub AllSmall : List Entry → Type 0
AllSmall [] = Unit {0}
AllSmall (e ∷ es) = Small e × AllSmall es

module _ (L : Lts) (wf : WellFormed L) (states : L.states ≤ 256) (actions : L.actions ≤ 64) (start : Rel) where
  sound-small : (earlier : List Entry) (e : Entry) → T (sound L start earlier e) → Small e
  unfolding sound
  sound-small earlier e t =
      let outside = eqb e.a 0 && eqb e.t 0 && not (start e.p e.q) in
      let moves = L.transition e.p e.a e.t && all_states L (λ r. L.transition e.q e.a r ⇒ holds earlier e.t r) in
      let b = (and-iff (ltb e.p L.states && ltb e.q L.states) (outside || moves)).0 t in
      let c = (and-iff (ltb e.p L.states) (ltb e.q L.states)).0 b.0 in
      let lp = ltb→lt e.p L.states c.0 in
      let lq = ltb→lt e.q L.states c.1 in
      let r : (e.a ≤ 64) × (e.t ≤ 256) = or_elim outside moves
      (λ o. let z = (and-iff (eqb e.a 0) (eqb e.t 0)).0 ((and-iff (eqb e.a 0 && eqb e.t 0) (not (start e.p e.q))).0 o).0 in
      (omega (arith, eqb→eq e.a 0 z.0), omega (arith, eqb→eq e.t 0 z.1)))
      (λ m. let d = ((and-iff (L.transition e.p e.a e.t) (all_states L (λ r. L.transition e.q e.a r ⇒ holds earlier e.t r))).0 m).0 in
      (omega (arith, wf.action e.p e.a e.t d, actions), omega (arith, wf.target e.p e.a e.t d, states)))
      b.1 in
      record { p = omega arith; q = omega arith; a = omega arith; t = omega arith }

  all_small : (earlier es : List Entry) → T (all_sound L start earlier es) → AllSmall es
  unfolding all_sound
  all_small earlier [] t = tt
  all_small earlier (e ∷ es) t =
      let c = (and-iff (sound L start earlier e) (all_sound L start (e ∷ earlier) es)).0 t in
      (sound-small earlier e c.0, all_small (e ∷ earlier) es c.1)

  pub accepted-small : (es : List Entry) → T (accepted L start es) → AllSmall es
  unfolding accepted
  accepted-small [] t = tt
  accepted-small (e ∷ es) t = all_small [] (e ∷ es) t

-- ## What is known of a sheet and a start
opposite : (a b : Bool) → T a ↔ T (not b) → T (not a) ↔ T b
opposite true true i = (λ z. tt, λ z. i.0 tt)
opposite true false i = (λ z. z, λ z. z)
opposite false true i = (λ z. tt, λ z. tt)
opposite false false i = (λ z. i.1 tt, λ z. tt)

module _ (s start : List ℕ) (read : broken (input_rules s start) ≡ Nothing) where
  abbrev L : Lts
  L = lts_of s

  abbrev W : Rel
  W = start_of s start

  ready : Ready s (header_of s) start
  ready = kept-ready s start refl read

  pub known : Denoted s (header_of s)
  known = denoted s (header_of s) (reads s (header_of s) ready.readable)

  loop : T (reflexive L W)
  loop = checked-reflexive _ start ready.checked L known.states

  is : (schedule : List ℕ) → Coarsest L W (kept_pairs s start schedule)
  is schedule = coarsest-is L known.formed W
      ((preorder-iff L W).0 (loop, checked-transitive _ start ready.checked L known.states)) schedule

  shows : (schedule : List ℕ) → Strategies L W (kept_pairs s start schedule)
  shows schedule = strategies L known.formed W (kept_pairs s start schedule) (is schedule)

  deep : Depths L W
  deep = depths L known.formed W loop

  -- a dropped pair falls at its round
  dropped-falls : (p q : ℕ) → T (not (kept_pairs s start [] p q)) → T (refuted_at L W (refutation_round L W p q) p q)
  dropped-falls p q u = dropped-refuted L known.formed W (kept_pairs s start []) (is []) p q ((not_iff (kept_pairs s start [] p q)).0 u)

  -- the test for 13 passes exactly for the dropped pairs
  wanted : (schedule : List ℕ) (p q : ℕ) → T (leb (refutation_round L W p q) ((header_of s).states * (header_of s).states)) ↔ T (not (kept_pairs s start schedule p q))
  wanted schedule p q = subst (λ (n : ℕ). T (leb (refutation_round L W p q) (n * n)) ↔ T (not (kept_pairs s start schedule p q))) known.states (
    λ t. fallen L known.formed W (kept_pairs s start schedule) (is schedule) p q (leb→le _ _ t),
    λ u. le→leb _ _ (falls L known.formed W (kept_pairs s start schedule) (is schedule) p q u),
  )

-- ## Check plan
module _ (s start : List ℕ) (entries : List Entry) (reply : Reply) (is : check_call s start entries ≡ reply) where
  check-broken : (r : Refusal) → broken (check_rules s start entries) ≡ First r → reply ≡ refused r
  unfolding check_call
  check-broken r e = when-broken (check_rules s start entries) _ _ is e

  check-kept : broken (check_rules s start entries) ≡ Nothing → reply ≡ given ((last_of entries).p ∷ (last_of entries).q ∷ depth_of (lts_of s) entries ∷ [])
  unfolding check_call
  check-kept e = when-kept (check_rules s start entries) _ _ is e

  accepting : broken (check_rules s start entries) ≡ Nothing → Accepts s start entries reply
  unfolding check_rules
  accepting e =
      let k = both-kept (input_rules s start) _ e in
      let sound = true-T _ (kept _ _ _ k.1).0 in
      let states = (shows s start k.0 []).states entries sound in
      let size = (known s start k.0).states in
      let deep = deep s start k.0 in
      let last = last_of entries in
      let falls = dropped-falls s start k.0 last.p last.q ((shows s start k.0 []).ends entries sound) in
      record {
        sound = sound;
        depth = depth_of (lts_of s) entries;
        replied = check-kept e;
        measured = deep.depth entries sound;
        falls = (refutation_round (lts_of s) (start_of s start) last.p last.q, deep.least entries _ sound falls, falls);
        most = subst (λ (n : ℕ). depth_of (lts_of s) entries ≤ n * (n - 1) + 1) size (deep.most entries sound);
        first = omega (arith, states, size);
        second = omega (arith, states, size);
        dropped = λ schedule. (shows s start k.0 schedule).ends entries sound;
      }

  pub check-promised : CheckPromise s start entries reply
  unfolding check_rules broken
  check-promised = record {
    refuses = check-broken;
    unsound = λ k.
        let number = refusal-iff (check_rules s start entries) reply
        (λ r e. ap (λ (x : Reply). x.refusal) (check-broken r e)) (λ e. ap (λ (x : Reply). x.refusal) (check-kept e))
        Unsound (λ e. omega (arith, e), λ e. omega (arith, e)) in
        let test = exactly (input_rules s start) (accepted (lts_of s) (start_of s start) entries) Unsound [] k (λ e. let z : ◌≡◌ {A = ℕ} 0 1 = cc in omega arith) in
        (λ e. test.0 (number.0 e), λ t. number.1 (test.1 t));
    answers = accepting;
  }

pub check-meets : (s start : List ℕ) (entries : List Entry) {reply : Reply} → check_call s start entries ≡ reply
    → (check_call s start entries ≡ reply) × CheckPromise s start entries reply
check-meets s start entries is = (is, check-promised s start entries _ is)

-- no other reply meets the promise
pub check-only : (s start : List ℕ) (entries : List Entry) (reply : Reply) → CheckPromise s start entries reply → check_call s start entries ≡ reply
unfolding check_rules accepted
check-only s start entries reply h = ⊎_elim
    (λ k.
    let a = h.answers k in
    let b = (check-promised s start entries _ refl).answers k in
    let wf = (known s start (both-kept (input_rules s start) _ k).0).formed in
    let d = last-depth-only (lts_of s) wf (start_of s start) entries b.depth a.depth (some-entry entries a.sound) b.measured a.measured in
    b.replied ∙ ap (λ (x : ℕ). given ((last_of entries).p ∷ (last_of entries).q ∷ x ∷ [])) d ∙ sym a.replied)
    (λ r. check-broken s start entries _ refl r.0 r.1 ∙ sym (h.refuses r.0 r.1))
    (finding (check_rules s start entries))
  where
    some-entry : (es : List Entry) → T (accepted (lts_of s) (start_of s start) es) → 0 < length es
    some-entry [] t = absurd t
    some-entry (e ∷ es) t = omega arith

-- ## Write plan
-- how elements carry entries: as many as `width` each, and those of small numbers come back, whatever follows them
pub record Carrier {A : Type 0} (entries_in : List A → List Entry) (carried : List Entry → List A) (width : ℕ) : Type 0 where
  pub long : (es : List Entry) → length (carried es) ≡ width * length es
  pub back : (es : List Entry) → AllSmall es → (rest : List A) → take (length es) (entries_in (carried es ++ rest)) ≡ es

-- numbers carry entries
pub numbers-back : (es : List Entry) (rest : List ℕ) → take (length es) (entries_of (entry_numbers es ++ rest)) ≡ es
unfolding entries_of entry_numbers
numbers-back [] rest = refl
numbers-back (e ∷ es) rest = ap (λ (l : List Entry). e ∷ l) (numbers-back es rest)

pub numbers-carry : Carrier entries_of entry_numbers 4
numbers-carry = record { long = length-numbers; back = λ es _ rest. numbers-back es rest }

-- a rule that gives 15 gives no 13
other-refusal : (t : Bool) → broken (t otherwise Buffer ∷ []) ≡ First StillRelated → ⊥
unfolding broken
other-refusal true e = let z : ◌≡◌ {A = ℕ} 0 1 = cc in omega arith
other-refusal false e = let z : ◌≡◌ {A = ℕ} 0 1 = cc in omega arith

-- there is no room
no_room : (a b : ℕ) → T (not (leb a b)) ↔ (b < a)
no_room a b = (λ t. leb-false a b (not-true (leb a b) (T_true _ t)), λ l. rw (lt-leb a b l) tt)

module _ {A : Type 0} (entries_in : List A → List Entry) (carried : List Entry → List A) (width : ℕ) (carrier : Carrier entries_in carried width)
    (s start : List ℕ) (p q : ℕ) (plan₀ : List A) (reply : Reply) (plan : List A) (is : write_call carried width s start p q plan₀ ≡ record { reply = reply; plan = plan }) where
  abbrev rules : List Rule
  rules = write_rules s start p q (length plan₀ / width)

  abbrev es : List Entry
  es = plan_of s start p q

  abbrev k : ℕ
  k = plan_length s start p q

  abbrev falling : Bool
  falling = leb (refutation_round (lts_of s) (start_of s start) p q) ((header_of s).states * (header_of s).states)

  abbrev fits : Bool
  fits = leb k (length plan₀ / width)

  write-broken : (r : Refusal) → broken rules ≡ First r → ◌≡◌ {A = WriteOutcome A} (record { reply = reply; plan = plan }) (record { reply = refused r; plan = plan₀ })
  unfolding write_call
  write-broken r e = when-broken rules _ _ is e

  write_kept : broken rules ≡ Nothing → ◌≡◌ {A = WriteOutcome A} (record { reply = reply; plan = plan }) (record { reply = given (k ∷ []); plan = carried es ++ drop (width * k) plan₀ })
  unfolding write_call
  write_kept e = when-kept rules _ _ is e

  number : (r : Refusal) → AboutNone (refusal_number r) → (reply.refusal ≡ refusal_number r) ↔ (broken rules ≡ First r)
  number = refusal-iff rules reply (λ r e. ap (λ (o : WriteOutcome A). o.reply.refusal) (write-broken r e)) (λ e. ap (λ (o : WriteOutcome A). o.reply.refusal) (write_kept e))

  module _ (read : broken (pair_rules s start p q) ≡ Nothing) (schedule : List ℕ) where
    abbrev Dropped : Type 0
    Dropped = T (not (kept_pairs s start schedule p q))

    falls-iff : T falling ↔ Dropped
    falls-iff = wanted s start (pair-inputs s start p q read) schedule p q

    related : (reply.refusal ≡ 13) ↔ T (kept_pairs s start schedule p q)
    unfolding write_rules
    related =
        let n = number StillRelated (λ e. omega (arith, e), λ e. omega (arith, e)) in
        let test = exactly (pair_rules s start p q) falling StillRelated (fits otherwise Buffer ∷ []) read (other-refusal fits) in
        let other = opposite falling (kept_pairs s start schedule p q) falls-iff in
        (λ e. other.0 (test.0 (n.0 e)), λ t. n.1 (test.1 (other.1 t)))

    short : Dropped → (reply.refusal ≡ 15) ↔ (length plan₀ / width < k)
    unfolding write_rules broken
    short dropped =
        let n = number Buffer (λ e. omega (arith, e), λ e. omega (arith, e)) in
        let left : broken rules ≡ broken (fits otherwise Buffer ∷ []) = second-part (pair_rules s start p q) _ read ∙ rw (T_true falling (falls-iff.1 dropped)) in
        let test = exactly [] fits Buffer [] refl (λ e. let z : ◌≡◌ {A = ℕ} 0 1 = cc in omega arith) in
        let room = no_room k (length plan₀ / width) in
        (λ e. room.0 (test.0 (sym left ∙ n.0 e)), λ l. n.1 (left ∙ test.1 (room.1 l)))

  -- a list that check plan accepts for (p, q) has at least the depth of the round in which the pair falls
  shortest : (entries : List Entry) (d : ℕ) → check_call s start entries ≡ given (p ∷ q ∷ d ∷ [])
      → (j : ℕ) → T (refuted_at (lts_of s) (start_of s start) j p q) → j ≤ d
  unfolding check_rules
  shortest entries d is j f = ⊎_elim
      (λ e.
      let a = (check-promised s start entries _ is).answers e in
      let v = ap (λ (x : Reply). x.values) a.replied in
      let x : p ≡ (last_of entries).p = cc in
      let y : q ≡ (last_of entries).q = cc in
      let z : d ≡ a.depth = cc in
      let wf = (known s start (both-kept (input_rules s start) _ e).0).formed in
      let once = refuted-once (lts_of s) wf (start_of s start) j a.falls.0 p q f
      (subst₂ (λ (m n : ℕ). T (refuted_at (lts_of s) (start_of s start) a.falls.0 m n)) (sym x) (sym y) a.falls.2) in
      omega (arith, once, z, a.falls.1))
      (λ r. absurd (numbered r.0 (ap (λ (x : Reply). x.refusal) (check-broken s start entries _ is r.0 r.1))))
      (finding (check_rules s start entries))

  writing : broken rules ≡ Nothing → Writes entries_in width s start p q plan₀ reply plan
  unfolding write_rules check_reply
  writing e =
      let b = both-kept (pair_rules s start p q) _ e in
      let read = pair-inputs s start p q b.0 in
      let c = kept _ _ _ b.1 in
      let states = pair-states s start p q refl b.0 in
      let size = (known s start read).states in
      let dropped = (wanted s start read [] p q).0 (true-T _ c.0) in
      let sound = (shows s start read []).written p q (omega (arith, states, size)) (omega (arith, states, size)) dropped in
      let count : length es ≡ k = (shows s start read []).count p q in
      let last = (shows s start read []).last p q in
      let falls = dropped-falls s start read p q dropped in
      let depth : depth_of (lts_of s) es ≡ round_of s start p q = (deep s start read).written p q _ (omega (arith, states, size)) (omega (arith, states, size)) falls in
      let room : width * k ≤ length plan₀ = le_trans (mul-le-mul_left width (leb-true _ _ (kept _ _ _ c.1).0)) (mul-div-le (length plan₀) width) in
      let now : plan ≡ carried es ++ drop (width * k) plan₀ = ap (λ (o : WriteOutcome A). o.plan) (write_kept e) in
      let wide : length (carried es) ≡ width * k = carrier.long es ∙ ap (λ (x : ℕ). width * x) count in
      let small = accepted-small (lts_of s) (known s start read).formed (omega (arith, size, (known s start read).bounds.states))
      (omega (arith, (known s start read).actions, (known s start read).bounds.actions)) (start_of s start) es sound in
      let written : take k (entries_in plan) ≡ es = rw (now, ← count) (carrier.back es small _) in
      record {
        replied = ap (λ (o : WriteOutcome A). o.reply) (write_kept e);
        accepted = ap (λ (x : List Entry). check_call s start x) written ∙ accepts s start es (header_of s).states refl read (sym (T_true _ sound)) refl (sym last.0) (sym last.1) (sym depth);
        falls = falls;
        shortest = λ entries d f. shortest entries d f (round_of s start p q) falls;
        written = written;
        stays = ap (drop (width * k)) now ∙ drop_at (carried es) _ (width * k) wide;
        long = ap length now ∙ length-append (carried es) _ ∙ omega (arith, wide, length-drop (width * k) plan₀, room);
      }

  pub write-promised : WritePromise entries_in width s start p q plan₀ reply plan
  write-promised = record {
    refuses = λ r e. (ap (λ (o : WriteOutcome A). o.reply) (write-broken r e), ap (λ (o : WriteOutcome A). o.plan) (write-broken r e));
    related = related;
    short = short;
    answers = writing;
  }

pub write_meets : (s start : List ℕ) (p q : ℕ) (plan₀ : List ℕ) {reply : Reply} {plan : List ℕ} → write_call entry_numbers 4 s start p q plan₀ ≡ record { reply = reply; plan = plan }
    → (write_call entry_numbers 4 s start p q plan₀ ≡ record { reply = reply; plan = plan }) × WritePromise entries_of 4 s start p q plan₀ reply plan
write_meets s start p q plan₀ is = (is, write-promised entries_of entry_numbers 4 numbers-carry s start p q plan₀ _ _ is)
