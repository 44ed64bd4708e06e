-- End start and ready start on bytes: what is carried back, by the answer on words, and the promise.
use Prim.Native.Nat.{ℕ, ◌*◌, ◌≤◌}
use native.Mathlib.Nat.{mul-le-mul}
use native.Mathlib.Omega.{arith}
use mathlib.Core.Path.{◌≡◌, sym, ap, ◌∙◌}
use mathlib.Core.Logic.{⊎_elim}
use mathlib.Core.List.{List, []}
use borrow.Author.Tests.{eqb-true}
use lib.Dec.{eqb}
use lib.ListN.{length}
use Rattle.lts.specs.System.{Rel, Lts}
use Rattle.lts.specs.declared.Refusal.{Refusal}
use Rattle.lts.specs.declared.Refusal.TheVariants.{Buffer}
use Rattle.lts.specs.Rule.{Rule, Nothing, broken, Reply, refused, checked_reply, Answer}
use Rattle.lts.proofs.Rule.{kept, both-kept, finding, refuses, passes, when-broken, when-kept, numbered}
use Rattle.encoding.specs.Records.{header_of}
use Rattle.encoding.specs.Encoding.{sheet_rules}
use Rattle.encoding.specs.Denotation.{lts_of}
use Rattle.encoding.specs.Checked.{Bounds}
use Rattle.encoding.proofs.Reader.{kept-readable}
use Rattle.rows.specs.Rows.{row_words}
use Rattle.relation.specs.Matrix.{matrix_of}
use Rattle.relation.proofs.Matrices.{matrix-small, length-matrix_of, words-matrix}
use Rattle.carry.specs.Carried.{stored, bytes_of}
use Rattle.carry.specs.Bytes.{words_of}
use Rattle.carry.proofs.Laws.{stored-all}
use Rattle.carry.proofs.Bytes.{same_length, carried-round}
use Rattle.simulation.specs.Calls.{WriteStartOutcome, write_start_rules, write_start_call}
use Rattle.simulation.proofs.Starts.{StartMeans}
use Rattle.simulation.proofs.Promise.{start-promised}
use Rattle.release.specs.Starts.{start_on_bytes, StartBytesPromise}
use Rattle.std.specs.Prelude.{Ok, Err}

module _ (start : Lts → Rel) (s grid : List ℕ) where
  abbrev rules : List Rule
  rules = write_start_rules s (words_of grid)

  abbrev n : ℕ
  n = (header_of s).states

  abbrev matrix : List ℕ
  matrix = matrix_of n (start (lts_of s))

  -- where every rule is kept, the buffer has the matrix's length in bytes
  bounds : broken rules ≡ Nothing → Bounds (header_of s)
  unfolding write_start_rules
  bounds k = (kept-readable s (both-kept (sheet_rules s) _ k).0).recorded.sized.bounds

  long : broken rules ≡ Nothing → length grid ≡ 8 * (n * row_words n)
  unfolding write_start_rules
  long k =
      let b = bounds k in
      let w : 1 ≤ row_words n = omega (arith, b.state) in
      let some : 1 * 1 ≤ n * row_words n = mul-le-mul b.state w in
      let fit = eqb-true _ _ (kept (eqb (length (words_of grid)) (n * row_words n)) Buffer [] (both-kept (sheet_rules s) _ k).1).0 in
      (same_length 8 1024 grid (n * row_words n) (omega arith) some (matrix-small n b.states)).0 fit

  module _ {words₀ words : List ℕ} (a : Answer (Unit {0})) (w : words₀ ≡ words_of grid)
      (is : write_start_call start s words₀ ≡ record { reply = checked_reply a; grid = words }) where
    on : write_start_call start s (words_of grid) ≡ record { reply = checked_reply a; grid = words }
    on = rw w at is

    pub back-refused : {r : Refusal} → a ≡ Err r → start_on_bytes start s grid ≡ record { reply = checked_reply a; grid = grid }
    unfolding start_on_bytes write_start_call checked_reply
    back-refused {r} e = ⊎_elim
        (λ k. absurd (numbered r (sym (ap (λ (o : WriteStartOutcome). o.reply.refusal) (when-kept rules _ _ on k)) ∙ ap (λ (x : Answer (Unit {0})). (checked_reply x).refusal) e)))
        (λ q. refuses rules _ _ q.1 ∙ (rw (ap (λ (o : WriteStartOutcome). o.reply) (when-broken rules _ _ on q.1))))
        (finding rules)

    pub back-written : {g : List ℕ} → a ≡ Ok tt → g ≡ stored 8 words grid → start_on_bytes start s grid ≡ record { reply = checked_reply a; grid = g }
    unfolding start_on_bytes write_start_call checked_reply
    back-written {g} e gs = ⊎_elim
        (λ k.
        let f = ap (λ (o : WriteStartOutcome). o.grid) (when-kept rules _ _ on k) in
        let l : length matrix ≡ n * row_words n = length-matrix_of n (start (lts_of s)) in
        let x : stored 8 matrix grid ≡ bytes_of 8 matrix = stored-all 8 matrix grid (rw l (long k)) in
        passes rules _ _ k ∙ (rw (e, gs, f, x)))
        (λ q. absurd (numbered q.0 (ap (λ (x : Answer (Unit {0})). (checked_reply x).refusal) (sym e) ∙ ap (λ (o : WriteStartOutcome). o.reply.refusal) (when-broken rules _ _ on q.1))))
        (finding rules)

-- ## The promise
module _ {start : Lts → Rel} {Meant : List ℕ → List ℕ → Type 0} (means : StartMeans start Meant) (s grid₀ : List ℕ) (reply : Reply) (grid : List ℕ)
    (is : start_on_bytes start s grid₀ ≡ record { reply = reply; grid = grid }) where
  on-words : write_start_call start s (words_of grid₀) ≡ record { reply = reply; grid = words_of grid }
  unfolding start_on_bytes write_start_call
  on-words = ⊎_elim
      (λ k.
      let f = when-kept (rules start s grid₀) _ _ is k in
      let m = matrix-small (n start s grid₀) (bounds start s grid₀ k).states in
      let round : words_of (bytes_of 8 (matrix start s grid₀)) ≡ matrix start s grid₀
      = carried-round 8 1024 (matrix start s grid₀) (omega arith) (rw (length-matrix_of (n start s grid₀) (start (lts_of s))) m) (λ j _. words-matrix (n start s grid₀) (start (lts_of s)) j) in
      passes (rules start s grid₀) _ _ k ∙ (rw (ap (λ (o : WriteStartOutcome). o.reply) f, ap (λ (o : WriteStartOutcome). o.grid) f, round)))
      (λ q.
      let f = when-broken (rules start s grid₀) _ _ is q.1 in
      refuses (rules start s grid₀) _ _ q.1 ∙ (rw (ap (λ (o : WriteStartOutcome). o.reply) f, ap (λ (o : WriteStartOutcome). o.grid) f)))
      (finding (rules start s grid₀))

  unwritten : (r : Refusal) → reply ≡ refused r → grid ≡ grid₀
  unfolding start_on_bytes
  unwritten r e = ⊎_elim
      (λ k. absurd (numbered r (sym (ap (λ (o : WriteStartOutcome). o.reply.refusal) (when-kept (rules start s grid₀) _ _ is k)) ∙ ap (λ (x : Reply). x.refusal) e)))
      (λ q. ap (λ (o : WriteStartOutcome). o.grid) (when-broken (rules start s grid₀) _ _ is q.1))
      (finding (rules start s grid₀))

  pub start-bytes-promised : StartBytesPromise Meant s grid₀ reply grid
  start-bytes-promised = record { carried = start-promised means s (words_of grid₀) reply (words_of grid) on-words; stays = unwritten }
