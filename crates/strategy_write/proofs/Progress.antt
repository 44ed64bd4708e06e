-- How far the entries of a strategy are written, round by round. Assumes nothing.
use Prim.Native.Nat.{ℕ, ◌+◌, ◌*◌, ◌^◌, ◌≤◌, ◌<◌}
use native.Mathlib.Omega.{arith}
use mathlib.Core.Path.{◌≡◌, ◌∙◌, ap, subst⁻¹}
use mathlib.Core.Bool.{true}
use mathlib.Core.List.{List}
use lib.Dec.{eqb}
use lib.ListN.{length, get_or, replicate}
use lib.Seq.{sets}
use Rattle.lts.specs.Bounded.{restrict}
use Rattle.lts.specs.System.{Rel, Lts}
use Rattle.lts.specs.Rounds.{round}
use Rattle.lts.specs.declared.Entry.{Entry}
use Rattle.lts.specs.Strategy.{entry_numbers, entries_in, entries_before}
use Rattle.rows.specs.Rows.{in_row, row_of, states_below}
use Rattle.transitions.specs.Table.{states_of, table_lts, Formed}
use Rattle.relation.specs.Matrix.{relation_of, matrix_of, Matrix}
use Rattle.strategy_rounds.specs.Rounds.{next_round, Settled, same_rows}
use Rattle.strategy_rounds.proofs.Settling.{settled-none, settled-next}
use Rattle.strategy_rounds.proofs.Searches.{round-zero, round-next}
use Rattle.strategy_write.specs.Writing.{pairs_of, Consecutive, round_entries, WrittenBefore}
use Rattle.strategy_write.proofs.Writes.{written_none, written-more, at_none, at_more, room_next}
use Rattle.strategy_write.proofs.Rounds.{previous-first, previous-next, consecutive, round-entries}

-- the entries before round i are written; `next` is the matrix of round i, and nothing is taken out of the next for a settled state
pub record Progress (t start d : List ℕ) (i : ℕ) (current next : List ℕ) (at : ℕ) (numbers settled : List ℕ) : Type 0 where
  pub done : WrittenBefore t start d i at current numbers
  pub here : next ≡ matrix_of (states_of t) (round (table_lts t) (relation_of (states_of t) start) i)
  pub settles : Settled t (relation_of (states_of t) next) (in_row settled)

module _ (t : List ℕ) (ok : Formed t) (start d : List ℕ) where
  abbrev n : ℕ
  n = states_of t

  abbrev L : Lts
  L = table_lts t

  abbrev R : Rel
  R = relation_of n start

  pub progress-none : {all : List ℕ} → Matrix n start → ((i : ℕ) → get_or start i 0 < 2 ^ 64) → all ≡ matrix_of n (λ p q. true)
      → Progress t start d 0 all start 0 d (replicate {A = ℕ} 4 0)
  unfolding entries_before
  progress-none matrix fits e = record {
    done = record {
      place = let z = at_none d 0 (entries_in L R) in omega (arith, z);
      looked = previous-first t R e;
      written = written_none d 0 (entries_in L R);
    };
    here = round-zero t ok start matrix fits;
    settles = settled-none t ok R;
  }

  module _ {i at : ℕ} {current next numbers settled : List ℕ} (w : Progress t start d i current next at numbers settled) where
    pub progress-rounds : Consecutive t (eqb i 0) current next
    progress-rounds = consecutive t R i ok w.done.looked w.here

    abbrev es : List Entry
    es = round_entries L (eqb i 0) (pairs_of t current) (pairs_of t next)

    place : at ≡ 0 + length (entries_before L R i)
    place = omega (arith, w.done.place)

    -- there is room for the entries of round i
    pub progress-room : {rounds : ℕ} → i < rounds → 4 * length (entries_before L R rounds) ≤ length d → 4 * (at + length es) ≤ length numbers
    unfolding entries_before
    progress-room {rounds} below room =
        subst⁻¹ (λ (x : List Entry). 4 * (at + length x) ≤ length numbers) (round-entries t R i w.done.looked w.here)
        (room_next d 0 (entries_in L R) i rounds below place w.done.written (omega (arith, room)))

    -- they are written, and a round is made
    pub progress-more : {states after : ℕ} {put copy made same : List ℕ} → states ≡ n → after ≡ at + length es → put ≡ sets numbers (4 * at) (entry_numbers es) → copy ≡ next
        → made ≡ matrix_of n (next_round L (restrict n (relation_of n copy)))
        → same ≡ row_of 4 (states_below states (same_rows states (relation_of states copy) (relation_of states made)))
        → Progress t start d (i + 1) copy made after put same
    unfolding entries_before
    progress-more {states} {after} {put} {copy} {made} {same} e count wrote copied step rows =
        let is = round-entries t R i w.done.looked w.here in
        let current = copied ∙ w.here in
        let next = at_more d 0 (entries_in L R) i place (count ∙ ap (λ (x : List Entry). at + length x) is) in
        record {
          done = record {
            place = omega (arith, next);
            looked = previous-next t R i current;
            written = written-more d 0 (entries_in L R) i w.done.written place (wrote ∙ ap (λ (x : List Entry). sets numbers (4 * at) (entry_numbers x)) is);
          };
          here = round-next t ok start i current step;
          settles = settled-next t ok copy step (rows ∙ ap (λ (k : ℕ). row_of 4 (states_below k (same_rows k (relation_of k copy) (relation_of k made)))) e);
        }
