-- `transitions::load_both` meets its contract: the states of the first, then those of the second, and the counts. Assumes nothing.
use Prim.Native.Nat.{ℕ, ◌≤◌}
use mathlib.Core.Path.{◌≡◌, subst⁻¹}
use mathlib.Core.List.{List}
use native.Mathlib.Omega.{arith}
use lib.ListN.{get_or}
use Rattle.lts.specs.System.{Lts}
use Rattle.lts.specs.Union.{disjoint_union}
use Rattle.lts.specs.Mapped.{mapped}
use Rattle.encoding.specs.declared.Header.{Header}
use Rattle.encoding.specs.Denotation.{lts_of}
use Rattle.transitions.specs.Maps.{Raises}
use Rattle.transitions.specs.Loading.{Images, Loading}
use Rattle.transitions.proofs.Links.{Keeps, raises-keeps}
use Rattle.transitions.proofs.Loading.{Both, both-start, first-images, both-middle, second-images, both-filled}
use borrow.Author.Rules.{rules}
use Rattle.transitions.proofs.load_both.Goals.{Start}
use Rattle.transitions.proofs.load_both.Goals as goal

-- what is asked of the two sheets; the joined flow, and how far it is loaded
module _ (c : Start) where
  abbrev h : Header
  h = c.args.h

  abbrev g : Header
  g = c.args.g

  abbrev both : Both c.args.first.now c.args.second.now h g c.args.to.now c.args.m
  both = record {
    first = c.requires.readable_as.0;
    second = c.requires.readable_as.1;
    room = c.requires.states_bound.0;
    space = c.requires.states_bound.1;
    own = c.requires.actions_le_m.0;
    labels = c.requires.actions_le_m.1;
    sent = c.requires.actions_le_m.2;
  }

  abbrev U : Lts
  U =
      disjoint_union (lts_of c.args.first.now)
      (mapped g.states c.args.m (λ p. p) (λ b. get_or c.args.to.now b 0) (lts_of c.args.second.now))

  -- the first's numbers are as they are
  keeps : {same own : List ℕ} → Raises h.states h.actions 0 same own → ((a : ℕ) → 1 ≤ a → a ≤ c.args.m → get_or same a 0 ≡ a)
      → Keeps h.states h.actions own
  keeps r e = raises-keeps r (λ a l k. e a l (omega (arith, k, both.own)))

  -- at the beginning, and after the first's states
  begun : {own : List ℕ} → Keeps h.states h.actions own → Loading U c.args.first.now h own c.args.m 0 c.args.table.now
  begun {own} r = subst⁻¹ (Loading U c.args.first.now h own c.args.m 0) c.requires.readable_as.2 (both-start both r)

  half : {own t : List ℕ} → Keeps h.states h.actions own
      → ((L : Lts) → Loading L c.args.first.now h own c.args.m 0 c.args.table.now → Images L c.args.first.now own 0 h.states
      → Loading L c.args.first.now h own c.args.m h.states t)
      → Loading U c.args.first.now h own c.args.m h.states t
  half r next = next U (begun r) (first-images both r)

pub load_rows-requires : goal.load_rows-requires
load_rows-requires c =
    let own = keeps (goal.at.load_rows-requires c).Start c.raised-own.ensures c.same_actions.ensures in
    (search rules, (c.args.m, U (goal.at.load_rows-requires c).Start, begun (goal.at.load_rows-requires c).Start own, first-images (both (goal.at.load_rows-requires c).Start) own))

pub load_rows-requires-2 : goal.load_rows-requires-2
load_rows-requires-2 c =
    let own = keeps (goal.at.load_rows-requires-2 c).Start c.raised-own.ensures c.same_actions.ensures in
    let behind = c.raised-behind.ensures in
    let f = both-middle (both (goal.at.load_rows-requires-2 c).Start) behind (half (goal.at.load_rows-requires-2 c).Start own (c.load_rows.ensures c.args.m)) in
    (search rules, (c.args.m, U (goal.at.load_rows-requires-2 c).Start, f, second-images (both (goal.at.load_rows-requires-2 c).Start) behind))

pub offset-k-requires : goal.offset-k-requires
offset-k-requires c =
    omega (arith, (both (goal.at.offset-k-requires c).Start).room)

pub put_counts-requires : goal.put_counts-requires
put_counts-requires c =
    (omega (arith, (both (goal.at.put_counts-requires c).Start).room), omega (arith, (both (goal.at.put_counts-requires c).Start).labels), omega (arith, c.offset-k.ensures.1))

pub returns : goal.returns
returns c =
    let own = keeps (goal.at.returns c).Start c.raised-own.ensures c.same_actions.ensures in
    let behind = c.raised-behind.ensures in
    let f = both-middle (both (goal.at.returns c).Start) behind (half (goal.at.returns c).Start own (c.load_rows.ensures c.args.m)) in
    rw (c.put_counts.ensures, c.offset-k.ensures.0)
    (both-filled (both (goal.at.returns c).Start) behind (c.load_rows-2.ensures c.args.m (U (goal.at.returns c).Start) f (second-images (both (goal.at.returns c).Start) behind)))
