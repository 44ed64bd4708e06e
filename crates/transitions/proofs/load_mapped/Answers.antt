-- `transitions::load_mapped` meets its contract: its states, and the counts. Assumes nothing.
use native.Mathlib.Omega.{arith}
use lib.ListN.{replicate}
use Rattle.lts.specs.System.{Lts}
use Rattle.lts.specs.Mapped.{mapped}
use Rattle.encoding.specs.Denotation.{lts_of}
use Rattle.transitions.specs.Maps.{state_to, action_to}
use Rattle.transitions.specs.Loading.{Images, Loading}
use Rattle.transitions.proofs.Loading.{mapped-start, mapped-images, mapped-filled}
use borrow.Author.Rules.{rules}
use Rattle.transitions.proofs.load_mapped.Goals.{Start}
use Rattle.transitions.proofs.load_mapped.Goals as goal

-- the sheet's system under the maps, of which nothing is loaded at first
abbrev system : Start → Lts
system c = let a = c.args in mapped a.n a.m (state_to a.maps.now) (action_to a.maps.now) (lts_of a.s.now)

first : (c : Start) → Loading (system c) c.args.s.now c.args.h c.args.maps.now c.args.m 0 (replicate 3588 0)
first c =
    mapped-start c.args.s.now c.args.h c.requires.0 c.args.maps.now c.args.n c.args.m c.requires.1 c.requires.2 c.requires.3

images : (c : Start) → Images (system c) c.args.s.now c.args.maps.now 0 c.args.n
images c =
    mapped-images c.args.s.now c.args.h c.requires.0 c.args.maps.now c.args.n c.args.m c.requires.1 c.requires.2 c.requires.3

pub load_rows-requires : goal.load_rows-requires
load_rows-requires c =
    (search rules, (c.args.m, system (goal.at.load_rows-requires c).Start, first (goal.at.load_rows-requires c).Start, images (goal.at.load_rows-requires c).Start))

pub put_counts-requires : goal.put_counts-requires
put_counts-requires c =
    (omega (arith, c.requires.2), omega (arith, c.requires.3), omega (arith, c.offset-k.ensures.1))

pub returns : goal.returns
returns c =
    let f = c.load_rows.ensures c.args.m (system (goal.at.returns c).Start) (first (goal.at.returns c).Start) (images (goal.at.returns c).Start) in
    rw (c.put_counts.ensures, c.offset-k.ensures.0)
    (mapped-filled c.args.s.now c.args.h c.requires.0 c.args.maps.now c.args.n c.args.m c.requires.1 c.requires.2 c.requires.3 f)
