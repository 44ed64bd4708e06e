-- `conversion::put_front` meets its contract: the header, and in a named sheet the names behind it.
use native.Mathlib.Omega.{arith}
use lib.ListN.{length}
use Rattle.conversion.proofs.Written.{plain-front, named-front, names-room}
use Rattle.conversion.proofs.put_front.Goals as goal

pub put_labels-requires : goal.put_labels-requires
put_labels-requires c = let long = c.put.auto.out in
    (c.requires.0, omega (arith, long, names-room c.args.h (length c.args.out.now) c.if-named.true c.requires.1))

pub returns-then-named : goal.returns-then-named
returns-then-named c = named-front _ _ _ c.of_kind.ensures c.if-named.true c.put.ensures c.put_labels.ensures

pub returns-else-named : goal.returns-else-named
returns-else-named c = plain-front _ _ _ c.of_kind.ensures c.if-named.false c.put.ensures
