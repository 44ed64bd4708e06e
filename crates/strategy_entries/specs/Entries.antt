-- Strategies in a lent slice of entries.
use Rattle.std.specs.Prelude.{List}
use Rattle.lts.specs.declared.Entry.{Entry}

-- a slice of entries carries what its elements are
abbrev pub itself : List Entry → List Entry
itself es = es
