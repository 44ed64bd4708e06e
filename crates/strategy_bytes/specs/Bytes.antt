-- Plans carried as bytes: eight bytes an entry, four 16-bit numbers, low byte first.
use Rattle.std.specs.Prelude.{ℕ, List}
use Rattle.lts.specs.declared.Entry.{Entry}
use Rattle.lts.specs.Strategy.{entries_of, entry_numbers}
use Rattle.carry.specs.Carried.{list_of, bytes_of}

-- the bytes that carry entries
abbrev pub entry_bytes : List Entry → List ℕ
entry_bytes es = bytes_of 2 (entry_numbers es)

-- the entries that bytes carry; those past the last whole entry belong to none
abbrev pub entries_of_bytes : List ℕ → List Entry
entries_of_bytes bytes = entries_of (list_of bytes)
