-- `encoding::Header::put` meets its contract.
use Rattle.encoding.specs.Records.{header_bytes, two}
use Rattle.encoding.proofs.Header.put.Goals as goal

pub returns : goal.returns
unfolding header_bytes two
returns c =
    rw (c.put_two-3.ensures, c.put_two-2.ensures, c.put_two.ensures, c.first.ensures)
