use Rattle.web_pool.specs.Listing.{closing_line}
use Rattle.web_pool.proofs.entries.closing_line.Goals as goal

pub returns : goal.returns
unfolding closing_line
returns c = rw (c.add-2.ensures, c.add.ensures, c.line_of-line.ensures, c.as_bytes.ensures.value, c.format.ensures.text)
