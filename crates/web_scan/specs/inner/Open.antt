-- Texts that are read.
use Rattle.std.specs.Prelude.{◌≡◌, ◌≤◌, length}
use Rattle.web_scan.specs.declared.texts.OpenText.{OpenText}
use Rattle.web_scan.specs.Scanned.{Scanned}
use Rattle.web_scan.specs.Texts.{still_open, stored_since}

-- the text began after no more tokens than are stored, and so many of its parentheses are open
pub record IsOpen (text : OpenText) (web : Scanned) : Type 0 where
  pub within : text.first ≤ length web.tokens
  pub depth : text.depth ≡ still_open (stored_since text.first web)
