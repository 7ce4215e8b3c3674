-- What the answers of the reader stand for. No public contract cites this.
use Rattle.std.specs.Prelude.{List, Result, Ok, Err}
use Rattle.wb_base.specs.declared.faults.Fault.{Fault}
use Rattle.web_lex.specs.declared.reader.Read.{Read as CodeRead}
use Rattle.web_lex.specs.Raw.{PlacedByte}
use Rattle.web_lex.specs.Reading.{Read}
use Rattle.web_lex.specs.Token.{token_of}

-- a token with what stands after it, or a fault
abbrev pub read_of : Result CodeRead Fault → List PlacedByte → Result Read Fault
read_of (Ok read) rest =
    Ok (record { token = token_of read.token; place = read.place; rest = rest; after_digit = read.after_digit })
read_of (Err fault) rest = Err fault
