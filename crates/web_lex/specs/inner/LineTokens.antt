-- What the answers of the code stand for. No public contract cites this.
use Rattle.std.specs.Prelude.{ℕ, Result, Ok, Err}
use Rattle.web_lex.specs.declared.tokens.LineToken.{LineToken as CodeToken}
use Rattle.web_lex.specs.declared.quoting.Delimiter.{Delimiter as CodeDelimiter}
use Rattle.web_lex.specs.declared.quoting.Delimiter.TheVariants as delimiters
use Rattle.web_lex.specs.declared.quoting.Part.{Part as CodePart}
use Rattle.web_lex.specs.declared.quoting.Part.TheVariants as parts
use Rattle.web_lex.specs.Token.{LineToken, token_of, Delimiter, quote, end_code, Part, single, doubled, ending, wrong}

-- a token with its size
abbrev pub line_token_view : CodeToken → LineToken
line_token_view found = record { token = token_of found.token; size = found.size }

-- the same, or the number of a fault
abbrev pub line_token_of : Result CodeToken ℕ → Result LineToken ℕ
line_token_of (Ok found) = Ok (line_token_view found)
line_token_of (Err code) = Err code

-- what ends a text
abbrev pub delimiter_of : CodeDelimiter → Delimiter
delimiter_of (delimiters.Quote mark) = quote mark
delimiter_of delimiters.EndCode = end_code

-- what a byte is in a text
abbrev pub part_view : CodePart → Part
part_view parts.Single = single
part_view parts.Doubled = doubled
part_view parts.End = ending
part_view (parts.Wrong code) = wrong code
