-- How the parts of a web stand for the lists of the definition. Texts are ranges of the stored tokens.
use Rattle.std.specs.Prelude.{ℕ, ◌≡◌, ◌+◌, ◌≤◌, List, map, length, take, drop, All}
use Rattle.wb_base.specs.declared.tokens.Tok.{Tok}
use Rattle.web_names.specs.Identifiers.{name_limit}
use Rattle.web_scan.specs.declared.limits.TheConstants.{TOKEN_LIMIT, SECTION_LIMIT}
use Rattle.web_scan.specs.declared.parts.Parts.TheInside.{Inside}
use Rattle.web_scan.specs.declared.pieces.Span.{Span}
use Rattle.web_scan.specs.Pieces.{pascal_texts_at, IsPieceWithin}
use Rattle.web_scan.specs.Scanned.{Scanned}
use Rattle.web_scan.specs.inner.Under.{AreWithin}

-- the text of a macro
abbrev pub text_at : List Tok → Span → List Tok
text_at tokens span = take span.count (drop span.first tokens)

-- the lists of the definition
abbrev pub scanned_in : Inside → Scanned
scanned_in parts = record {
  names = parts.names;
  sections = parts.sections;
  strings = parts.pool;
  quoted = parts.quoted.items;
  tokens = parts.tokens.items;
  texts = map (text_at parts.tokens.items) parts.texts.items;
  unnamed = pascal_texts_at parts.tokens.items parts.unnamed.items;
  named = map (λ pieces. pascal_texts_at parts.tokens.items pieces.items) parts.named.items;
  count = parts.count;
}

-- the text of a macro is within so many tokens
abbrev pub IsSpanWithin : ℕ → Span → Type 0
IsSpanWithin size span = span.first + span.count ≤ size

-- texts are within the tokens, and all numbers fit
pub record IsKept (parts : Inside) : Type 0 where
  pub same_options : parts.names.options ≡ parts.options
  pub few_names : length parts.names.names ≤ name_limit
  pub few_tokens : length parts.tokens.items ≤ TOKEN_LIMIT
  pub few_quoted : length parts.quoted.items ≤ length parts.tokens.items
  pub few_sections : parts.count ≤ SECTION_LIMIT
  pub texts : All (IsSpanWithin (length parts.tokens.items)) parts.texts.items
  pub unnamed : All (IsPieceWithin (length parts.tokens.items)) parts.unnamed.items
  pub named : AreWithin (length parts.tokens.items) parts.named.items
