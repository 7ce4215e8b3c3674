-- The heads and texts of sections, a token at a time.
use Rattle.std.proofs.Common.{◌≡◌, ◌≢◌, ℕ, suc, ◌<◌, ◌≤◌, Bool, true, false, List, length, drop}
use Rattle.std.proofs.Common.{Option, Some, None}
use Rattle.std.proofs.Common.{Result, Ok, Err, refl, sym, ap, ◌∙◌, subst, arith}
use Rattle.std.specs.Prelude.{if◌then◌else◌}
use Rattle.wb_base.specs.declared.faults.Fault.{Fault}
use Rattle.wb_base.specs.declared.faults.TheConstants.{NO_EQUALS_SIGN}
use Rattle.wb_base.specs.declared.tokens.Tok.{Tok}
use Rattle.wb_base.specs.FaultAt.{fault_at}
use Rattle.wb_base.specs.Steps.{◌>>=◌}
use Rattle.web_lex.specs.declared.codes.Code.{Code}
use Rattle.web_lex.specs.declared.codes.Code.TheVariants as code
use Rattle.web_lex.specs.Reading.{Reading}
use Rattle.web_lex.specs.Token.{Token, end_of_input, control}
use Rattle.web_names.specs.declared.classes.Class.{Class}
use Rattle.web_names.specs.declared.classes.Class.TheVariants as class
use Rattle.web_scan.specs.Definitions.{is_sign}
use Rattle.web_scan.specs.Scanned.{Scanned, Scanning, place_of_last, token_read, most_tokens}
use Rattle.web_scan.specs.Sections.{is_equals, head_from, head_read, section_used, section_text, section_text_from}
use Rattle.web_scan.specs.Sections.{with_pascal_text, pascal_text, name_read, named_text}
use Rattle.web_scan.proofs.ScannerLemmas.{scanning_with}
use Rattle.web_scan.specs.Texts.{TextRead, text_token, still_open, stored_since, ending_code}
use Rattle.web_scan.specs.declared.texts.OpenText.{OpenText}
use Rattle.web_scan.specs.inner.Open.{IsOpen}
use Rattle.web_scan.specs.inner.Ended.{section_ended}
use Rattle.web_scan.proofs.StepsLemmas.{StillReads, scanning_stops, scanning_more, same_rest}
use Rattle.web_scan.proofs.TextsLemmas.{not_end}

-- the head of a named text by its next token
head_read-step :
    (now read : Scanning) (token : Token) (equals plus : Bool) (left : ℕ) → token_read now ≡ Ok (token, read)
    → is_equals token ≡ equals → is_sign 43 token ≡ plus
    → head_read (suc left) now
    ≡ (if equals then Ok read
    else (if plus then head_read left read else Err (fault_at NO_EQUALS_SIGN (place_of_last read))))
unfolding head_read
head_read-step now read token equals plus left is equal added =
    let refusal : Result Scanning Fault = Err (fault_at NO_EQUALS_SIGN (place_of_last read)) in
    ap (λ (r : Result (Token × Scanning) Fault). r >>= (λ read. head_from read.0 read.1 (head_read left))) is
    ∙ ap (λ equals. if equals then Ok read else (if is_sign 43 token then head_read left read else refusal)) equal
    ∙ ap (λ plus. if equals then Ok read else (if plus then head_read left read else refusal)) added

head_read-unread :
    (now : Scanning) (fault : Fault) (left : ℕ) → token_read now ≡ Err fault → head_read (suc left) now ≡ Err fault
unfolding head_read
head_read-unread now fault left is =
    ap (λ (r : Result (Token × Scanning) Fault). r >>= (λ read. head_from read.0 read.1 (head_read left))) is

pub head_read-ends :
    (start now read : Scanning) (token : Token) → StillReads most_tokens head_read start now
    → token_read now ≡ Ok (token, read) → is_equals token ≡ true
    → (most : ℕ) → length start.reading.rest < most → head_read most start ≡ Ok read
head_read-ends start now read token still is equal =
    scanning_stops head_read start now (Ok read) still
    (λ left. head_read-step now read token true (is_sign 43 token) left is equal refl)

pub head_read-refuses :
    (start now read : Scanning) (token : Token) (fault : Fault) → StillReads most_tokens head_read start now
    → token_read now ≡ Ok (token, read) → is_equals token ≡ false → is_sign 43 token ≡ false
    → fault ≡ fault_at NO_EQUALS_SIGN (place_of_last read)
    → (most : ℕ) → length start.reading.rest < most → head_read most start ≡ Err fault
head_read-refuses start now read token fault still is equal added same =
    scanning_stops head_read start now (Err fault) still
    (λ left. head_read-step now read token false false left is equal added ∙ ap Err (sym same))

pub head_read-fault :
    (start now : Scanning) (fault : Fault) → StillReads most_tokens head_read start now → token_read now ≡ Err fault
    → (most : ℕ) → length start.reading.rest < most → head_read most start ≡ Err fault
head_read-fault start now fault still is =
    scanning_stops head_read start now (Err fault) still (λ left. head_read-unread now fault left is)

-- `+` is not the end of the input
sign_no_end : (byte : ℕ) (token : Token) → is_sign byte token ≡ true → token ≢ end_of_input
sign_no_end byte token is end = let wrong = ap (is_sign byte) (sym end) ∙ is in absurd cc

pub head_read-more :
    (start now read : Scanning) (token : Token) → StillReads most_tokens head_read start now
    → token_read now ≡ Ok (token, read)
    → (token ≢ end_of_input → length read.reading.rest < length now.reading.rest)
    → is_equals token ≡ false → is_sign 43 token ≡ true → StillReads most_tokens head_read start read
head_read-more start now read token still is shorter equal added =
    scanning_more head_read start now read read token still (sign_no_end 43 token added) shorter (omega arith)
    (λ left. head_read-step now read token false true left is equal added)

-- the text of a section by the code that would end the text of a macro
abbrev by_code : ℕ → Token → Scanning → (Scanning → TextRead) → Option Code → TextRead
by_code first token scanning further None = text_token class.Ordinary first token scanning >>= further
by_code first token scanning further (Some code.Name) = section_used scanning >>= further
by_code first token scanning further (Some code) = section_ended first code scanning

from_code :
    (first : ℕ) (c : Code) (scanning : Scanning) (further : Scanning → TextRead)
    → section_text_from first (control c) scanning further
    ≡ by_code first (control c) scanning further (ending_code (control c))
from_code first code.Definition scanning further = refl
from_code first code.Format scanning further = refl
from_code first code.Pascal scanning further = refl
from_code first code.Name scanning further = refl
from_code first code.Section scanning further = refl
from_code first other scanning further = refl

from_token :
    (first : ℕ) (token : Token) (scanning : Scanning) (further : Scanning → TextRead)
    → section_text_from first token scanning further ≡ by_code first token scanning further (ending_code token)
from_token first (control c) scanning further = from_code first c scanning further
from_token first end_of_input scanning further = refl
from_token first other scanning further = refl

-- the text of a section from a token on
abbrev section_text_at : ℕ → ℕ → Token × Scanning → TextRead
section_text_at first left read = section_text_from first read.0 read.1 (section_text left first)

section_text-step :
    (first : ℕ) (now read : Scanning) (token : Token) (ending : Option Code) (left : ℕ)
    → token_read now ≡ Ok (token, read) → ending_code token ≡ ending
    → section_text (suc left) first now ≡ by_code first token read (section_text left first) ending
unfolding section_text
section_text-step first now read token ending left is ends =
    ap (λ (r : Result (Token × Scanning) Fault). r >>= section_text_at first left) is
    ∙ from_token first token read (section_text left first)
    ∙ ap (by_code first token read (section_text left first)) ends

section_text-unread :
    (first : ℕ) (now : Scanning) (fault : Fault) (left : ℕ) → token_read now ≡ Err fault
    → section_text (suc left) first now ≡ Err fault
unfolding section_text
section_text-unread first now fault left is =
    ap (λ (r : Result (Token × Scanning) Fault). r >>= section_text_at first left) is

pub section_text-fault :
    (first : ℕ) (start now : Scanning) (fault : Fault)
    → StillReads most_tokens (λ most. section_text most first) start now → token_read now ≡ Err fault
    → (most : ℕ) → length start.reading.rest < most → section_text most first start ≡ Err fault
section_text-fault first start now fault still is =
    scanning_stops (λ most. section_text most first) start now (Err fault) still
    (λ left. section_text-unread first now fault left is)

-- a token that is stored
pub section_text-more :
    (kind : Class) (first first' : ℕ) (start now read next : Scanning) (token : Token)
    → StillReads most_tokens (λ most. section_text most first) start now → kind ≡ class.Ordinary → first' ≡ first
    → token_read now ≡ Ok (token, read)
    → (token ≢ end_of_input → length read.reading.rest < length now.reading.rest)
    → ending_code token ≡ None → text_token kind first' token read ≡ Ok next → next.reading ≡ read.reading
    → StillReads most_tokens (λ most. section_text most first) start next
section_text-more kind first first' start now read next token still same_kind same_first is shorter none stores same =
    let stores' = ap (λ kind. text_token kind first token read) (sym same_kind)
    ∙ ap (λ first. text_token kind first token read) (sym same_first) ∙ stores in
    scanning_more (λ most. section_text most first) start now read next token still (not_end token none) shorter
    (same_rest next.reading read.reading same)
    (λ left. section_text-step first now read token None left is none
    ∙ ap (λ (r : Result Scanning Fault). r >>= section_text left first) stores')

pub section_text-refuses :
    (kind : Class) (first first' : ℕ) (start now read : Scanning) (token : Token) (fault : Fault)
    → StillReads most_tokens (λ most. section_text most first) start now → kind ≡ class.Ordinary → first' ≡ first
    → token_read now ≡ Ok (token, read) → ending_code token ≡ None → text_token kind first' token read ≡ Err fault
    → (most : ℕ) → length start.reading.rest < most → section_text most first start ≡ Err fault
section_text-refuses kind first first' start now read token fault still same_kind same_first is goes_on refuses =
    let refuses' = ap (λ kind. text_token kind first token read) (sym same_kind)
    ∙ ap (λ first. text_token kind first token read) (sym same_first) ∙ refuses in
    scanning_stops (λ most. section_text most first) start now (Err fault) still
    (λ left. section_text-step first now read token None left is goes_on
    ∙ ap (λ (r : Result Scanning Fault). r >>= section_text left first) refuses')

-- the name of a section
name_no_end : (token : Token) → ending_code token ≡ Some code.Name → token ≢ end_of_input
name_no_end token ends is = let wrong = ap ending_code (sym is) ∙ ends in absurd cc

pub section_text-used :
    (first : ℕ) (start now read next : Scanning) (token : Token)
    → StillReads most_tokens (λ most. section_text most first) start now → token_read now ≡ Ok (token, read)
    → (token ≢ end_of_input → length read.reading.rest < length now.reading.rest)
    → ending_code token ≡ Some code.Name → section_used read ≡ Ok next
    → length next.reading.rest ≤ length read.reading.rest
    → StillReads most_tokens (λ most. section_text most first) start next
section_text-used first start now read next token still is shorter name stores not_longer =
    scanning_more (λ most. section_text most first) start now read next token still
    (name_no_end token name) shorter not_longer
    (λ left. section_text-step first now read token (Some code.Name) left is name
    ∙ ap (λ (r : Result Scanning Fault). r >>= section_text left first) stores)

pub section_text-unused :
    (first : ℕ) (start now read : Scanning) (token : Token) (fault : Fault)
    → StillReads most_tokens (λ most. section_text most first) start now → token_read now ≡ Ok (token, read)
    → ending_code token ≡ Some code.Name → section_used read ≡ Err fault
    → (most : ℕ) → length start.reading.rest < most → section_text most first start ≡ Err fault
section_text-unused first start now read token fault still is name refuses =
    scanning_stops (λ most. section_text most first) start now (Err fault) still
    (λ left. section_text-step first now read token (Some code.Name) left is name
    ∙ ap (λ (r : Result Scanning Fault). r >>= section_text left first) refuses)

-- a section's name opens and closes no parenthesis
pub open_after_name :
    (text : OpenText) (before now after : Scanned) → IsOpen text before → now ≡ before
    → length now.tokens ≤ length after.tokens
    → ((first : ℕ) → first ≤ length now.tokens
    → still_open (stored_since first after) ≡ still_open (stored_since first now))
    → IsOpen text after
open_after_name text before now after opened same grows kept =
    let here : IsOpen text now = subst (IsOpen text) (sym same) opened in
    let within = here.within in
    record { within = omega arith; depth = here.depth ∙ sym (kept text.first here.within) }

-- any other code
not_name :
    (first : ℕ) (token : Token) (c : Code) (scanning : Scanning) (further : Scanning → TextRead) → c ≢ code.Name
    → by_code first token scanning further (Some c) ≡ section_ended first c scanning
not_name first token code.Name scanning further other = absurd (other refl)
not_name first token c scanning further other = refl

pub section_text-ends :
    (first first' : ℕ) (start now read : Scanning) (token : Token) (c : Code)
    → StillReads most_tokens (λ most. section_text most first) start now → first' ≡ first
    → token_read now ≡ Ok (token, read) → ending_code token ≡ Some c → c ≢ code.Name
    → (outcome : TextRead) → section_ended first' c read ≡ outcome
    → (most : ℕ) → length start.reading.rest < most → section_text most first start ≡ outcome
section_text-ends first first' start now read token c still same is ends other outcome ended =
    scanning_stops (λ most. section_text most first) start now outcome still
    (λ left. section_text-step first now read token (Some c) left is ends
    ∙ not_name first token c read (section_text left first) other
    ∙ ap (λ first. section_ended first c read) (sym same) ∙ ended)

-- the Pascal text of a section
pub pascal_text-ok :
    (name : Option ℕ) (now after : Scanning) (reading : Reading) (parts web : Scanned) (first : ℕ) (c : Code)
    → first ≡ length now.web.tokens
    → section_text (most_tokens now) first now ≡ Ok (stored_since first after.web, c, after)
    → scanning_with reading parts ≡ after → web ≡ with_pascal_text name (drop first parts.tokens) parts
    → pascal_text name now ≡ Ok (c, scanning_with reading web)
unfolding pascal_text
pascal_text-ok name now after reading parts web first c same is view after_text =
    let step : List Tok × Code × Scanning → Result (Code × Scanning) Fault =
    λ read. Ok (read.1, record read.2 { web = with_pascal_text name read.0 read.2.web }) in
    ap (λ first. section_text (most_tokens now) first now >>= step) (sym same)
    ∙ ap (λ (r : TextRead). r >>= step) is
    ∙ ap (λ (after : Scanning). step (stored_since first after.web, c, after)) (sym view)
    ∙ ap (λ (web : Scanned). Ok (c, scanning_with reading web)) (sym after_text)

pub pascal_text-fault :
    (name : Option ℕ) (now : Scanning) (first : ℕ) (fault : Fault) → first ≡ length now.web.tokens
    → section_text (most_tokens now) first now ≡ Err fault → pascal_text name now ≡ Err fault
unfolding pascal_text
pascal_text-fault name now first fault same is =
    let step : List Tok × Code × Scanning → Result (Code × Scanning) Fault =
    λ read. Ok (read.1, record read.2 { web = with_pascal_text name read.0 read.2.web }) in
    ap (λ first. section_text (most_tokens now) first now >>= step) (sym same) ∙ ap (λ (r : TextRead). r >>= step) is

-- a Pascal text under a name
named_by : ℕ × Scanning → Result (Code × Scanning) Fault
named_by named = head_read (most_tokens named.1) named.1 >>= pascal_text (Some named.0)

pub named_text-is :
    (now named begun : Scanning) (name : ℕ) → name_read now ≡ Ok (name, named)
    → head_read (most_tokens named) named ≡ Ok begun → named_text now ≡ pascal_text (Some name) begun
unfolding named_text named_by
named_text-is now named begun name is begins =
    ap (λ (r : Result (ℕ × Scanning) Fault). r >>= named_by) is
    ∙ ap (λ (r : Result Scanning Fault). r >>= pascal_text (Some name)) begins

pub named_text-unnamed : (now : Scanning) (fault : Fault) → name_read now ≡ Err fault → named_text now ≡ Err fault
unfolding named_text named_by
named_text-unnamed now fault is = ap (λ (r : Result (ℕ × Scanning) Fault). r >>= named_by) is

pub named_text-headless :
    (now named : Scanning) (name : ℕ) (fault : Fault) → name_read now ≡ Ok (name, named)
    → head_read (most_tokens named) named ≡ Err fault → named_text now ≡ Err fault
unfolding named_text named_by
named_text-headless now named name fault is refuses =
    ap (λ (r : Result (ℕ × Scanning) Fault). r >>= named_by) is
    ∙ ap (λ (r : Result Scanning Fault). r >>= pascal_text (Some name)) refuses
