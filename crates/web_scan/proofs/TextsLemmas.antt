-- The texts of macros and sections, a token at a time.
use Rattle.std.proofs.Common.{◌≡◌, ◌≢◌, ℕ, suc, ◌+◌, ◌-◌, ◌<◌, ◌≤◌, ◌==◌, Bool, true, false, List, [], ◌∷◌}
use Rattle.std.proofs.Common.{◌++◌}
use Rattle.std.proofs.Common.{length, drop, Some, None, Result, Ok, Err, refl, sym, ap, ◌∙◌, arith}
use Rattle.std.proofs.Common.{length-drop}
use Rattle.std.specs.Prelude.{nat_lt, fold, if◌then◌else◌}
use Rattle.std.proofs.lemmas.Bool.{ltb-true}
use Rattle.std.proofs.lemmas.List.{drop-append-le}
use Rattle.std.proofs.lemmas.List.Sums.{fold-append}
use Rattle.wb_base.specs.declared.faults.Fault.{Fault}
use Rattle.wb_base.specs.declared.faults.TheConstants.{LIMIT_TOKENS}
use Rattle.wb_base.specs.declared.places.Place.{Place}
use Rattle.wb_base.specs.declared.tokens.Tok.{Tok}
use Rattle.wb_base.specs.declared.tokens.Tok.TheVariants as tok
use Rattle.wb_base.specs.FaultAt.{limit_passed}
use Rattle.wb_base.specs.Steps.{◌>>=◌}
use Rattle.web_lex.specs.declared.codes.Code.{Code}
use Rattle.web_lex.specs.Token.{Token, end_of_input}
use Rattle.web_scan.proofs.StepsLemmas.{StillReads, scanning_stops, scanning_more, same_rest}
use Rattle.web_names.specs.declared.classes.Class.{Class}
use Rattle.web_scan.specs.declared.limits.TheConstants.{TOKEN_LIMIT}
use Rattle.web_scan.specs.Refusals.{stored}
use Rattle.web_scan.specs.Scanned.{Scanned, Scanning, token_read, most_tokens}
use Rattle.web_scan.specs.Texts.{opened_after, still_open, stored_since, text_token, ended_text, ending_code}
use Rattle.web_scan.specs.Texts.{TextRead, macro_text, macro_text_from}

-- the text of a macro from a token on
abbrev macro_text_at : Class → ℕ → ℕ → Token × Scanning → TextRead
macro_text_at kind first left read =
    macro_text_from kind first read.0 read.1 (macro_text left kind first) (ending_code read.0)

-- a token more, or one that ends the text
pub macro_text-more :
    (kind : Class) (first : ℕ) (now read next : Scanning) (token : Token) (left : ℕ)
    → token_read now ≡ Ok (token, read) → ending_code token ≡ None → text_token kind first token read ≡ Ok next
    → macro_text (suc left) kind first now ≡ macro_text left kind first next
unfolding macro_text
macro_text-more kind first now read next token left is goes_on stores =
    ap (λ (r : Result (Token × Scanning) Fault). r >>= macro_text_at kind first left) is
    ∙ ap (macro_text_from kind first token read (macro_text left kind first)) goes_on
    ∙ ap (λ (r : Result Scanning Fault). r >>= macro_text left kind first) stores

pub macro_text-refused :
    (kind : Class) (first : ℕ) (now read : Scanning) (token : Token) (fault : Fault) (left : ℕ)
    → token_read now ≡ Ok (token, read) → ending_code token ≡ None → text_token kind first token read ≡ Err fault
    → macro_text (suc left) kind first now ≡ Err fault
unfolding macro_text
macro_text-refused kind first now read token fault left is goes_on refuses =
    ap (λ (r : Result (Token × Scanning) Fault). r >>= macro_text_at kind first left) is
    ∙ ap (macro_text_from kind first token read (macro_text left kind first)) goes_on
    ∙ ap (λ (r : Result Scanning Fault). r >>= macro_text left kind first) refuses

pub macro_text-ends :
    (kind : Class) (first : ℕ) (now read : Scanning) (token : Token) (code : Code) (text : List Tok) (left : ℕ)
    → token_read now ≡ Ok (token, read) → ending_code token ≡ Some code → ended_text first read ≡ Ok text
    → macro_text (suc left) kind first now ≡ Ok (text, code, read)
unfolding macro_text
macro_text-ends kind first now read token code text left is ends balanced =
    ap (λ (r : Result (Token × Scanning) Fault). r >>= macro_text_at kind first left) is
    ∙ ap (macro_text_from kind first token read (macro_text left kind first)) ends
    ∙ ap (λ (r : Result (List Tok) Fault). r >>= (λ text. Ok (text, code, read))) balanced

pub macro_text-open :
    (kind : Class) (first : ℕ) (now read : Scanning) (token : Token) (code : Code) (fault : Fault) (left : ℕ)
    → token_read now ≡ Ok (token, read) → ending_code token ≡ Some code → ended_text first read ≡ Err fault
    → macro_text (suc left) kind first now ≡ Err fault
unfolding macro_text
macro_text-open kind first now read token code fault left is ends unended =
    ap (λ (r : Result (Token × Scanning) Fault). r >>= macro_text_at kind first left) is
    ∙ ap (macro_text_from kind first token read (macro_text left kind first)) ends
    ∙ ap (λ (r : Result (List Tok) Fault). r >>= (λ text. Ok (text, code, read))) unended

pub macro_text-unread :
    (kind : Class) (first : ℕ) (now : Scanning) (fault : Fault) (left : ℕ)
    → token_read now ≡ Err fault → macro_text (suc left) kind first now ≡ Err fault
unfolding macro_text
macro_text-unread kind first now fault left is =
    ap (λ (r : Result (Token × Scanning) Fault). r >>= macro_text_at kind first left) is

-- what is stored with one more token
pub record IsStored (web : Scanned) (token : Tok) (after : Scanned) : Type 0 where
  pub few : length web.tokens < TOKEN_LIMIT
  pub tokens : after.tokens ≡ web.tokens ++ token ∷ []

stored_by :
    (place : Place) (token : Tok) (web after : Scanned) (room : Bool) → nat_lt (length web.tokens) TOKEN_LIMIT ≡ room
    → (if room then Ok web else Err (limit_passed LIMIT_TOKENS place))
    >>= (λ web. Ok (record web { tokens = web.tokens ++ token ∷ [] })) ≡ Ok after
    → IsStored web token after
stored_by place token web after true room is =
    let same : record web { tokens = web.tokens ++ token ∷ [] } ≡ after = cc in
    record {
      few = ltb-true (length web.tokens) TOKEN_LIMIT room;
      tokens = sym
          (ap (λ (web : Scanned). web.tokens) same);
    }
stored_by place token web after false room is = absurd cc

pub is_stored : (place : Place) (token : Tok) (web after : Scanned) → stored place token web ≡ Ok after
    → IsStored web token after
is_stored place token web after is = stored_by place token web after (nat_lt (length web.tokens) TOKEN_LIMIT) refl is

-- parentheses after one more token
pub open-stored :
    (first : ℕ) (web after : Scanned) (token : Tok) → first ≤ length web.tokens → IsStored web token after
    → still_open (stored_since first after) ≡ opened_after (still_open (stored_since first web)) token
open-stored first web after token within is =
    ap (λ tokens. still_open (drop first tokens)) is.tokens
    ∙ ap still_open (drop-append-le first web.tokens (token ∷ []) within)
    ∙ fold-append opened_after 0 (drop first web.tokens) (token ∷ [])

-- no more parentheses are open than tokens are stored
opened_by-le : (depth : ℕ) (opens closes : Bool)
    → (if opens then depth + 1 else (if closes then depth - 1 else depth)) ≤ depth + 1
opened_by-le depth true closes = omega arith
opened_by-le depth false true = omega arith
opened_by-le depth false false = omega arith

opened_after-le : (depth : ℕ) (token : Tok) → opened_after depth token ≤ depth + 1
opened_after-le depth (tok.Sign byte) = opened_by-le depth (byte == 40) (byte == 41)
opened_after-le depth other = omega arith

fold-le : (text : List Tok) (depth : ℕ) → fold opened_after depth text ≤ depth + length text
fold-le [] depth = omega arith
fold-le (token ∷ text) depth =
    let further = fold-le text (opened_after depth token) in
    let here = opened_after-le depth token in
    omega arith

pub still_open-le : (first : ℕ) (web : Scanned) → still_open (stored_since first web) ≤ length web.tokens
still_open-le first web =
    let text = fold-le (drop first web.tokens) 0 in
    omega (arith, length-drop first web.tokens)

-- a token that ends no macro's text is not the end of the input
pub not_end : (token : Token) → ending_code token ≡ None → token ≢ end_of_input
not_end token goes_on is = let wrong = ap ending_code (sym is) ∙ goes_on in absurd cc

-- the text of a macro is still what is read, where one token more was stored
pub macro_text-step :
    (kind kind' : Class) (first first' : ℕ) (start now read next : Scanning) (token : Token)
    → StillReads most_tokens (λ most. macro_text most kind first) start now → kind' ≡ kind → first' ≡ first
    → token_read now ≡ Ok (token, read)
    → (token ≢ end_of_input → length read.reading.rest < length now.reading.rest)
    → ending_code token ≡ None → text_token kind' first' token read ≡ Ok next → next.reading ≡ read.reading
    → StillReads most_tokens (λ most. macro_text most kind first) start next
macro_text-step kind kind' first first' start now read next token still same_kind same_first is less none stores same =
    let stores' = ap (λ kind. text_token kind first token read) (sym same_kind)
    ∙ ap (λ first. text_token kind' first token read) (sym same_first) ∙ stores in
    scanning_more (λ most. macro_text most kind first) start now read next token still (not_end token none) less
    (same_rest next.reading read.reading same)
    (λ left. macro_text-more kind first now read next token left is none stores')

pub macro_text-refuses :
    (kind kind' : Class) (first first' : ℕ) (start now read : Scanning) (token : Token) (fault : Fault)
    → StillReads most_tokens (λ most. macro_text most kind first) start now → kind' ≡ kind → first' ≡ first
    → token_read now ≡ Ok (token, read)
    → ending_code token ≡ None → text_token kind' first' token read ≡ Err fault
    → (most : ℕ) → length start.reading.rest < most → macro_text most kind first start ≡ Err fault
macro_text-refuses kind kind' first first' start now read token fault still same_kind same_first is goes_on refuses =
    let refuses' = ap (λ kind. text_token kind first token read) (sym same_kind)
    ∙ ap (λ first. text_token kind' first token read) (sym same_first) ∙ refuses in
    scanning_stops (λ most. macro_text most kind first) start now (Err fault) still
    (λ left. macro_text-refused kind first now read token fault left is goes_on refuses')

pub macro_text-done :
    (kind : Class) (first first' : ℕ) (start now read : Scanning) (token : Token) (code : Code)
    → StillReads most_tokens (λ most. macro_text most kind first) start now → first' ≡ first
    → token_read now ≡ Ok (token, read) → ending_code token ≡ Some code
    → ended_text first' read ≡ Ok (stored_since first' read.web)
    → (most : ℕ) → length start.reading.rest < most
    → macro_text most kind first start ≡ Ok (stored_since first read.web, code, read)
macro_text-done kind first first' start now read token code still same is ends balanced =
    let balanced' = ap (λ first. ended_text first read) (sym same) ∙ balanced
    ∙ ap (λ first. Ok (stored_since first read.web)) same in
    scanning_stops (λ most. macro_text most kind first) start now _ still
    (λ left. macro_text-ends kind first now read token code (stored_since first read.web) left is ends balanced')

pub macro_text-unbalanced :
    (kind : Class) (first first' : ℕ) (start now read : Scanning) (token : Token) (code : Code) (fault : Fault)
    → StillReads most_tokens (λ most. macro_text most kind first) start now → first' ≡ first
    → token_read now ≡ Ok (token, read) → ending_code token ≡ Some code → ended_text first' read ≡ Err fault
    → (most : ℕ) → length start.reading.rest < most → macro_text most kind first start ≡ Err fault
macro_text-unbalanced kind first first' start now read token code fault still same is ends unended =
    let unended' = ap (λ first. ended_text first read) (sym same) ∙ unended in
    scanning_stops (λ most. macro_text most kind first) start now (Err fault) still
    (λ left. macro_text-open kind first now read token code fault left is ends unended')

pub macro_text-fault :
    (kind : Class) (first : ℕ) (start now : Scanning) (fault : Fault)
    → StillReads most_tokens (λ most. macro_text most kind first) start now → token_read now ≡ Err fault
    → (most : ℕ) → length start.reading.rest < most → macro_text most kind first start ≡ Err fault
macro_text-fault kind first start now fault still is =
    scanning_stops (λ most. macro_text most kind first) start now (Err fault) still
    (λ left. macro_text-unread kind first now fault left is)
