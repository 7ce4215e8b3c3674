-- Texts that are read are texts of the web.
use Rattle.std.proofs.Common.{◌≡◌, ℕ, zero, suc, ◌==◌, ◌&&◌, Bool, true, false, List, Option, Some, None, Result, Ok}
use Rattle.std.proofs.Common.{Err, IfOk, refl, sym, subst}
use Rattle.wb_base.specs.declared.faults.Fault.{Fault}
use Rattle.wb_base.specs.declared.faults.TheConstants.{UNBALANCED_PARENTHESES}
use Rattle.wb_base.specs.declared.tokens.Tok.{Tok}
use Rattle.wb_base.specs.FaultAt.{fault_at}
use Rattle.wb_base.specs.Steps.{◌>>=◌}
use Rattle.web_lex.specs.declared.codes.Code.{Code}
use Rattle.web_lex.specs.declared.codes.Code.TheVariants as code
use Rattle.web_lex.specs.Token.{Token}
use Rattle.web_lex.specs.Reading.{next_token}
use Rattle.web_names.specs.declared.classes.Class.{Class}
use Rattle.web_names.specs.declared.classes.Class.TheVariants as class
use Rattle.web_scan.specs.Scanned.{Scanned, Scanning, place_of_last, token_read}
use Rattle.web_scan.specs.Texts.{token_stored, still_open, is_closing, stored_since, text_token, ended_text}
use Rattle.web_scan.specs.Texts.{ending_code, TextRead, macro_text_from, macro_text}
use Rattle.web_scan.specs.Lawful.{IsTextOf, HasNoParameter}
use Rattle.web_scan.proofs.AnswerLemmas.{IfOk-step, choice}
use Rattle.web_scan.proofs.ReadTokenLemmas.{IsReadable, next_token-readable}
use Rattle.web_scan.proofs.StringNumberLemmas.{AreFew}
use Rattle.web_scan.proofs.KeepsLemmas.{Keeps, Keeps-more}
use Rattle.web_scan.proofs.StoredTokenLemmas.{Stores, token_stored-stores}
use Rattle.web_scan.proofs.OpenTextLemmas.{IsSoFar, IsSoFar-more, IsTextOf-so_far}

-- a token that was read
pub record IsTokenRead (before : Scanning) (read : Token × Scanning) : Type 0 where
  pub same : read.1.web ≡ before.web
  pub readable : IsReadable read.0

pub token_read-is : (scanning : Scanning) → IfOk (token_read scanning) (IsTokenRead scanning)
token_read-is scanning =
    IfOk-step (λ read. IsReadable read.0) (IsTokenRead scanning) (next_token scanning.reading)
    (λ read. Ok (read.0, record scanning { reading = read.1 })) (next_token-readable scanning.reading)
    (λ read readable. record { same = refl; readable = readable })

-- of two tests that do not both pass, the second
other_false : (one other : Bool) → one ≡ true → one && other ≡ false → other ≡ false
other_false true other is both = both
other_false false other is both = absurd cc

-- what a token of an open text leaves
pub record Continues (kind : Class) (first : ℕ) (before after : Scanned) : Type 0 where
  pub keeps : Keeps before after
  pub few : AreFew after.strings
  pub so_far : IsSoFar kind first after

pub text_token-continues :
    (kind : Class) (first : ℕ) (token : Token) (scanning : Scanning) → AreFew scanning.web.strings → IsReadable token
    → IsSoFar kind first scanning.web
    → IfOk (text_token kind first token scanning) (λ after. Continues kind first scanning.web after.web)
text_token-continues kind first token scanning few readable is =
    let after_it : Scanned → Result Scanning Fault = λ web. Ok (record scanning { web = web }) in
    let extra = is_closing token && still_open (stored_since first scanning.web) == 0 in
    choice (λ answer. IfOk answer (λ after. Continues kind first scanning.web after.web)) extra
    (Err (fault_at UNBALANCED_PARENTHESES (place_of_last scanning)))
    (token_stored kind (place_of_last scanning) token scanning.web >>= after_it) (λ extra. tt)
    (λ not_extra. IfOk-step (Stores kind token scanning.web) (λ after. Continues kind first scanning.web after.web)
    (token_stored kind (place_of_last scanning) token scanning.web) after_it
    (token_stored-stores kind (place_of_last scanning) token scanning.web few readable)
    (λ web stores. record {
      keeps = stores.keeps;
      few = stores.few;
      so_far = IsSoFar-more kind first token scanning.web web
          (λ closes. other_false (is_closing token) (still_open (stored_since first scanning.web) == 0) closes
          not_extra) stores is;
    }))

-- a text of a web before it, which was read
pub record IsReadText (kind : Class) (before : Scanned) (text : List Tok) (after : Scanned) : Type 0 where
  pub keeps : Keeps before after
  pub few : AreFew after.strings
  pub of : IsTextOf after text
  pub parameter : (kind ≡ class.Parametric → ⊥) → HasNoParameter text

abbrev pub HasReadText : Class → Scanned → TextRead → Type 0
HasReadText kind before answer = IfOk answer (λ read. IsReadText kind before read.0 read.2.web)

-- at its end
pub ended-read :
    (kind : Class) (first : ℕ) (before : Scanned) (last : Code) (scanning : Scanning)
    → Continues kind first before scanning.web
    → HasReadText kind before (ended_text first scanning >>= (λ text. Ok (text, last, scanning)))
ended-read kind first before last scanning is =
    let text = stored_since first scanning.web in
    let further : List Tok → TextRead = λ text. Ok (text, last, scanning) in
    choice (λ (answer : Result (List Tok) Fault). HasReadText kind before (answer >>= further)) (still_open text == 0)
    (Ok text)
    (Err (fault_at UNBALANCED_PARENTHESES (place_of_last scanning)))
    (λ closed. record {
      keeps = is.keeps;
      few = is.few;
      of = IsTextOf-so_far kind first scanning.web is.so_far closed;
      parameter = is.so_far.parameter;
    }) (λ still. tt)

-- a text that goes on after one more of its tokens
pub Continues-more :
    (kind : Class) (first : ℕ) (before between after : Scanned) → Keeps before between
    → Continues kind first between after → Continues kind first before after
Continues-more kind first before between after keeps is =
    record { keeps = Keeps-more before between after keeps is.keeps; few = is.few; so_far = is.so_far }

-- the text of a macro from a token on
macro_text_from-read :
    (kind : Class) (first : ℕ) (before : Scanned) (token : Token) (scanning : Scanning) (further : Scanning → TextRead)
    (last : Option Code) → IsReadable token → Continues kind first before scanning.web
    → ((after : Scanning) → Continues kind first before after.web → HasReadText kind before (further after))
    → HasReadText kind before (macro_text_from kind first token scanning further last)
macro_text_from-read kind first before token scanning further (Some last) readable is goes_on =
    ended-read kind first before last scanning is
macro_text_from-read kind first before token scanning further None readable is goes_on =
    IfOk-step (λ after. Continues kind first scanning.web after.web)
    (λ read. IsReadText kind before read.0 read.2.web) (text_token kind first token scanning) further
    (text_token-continues kind first token scanning is.few readable is.so_far)
    (λ after more. goes_on after (Continues-more kind first before scanning.web after.web is.keeps more))

-- the same text in a web that is the same
pub same_web : (kind : Class) (first : ℕ) (before web other : Scanned) → other ≡ web → Continues kind first before web
    → Continues kind first before other
same_web kind first before web other same is = subst (Continues kind first before) (sym same) is

pub macro_text-read :
    (most : ℕ) (kind : Class) (first : ℕ) (before : Scanned) (scanning : Scanning)
    → Continues kind first before scanning.web → HasReadText kind before (macro_text most kind first scanning)
unfolding macro_text
macro_text-read zero kind first before scanning is = ended-read kind first before code.End scanning is
macro_text-read (suc most) kind first before scanning is =
    IfOk-step (IsTokenRead scanning) (λ read. IsReadText kind before read.0 read.2.web) (token_read scanning)
    (λ read. macro_text_from kind first read.0 read.1 (macro_text most kind first) (ending_code read.0))
    (token_read-is scanning)
    (λ read token. macro_text_from-read kind first before read.0 read.1 (macro_text most kind first)
    (ending_code read.0) token.readable
    (same_web kind first before scanning.web read.1.web token.same is) (macro_text-read most kind first before))
