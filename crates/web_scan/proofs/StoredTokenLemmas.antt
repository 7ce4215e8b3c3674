-- What a token of a text stores.
use Rattle.std.proofs.Common.{◌≡◌, ℕ, pos, ◌<◌, ◌==◌, ◌⊎◌, inl, inr, true, nat_lt, List, [], ◌∷◌, ◌++◌, length, codes}
use Rattle.std.proofs.Common.{Result, Ok, Err, IfOk, refl, ap, arith, length-append}
use Rattle.std.proofs.lemmas.Bool.Decides.{nat_tests}
use Rattle.std.proofs.lemmas.Int.{ints}
use Rattle.wb_base.specs.declared.faults.Fault.{Fault}
use Rattle.wb_base.specs.declared.faults.TheConstants.{LIMIT_NAMES, LIMIT_TOKENS, LIMIT_STRINGS}
use Rattle.wb_base.specs.declared.places.Place.{Place}
use Rattle.wb_base.specs.declared.tokens.Tok.{Tok}
use Rattle.wb_base.specs.declared.tokens.Tok.TheVariants as tok
use Rattle.wb_base.specs.FaultAt.{limit_passed}
use Rattle.wb_base.specs.Steps.{◌>>=◌}
use Rattle.web_lex.specs.declared.codes.Code.TheVariants as code
use Rattle.web_lex.specs.Token.{Token, control, letter, digit, word, based, sign, joined, quoted, pool, verbatim}
use Rattle.web_names.specs.declared.classes.Class.{Class}
use Rattle.web_names.specs.declared.classes.Class.TheVariants as class
use Rattle.web_names.specs.declared.name_errors.NameErr.{NameErr}
use Rattle.web_names.specs.Identifiers.{folded, used}
use Rattle.web_pool.specs.declared.refusals.PoolErr.{PoolErr}
use Rattle.web_pool.specs.declared.refusals.PoolErr.TheVariants.{TooLong, Full, OutOfMemory}
use Rattle.web_pool.specs.Strings.{numbered}
use Rattle.web_scan.specs.declared.limits.TheConstants.{TOKEN_LIMIT}
use Rattle.web_scan.specs.Refusals.{unless_refused, with_room, stored, string_stored}
use Rattle.web_scan.specs.Scanned.{Scanned}
use Rattle.web_scan.specs.Texts.{undoubled, quoted_text, string_value, word_stored, quoted_stored, sign_token}
use Rattle.web_scan.specs.Texts.{token_stored, is_closing}
use Rattle.web_scan.specs.Lawful.{IsTokenOf}
use Rattle.web_scan.proofs.AnswerLemmas.{IfOk-step, choice}
use Rattle.web_scan.proofs.ReadTokenLemmas.{IsReadable}
use Rattle.web_scan.proofs.StringNumberLemmas.{AreFew, IsNumber, numbered-small, undoubled-visible}
use Rattle.web_scan.proofs.PlacesLemmas.{AddsOrdinary-none, IsUse, used-use}
use Rattle.web_scan.proofs.KeepsLemmas.{Grows, IsTokenOf-grows, Keeps, Keeps-none}

-- a stored token that stands for one that was read: only `)` closes a parenthesis, and only `#` in a parametric text
-- is
-- the parameter
pub record StandsFor (kind : Class) (token : Token) (web : Scanned) (new : Tok) : Type 0 where
  pub of : IsTokenOf web new
  pub closes : new ≡ tok.Sign 41 → is_closing token ≡ true
  pub parameter : new ≡ tok.Param → kind ≡ class.Parametric

-- one more token
pub record HasNew (kind : Class) (token : Token) (web after : Scanned) : Type 0 where
  pub new : Tok
  pub is : after.tokens ≡ web.tokens ++ new ∷ []
  pub stands : StandsFor kind token after new

-- what a token of a text leaves
pub record Stores (kind : Class) (token : Token) (web after : Scanned) : Type 0 where
  pub keeps : Keeps web after
  pub few : AreFew after.strings
  pub tokens : (after.tokens ≡ web.tokens) ⊎ HasNew kind token web after

-- a web to which a name, a string or a text was added for a token
pub record Ready (web ready : Scanned) : Type 0 where
  pub keeps : Keeps web ready
  pub few : AreFew ready.strings
  pub tokens : ready.tokens ≡ web.tokens

-- the web with one more token
with_token : Scanned → Tok → Scanned
with_token web token = record web { tokens = web.tokens ++ token ∷ [] }

pub stored-new :
    (kind : Class) (token : Token) (place : Place) (new : Tok) (web ready : Scanned) → Ready web ready
    → StandsFor kind token ready new → IfOk (stored place new ready) (Stores kind token web)
unfolding with_token
stored-new kind token place new web ready is stands =
    let after = with_token ready new in
    let keeps = is.keeps in
    let same : Grows ready after = record { names = omega arith; sections = omega arith; quoted = omega arith } in
    choice (λ answer. IfOk (answer >>= (λ web. Ok (with_token web new))) (Stores kind token web))
    (nat_lt (length ready.tokens) TOKEN_LIMIT) (Ok ready) (Err (limit_passed LIMIT_TOKENS place))
    (λ room. record {
      keeps = record {
        names = keeps.names;
        sections = keeps.sections;
        quoted = keeps.quoted;
        texts = keeps.texts;
        unnamed = keeps.unnamed;
        named = keeps.named;
      };
      few = is.few;
      tokens = inr (record {
        new = new;
        is = ap (λ tokens. tokens ++ new ∷ []) is.tokens;
        stands = record {
          of = IsTokenOf-grows ready after same new stands.of;
          closes = stands.closes;
          parameter = stands.parameter;
        };
      });
    }) (λ full. tt)

-- a web that is ready as it is
ready_itself : (web : Scanned) → AreFew web.strings → Ready web web
ready_itself web few = record { keeps = Keeps-none web; few = few; tokens = refl }

-- a token that stands for itself
stored-itself :
    (kind : Class) (token : Token) (place : Place) (new : Tok) (web : Scanned) → AreFew web.strings
    → StandsFor kind token web new → IfOk (stored place new web) (Stores kind token web)
stored-itself kind token place new web few stands =
    stored-new kind token place new web web (ready_itself web few) stands

nothing_stored : (kind : Class) (token : Token) (web : Scanned) → AreFew web.strings → Stores kind token web web
nothing_stored kind token web few = record { keeps = Keeps-none web; few = few; tokens = inl refl }

-- what a name's refusal makes of an answer
pub IfOk-unless_refused :
    {A : Type 0} (P : A → Type 0) (which : ℕ) (place : Place) (answer : Result A NameErr) → IfOk answer P
    → IfOk (unless_refused which place answer) P
IfOk-unless_refused P which place (Ok value) holds = holds
IfOk-unless_refused P which place (Err refusal) holds = tt

-- a word
word-stores : (kind : Class) (place : Place) (bytes : List ℕ) (web : Scanned) → AreFew web.strings
    → IfOk (word_stored place bytes web) (Stores kind (word bytes) web)
word-stores kind place bytes web few =
    IfOk-step (IsUse web.names.names) (Stores kind (word bytes) web)
    (unless_refused LIMIT_NAMES place (used web.names.options bytes web.names.names))
    (λ found. stored place (tok.Name found.0) (record web { names = record web.names { names = found.1 } }))
    (IfOk-unless_refused (IsUse web.names.names) LIMIT_NAMES place (used web.names.options bytes web.names.names)
    (used-use web.names.options bytes web.names.names))
    (λ found is. stored-new kind (word bytes) place (tok.Name found.0) web
    (record web { names = record web.names { names = found.1 } })
    (record {
      keeps = record {
        names = is.adds;
        sections = omega arith;
        quoted = omega arith;
        texts = refl;
        unnamed = refl;
        named = refl;
      };
      few = few;
      tokens = refl;
    }) (record { of = is.among; closes = λ other. absurd cc; parameter = λ other. absurd cc }))

-- a text that is printed as it stands
with_quoted : Scanned → List ℕ → Scanned
with_quoted web bytes = record web { quoted = web.quoted ++ bytes ∷ [] }

quoted-ready : (web : Scanned) (bytes : List ℕ) → AreFew web.strings → Ready web (with_quoted web bytes)
unfolding with_quoted
quoted-ready web bytes few =
    record {
      keeps = record {
        names = AddsOrdinary-none web.names.names;
        sections = omega arith;
        quoted = omega (arith, length-append web.quoted (bytes ∷ []));
        texts = refl;
        unnamed = refl;
        named = refl;
      };
      few = few;
      tokens = refl;
    }

one_more : (web : Scanned) (bytes : List ℕ) → length web.quoted < length (web.quoted ++ bytes ∷ [])
one_more web bytes = omega (arith, length-append web.quoted (bytes ∷ []))

quoted-stores : (kind : Class) (read : List ℕ) (place : Place) (bytes : List ℕ) (web : Scanned) → AreFew web.strings
    → IfOk (quoted_stored place tok.Quoted bytes web) (Stores kind (quoted read) web)
unfolding with_quoted
quoted-stores kind read place bytes web few =
    stored-new kind (quoted read) place (tok.Quoted (length web.quoted)) web (with_quoted web bytes)
    (quoted-ready web bytes few)
    (record { of = one_more web bytes; closes = λ other. absurd cc; parameter = λ other. absurd cc })

verbatim-stores : (kind : Class) (read : List ℕ) (place : Place) (bytes : List ℕ) (web : Scanned) → AreFew web.strings
    → IfOk (quoted_stored place tok.Verbatim bytes web) (Stores kind (verbatim read) web)
unfolding with_quoted
verbatim-stores kind read place bytes web few =
    stored-new kind (verbatim read) place (tok.Verbatim (length web.quoted)) web (with_quoted web bytes)
    (quoted-ready web bytes few)
    (record { of = one_more web bytes; closes = λ other. absurd cc; parameter = λ other. absurd cc })

-- nothing is stored past a limit
room-or_fault : (P : Scanned → Type 0) (web : Scanned) (place : Place)
    → IfOk (with_room place web >>= (λ web. Err (limit_passed LIMIT_STRINGS place))) P
room-or_fault P web place =
    choice (λ (answer : Result Scanned Fault). IfOk (answer >>= (λ web. Err (limit_passed LIMIT_STRINGS place))) P)
    (nat_lt (length web.tokens) TOKEN_LIMIT) (Ok web) (Err (limit_passed LIMIT_TOKENS place)) (λ room. tt) (λ full. tt)

-- the number of a string
string-stores :
    (kind : Class) (read : List ℕ) (place : Place) (web : Scanned) (answer : Result (ℕ × List (List ℕ)) PoolErr)
    → IfOk answer IsNumber → IfOk (string_stored place web answer) (Stores kind (pool read) web)
string-stores kind read place web (Ok numbered) is =
    stored-new kind (pool read) place (tok.Number (pos numbered.0)) web (record web { strings = numbered.1 })
    (record {
      keeps = record {
        names = AddsOrdinary-none web.names.names;
        sections = omega arith;
        quoted = omega arith;
        texts = refl;
        unnamed = refl;
        named = refl;
      };
      few = is.1;
      tokens = refl;
    })
    (record {
      of = (omega (arith, ints), omega (arith, ints));
      closes = λ other. absurd cc;
      parameter =
          λ other. absurd cc;
    })
string-stores kind read place web (Err TooLong) is = tt
string-stores kind read place web (Err Full) is = room-or_fault (Stores kind (pool read) web) web place
string-stores kind read place web (Err OutOfMemory) is = room-or_fault (Stores kind (pool read) web) web place

-- a sign
closing : (byte : ℕ) → tok.Sign byte ≡ tok.Sign 41 → byte == 41 ≡ true
closing byte is = let same : byte ≡ 41 = cc in grind (arith, nat_tests)

sign-stands : (kind : Class) (web : Scanned) (byte : ℕ) → StandsFor kind (sign byte) web (sign_token kind byte)
sign-stands class.Parametric web byte =
    choice (StandsFor class.Parametric (sign byte) web) (byte == 35) tok.Param (tok.Sign byte)
    (λ parameter. record { of = tt; closes = λ other. absurd cc; parameter = λ is. refl })
    (λ other. record { of = tt; closes = closing byte; parameter = λ other. absurd cc })
sign-stands class.Ordinary web byte = record { of = tt; closes = closing byte; parameter = λ other. absurd cc }
sign-stands class.Numeric web byte = record { of = tt; closes = closing byte; parameter = λ other. absurd cc }
sign-stands class.Simple web byte = record { of = tt; closes = closing byte; parameter = λ other. absurd cc }

pub token_stored-stores :
    (kind : Class) (place : Place) (token : Token) (web : Scanned) → AreFew web.strings → IsReadable token
    → IfOk (token_stored kind place token web) (Stores kind token web)
token_stored-stores kind place (letter byte) web few readable =
    stored-itself kind (letter byte) place (tok.Letter (folded web.names.options.case byte)) web few
    (record { of = tt; closes = λ other. absurd cc; parameter = λ other. absurd cc })
token_stored-stores kind place (digit byte) web few readable =
    stored-itself kind (digit byte) place (tok.Digit byte) web few
    (record { of = readable; closes = λ other. absurd cc; parameter = λ other. absurd cc })
token_stored-stores kind place (word bytes) web few readable = word-stores kind place bytes web few
token_stored-stores kind place (based value) web few readable =
    stored-itself kind (based value) place (tok.Number (pos value)) web few
    (record {
      of = (omega (arith, ints), omega (arith, ints));
      closes = λ other. absurd cc;
      parameter =
          λ other. absurd cc;
    })
token_stored-stores kind place (sign byte) web few readable =
    stored-itself kind (sign byte) place (sign_token kind byte) web few (sign-stands kind web byte)
token_stored-stores kind place (joined two) web few readable =
    stored-itself kind (joined two) place (tok.Joined two) web few
    (record { of = tt; closes = λ other. absurd cc; parameter = λ other. absurd cc })
token_stored-stores kind place (quoted bytes) web few readable =
    quoted-stores kind bytes place (quoted_text bytes) web few
token_stored-stores kind place (verbatim bytes) web few readable =
    verbatim-stores kind bytes place (undoubled (codes "@") bytes) web few
token_stored-stores kind place (pool bytes) web few readable =
    string-stores kind bytes place web (numbered (string_value bytes) web.strings)
    (numbered-small (string_value bytes) web.strings (undoubled-visible (codes "@\"") bytes readable) few)
token_stored-stores kind place (control code.Join) web few readable =
    stored-itself kind (control code.Join) place tok.Join web few
    (record { of = tt; closes = λ other. absurd cc; parameter = λ other. absurd cc })
token_stored-stores kind place (control code.Line) web few readable =
    stored-itself kind (control code.Line) place tok.Line web few
    (record { of = tt; closes = λ other. absurd cc; parameter = λ other. absurd cc })
token_stored-stores kind place (control code.MetaOpen) web few readable =
    stored-itself kind (control code.MetaOpen) place tok.MetaOpen web few
    (record { of = tt; closes = λ other. absurd cc; parameter = λ other. absurd cc })
token_stored-stores kind place (control code.MetaClose) web few readable =
    stored-itself kind (control code.MetaClose) place tok.MetaClose web few
    (record { of = tt; closes = λ other. absurd cc; parameter = λ other. absurd cc })
token_stored-stores kind place other web few readable = nothing_stored kind other web few
