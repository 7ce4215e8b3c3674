-- The texts of sections that are read are texts of the web.
use Rattle.std.proofs.Common.{ℕ, zero, suc, ◌<◌, List, length, Result, Ok, IfOk, refl, arith}
use Rattle.std.specs.Prelude.{⊤}
use Rattle.wb_base.specs.declared.faults.Fault.{Fault}
use Rattle.wb_base.specs.declared.faults.TheConstants.{LIMIT_SECTION_NAMES}
use Rattle.wb_base.specs.declared.places.Place.{Place}
use Rattle.wb_base.specs.declared.tokens.Tok.TheVariants as tok
use Rattle.wb_base.specs.Steps.{◌>>=◌}
use Rattle.web_lex.specs.declared.codes.Code.TheVariants as code
use Rattle.web_lex.specs.declared.section_names.SectionName.{SectionName}
use Rattle.web_lex.specs.Token.{Token, end_of_input, control}
use Rattle.web_lex.specs.Reading.{next_name}
use Rattle.web_names.specs.declared.classes.Class.{Class}
use Rattle.web_names.specs.declared.classes.Class.TheVariants as class
use Rattle.web_names.specs.SectionNames.{whole_name, prefix_name}
use Rattle.web_scan.specs.Refusals.{unless_refused, stored}
use Rattle.web_scan.specs.Scanned.{Scanned, Scanning, place_of_last, token_read}
use Rattle.web_scan.specs.Texts.{TextRead, text_token}
use Rattle.web_scan.specs.Sections.{name_found, name_read, section_used, section_text_from, section_text}
use Rattle.web_scan.proofs.AnswerLemmas.{IfOk-step, any_ok, choice}
use Rattle.web_scan.proofs.ReadTokenLemmas.{IsReadable}
use Rattle.web_scan.proofs.StringNumberLemmas.{AreFew}
use Rattle.web_scan.proofs.PlacesLemmas.{AddsOrdinary-none, IsWhole, whole_name-within, prefix_name-within}
use Rattle.web_scan.proofs.KeepsLemmas.{Keeps-none}
use Rattle.web_scan.proofs.StoredTokenLemmas.{Ready, Stores, stored-new, IfOk-unless_refused}
use Rattle.web_scan.proofs.OpenTextLemmas.{IsSoFar, IsSoFar-more}
use Rattle.web_scan.proofs.LawfulTextLemmas.{IsTokenRead, token_read-is, Continues, Continues-more}
use Rattle.web_scan.proofs.LawfulTextLemmas.{text_token-continues, IsReadText, HasReadText, ended-read, same_web}

-- the place of a name of a section, and the web after it
pub record IsNameFound (web : Scanned) (answer : ℕ × Scanned) : Type 0 where
  pub ready : Ready web answer.1
  pub within : answer.0 < length answer.1.sections

name_found-ready : (place : Place) (name : SectionName) (web : Scanned) → AreFew web.strings
    → IfOk (name_found place name web) (IsNameFound web)
name_found-ready place name web few =
    let found = unless_refused LIMIT_SECTION_NAMES place (prefix_name name.text web.sections) in
    let whole = unless_refused LIMIT_SECTION_NAMES place (whole_name name.text web.sections) in
    let with_found : ℕ → Result (ℕ × Scanned) Fault = λ found. Ok (found, web) in
    let with_whole : ℕ × List (List ℕ) → Result (ℕ × Scanned) Fault =
    λ answer. Ok (answer.0, record web { sections = answer.1 }) in
    choice (λ answer. IfOk answer (IsNameFound web)) name.prefix (found >>= with_found) (whole >>= with_whole)
    (λ prefix. IfOk-step (λ place. place < length web.sections) (IsNameFound web) found with_found
    (IfOk-unless_refused (λ place. place < length web.sections) LIMIT_SECTION_NAMES place
    (prefix_name name.text web.sections) (prefix_name-within name.text web.sections))
    (λ found within. record { ready = record { keeps = Keeps-none web; few = few; tokens = refl }; within = within }))
    (λ no_prefix. IfOk-step (IsWhole web.sections) (IsNameFound web) whole with_whole
    (IfOk-unless_refused (IsWhole web.sections) LIMIT_SECTION_NAMES place (whole_name name.text web.sections)
    (whole_name-within name.text web.sections))
    (λ answer is. record {
      ready = record {
        keeps = record {
          names = AddsOrdinary-none web.names.names;
          sections = is.grows;
          quoted = omega arith;
          texts = refl;
          unnamed = refl;
          named = refl;
        };
        few = few;
        tokens = refl;
      };
      within = is.within;
    }))

-- the same with the reader
pub record IsNameRead (before : Scanning) (answer : ℕ × Scanning) : Type 0 where
  pub found : IsNameFound before.web (answer.0, answer.1.web)

pub name_read-ready : (scanning : Scanning) → AreFew scanning.web.strings
    → IfOk (name_read scanning) (IsNameRead scanning)
name_read-ready scanning few =
    let place = place_of_last scanning in
    IfOk-step (λ read. ⊤) (IsNameRead scanning) (next_name scanning.reading)
    (λ read. name_found place read.0 scanning.web
    >>= (λ answer. Ok (answer.0, record { reading = read.1; web = answer.1 })))
    (any_ok (next_name scanning.reading))
    (λ read some. IfOk-step (IsNameFound scanning.web) (IsNameRead scanning) (name_found place read.0 scanning.web)
    (λ answer. Ok (answer.0, record { reading = read.1; web = answer.1 }))
    (name_found-ready place read.0 scanning.web few)
    (λ answer is. record { found = is }))

-- the name of a section in a text
section_used-continues :
    (kind : Class) (first : ℕ) (scanning : Scanning) → AreFew scanning.web.strings → IsSoFar kind first scanning.web
    → IfOk (section_used scanning) (λ after. Continues kind first scanning.web after.web)
section_used-continues kind first scanning few is =
    let Q : Scanning → Type 0 = λ after. Continues kind first scanning.web after.web in
    IfOk-step (IsNameRead scanning) Q (name_read scanning)
    (λ read. stored (place_of_last read.1) (tok.Section read.0) read.1.web
    >>= (λ web. Ok (record read.1 { web = web })))
    (name_read-ready scanning few)
    (λ read name. IfOk-step (Stores kind (control code.Name) scanning.web) Q
    (stored (place_of_last read.1) (tok.Section read.0) read.1.web) (λ web. Ok (record read.1 { web = web }))
    (stored-new kind (control code.Name) (place_of_last read.1) (tok.Section read.0) scanning.web read.1.web
    name.found.ready
    (record { of = name.found.within; closes = λ other. absurd cc; parameter = λ other. absurd cc }))
    (λ web stores. record {
      keeps = stores.keeps;
      few = stores.few;
      so_far = IsSoFar-more kind first (control code.Name) scanning.web web (λ closes. absurd cc) stores is;
    }))

-- the text of a section from a token on
abbrev GoesOn : ℕ → Scanned → (Scanning → TextRead) → Type 0
GoesOn first before further =
    (after : Scanning) → Continues class.Ordinary first before after.web
    → HasReadText class.Ordinary before (further after)

one_more :
    (first : ℕ) (before : Scanned) (token : Token) (scanning : Scanning) (further : Scanning → TextRead)
    → IsReadable token
    → Continues class.Ordinary first before scanning.web → GoesOn first before further
    → HasReadText class.Ordinary before (text_token class.Ordinary first token scanning >>= further)
one_more first before token scanning further readable is goes_on =
    IfOk-step (λ after. Continues class.Ordinary first scanning.web after.web)
    (λ read. IsReadText class.Ordinary before read.0 read.2.web) (text_token class.Ordinary first token scanning)
    further
    (text_token-continues class.Ordinary first token scanning is.few readable is.so_far)
    (λ after more. goes_on after (Continues-more class.Ordinary first before scanning.web after.web is.keeps more))

section_text_from-read :
    (first : ℕ) (before : Scanned) (token : Token) (scanning : Scanning) (further : Scanning → TextRead)
    → IsReadable token
    → Continues class.Ordinary first before scanning.web → GoesOn first before further
    → HasReadText class.Ordinary before (section_text_from first token scanning further)
section_text_from-read first before end_of_input scanning further readable is goes_on =
    ended-read class.Ordinary first before code.End scanning is
section_text_from-read first before (control code.Section) scanning further readable is goes_on =
    ended-read class.Ordinary first before code.Section scanning is
section_text_from-read first before (control code.Definition) scanning further readable is goes_on = tt
section_text_from-read first before (control code.Format) scanning further readable is goes_on = tt
section_text_from-read first before (control code.Pascal) scanning further readable is goes_on = tt
section_text_from-read first before (control code.Name) scanning further readable is goes_on =
    IfOk-step (λ after. Continues class.Ordinary first scanning.web after.web)
    (λ read. IsReadText class.Ordinary before read.0 read.2.web) (section_used scanning) further
    (section_used-continues class.Ordinary first scanning is.few is.so_far)
    (λ after more. goes_on after (Continues-more class.Ordinary first before scanning.web after.web is.keeps more))
section_text_from-read first before other scanning further readable is goes_on =
    one_more first before other scanning further readable is goes_on

pub section_text-read :
    (most first : ℕ) (before : Scanned) (scanning : Scanning) → Continues class.Ordinary first before scanning.web
    → HasReadText class.Ordinary before (section_text most first scanning)
unfolding section_text
section_text-read zero first before scanning is = ended-read class.Ordinary first before code.End scanning is
section_text-read (suc most) first before scanning is =
    IfOk-step (IsTokenRead scanning) (λ read. IsReadText class.Ordinary before read.0 read.2.web) (token_read scanning)
    (λ read. section_text_from first read.0 read.1 (section_text most first)) (token_read-is scanning)
    (λ read token. section_text_from-read first before read.0 read.1 (section_text most first) token.readable
    (same_web class.Ordinary first before scanning.web read.1.web token.same is) (section_text-read most first before))
