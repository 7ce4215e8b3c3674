-- Every web that is scanned is lawful.
use Rattle.std.proofs.Common.{◌≡◌, ℕ, zero, suc, if◌then◌else◌, List, [], ◌∷◌, ◌++◌, ◌+◌, length, nat_lt, All, Option}
use Rattle.std.proofs.Common.{Some, None, Result, Ok, Err, IfOk, refl, sym, ◌∙◌, subst, arith, append-nil}
use Rattle.std.proofs.lemmas.List.Elements.{All-nil, All-cons, All-head, All-tail, All-push, All-weaker}
use Rattle.wb_base.specs.declared.faults.Fault.{Fault}
use Rattle.wb_base.specs.declared.faults.TheConstants.{NO_EQUALS_SIGN, LIMIT_SECTIONS}
use Rattle.wb_base.specs.declared.options.Options.{Options}
use Rattle.wb_base.specs.declared.places.Place.{Place}
use Rattle.wb_base.specs.declared.tokens.Tok.{Tok}
use Rattle.wb_base.specs.FaultAt.{fault_at, limit_passed}
use Rattle.wb_base.specs.Steps.{◌>>=◌}
use Rattle.change_merge.specs.Lines.{Line}
use Rattle.web_lex.specs.declared.codes.Code.{Code}
use Rattle.web_lex.specs.declared.codes.Code.TheVariants as code
use Rattle.web_lex.specs.Token.{Token}
use Rattle.web_names.specs.declared.classes.Class.TheVariants as class
use Rattle.web_scan.specs.declared.limits.TheConstants.{SECTION_LIMIT}
use Rattle.web_scan.specs.Refusals.{section_begun}
use Rattle.web_scan.specs.Scanned.{PascalText, Scanned, nothing_scanned, with_text_under, Scanning, scanning_of}
use Rattle.web_scan.specs.Scanned.{place_of_last, token_read, code_found, most_tokens}
use Rattle.web_scan.specs.Definitions.{is_sign, definition}
use Rattle.web_scan.specs.Sections.{name_read, section_text, with_pascal_text, pascal_text, is_equals, head_from}
use Rattle.web_scan.specs.Sections.{head_read, named_text, section_parts, section, sections}
use Rattle.web_scan.specs.Scan.{scan_of}
use Rattle.web_scan.specs.Lawful.{IsTextOf, IsPascalTextOf, IsValueOf, IsLawful}
use Rattle.web_scan.proofs.AnswerLemmas.{IfOk-step, IfOk-at, IfOk-weaker, choice}
use Rattle.web_scan.proofs.PlacesLemmas.{AddsOrdinary-none}
use Rattle.web_scan.proofs.KeepsLemmas.{Grows, Keeps, Keeps-none, IsTextOf-grows, texts-grow, pieces-grow, named-grow}
use Rattle.web_scan.proofs.KeepsLemmas.{IsValueOf-texts, IsLawful-keeps}
use Rattle.web_scan.proofs.StringNumberLemmas.{AreFew}
use Rattle.web_scan.proofs.OpenTextLemmas.{IsSoFar-none}
use Rattle.web_scan.proofs.LawfulTextLemmas.{IsTokenRead, token_read-is, IsReadText}
use Rattle.web_scan.proofs.LawfulSectionTextLemmas.{IsNameRead, name_read-ready, section_text-read}
use Rattle.web_scan.proofs.LawfulDefinitionLemmas.{IsSound, definition-sound}

-- what a part of a section leaves
abbrev SoundAfter : Code × Scanning → Type 0
SoundAfter answer = IsSound answer.1.web

-- one more text under a name
with_text_under-all :
    (web : Scanned) (name : ℕ) (piece : PascalText) (named : List (List PascalText))
    → All (All (IsPascalTextOf web)) named
    → IsPascalTextOf web piece → All (All (IsPascalTextOf web)) (with_text_under name piece named)
with_text_under-all web zero piece [] all here =
    All-cons (All (IsPascalTextOf web)) (piece ∷ []) []
    (All-cons (IsPascalTextOf web) piece [] here (All-nil (IsPascalTextOf web))) (All-nil (All (IsPascalTextOf web)))
with_text_under-all web zero piece (texts ∷ named) all here =
    All-cons (All (IsPascalTextOf web)) (texts ++ piece ∷ []) named
    (All-push (IsPascalTextOf web) texts piece (All-head (All (IsPascalTextOf web)) texts named all) here)
    (All-tail (All (IsPascalTextOf web)) texts named all)
with_text_under-all web (suc name) piece [] all here =
    All-cons (All (IsPascalTextOf web)) [] (with_text_under name piece []) (All-nil (IsPascalTextOf web))
    (with_text_under-all web name piece [] (All-nil (All (IsPascalTextOf web))) here)
with_text_under-all web (suc name) piece (texts ∷ named) all here =
    All-cons (All (IsPascalTextOf web)) texts (with_text_under name piece named)
    (All-head (All (IsPascalTextOf web)) texts named all)
    (with_text_under-all web name piece named (All-tail (All (IsPascalTextOf web)) texts named all) here)

-- the values of names in a web with the same texts
same_values :
    (before after : Scanned) → after.texts ≡ before.texts
    → All (λ name. IsValueOf before name.class name.value) before.names.names
    → All (λ name. IsValueOf after name.class name.value) before.names.names
same_values before after texts all =
    All-weaker (λ name. IsValueOf before name.class name.value) (λ name. IsValueOf after name.class name.value)
    (λ name. IsValueOf-texts before after [] (texts ∙ sym (append-nil before.texts)) name.class name.value)
    before.names.names all

-- a web with the Pascal text of its last section
with_pascal_text-sound :
    (name : Option ℕ) (before : Scanned) (text : List Tok) (web : Scanned) → IsSound before
    → IsReadText class.Ordinary before text web → IsSound (with_pascal_text name text web)
with_pascal_text-sound None before text web sound read =
    let piece : PascalText = record { number = web.count; text = text } in
    let after = with_pascal_text None text web in
    let lawful = IsLawful-keeps before web read.keeps sound.lawful in
    let grows : Grows web after = record { names = omega arith; sections = omega arith; quoted = omega arith } in
    let new : IsPascalTextOf after piece =
    record { text = IsTextOf-grows web after grows text read.of; no_parameter = read.parameter (λ same. absurd cc) } in
    record {
      lawful = record {
        names = same_values web after refl lawful.names;
        texts = texts-grow web after grows web.texts lawful.texts;
        unnamed = All-push (IsPascalTextOf after) web.unnamed piece
            (pieces-grow web after grows web.unnamed lawful.unnamed) new;
        named = named-grow web after grows web.named lawful.named;
      };
      few = read.few;
    }
with_pascal_text-sound (Some name) before text web sound read =
    let piece : PascalText = record { number = web.count; text = text } in
    let after = with_pascal_text (Some name) text web in
    let lawful = IsLawful-keeps before web read.keeps sound.lawful in
    let grows : Grows web after = record { names = omega arith; sections = omega arith; quoted = omega arith } in
    let new : IsPascalTextOf after piece =
    record { text = IsTextOf-grows web after grows text read.of; no_parameter = read.parameter (λ same. absurd cc) } in
    record {
      lawful = record {
        names = same_values web after refl lawful.names;
        texts = texts-grow web after grows web.texts lawful.texts;
        unnamed = pieces-grow web after grows web.unnamed lawful.unnamed;
        named = with_text_under-all after name piece web.named (named-grow web after grows web.named lawful.named) new;
      };
      few = read.few;
    }

pascal_text-sound : (name : Option ℕ) (scanning : Scanning) → IsSound scanning.web
    → IfOk (pascal_text name scanning) SoundAfter
unfolding pascal_text
pascal_text-sound name scanning sound =
    IfOk-step (λ read. IsReadText class.Ordinary scanning.web read.0 read.2.web) SoundAfter
    (section_text (most_tokens scanning) (length scanning.web.tokens) scanning)
    (λ read. Ok (read.1, record read.2 { web = with_pascal_text name read.0 read.2.web }))
    (section_text-read (most_tokens scanning) (length scanning.web.tokens) scanning.web scanning
    (record { keeps = Keeps-none scanning.web; few = sound.few; so_far = IsSoFar-none class.Ordinary scanning.web }))
    (λ read of. with_pascal_text-sound name scanning.web read.0 read.2.web sound of)

-- the head of a named text leaves the web as it is
abbrev SameWeb : Scanned → Scanning → Type 0
SameWeb web after = after.web ≡ web

head_from-same :
    (web : Scanned) (token : Token) (scanning : Scanning) (further : Scanning → Result Scanning Fault)
    → scanning.web ≡ web
    → ((after : Scanning) → after.web ≡ web → IfOk (further after) (SameWeb web))
    → IfOk (head_from token scanning further) (SameWeb web)
head_from-same web token scanning further same goes_on =
    let P : Result Scanning Fault → Type 0 = λ answer. IfOk answer (SameWeb web) in
    let wrong : Result Scanning Fault = Err (fault_at NO_EQUALS_SIGN (place_of_last scanning)) in
    choice P (is_equals token) (Ok scanning) (if is_sign 43 token then further scanning else wrong) (λ equals. same)
    (λ other. choice P (is_sign 43 token) (further scanning) wrong (λ plus. goes_on scanning same) (λ other. tt))

head_read-same : (most : ℕ) (web : Scanned) (scanning : Scanning) → scanning.web ≡ web
    → IfOk (head_read most scanning) (SameWeb web)
unfolding head_read
head_read-same zero web scanning same = same
head_read-same (suc most) web scanning same =
    IfOk-step (IsTokenRead scanning) (SameWeb web) (token_read scanning)
    (λ read. head_from read.0 read.1 (head_read most))
    (token_read-is scanning)
    (λ read token. head_from-same web read.0 read.1 (head_read most) (token.same ∙ same) (head_read-same most web))

-- a lawful web after names and strings
sound_kept : (before after : Scanned) → IsSound before → Keeps before after → AreFew after.strings → IsSound after
sound_kept before after sound keeps few = record { lawful = IsLawful-keeps before after keeps sound.lawful; few = few }

named_text-sound : (scanning : Scanning) → IsSound scanning.web → IfOk (named_text scanning) SoundAfter
unfolding named_text
named_text-sound scanning sound =
    IfOk-step (IsNameRead scanning) SoundAfter (name_read scanning)
    (λ name. head_read (most_tokens name.1) name.1 >>= (λ begun. pascal_text (Some name.0) begun))
    (name_read-ready scanning sound.few)
    (λ name read.
    let named = sound_kept scanning.web name.1.web sound read.found.ready.keeps read.found.ready.few in
    IfOk-step (SameWeb name.1.web) SoundAfter (head_read (most_tokens name.1) name.1)
    (λ begun. pascal_text (Some name.0) begun) (head_read-same (most_tokens name.1) name.1.web name.1 refl)
    (λ begun same. pascal_text-sound (Some name.0) begun (subst IsSound (sym same) named)))

-- the parts of a section
section_parts-sound : (most : ℕ) (begins : Code) (scanning : Scanning) → IsSound scanning.web
    → IfOk (section_parts most begins scanning) SoundAfter
unfolding section_parts
section_parts-sound zero begins scanning sound = sound
section_parts-sound (suc most) code.Definition scanning sound =
    IfOk-step SoundAfter SoundAfter (definition scanning) (λ ended. section_parts most ended.0 ended.1)
    (definition-sound scanning sound) (λ ended sound. section_parts-sound most ended.0 ended.1 sound)
section_parts-sound (suc most) code.Pascal scanning sound = pascal_text-sound None scanning sound
section_parts-sound (suc most) code.Name scanning sound = named_text-sound scanning sound
section_parts-sound (suc most) code.Section scanning sound = sound
section_parts-sound (suc most) code.End scanning sound = sound
section_parts-sound (suc most) passed scanning sound =
    let found = code_found scanning in section_parts-sound most found.0 found.1 sound

-- a section after its begin
begun-sound : (web : Scanned) → IsSound web → IsSound (record web { count = web.count + 1 })
begun-sound web sound =
    let after : Scanned = record web { count = web.count + 1 } in
    sound_kept web after sound
    (record {
      names = AddsOrdinary-none web.names.names;
      sections = omega arith;
      quoted = omega arith;
      texts = refl;
      unnamed = refl;
      named = refl;
    }) sound.few

section_begun-sound : (place : Place) (web : Scanned) → IsSound web → IfOk (section_begun place web) IsSound
section_begun-sound place web sound =
    choice (λ (answer : Result Scanned Fault). IfOk answer IsSound) (nat_lt web.count SECTION_LIMIT)
    (Ok (record web { count = web.count + 1 })) (Err (limit_passed LIMIT_SECTIONS place))
    (λ room. begun-sound web sound)
    (λ full. tt)

section-sound : (scanning : Scanning) → IsSound scanning.web → IfOk (section scanning) SoundAfter
unfolding section
section-sound scanning sound =
    IfOk-step IsSound SoundAfter (section_begun (place_of_last scanning) scanning.web)
    (λ web.
    let found = code_found (record scanning { web = web }) in
    section_parts (most_tokens scanning) found.0 found.1)
    (section_begun-sound (place_of_last scanning) scanning.web sound)
    (λ web sound.
    let found = code_found (record scanning { web = web }) in
    section_parts-sound (most_tokens scanning) found.0 found.1 sound)

sections-sound : (most : ℕ) (begins : Code) (scanning : Scanning) → IsSound scanning.web
    → IfOk (sections most begins scanning) IsSound
unfolding sections
sections-sound zero begins scanning sound = sound
sections-sound (suc most) code.End scanning sound = sound
sections-sound (suc most) code.Section scanning sound =
    IfOk-step SoundAfter IsSound (section scanning) (λ ended. sections most ended.0 ended.1)
    (section-sound scanning sound)
    (λ ended sound. sections-sound most ended.0 ended.1 sound)
sections-sound (suc most) passed scanning sound =
    let found = code_found scanning in sections-sound most found.0 found.1 sound

-- a web of which nothing was read
nothing-sound : (options : Options) → IsSound (nothing_scanned options)
nothing-sound options =
    let web = nothing_scanned options in
    record {
      lawful = record {
        names = All-nil (λ name. IsValueOf web name.class name.value);
        texts = All-nil (IsTextOf web);
        unnamed = All-nil (IsPascalTextOf web);
        named = All-nil (All (IsPascalTextOf web));
      };
      few = omega arith;
    }

-- the web of a scan is lawful
pub scan_of-lawful : (options : Options) (lines : List Line) → IfOk (scan_of options lines) IsLawful
unfolding scan_of
scan_of-lawful options lines =
    let begin = scanning_of options lines in
    let found = code_found begin in
    IfOk-weaker IsSound IsLawful (sections (most_tokens begin) found.0 found.1)
    (sections-sound (most_tokens begin) found.0 found.1 (nothing-sound options)) (λ web sound. sound.lawful)

pub IsLawful-scanned : (options : Options) (lines : List Line) (web : Scanned) → scan_of options lines ≡ Ok web
    → IsLawful web
IsLawful-scanned options lines web is = IfOk-at IsLawful (scan_of options lines) web is (scan_of-lawful options lines)
