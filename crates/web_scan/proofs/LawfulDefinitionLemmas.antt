-- A definition leaves a lawful web lawful.
use Rattle.std.proofs.Common.{◌≡◌, ℕ, ℤ, pos, nat_abs, zero, suc, ◌<◌, ◌==◌, Bool, false, nat_lt, if◌then◌else◌, List}
use Rattle.std.proofs.Common.{[], ◌∷◌, ◌++◌, length, All, Option, Some, None, slice_get, Result, Ok, Err, IfOk, refl}
use Rattle.std.proofs.Common.{sym, ap, ◌∙◌, subst, arith, append-nil}
use Rattle.std.specs.Prelude.{⊤, codes}
use Rattle.std.proofs.lemmas.Bool.Decides.{nat_tests}
use Rattle.std.proofs.lemmas.List.Elements.{All-push, All-same, All-weaker}
use Rattle.wb_base.specs.declared.faults.Fault.{Fault}
use Rattle.wb_base.specs.declared.faults.TheConstants.{BAD_DEFINITION, VALUE_TOO_BIG, LIMIT_NAMES}
use Rattle.wb_base.specs.declared.places.Place.{Place}
use Rattle.wb_base.specs.declared.tokens.Joined.TheVariants as two
use Rattle.wb_base.specs.declared.tokens.Tok.{Tok}
use Rattle.wb_base.specs.FaultAt.{fault_at}
use Rattle.wb_base.specs.Steps.{◌>>=◌}
use Rattle.web_lex.specs.declared.codes.Code.{Code}
use Rattle.web_lex.specs.Token.{Token, digit, word, based, sign, joined, pool}
use Rattle.web_names.specs.declared.classes.Class.{Class}
use Rattle.web_names.specs.declared.classes.Class.TheVariants as class
use Rattle.web_names.specs.declared.name_errors.NameErr.{NameErr}
use Rattle.web_names.specs.Identifiers.{Name, defined, id_of, is_numeric}
use Rattle.web_pool.specs.declared.refusals.PoolErr.{PoolErr}
use Rattle.web_pool.specs.declared.refusals.PoolErr.TheVariants.{TooLong, Full, OutOfMemory}
use Rattle.web_pool.specs.Strings.{numbered}
use Rattle.web_scan.specs.Refusals.{unless_refused, string_number}
use Rattle.web_scan.specs.Scanned.{Scanned, Scanning, place_of_last, token_read, most_tokens}
use Rattle.web_scan.specs.Texts.{string_value, ending_code, macro_text}
use Rattle.web_scan.specs.Numeric.{Term, constant, TermsRead, with_sign, with_digit, with_constant, with_web}
use Rattle.web_scan.specs.Numeric.{with_token, word_value, right_side_from, right_side, sum_of, value_of, value_limit}
use Rattle.web_scan.specs.Definitions.{is_sign, is_same, expected, defined_word, parameter_read, class_from}
use Rattle.web_scan.specs.Definitions.{class_read, name_defined, value_given, right_side_read, definition}
use Rattle.web_scan.specs.Lawful.{IsTextOf, IsPascalTextOf, HasNoParameter, IsValueOf, IsLawful}
use Rattle.web_scan.proofs.AnswerLemmas.{IfOk-step, IfOk-at, any_ok, choice}
use Rattle.web_scan.proofs.ReadTokenLemmas.{IsReadable}
use Rattle.web_scan.proofs.StringNumberLemmas.{AreFew, IsNumber, numbered-small, undoubled-visible}
use Rattle.web_scan.proofs.NamesLemmas.{length-with_value}
use Rattle.web_scan.proofs.PlacesLemmas.{IsDefined, defined-defined}
use Rattle.web_scan.proofs.KeepsLemmas.{Grows, Keeps-none, Keeps-grows, IsTextOf-grows, texts-grow, pieces-grow}
use Rattle.web_scan.proofs.KeepsLemmas.{named-grow, IsValueOf-texts, values-more}
use Rattle.web_scan.proofs.OpenTextLemmas.{IsSoFar-none}
use Rattle.web_scan.proofs.LawfulTextLemmas.{IsTokenRead, token_read-is, IsReadText, macro_text-read}

-- a lawful web with few strings
pub record IsSound (web : Scanned) : Type 0 where
  pub lawful : IsLawful web
  pub few : AreFew web.strings

-- what the right side of a numeric definition leaves
record AddsStrings (before after : Scanned) : Type 0 where
  strings : List (List ℕ)
  is : after ≡ record before { strings = strings }
  few : AreFew strings

no_strings : (web : Scanned) → AreFew web.strings → AddsStrings web web
no_strings web few = record { strings = web.strings; is = refl; few = few }

more_strings : (before between after : Scanned) → AddsStrings before between → AddsStrings between after
    → AddsStrings before after
more_strings before between after first then_ = record {
  strings = then_.strings;
  is = then_.is ∙ ap (λ (web : Scanned). let after : Scanned = record web { strings = then_.strings } in after)
      first.is;
  few = then_.few;
}

-- a term beside the same web
with_web-adds : (web : Scanned) (terms : Result (List Term) Fault) → AreFew web.strings
    → IfOk (with_web web terms) (λ answer. AddsStrings web answer.1)
with_web-adds web (Ok terms) few = no_strings web few
with_web-adds web (Err fault) few = tt

-- a string's number
string_number-adds :
    (place : Place) (web : Scanned) (answer : Result (ℕ × List (List ℕ)) PoolErr) → IfOk answer IsNumber
    → IfOk (string_number place web answer) (λ answer. AddsStrings web answer.1)
string_number-adds place web (Ok numbered) is = record { strings = numbered.1; is = refl; few = is.1 }
string_number-adds place web (Err TooLong) is = tt
string_number-adds place web (Err Full) is = tt
string_number-adds place web (Err OutOfMemory) is = tt

with_token-adds :
    (defining : ℕ) (place : Place) (token : Token) (terms : List Term) (web : Scanned) → AreFew web.strings
    → IsReadable token → IfOk (with_token defining place token terms web) (λ answer. AddsStrings web answer.1)
with_token-adds defining place (sign byte) terms web few readable = with_web-adds web (with_sign place byte terms) few
with_token-adds defining place (digit byte) terms web few readable =
    with_web-adds web (with_digit place byte terms) few
with_token-adds defining place (based value) terms web few readable = no_strings web few
with_token-adds defining place (pool bytes) terms web few readable =
    let answer = numbered (string_value bytes) web.strings in
    IfOk-step (λ answer. AddsStrings web answer.1) (λ answer. AddsStrings web answer.1)
    (string_number place web answer)
    (λ numbered. Ok (constant (pos numbered.0) ∷ terms, numbered.1))
    (string_number-adds place web answer
    (numbered-small (string_value bytes) web.strings (undoubled-visible (codes "@\"") bytes readable) few))
    (λ numbered adds. adds)
with_token-adds defining place (word bytes) terms web few readable =
    let names = web.names.names in
    with_web-adds web (with_constant place (word_value defining (id_of bytes names) names) terms) few
with_token-adds defining place other terms web few readable = tt

-- a right side
abbrev HasAdded : Scanned → TermsRead → Type 0
HasAdded before answer = IfOk answer (λ read. AddsStrings before read.2.web)

right_side_from-adds :
    (defining : ℕ) (before : Scanned) (terms : List Term) (token : Token) (scanning : Scanning)
    (further : List Term → Scanning → TermsRead) (last : Option Code) → IsReadable token
    → AddsStrings before scanning.web → AreFew scanning.web.strings
    → ((terms : List Term) (after : Scanning) → AddsStrings before after.web → HasAdded before (further terms after))
    → HasAdded before (right_side_from defining terms token scanning further last)
right_side_from-adds defining before terms token scanning further (Some last) readable adds few goes_on = adds
right_side_from-adds defining before terms token scanning further None readable adds few goes_on =
    let place = place_of_last scanning in
    IfOk-step (λ answer. AddsStrings scanning.web answer.1) (λ read. AddsStrings before read.2.web)
    (with_token defining place token terms scanning.web)
    (λ answer. further answer.0 (record scanning { web = answer.1 }))
    (with_token-adds defining place token terms scanning.web few readable)
    (λ answer more. goes_on answer.0 (record scanning { web = answer.1 })
    (more_strings before scanning.web answer.1 adds more))

few_still : (before after : Scanned) → AddsStrings before after → AreFew after.strings
few_still before after adds = subst (λ (web : Scanned). AreFew web.strings) (sym adds.is) adds.few

right_side-adds :
    (most defining : ℕ) (before : Scanned) (terms : List Term) (scanning : Scanning) → AddsStrings before scanning.web
    → HasAdded before (right_side most defining terms scanning)
unfolding right_side
right_side-adds zero defining before terms scanning adds = adds
right_side-adds (suc most) defining before terms scanning adds =
    IfOk-step (IsTokenRead scanning) (λ read. AddsStrings before read.2.web) (token_read scanning)
    (λ read. right_side_from defining terms read.0 read.1 (right_side most defining) (ending_code read.0))
    (token_read-is scanning)
    (λ read token.
    let adds : AddsStrings before read.1.web = subst (AddsStrings before) (sym token.same) adds in
    right_side_from-adds defining before terms read.0 read.1 (right_side most defining)
    (ending_code read.0) token.readable
    adds (few_still before read.1.web adds) (right_side-adds most defining before))

-- the value of a numeric macro is small
value_of-small : (place : Place) (terms : List Term)
    → IfOk (value_of place terms) (λ value. nat_abs value < value_limit)
value_of-small place terms =
    choice (λ (answer : Result ℤ Fault). IfOk answer (λ value. nat_abs value < value_limit))
    (nat_lt (nat_abs (sum_of terms)) value_limit) (Ok (sum_of terms)) (Err (fault_at VALUE_TOO_BIG place))
    (λ small. grind (arith, nat_tests)) (λ big. tt)

-- the web with these names
abbrev pub with_names : Scanned → List Name → Scanned
with_names web names = record web { names = record web.names { names = names } }

-- the values of names once one of them is defined in a web with these texts more
values-defined :
    (bytes : List ℕ) (kind : Class) (value : ℤ) (before : Scanned) (defined_as : ℕ × List Name) (after : Scanned)
    (more : List (List Tok)) → defined bytes kind before.names.names ≡ Ok defined_as → IsLawful before
    → after.texts ≡ before.texts ++ more → IsValueOf after kind value
    → IsDefined (IsValueOf after) value before.names.names defined_as
values-defined bytes kind value before defined_as after more is lawful texts here =
    let old = All-weaker (λ name. IsValueOf before name.class name.value)
    (λ name. IsValueOf after name.class name.value)
    (λ name. IsValueOf-texts before after more texts name.class name.value) before.names.names lawful.names in
    IfOk-at (IsDefined (IsValueOf after) value before.names.names) (defined bytes kind before.names.names)
    defined_as is
    (defined-defined (IsValueOf after) kind value bytes before.names.names old here)

-- after a numeric definition
numeric-sound :
    (bytes : List ℕ) (value : ℤ) (before : Scanned) (defined_as : ℕ × List Name) (strings : List (List ℕ))
    → defined bytes class.Numeric before.names.names ≡ Ok defined_as → IsLawful before → AreFew strings
    → nat_abs value < value_limit
    → IsSound (value_given defined_as.0 value (record (with_names before defined_as.1) { strings = strings }))
numeric-sound bytes value before defined_as strings is lawful few small =
    let after = value_given defined_as.0 value (record (with_names before defined_as.1) { strings = strings }) in
    let values = values-defined bytes class.Numeric value before defined_as after [] is lawful
    (sym (append-nil before.texts)) small in
    let grows : Grows before after =
    record {
      names = omega (arith, values.grows, length-with_value defined_as.0 value defined_as.1);
      sections = omega arith;
      quoted = omega arith;
    } in
    record {
      lawful = record {
        names = values.all;
        texts = texts-grow before after grows before.texts lawful.texts;
        unnamed = pieces-grow before after grows before.unnamed lawful.unnamed;
        named = named-grow before after grows before.named lawful.named;
      };
      few = few;
    }

-- the web in which a macro has the number of the text that is read next
abbrev begun_text : Scanned → ℕ × List Name → Scanned
begun_text before defined_as = value_given defined_as.0 (pos (length before.texts)) (with_names before defined_as.1)

-- the web with one more text
with_text : Scanned → List Tok → Scanned
with_text web text = record web { texts = web.texts ++ text ∷ [] }

-- after the definition of a macro with a text
text-sound :
    (bytes : List ℕ) (kind : Class) (before : Scanned) (defined_as : ℕ × List Name) (text : List Tok) (ended : Scanned)
    → defined bytes kind before.names.names ≡ Ok defined_as → IsLawful before
    → IsReadText kind (begun_text before defined_as) text ended
    → ((web : Scanned) → web.texts ≡ before.texts ++ text ∷ [] → IsValueOf web kind (pos (length before.texts)))
    → IsSound (with_text ended text)
unfolding with_text
text-sound bytes kind before defined_as text ended is lawful read here =
    let value = pos (length before.texts) in
    let begun = begun_text before defined_as in
    let after = with_text ended text in
    let texts : after.texts ≡ before.texts ++ text ∷ [] = ap (λ texts. texts ++ text ∷ []) read.keeps.texts in
    let values = values-defined bytes kind value before defined_as after (text ∷ []) is lawful texts
    (here after texts) in
    let still = Keeps-grows begun ended read.keeps in
    let grows : Grows before after =
    record {
      names = omega (arith, values.grows, still.names, length-with_value defined_as.0 value defined_as.1);
      sections = still.sections;
      quoted = still.quoted;
    } in
    let same : Grows ended after = record { names = omega arith; sections = omega arith; quoted = omega arith } in
    let new : IsTextOf after text = IsTextOf-grows ended after same text read.of in
    record {
      lawful = record {
        names = values-more after begun.names.names ended.names.names read.keeps.names values.all;
        texts = All-same (IsTextOf after) after.texts (before.texts ++ text ∷ []) texts
            (All-push (IsTextOf after) before.texts text (texts-grow before after grows before.texts lawful.texts)
            new);
        unnamed = All-same (IsPascalTextOf after) ended.unnamed before.unnamed read.keeps.unnamed
            (pieces-grow before after grows before.unnamed lawful.unnamed);
        named = All-same (All (IsPascalTextOf after)) ended.named before.named read.keeps.named
            (named-grow before after grows before.named lawful.named);
      };
      few = read.few;
    }

-- the number of the next text is that of the new one
new_text : (texts : List (List Tok)) (text : List Tok) → slice_get (texts ++ text ∷ []) (length texts) ≡ Some text
new_text [] text = refl
new_text (other ∷ texts) text = new_text texts text

simple_value :
    (texts : List (List Tok)) (text : List Tok) → HasNoParameter text → (web : Scanned)
    → web.texts ≡ texts ++ text ∷ []
    → IsValueOf web class.Simple (pos (length texts))
simple_value texts text none web is =
    let there : slice_get web.texts (length texts) ≡ Some text = ap (λ texts'. slice_get texts' (length texts)) is
    ∙ new_text texts text in
    (length texts, refl, rw there none)

parametric_value :
    (texts : List (List Tok)) (text : List Tok) (web : Scanned) → web.texts ≡ texts ++ text ∷ []
    → IsValueOf web class.Parametric (pos (length texts))
parametric_value texts text web is =
    let there : slice_get web.texts (length texts) ≡ Some text = ap (λ texts'. slice_get texts' (length texts)) is
    ∙ new_text texts text in
    (length texts, refl, rw there refl)

-- the value of a macro whose text was read
text_value :
    (kind : Class) (before : Scanned) (defined_as : ℕ × List Name) (text : List Tok) (ended : Scanned)
    → is_numeric kind ≡ false → IsReadText kind (begun_text before defined_as) text ended
    → (web : Scanned) → web.texts ≡ before.texts ++ text ∷ [] → IsValueOf web kind (pos (length before.texts))
text_value class.Numeric before defined_as text ended other read web is = absurd cc
text_value class.Ordinary before defined_as text ended other read web is = tt
text_value class.Simple before defined_as text ended other read web is =
    simple_value before.texts text (read.parameter (λ same. absurd cc)) web is
text_value class.Parametric before defined_as text ended other read web is = parametric_value before.texts text web is

-- what a right side leaves
abbrev SoundAfter : Code × Scanning → Type 0
SoundAfter answer = IsSound answer.1.web

-- the begin of a right side
abbrev begun_side : Scanning → ℕ × List Name → Scanning
begun_side scanning defined_as = record scanning { web = with_names scanning.web defined_as.1 }

numeric_side-sound :
    (at_name : Place) (bytes : List ℕ) (scanning : Scanning) (defined_as : ℕ × List Name)
    → defined bytes class.Numeric scanning.web.names.names ≡ Ok defined_as → IsSound scanning.web
    → IfOk (right_side_read at_name defined_as.0 class.Numeric (begun_side scanning defined_as)) SoundAfter
numeric_side-sound at_name bytes scanning defined_as is sound =
    let begun = begun_side scanning defined_as in
    let given : ℤ → Scanned → Scanned = λ value web. value_given defined_as.0 value web in
    IfOk-step (λ read. AddsStrings begun.web read.2.web) SoundAfter
    (right_side (most_tokens begun) defined_as.0 [] begun)
    (λ read. value_of at_name read.0 >>= (λ value. Ok (read.1, record read.2 { web = given value read.2.web })))
    (right_side-adds (most_tokens begun) defined_as.0 begun.web [] begun (no_strings begun.web sound.few))
    (λ read adds. IfOk-step (λ value. nat_abs value < value_limit) SoundAfter (value_of at_name read.0)
    (λ value. Ok (read.1, record read.2 { web = given value read.2.web })) (value_of-small at_name read.0)
    (λ value small. subst (λ (web : Scanned). IsSound (given value web)) (sym adds.is)
    (numeric-sound bytes value scanning.web defined_as adds.strings is sound.lawful adds.few small)))

-- the right side of a macro with a text
abbrev text_side : ℕ → Class → Scanning → Result (Code × Scanning) Fault
text_side id kind scanning =
    let web = value_given id (pos (length scanning.web.texts)) scanning.web in
    let begun : Scanning = record scanning { web = web } in
    macro_text (most_tokens begun) kind (length web.tokens) begun
    >>= (λ read. Ok (read.1, record read.2 { web = record read.2.web { texts = read.2.web.texts ++ read.0 ∷ [] } }))

text_side-sound :
    (bytes : List ℕ) (kind : Class) (scanning : Scanning) (defined_as : ℕ × List Name) → is_numeric kind ≡ false
    → defined bytes kind scanning.web.names.names ≡ Ok defined_as → IsSound scanning.web
    → IfOk (text_side defined_as.0 kind (begun_side scanning defined_as)) SoundAfter
unfolding with_text
text_side-sound bytes kind scanning defined_as text is sound =
    let web = begun_text scanning.web defined_as in
    let begun : Scanning = record scanning { web = web } in
    IfOk-step (λ read. IsReadText kind web read.0 read.2.web) SoundAfter
    (macro_text (most_tokens begun) kind (length web.tokens) begun)
    (λ read. Ok (read.1, record read.2 { web = record read.2.web { texts = read.2.web.texts ++ read.0 ∷ [] } }))
    (macro_text-read (most_tokens begun) kind (length web.tokens) web begun
    (record { keeps = Keeps-none web; few = sound.few; so_far = IsSoFar-none kind web }))
    (λ read of. text-sound bytes kind scanning.web defined_as read.0 read.2.web is sound.lawful of
    (text_value kind scanning.web defined_as read.0 read.2.web text of))

right_side_read-sound :
    (at_name : Place) (bytes : List ℕ) (kind : Class) (scanning : Scanning) (defined_as : ℕ × List Name)
    → defined bytes kind scanning.web.names.names ≡ Ok defined_as → IsSound scanning.web
    → IfOk (right_side_read at_name defined_as.0 kind (begun_side scanning defined_as)) SoundAfter
right_side_read-sound at_name bytes class.Numeric scanning defined_as is sound =
    numeric_side-sound at_name bytes scanning defined_as is sound
right_side_read-sound at_name bytes class.Ordinary scanning defined_as is sound =
    text_side-sound bytes class.Ordinary scanning defined_as refl is sound
right_side_read-sound at_name bytes class.Simple scanning defined_as is sound =
    text_side-sound bytes class.Simple scanning defined_as refl is sound
right_side_read-sound at_name bytes class.Parametric scanning defined_as is sound =
    text_side-sound bytes class.Parametric scanning defined_as refl is sound

-- the signs of a definition leave the web as it is
abbrev SameWeb : Scanned → Scanning → Type 0
SameWeb web after = after.web ≡ web

expected-same : (code : ℕ) (is_such : Token → Bool) (scanning : Scanning)
    → IfOk (expected code is_such scanning) (SameWeb scanning.web)
expected-same code is_such scanning =
    IfOk-step (IsTokenRead scanning) (SameWeb scanning.web) (token_read scanning)
    (λ read. if is_such read.0 then Ok read.1 else Err (fault_at code (place_of_last read.1))) (token_read-is scanning)
    (λ read token. choice (λ (answer : Result Scanning Fault). IfOk answer (SameWeb scanning.web)) (is_such read.0)
    (Ok read.1)
    (Err (fault_at code (place_of_last read.1))) (λ such. token.same) (λ other. tt))

abbrev ClassInWeb : Scanned → Class × Scanning → Type 0
ClassInWeb web answer = answer.1.web ≡ web

parameter_read-same : (scanning : Scanning) → IfOk (parameter_read scanning) (ClassInWeb scanning.web)
parameter_read-same scanning =
    let expects = λ (is_such : Token → Bool) (scanning : Scanning). expected BAD_DEFINITION is_such scanning in
    let answer : Scanning → Result (Class × Scanning) Fault = λ scanning. Ok (class.Parametric, scanning) in
    IfOk-step (SameWeb scanning.web) (ClassInWeb scanning.web) (expects (is_sign 35) scanning)
    (λ one. expects (is_sign 41) one >>= (λ two. expects is_same two >>= answer))
    (expected-same BAD_DEFINITION (is_sign 35) scanning)
    (λ one same. IfOk-step (SameWeb one.web) (ClassInWeb scanning.web) (expects (is_sign 41) one)
    (λ two. expects is_same two >>= answer) (expected-same BAD_DEFINITION (is_sign 41) one)
    (λ two again. IfOk-step (SameWeb two.web) (ClassInWeb scanning.web) (expects is_same two) answer
    (expected-same BAD_DEFINITION is_same two) (λ three last. last ∙ again ∙ same)))

class_from-same : (token : Token) (scanning : Scanning) → IfOk (class_from token scanning) (ClassInWeb scanning.web)
class_from-same (sign byte) scanning =
    let P : Result (Class × Scanning) Fault → Type 0 = λ answer. IfOk answer (ClassInWeb scanning.web) in
    let bad : Result (Class × Scanning) Fault = Err (fault_at BAD_DEFINITION (place_of_last scanning)) in
    choice P (byte == 61) (Ok (class.Numeric, scanning)) (if byte == 40 then parameter_read scanning else bad)
    (λ equals. refl)
    (λ other. choice P (byte == 40) (parameter_read scanning) bad (λ opens. parameter_read-same scanning)
    (λ other. tt))
class_from-same (joined two.Same) scanning = refl
class_from-same other scanning = tt

class_read-same : (scanning : Scanning) → IfOk (class_read scanning) (ClassInWeb scanning.web)
class_read-same scanning =
    IfOk-step (IsTokenRead scanning) (ClassInWeb scanning.web) (token_read scanning) (λ read. class_from read.0 read.1)
    (token_read-is scanning)
    (λ read token. subst (λ (web : Scanned). IfOk (class_from read.0 read.1) (ClassInWeb web)) token.same
    (class_from-same read.0 read.1))

-- a definition, by what the names answer
abbrev begun_web : Scanned → ℕ × List Name → ℕ × Scanned
begun_web web names = (names.0, with_names web names.1)

abbrev begun_scanning : Scanning → ℕ × Scanned → ℕ × Scanning
begun_scanning scanning begun = (begun.0, record scanning { web = begun.1 })

abbrev begun_by : Place → Scanning → Result (ℕ × List Name) NameErr → Result (ℕ × Scanning) Fault
begun_by at_sign scanning answer =
    unless_refused LIMIT_NAMES at_sign answer >>= (λ names. Ok (begun_web scanning.web names))
    >>= (λ begun. Ok (begun_scanning scanning begun))

begun_by-sound :
    (at_name at_sign : Place) (bytes : List ℕ) (kind : Class) (scanning : Scanning)
    (answer : Result (ℕ × List Name) NameErr)
    → defined bytes kind scanning.web.names.names ≡ answer → IsSound scanning.web
    → IfOk (begun_by at_sign scanning answer >>= (λ begun. right_side_read at_name begun.0 kind begun.1)) SoundAfter
begun_by-sound at_name at_sign bytes kind scanning (Ok defined_as) is sound =
    right_side_read-sound at_name bytes kind scanning defined_as is sound
begun_by-sound at_name at_sign bytes kind scanning (Err refusal) is sound = tt

name_defined-sound :
    (at_name : Place) (bytes : List ℕ) (kind : Class) (scanning : Scanning) → IsSound scanning.web
    → IfOk (name_defined bytes kind scanning >>= (λ begun. right_side_read at_name begun.0 kind begun.1)) SoundAfter
name_defined-sound at_name bytes kind scanning sound =
    begun_by-sound at_name (place_of_last scanning) bytes kind scanning (defined bytes kind scanning.web.names.names)
    refl sound

pub definition-sound : (scanning : Scanning) → IsSound scanning.web → IfOk (definition scanning) SoundAfter
unfolding definition
definition-sound scanning sound =
    IfOk-step (IsTokenRead scanning) SoundAfter (token_read scanning)
    (λ name. defined_word (place_of_last name.1) name.0
    >>= (λ bytes. class_read name.1
    >>= (λ signs. name_defined bytes signs.0 signs.1
    >>= (λ begun. right_side_read (place_of_last name.1) begun.0 signs.0 begun.1))))
    (token_read-is scanning)
    (λ name token. IfOk-step (λ bytes. ⊤) SoundAfter (defined_word (place_of_last name.1) name.0)
    (λ bytes. class_read name.1
    >>= (λ signs. name_defined bytes signs.0 signs.1
    >>= (λ begun. right_side_read (place_of_last name.1) begun.0 signs.0 begun.1)))
    (any_ok (defined_word (place_of_last name.1) name.0))
    (λ bytes some. IfOk-step (ClassInWeb name.1.web) SoundAfter (class_read name.1)
    (λ signs. name_defined bytes signs.0 signs.1
    >>= (λ begun. right_side_read (place_of_last name.1) begun.0 signs.0 begun.1)) (class_read-same name.1)
    (λ signs same. name_defined-sound (place_of_last name.1) bytes signs.0 signs.1
    (subst IsSound (sym (same ∙ token.same)) sound))))
