-- Right sides of definitions, a token at a time.
use Rattle.std.proofs.Common.{◌≡◌, ◌≢◌, ℕ, ℤ, suc, ◌<◌, List, [], ◌∷◌, ◌++◌, length, drop}
use Rattle.std.proofs.Common.{Some, None}
use Rattle.std.proofs.Common.{Result, Ok, Err, refl, sym, ap, ◌∙◌, arith}
use Rattle.std.specs.Prelude.{pos, IsOkAnd}
use Rattle.wb_base.specs.declared.faults.Fault.{Fault}
use Rattle.wb_base.specs.declared.places.Place.{Place}
use Rattle.wb_base.specs.declared.tokens.Tok.{Tok}
use Rattle.wb_base.specs.Steps.{◌>>=◌}
use Rattle.web_lex.specs.declared.codes.Code.{Code}
use Rattle.web_lex.specs.Reading.{Reading}
use Rattle.web_lex.specs.Token.{Token, end_of_input}
use Rattle.web_names.specs.declared.classes.Class.{Class}
use Rattle.web_names.specs.declared.classes.Class.TheVariants as class
use Rattle.web_scan.specs.declared.numeric.Sum.{Sum}
use Rattle.web_scan.specs.Definitions.{value_given, right_side_read}
use Rattle.web_scan.specs.Numeric.{Term, TermsRead, with_token, value_of, right_side, right_side_from}
use Rattle.web_scan.specs.Scanned.{Scanned, Scanning, place_of_last, token_read, most_tokens}
use Rattle.web_scan.specs.Texts.{TextRead, ending_code, macro_text, stored_since}
use Rattle.web_scan.specs.inner.StandsFor.{StandsFor, AddedTo, ReadTo}
use Rattle.web_scan.proofs.ScannerLemmas.{scanning_with}
use Rattle.web_scan.proofs.StepsLemmas.{StillReads, StillReads-start, StillReads-more, StillReads-stops, same_rest}
use Rattle.web_scan.proofs.TextsLemmas.{not_end}

-- the value that a result has
pub ok_of : {A E : Type 0} {P : A → Type 0} (r : Result A E) → IsOkAnd r P → (value : A) × (r ≡ Ok value) × P value
ok_of (Ok value) holds = (value, refl, holds)
ok_of (Err error) holds = absurd holds

pub ok_and : {A E : Type 0} (P : A → Type 0) (r : Result A E) (value : A) → r ≡ Ok value → P value → IsOkAnd r P
ok_and P (Ok other) value is holds = let same : other ≡ value = cc in rw same holds
ok_and P (Err error) value is holds = absurd cc

-- a right side that is read: the terms so far, and what stands after them
abbrev pub Side : Type 0
Side = List Term × Scanning

abbrev pub side_left : Side → ℕ
side_left side = most_tokens side.1

abbrev pub side_read : ℕ → ℕ → Side → TermsRead
side_read id most side = right_side most id side.0 side.1

-- by the next token
abbrev after_token : ℕ → List Term → ℕ → Token × Scanning → TermsRead
after_token id terms left read = right_side_from id terms read.0 read.1 (right_side left id) (ending_code read.0)

abbrev after_term : ℕ → ℕ → Scanning → List Term × Scanned → TermsRead
after_term id left read answer = right_side left id answer.0 (record read { web = answer.1 })

right_side-more :
    (id : ℕ) (terms : List Term) (now read next : Scanning) (token : Token) (answer : List Term × Scanned) (left : ℕ)
    → token_read now ≡ Ok (token, read) → ending_code token ≡ None
    → with_token id (place_of_last read) token terms read.web ≡ Ok answer → record read { web = answer.1 } ≡ next
    → right_side (suc left) id terms now ≡ right_side left id answer.0 next
unfolding right_side
right_side-more id terms now read next token answer left is goes_on adds same =
    ap (λ (r : Result (Token × Scanning) Fault). r >>= after_token id terms left) is
    ∙ ap (right_side_from id terms token read (right_side left id)) goes_on
    ∙ ap (λ (r : Result (List Term × Scanned) Fault). r >>= after_term id left read) adds
    ∙ ap (right_side left id answer.0) same

right_side-refused :
    (id : ℕ) (terms : List Term) (now read : Scanning) (token : Token) (fault : Fault) (left : ℕ)
    → token_read now ≡ Ok (token, read) → ending_code token ≡ None
    → with_token id (place_of_last read) token terms read.web ≡ Err fault
    → right_side (suc left) id terms now ≡ Err fault
unfolding right_side
right_side-refused id terms now read token fault left is goes_on refuses =
    ap (λ (r : Result (Token × Scanning) Fault). r >>= after_token id terms left) is
    ∙ ap (right_side_from id terms token read (right_side left id)) goes_on
    ∙ ap (λ (r : Result (List Term × Scanned) Fault). r >>= after_term id left read) refuses

right_side-ends :
    (id : ℕ) (terms : List Term) (now read : Scanning) (token : Token) (c : Code) (left : ℕ)
    → token_read now ≡ Ok (token, read) → ending_code token ≡ Some c
    → right_side (suc left) id terms now ≡ Ok (terms, c, read)
unfolding right_side
right_side-ends id terms now read token c left is ends =
    ap (λ (r : Result (Token × Scanning) Fault). r >>= after_token id terms left) is
    ∙ ap (right_side_from id terms token read (right_side left id)) ends

right_side-unread :
    (id : ℕ) (terms : List Term) (now : Scanning) (fault : Fault) (left : ℕ) → token_read now ≡ Err fault
    → right_side (suc left) id terms now ≡ Err fault
unfolding right_side
right_side-unread id terms now fault left is =
    ap (λ (r : Result (Token × Scanning) Fault). r >>= after_token id terms left) is

-- the sum now stands for terms with which the right side is still what it is from the start
pub record StillAdds (id : ℕ) (start now : Scanning) (terms : List Term) (sum : Sum) : Type 0 where
  pub so_far : List Term
  pub stands : StandsFor sum so_far
  pub still : StillReads side_left (side_read id) (terms, start) (so_far, now)

pub StillAdds-start : (id : ℕ) (start : Scanning) (terms : List Term) (sum : Sum) → StandsFor sum terms
    → StillAdds id start start terms sum
StillAdds-start id start terms sum stands =
    record { so_far = terms; stands = stands; still = StillReads-start side_left (side_read id) (terms, start) }

pub StillAdds-more :
    (id : ℕ) (start now read next : Scanning) (terms : List Term) (sum more : Sum) (token : Token)
    → StillAdds id start now terms sum → token_read now ≡ Ok (token, read)
    → (token ≢ end_of_input → length read.reading.rest < length now.reading.rest) → ending_code token ≡ None
    → ((terms : List Term) → StandsFor sum terms
    → IsOkAnd (with_token id (place_of_last read) token terms read.web) (AddedTo more next.web))
    → next.reading ≡ read.reading → StillAdds id start next terms more
StillAdds-more id start now read next terms sum more token adds is shorter goes_on added same =
    let answer = ok_of (with_token id (place_of_last read) token adds.so_far read.web)
    (added adds.so_far adds.stands) in
    let less = shorter (not_end token goes_on) in
    let kept = same_rest next.reading read.reading same in
    let after : scanning_with read.reading answer.0.1 ≡ next =
    ap (λ (reading : Reading). scanning_with reading answer.0.1) (sym same)
    ∙ ap (λ (web : Scanned). scanning_with next.reading web) answer.2.web_is in
    record {
      so_far = answer.0.0;
      stands = answer.2.terms;
      still = StillReads-more side_left (side_read id) (terms, start) (adds.so_far, now) (answer.0.0, next) adds.still
          (omega arith)
          (λ left. right_side-more id adds.so_far now read next token answer.0 left is goes_on answer.1 after);
    }

pub right_side-refuses :
    (id : ℕ) (start now read : Scanning) (terms : List Term) (sum : Sum) (token : Token) (fault : Fault)
    → StillAdds id start now terms sum → token_read now ≡ Ok (token, read) → ending_code token ≡ None
    → ((terms : List Term) → StandsFor sum terms → with_token id (place_of_last read) token terms read.web ≡ Err fault)
    → (most : ℕ) → length start.reading.rest < most → right_side most id terms start ≡ Err fault
right_side-refuses id start now read terms sum token fault adds is goes_on refuses most enough =
    StillReads-stops side_left (side_read id) (terms, start) (adds.so_far, now) (Err fault) adds.still (omega arith)
    (λ left. right_side-refused id adds.so_far now read token fault left is goes_on (refuses adds.so_far adds.stands))
    most (omega arith)

pub right_side-fault :
    (id : ℕ) (start now : Scanning) (terms : List Term) (sum : Sum) (fault : Fault)
    → StillAdds id start now terms sum → token_read now ≡ Err fault
    → (most : ℕ) → length start.reading.rest < most → right_side most id terms start ≡ Err fault
right_side-fault id start now terms sum fault adds is most enough =
    StillReads-stops side_left (side_read id) (terms, start) (adds.so_far, now) (Err fault) adds.still (omega arith)
    (λ left. right_side-unread id adds.so_far now fault left is) most (omega arith)

pub right_side-done :
    (id : ℕ) (start now read : Scanning) (terms : List Term) (sum : Sum) (token : Token) (c : Code)
    → StillAdds id start now terms sum → token_read now ≡ Ok (token, read) → ending_code token ≡ Some c
    → (most : ℕ) → length start.reading.rest < most → IsOkAnd (right_side most id terms start) (ReadTo sum c read)
right_side-done id start now read terms sum token c adds is ends most enough =
    let all = StillReads-stops side_left (side_read id) (terms, start) (adds.so_far, now)
    (Ok (adds.so_far, c, read)) adds.still (omega arith)
    (λ left. right_side-ends id adds.so_far now read token c left is ends) most (omega arith) in
    ok_and (ReadTo sum c read) (right_side most id terms start) (adds.so_far, c, read) all
    (record { terms = adds.stands; code_is = refl; scanning_is = refl })

-- the right side of a numeric macro
abbrev value_after : ℕ → List Term × Code × Scanning → ℤ → Result (Code × Scanning) Fault
value_after id read value = Ok (read.1, record read.2 { web = value_given id value read.2.web })

abbrev valued : Place → ℕ → List Term × Code × Scanning → Result (Code × Scanning) Fault
valued at_name id read =
    value_of at_name read.0 >>= value_after id read

pub numeric-ok :
    (at_name : Place) (id : ℕ) (now after : Scanning) (reading : Reading) (parts web : Scanned) (sum : Sum) (c : Code)
    (value : ℤ)
    → IsOkAnd (right_side (most_tokens now) id [] now) (ReadTo sum c after)
    → ((terms : List Term) → StandsFor sum terms → value_of at_name terms ≡ Ok value)
    → scanning_with reading parts ≡ after → web ≡ value_given id value parts
    → right_side_read at_name id class.Numeric now ≡ Ok (c, scanning_with reading web)
numeric-ok at_name id now after reading parts web sum c value reads valued_by view after_value =
    let answer = ok_of (right_side (most_tokens now) id [] now) reads in
    ap (λ (r : TermsRead). r >>= valued at_name id) answer.1
    ∙ ap (λ (r : Result ℤ Fault). r >>= value_after id answer.0) (valued_by answer.0.0 answer.2.terms)
    ∙ ap (λ c. Ok (c, record answer.0.2 { web = value_given id value answer.0.2.web })) answer.2.code_is
    ∙ ap (λ (after : Scanning). Ok (c, record after { web = value_given id value after.web }))
    (answer.2.scanning_is ∙ sym view)
    ∙ ap (λ (web : Scanned). Ok (c, scanning_with reading web)) (sym after_value)

pub numeric-too_big :
    (at_name : Place) (id : ℕ) (now after : Scanning) (sum : Sum) (c : Code) (fault : Fault)
    → IsOkAnd (right_side (most_tokens now) id [] now) (ReadTo sum c after)
    → ((terms : List Term) → StandsFor sum terms → value_of at_name terms ≡ Err fault)
    → right_side_read at_name id class.Numeric now ≡ Err fault
numeric-too_big at_name id now after sum c fault reads refuses =
    let answer = ok_of (right_side (most_tokens now) id [] now) reads in
    ap (λ (r : TermsRead). r >>= valued at_name id) answer.1
    ∙ ap (λ (r : Result ℤ Fault). r >>= value_after id answer.0) (refuses answer.0.0 answer.2.terms)

pub numeric-fault :
    (at_name : Place) (id : ℕ) (now : Scanning) (fault : Fault) → right_side (most_tokens now) id [] now ≡ Err fault
    → right_side_read at_name id class.Numeric now ≡ Err fault
numeric-fault at_name id now fault is = ap (λ (r : TermsRead). r >>= valued at_name id) is

-- the right side of another macro
abbrev begun_with : ℕ → Scanning → Scanning
begun_with id now = record now { web = value_given id (pos (length now.web.texts)) now.web }

abbrev text_given : List Tok × Code × Scanning → Result (Code × Scanning) Fault
text_given read = Ok (read.1, record read.2 { web = record read.2.web { texts = read.2.web.texts ++ read.0 ∷ [] } })

text_side : (at_name : Place) (id : ℕ) (kind : Class) (now : Scanning) → kind ≢ class.Numeric
    → right_side_read at_name id kind now
    ≡ (macro_text (most_tokens (begun_with id now)) kind (length now.web.tokens) (begun_with id now) >>= text_given)
text_side at_name id class.Ordinary now other = refl
text_side at_name id class.Numeric now other = absurd (other refl)
text_side at_name id class.Simple now other = refl
text_side at_name id class.Parametric now other = refl

text_side-at :
    (at_name : Place) (id : ℕ) (kind : Class) (now begun : Scanning) (first : ℕ) → kind ≢ class.Numeric
    → begun ≡ begun_with id now → first ≡ length now.web.tokens
    → right_side_read at_name id kind now ≡ (macro_text (most_tokens begun) kind first begun >>= text_given)
text_side-at at_name id kind now begun first other begins same =
    text_side at_name id kind now other
    ∙ ap (λ first. macro_text (most_tokens (begun_with id now)) kind first (begun_with id now) >>= text_given)
    (sym same)
    ∙ ap (λ (begun : Scanning). macro_text (most_tokens begun) kind first begun >>= text_given) (sym begins)

pub text_side-ok :
    (at_name : Place) (id : ℕ) (kind : Class) (now begun ended : Scanning) (reading : Reading) (parts web : Scanned)
    (first : ℕ) (c : Code)
    → kind ≢ class.Numeric → begun ≡ begun_with id now → first ≡ length now.web.tokens
    → macro_text (most_tokens begun) kind first begun ≡ Ok (stored_since first ended.web, c, ended)
    → scanning_with reading parts ≡ ended
    → web ≡ record parts { texts = parts.texts ++ drop first parts.tokens ∷ [] }
    → right_side_read at_name id kind now ≡ Ok (c, scanning_with reading web)
text_side-ok at_name id kind now begun ended reading parts web first c other begins same is view after_text =
    text_side-at at_name id kind now begun first other begins same
    ∙ ap (λ (r : TextRead). r >>= text_given) is
    ∙ ap (λ (ended : Scanning). text_given (stored_since first ended.web, c, ended)) (sym view)
    ∙ ap (λ (web : Scanned). Ok (c, scanning_with reading web)) (sym after_text)

pub text_side-fault :
    (at_name : Place) (id : ℕ) (kind : Class) (now begun : Scanning) (first : ℕ) (fault : Fault)
    → kind ≢ class.Numeric → begun ≡ begun_with id now → first ≡ length now.web.tokens
    → macro_text (most_tokens begun) kind first begun ≡ Err fault
    → right_side_read at_name id kind now ≡ Err fault
text_side-fault at_name id kind now begun first fault other begins same is =
    text_side-at at_name id kind now begun first other begins same ∙ ap (λ (r : TextRead). r >>= text_given) is
