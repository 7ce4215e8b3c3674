-- What holds of what the readers of a lawful web answer.
use Rattle.std.proofs.Common.{◌≡◌, ℕ, zero, suc, ℤ, pos, negsuc, nat_abs, ◌<◌, ◌≤◌, ◌≤ℤ◌, List, [], ◌∷◌, length, map}
use Rattle.std.proofs.Common.{All, IsTrue, IsSome, IsSomeAnd, Option, Some, None, slice_get, refl, sym, ap, ◌∙◌, subst}
use Rattle.std.proofs.Common.{arith, rules}
use Rattle.std.proofs.lemmas.Int.{ints}
use Rattle.std.specs.Char.{is_ascii_digit}
use Rattle.std.proofs.lemmas.List.Elements.{All-get_or, All-head, All-tail, All-nil, All-cons, All-same}
use Rattle.std.proofs.lemmas.Option.{slice_get_within, get_or_from_slice_get}
use Rattle.std.proofs.lemmas.List.{length-take}
use Rattle.wb_base.specs.declared.options.Options.{Options}
use Rattle.wb_base.specs.declared.tokens.Tok.{Tok}
use Rattle.web_names.specs.declared.classes.Class.{Class}
use Rattle.web_names.specs.declared.classes.Class.TheVariants as class
use Rattle.web_names.specs.Identifiers.{Name, printed_form, printed_limit, spelled}
use Rattle.web_scan.specs.declared.pieces.Piece.{Piece}
use Rattle.web_scan.specs.Numeric.{value_limit}
use Rattle.web_scan.specs.Scanned.{PascalText, Scanned, texts_under}
use Rattle.web_scan.specs.Pieces.{pascal_text_at, pascal_texts_at, text_by, text_of_name, text_of_macro, HasText}
use Rattle.web_scan.specs.Lawful.{IsTextOf, IsPascalTextOf, HasNoParameter, IsValueOf, IsLawful}

-- what holds of each element holds of the one at a place
pub All-slice_get : {X : Type 0} (P : X → Type 0) (xs : List X) (place : ℕ) (x : X) → All P xs
    → slice_get xs place ≡ Some x → P x
All-slice_get P xs place x all at =
    subst P (get_or_from_slice_get xs place x x at) (All-get_or P xs place x (slice_get_within xs place x at) all)

-- the class and value of a name
abbrev pub kind_of : Name → Class × ℤ
kind_of name = (name.class, name.value)

-- the name of which this class and value were answered
pub record NameOfKind (names : List Name) (id : ℕ) (kind : Class) (value : ℤ) : Type 0 where
  pub name : Name
  pub at : slice_get names id ≡ Some name
  pub class_is : name.class ≡ kind
  pub value_is : name.value ≡ value

pub name_of_kind :
    (names : List Name) (id : ℕ) (kind : Class) (value : ℤ) → slice_get (map kind_of names) id ≡ Some (kind, value)
    → NameOfKind names id kind value
name_of_kind [] id kind value at = absurd cc
name_of_kind (name ∷ names) zero kind value at =
    let same : kind_of name ≡ (kind, value) = cc in
    record { name = name; at = refl; class_is = ap (λ p. p.0) same; value_is = ap (λ p. p.1) same }
name_of_kind (name ∷ names) (suc id) kind value at =
    let found = name_of_kind names id kind value at in
    record { name = found.name; at = found.at; class_is = found.class_is; value_is = found.value_is }

-- the value that was answered with a class is one of that class
pub IsValueOf-kind :
    (web : Scanned) (id : ℕ) (kind : Class) (value : ℤ) → IsLawful web
    → slice_get (map kind_of web.names.names) id ≡ Some (kind, value) → IsValueOf web kind value
IsValueOf-kind web id kind value lawful at =
    let found = name_of_kind web.names.names id kind value at in
    let here : IsValueOf web found.name.class found.name.value =
    All-slice_get (λ name. IsValueOf web name.class name.value) web.names.names id found.name lawful.names found.at in
    let of_class : Class → Type 0 = λ kind. IsValueOf web kind found.name.value in
    subst (IsValueOf web kind) found.value_is (subst of_class found.class_is here)

-- the text of a macro, by its class and value
pub text_of_macro-kind :
    (web : Scanned) (id : ℕ) (kind : Class) (value : ℤ)
    → slice_get (map kind_of web.names.names) id ≡ Some (kind, value) → text_of_macro web id ≡ text_by web kind value
text_of_macro-kind web id kind value at =
    let found = name_of_kind web.names.names id kind value at in
    ap (text_of_name web) found.at ∙ ap (λ kind. text_by web kind found.name.value) found.class_is
    ∙ ap (text_by web kind) found.value_is

-- a value of which something holds is one
IsSome-and : {X : Type 0} (option : Option X) (P : X → Type 0) → IsSomeAnd option P → IsSome option
IsSome-and None P holds = absurd holds
IsSome-and (Some x) P holds = refl

of_value : {X : Type 0} (option : Option X) (P : X → Type 0) (x : X) → IsSomeAnd option P → option ≡ Some x → P x
of_value None P x holds is = absurd holds
of_value (Some y) P x holds is = let same : y ≡ x = cc in subst P same holds

-- a simple macro has a text, in which no parameter stands
pub HasText-simple :
    (web : Scanned) (id : ℕ) (value : ℤ) → IsLawful web
    → slice_get (map kind_of web.names.names) id ≡ Some (class.Simple, value) → HasText web id
HasText-simple web id value lawful at =
    let kept = IsValueOf-kind web id class.Simple value lawful at in
    let text : text_of_macro web id ≡ slice_get web.texts kept.0 =
    text_of_macro-kind web id class.Simple value at ∙ ap (λ value. slice_get web.texts (nat_abs value)) kept.1 in
    rw text (IsSome-and (slice_get web.texts kept.0) HasNoParameter kept.2)

pub HasText-parametric :
    (web : Scanned) (id : ℕ) (value : ℤ) → IsLawful web
    → slice_get (map kind_of web.names.names) id ≡ Some (class.Parametric, value) → HasText web id
HasText-parametric web id value lawful at =
    let kept = IsValueOf-kind web id class.Parametric value lawful at in
    let text : text_of_macro web id ≡ slice_get web.texts kept.0 =
    text_of_macro-kind web id class.Parametric value at ∙ ap (λ value. slice_get web.texts (nat_abs value)) kept.1 in
    rw text kept.2

pub HasNoParameter-simple :
    (web : Scanned) (id : ℕ) (value : ℤ) (text : List Tok) → IsLawful web
    → slice_get (map kind_of web.names.names) id ≡ Some (class.Simple, value) → text_of_macro web id ≡ Some text
    → HasNoParameter text
HasNoParameter-simple web id value text lawful at is =
    let kept = IsValueOf-kind web id class.Simple value lawful at in
    let text_is : slice_get web.texts kept.0 ≡ Some text =
    sym (text_of_macro-kind web id class.Simple value at ∙ ap (λ value. slice_get web.texts (nat_abs value)) kept.1)
    ∙ is in
    of_value (slice_get web.texts kept.0) HasNoParameter text kept.2 text_is

-- the text of a macro is a text of the web
IsTextOf-text_by :
    (web : Scanned) (kind : Class) (value : ℤ) (text : List Tok) → IsLawful web → text_by web kind value ≡ Some text
    → IsTextOf web text
IsTextOf-text_by web class.Simple value text lawful is =
    All-slice_get (IsTextOf web) web.texts (nat_abs value) text lawful.texts is
IsTextOf-text_by web class.Parametric value text lawful is =
    All-slice_get (IsTextOf web) web.texts (nat_abs value) text lawful.texts is
IsTextOf-text_by web class.Ordinary value text lawful is = absurd cc
IsTextOf-text_by web class.Numeric value text lawful is = absurd cc

pub IsTextOf-text_of_macro : (web : Scanned) (id : ℕ) (text : List Tok) → IsLawful web
    → text_of_macro web id ≡ Some text → IsTextOf web text
IsTextOf-text_of_macro web id text lawful is =
    elim (slice_get web.names.names id) as (λ name. text_of_name web name ≡ Some text → IsTextOf web text) [
      | None ↦ λ is. absurd cc
      | Some name ↦ λ is. IsTextOf-text_by web name.class name.value text lawful is
    ] is

-- the texts under the name of a section are Pascal texts of the web
under-named :
    (web : Scanned) (section : ℕ) (named : List (List PascalText)) → All (All (IsPascalTextOf web)) named
    → All (IsPascalTextOf web) (texts_under section named)
under-named web section [] all = All-nil (IsPascalTextOf web)
under-named web zero (texts ∷ named) all = All-head (All (IsPascalTextOf web)) texts named all
under-named web (suc section) (texts ∷ named) all =
    under-named web section named (All-tail (All (IsPascalTextOf web)) texts named all)

pub IsPascalTextOf-under : (web : Scanned) (section : ℕ) → IsLawful web
    → All (IsPascalTextOf web) (texts_under section web.named)
IsPascalTextOf-under web section lawful = under-named web section web.named lawful.named

of_map : {X Y : Type 0} (P : Y → Type 0) (f : X → Y) (xs : List X) → All P (map f xs) → All (λ x. P (f x)) xs
of_map P f [] all = All-nil (λ x. P (f x))
of_map P f (x ∷ xs) all =
    All-cons (λ x. P (f x)) x xs (All-head P (f x) (map f xs) all)
    (of_map P f xs (All-tail P (f x) (map f xs) all))

-- what holds of Pascal texts holds of that of each piece
pub All-pascal_texts_at :
    (P : PascalText → Type 0) (tokens : List Tok) (pieces : List Piece) (texts : List PascalText)
    → pascal_texts_at tokens pieces ≡ texts → All P texts → All (λ piece. P (pascal_text_at tokens piece)) pieces
All-pascal_texts_at P tokens pieces texts is all = of_map P (pascal_text_at tokens) pieces (All-same P _ texts is all)

-- the value of a numeric macro is that of a constant
pub low-numeric : (value : ℤ) → nat_abs value < value_limit → negsuc 2147483646 ≤ℤ value
low-numeric value small = omega (arith, ints)

pub high-numeric : (value : ℤ) → nat_abs value < value_limit → value ≤ℤ pos 2147483647
high-numeric value small = omega (arith, ints)

-- the byte of a digit is that of a decimal one
pub low-digit : (byte : ℕ) → IsTrue (is_ascii_digit byte) → 48 ≤ byte
low-digit byte is = search rules

pub high-digit : (byte : ℕ) → IsTrue (is_ascii_digit byte) → byte ≤ 57
high-digit byte is = search rules

-- a word was cut
pub length-printed_form : (options : Options) (word : List ℕ) → length (printed_form options word) ≤ printed_limit
unfolding printed_form
length-printed_form options word =
    omega (arith, length-take printed_limit (spelled options.underline options.case word))

pub length-printed :
    (options : Options) (names : List Name) (id : ℕ) (printed : List ℕ)
    → slice_get (map (λ name. printed_form options name.word) names) id ≡ Some printed → length printed ≤ printed_limit
length-printed options [] id printed at = absurd cc
length-printed options (name ∷ names) zero printed at =
    let same : printed_form options name.word ≡ printed = cc in
    subst (λ (printed : List ℕ). length printed ≤ printed_limit) same (length-printed_form options name.word)
length-printed options (name ∷ names) (suc id) printed at = length-printed options names id printed at
