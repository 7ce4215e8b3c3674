-- What names stand for.
use Rattle.std.proofs.Common.{◌≡◌, ℕ, ℤ, pos, negsuc, List, [], map, Some, nat_abs, sym}
use Rattle.std.proofs.Common.{ap, ◌∙◌, slice_get, unwrap_or, ◌<◌, w32, w64, arith, SFits}
use Rattle.std.proofs.lemmas.Int.{to_z-of_z}
use Rattle.std.proofs.Math.Facts.{sfits_widen}
use mir.Val.{to_z, of_z}
use Rattle.wb_base.specs.declared.tokens.Tok.{Tok}
use Rattle.web_names.specs.declared.classes.Class.TheVariants as class
use Rattle.web_scan.specs.Pieces.{text_of_macro}
use Rattle.web_scan.specs.Scanned.{Scanned}
use Rattle.web_scan.proofs.ReadingLemmas.{kind_of, name_of_kind, text_of_macro-kind}
use Rattle.macro_expand.specs.Expansion.{itself, simple, parametric, text_of, class_meaning, name_meaning}
use Rattle.macro_expand.specs.Items.{number}

pub name_meaning-numeric : (web : Scanned) (id : ℕ) (value : ℤ)
    → slice_get (map kind_of web.names.names) id ≡ Some (class.Numeric, value)
    → itself (number value) ≡ name_meaning web (slice_get web.names.names id)
name_meaning-numeric web id value at =
    let found = name_of_kind web.names.names id class.Numeric value at in
    sym (ap (name_meaning web) found.at ∙ ap (class_meaning web found.name) found.class_is
    ∙ ap (λ value. itself (number value)) found.value_is)

-- the text of a macro that has one
text_of-some : (web : Scanned) (value : ℤ) (text : List Tok) → slice_get web.texts (nat_abs value) ≡ Some text
    → text ≡ text_of web value
text_of-some web value text is = sym (ap (λ found. unwrap_or found []) is)

pub name_meaning-simple : (web : Scanned) (id : ℕ) (value : ℤ) (text : List Tok)
    → slice_get (map kind_of web.names.names) id ≡ Some (class.Simple, value) → text_of_macro web id ≡ Some text
    → simple text ≡ name_meaning web (slice_get web.names.names id)
name_meaning-simple web id value text at is =
    let found = name_of_kind web.names.names id class.Simple value at in
    ap simple (text_of-some web value text (sym (text_of_macro-kind web id class.Simple value at) ∙ is))
    ∙ sym (ap (name_meaning web) found.at ∙ ap (class_meaning web found.name) found.class_is
    ∙ ap (λ value. simple (text_of web value)) found.value_is)

pub name_meaning-parametric : (web : Scanned) (id : ℕ) (value : ℤ) (text : List Tok)
    → slice_get (map kind_of web.names.names) id ≡ Some (class.Parametric, value) → text_of_macro web id ≡ Some text
    → parametric text ≡ name_meaning web (slice_get web.names.names id)
name_meaning-parametric web id value text at is =
    let found = name_of_kind web.names.names id class.Parametric value at in
    ap parametric (text_of-some web value text (sym (text_of_macro-kind web id class.Parametric value at) ∙ is))
    ∙ sym (ap (name_meaning web) found.at ∙ ap (class_meaning web found.name) found.class_is
    ∙ ap (λ value. parametric (text_of web value)) found.value_is)

small_fits : (value : ℤ) → nat_abs value < 32768 → SFits w32 value
small_fits (pos n) small = record { sfits = omega arith }
small_fits (negsuc n) small = record { sfits = omega arith }

-- a small number stays what it is in other types
pub same_number : (value : ℤ) → nat_abs value < 32768 → to_z w64 (of_z w64 (to_z w32 (of_z w32 value))) ≡ value
same_number value small =
    let narrow : SFits w32 value = small_fits value small in
    let wide : SFits w64 value = sfits_widen tt narrow in
    ap (λ value. to_z w64 (of_z w64 value)) (to_z-of_z w32 value narrow) ∙ to_z-of_z w64 value wide
