-- The definitions of identifiers, at work on a few words.
use Rattle.std.specs.Prelude.{◌≡◌, ℕ, pos, Bool, true, false, List, [], ◌∷◌, ◌++◌, length, replicate, codes, Ok, Err}
use Rattle.std.specs.Prelude.{refl}
use Rattle.wb_base.specs.declared.options.Case.{Case}
use Rattle.wb_base.specs.declared.options.Case.TheVariants.{Upper, Lower, Mixed}
use Rattle.wb_base.specs.declared.options.Options.{Options}
use Rattle.web_names.specs.declared.classes.Class.{Class}
use Rattle.web_names.specs.declared.classes.Class.TheVariants.{Ordinary, Numeric, Simple, Parametric}
use Rattle.web_names.specs.declared.name_errors.NameErr.TheVariants.{Appeared, Before, Conflict}
use Rattle.web_names.specs.Identifiers.{Name, new_name, printed_form, compared_form, used, defined, with_value}

abbrev options_of : ℕ → Bool → Case → Bool → Options
options_of length underline case strict =
    record { length = length; underline = underline; case = case; strict = strict }

-- the options where none is given
abbrev by_default : Options
by_default = options_of 32 false Mixed false

abbrev foo_bar_as : Class → List Name
foo_bar_as class = new_name (codes "foo_bar") class ∷ []

pub underlines_removed : printed_form by_default (codes "Foo_Bar_1") ≡ codes "FooBar1"
unfolding printed_form
underlines_removed = refl

pub underlines_kept : printed_form (options_of 32 true Upper false) (codes "Foo_Bar_1") ≡ codes "FOO_BAR_1"
unfolding printed_form
underlines_kept = refl

pub letters_folded : printed_form (options_of 32 false Lower false) (codes "Foo_Bar_1") ≡ codes "foobar1"
unfolding printed_form
letters_folded = refl

pub letter_folded : printed_form (options_of 32 false Upper false) (codes "a") ≡ codes "A"
unfolding printed_form
letter_folded = refl

-- a word is cut only when it is printed, and compared as far as its length goes
pub cut_when_printed : printed_form by_default (codes "_" ++ replicate 60 97) ≡ replicate 50 97
unfolding printed_form
cut_when_printed = refl

pub compared_past_the_cut : compared_form (options_of 55 false Mixed false) (replicate 60 97) ≡ replicate 55 97
unfolding compared_form
compared_past_the_cut = refl

pub compared_strictly : compared_form (options_of 5 true Lower true) (codes "Foo_Bar_1") ≡ codes "FOOBA"
unfolding compared_form
compared_strictly = refl

pub conflict : used by_default (codes "foobar") (foo_bar_as Ordinary) ≡ Err Conflict
unfolding used compared_form
conflict = refl

pub no_conflict_with_underlines : used (options_of 32 true Mixed false) (codes "foobar") (foo_bar_as Ordinary) ≡ Ok
    (1, foo_bar_as Ordinary ++ new_name (codes "foobar") Ordinary ∷ [])
unfolding used compared_form
no_conflict_with_underlines = refl

pub strict_conflict : used (options_of 32 true Mixed true) (codes "FooBar") (foo_bar_as Ordinary) ≡ Err Conflict
unfolding used compared_form
strict_conflict = refl

pub conflict_of_long_words : used (options_of 3 false Mixed false) (codes "foot") (foo_bar_as Ordinary) ≡ Err Conflict
unfolding used compared_form
conflict_of_long_words = refl

pub used_again : used by_default (codes "foo_bar") (foo_bar_as Ordinary) ≡ Ok (0, foo_bar_as Ordinary)
unfolding used compared_form
used_again = refl

pub no_conflict_with_a_macro : used by_default (codes "foobar") (foo_bar_as Simple) ≡ Ok
    (1, foo_bar_as Simple ++ new_name (codes "foobar") Ordinary ∷ [])
unfolding used compared_form
no_conflict_with_a_macro = refl

-- the one letter is no word to be compared, though the other word looks like it
pub letter_not_compared : used by_default (codes "a_") (new_name (codes "a") Ordinary ∷ []) ≡ Ok
    (1, new_name (codes "a") Ordinary ∷ new_name (codes "a_") Ordinary ∷ [])
unfolding used compared_form
letter_not_compared = refl

pub defined_later : defined (codes "foo_bar") Simple (foo_bar_as Ordinary) ≡ Ok (0, foo_bar_as Simple)
unfolding defined
defined_later = refl

pub numeric_appeared : defined (codes "foo_bar") Numeric (foo_bar_as Ordinary) ≡ Err Appeared
unfolding defined
numeric_appeared = refl

pub defined_before : defined (codes "foo_bar") Numeric (foo_bar_as Parametric) ≡ Err Before
unfolding defined
defined_before = refl

-- a definition is not compared
pub defined_beside : defined (codes "foobar") Numeric (foo_bar_as Ordinary) ≡ Ok
    (1, foo_bar_as Ordinary ++ new_name (codes "foobar") Numeric ∷ [])
unfolding defined
defined_beside = refl

pub value_set : with_value 0 (pos 7) (foo_bar_as Numeric)
    ≡ record { word = codes "foo_bar"; class = Numeric; value = pos 7 } ∷ []
unfolding with_value
value_set = refl
