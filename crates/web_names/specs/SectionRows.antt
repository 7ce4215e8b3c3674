-- The definitions of section names, at work on a few names.
use Rattle.std.specs.Prelude.{◌≡◌, ℕ, List, [], ◌∷◌, ◌++◌, codes, Ok, Err, refl}
use Rattle.web_names.specs.declared.name_errors.NameErr.TheVariants.{NoMatch, Ambiguous, Incompatible}
use Rattle.web_names.specs.SectionNames.{is_prefix_of, whole_name, prefix_name}

abbrev two_names : List (List ℕ)
two_names = codes "Initialize" ∷ codes "Ink" ∷ []

pub seen_again : whole_name (codes "Ink") two_names ≡ Ok (1, two_names)
unfolding whole_name is_prefix_of
seen_again = refl

pub new_name : whole_name (codes "Import") two_names ≡ Ok (2, two_names ++ codes "Import" ∷ [])
unfolding whole_name is_prefix_of
new_name = refl

pub begins_a_name : whole_name (codes "Ini") two_names ≡ Err Incompatible
unfolding whole_name is_prefix_of
begins_a_name = refl

pub extends_a_name : whole_name (codes "Inks") two_names ≡ Err Incompatible
unfolding whole_name is_prefix_of
extends_a_name = refl

pub prefix_of_one : prefix_name (codes "Ini") two_names ≡ Ok 0
unfolding prefix_name is_prefix_of
prefix_of_one = refl

pub prefix_equals : prefix_name (codes "Ink") two_names ≡ Ok 1
unfolding prefix_name is_prefix_of
prefix_equals = refl

pub prefix_of_several : prefix_name (codes "In") two_names ≡ Err Ambiguous
unfolding prefix_name is_prefix_of
prefix_of_several = refl

pub prefix_of_none : prefix_name (codes "Ini ") two_names ≡ Err NoMatch
unfolding prefix_name is_prefix_of
prefix_of_none = refl
