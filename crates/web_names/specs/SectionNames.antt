-- Names of sections: the whole names so far, and what a prefix stands for among them. The rules are TANGLE's; the limit
-- is this project's own.
use Rattle.std.specs.Prelude.{ℕ, ◌||◌, nat_lt, nat_eq, Bool, if◌then◌else◌, List, [], ◌∷◌, ◌++◌, length, map, filter}
use Rattle.std.specs.Prelude.{position, Option, Some, None, Result, Ok, Err}
use Rattle.std.specs.List.{list_any, starts_with, enumerate_from}
use Rattle.std.specs.Str.{bytes_eq}
use Rattle.web_names.specs.declared.name_errors.NameErr.{NameErr}
use Rattle.web_names.specs.declared.name_errors.NameErr.TheVariants.{NoMatch, Ambiguous, Incompatible, Full}

-- whether these bytes are the beginning of a name, or all of it
unfoldable pub is_prefix_of : List ℕ → List ℕ → Bool
is_prefix_of prefix name = starts_with nat_eq name prefix

-- whether of two names one begins with the other
abbrev pub is_incompatible : List ℕ → List ℕ → Bool
is_incompatible name other = is_prefix_of name other || is_prefix_of other name

-- the most names of sections
abbrev pub section_limit : ℕ
section_limit = 65535

-- a new name's place, and the names with it
abbrev pub with_section : List ℕ → List (List ℕ) → Result (ℕ × List (List ℕ)) NameErr
with_section name names =
    if list_any (is_incompatible name) names then Err Incompatible
    else (if nat_lt (length names) section_limit then Ok (length names, names ++ name ∷ []) else Err Full)

-- a whole name, where it has this place among the names or is new
abbrev pub whole_at : Option ℕ → List ℕ → List (List ℕ) → Result (ℕ × List (List ℕ)) NameErr
whole_at (Some place) name names = Ok (place, names)
whole_at None name names = with_section name names

-- a whole name: its place among the names, from 0, and the names after it, or its refusal
unfoldable pub whole_name : List ℕ → List (List ℕ) → Result (ℕ × List (List ℕ)) NameErr
whole_name name names = whole_at (position (bytes_eq name) names) name names

-- the places of the names that begin with these bytes
abbrev pub places_of : List ℕ → List (List ℕ) → List ℕ
places_of prefix names =
    map (λ entry. entry.0) (filter (λ entry. is_prefix_of prefix entry.1) (enumerate_from 0 names))

-- the one place in a list, or the refusal of none or of several
abbrev pub the_only : List ℕ → Result ℕ NameErr
the_only [] = Err NoMatch
the_only (place ∷ []) = Ok place
the_only (place ∷ (other ∷ others)) = Err Ambiguous

-- the place of the one name that a prefix stands for, or the refusal
unfoldable pub prefix_name : List ℕ → List (List ℕ) → Result ℕ NameErr
prefix_name prefix names = the_only (places_of prefix names)
