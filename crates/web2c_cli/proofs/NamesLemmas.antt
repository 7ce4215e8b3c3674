-- The names that a command line still gives, behind one more of them.
use Rattle.std.proofs.Common.{◌≡◌, ◌∙◌, ℕ, suc, ◌+◌, List, ◌∷◌, length, drop, Bool, true, false, ◌&&◌, nat_le, cond}
use Rattle.std.proofs.Common.{Option, Some, None, filter_map, slice_get, refl, sym, ap, arith}
use Rattle.std.specs.List.{list_all}
use Rattle.std.specs.Option.{option_or}
use Rattle.web2c_cli.specs.CommandLine.{CommandForm, Part, name, name_in, is_known, are_names_of, Names}
use Rattle.web2c_cli.specs.inner.Reading.{with_name, more_names, names_still, is_name_at}
use Rattle.web2c_cli.proofs.PartsLemmas.{cond_false}
use Rattle.web2c_cli.proofs.RequestLemmas.{names_at}

none_of : (a b c : Bool) → b ≡ false → (a && b && c) ≡ false
none_of true true c is = absurd (cc)
none_of true false c is = refl
none_of false b c is = refl

-- a name that is none of the command's
pub name_refused : (form : CommandForm) (names : Option Names) (count : ℕ) (word : List ℕ) (rest : List Part)
    → is_name_at form count word ≡ false → names_still form names count (name word ∷ rest) ≡ None
name_refused form names count word rest other =
    cond_false _ _ _
    (none_of _ _ _
    (names_at form.names form.more count word (filter_map name_in rest)
    ∙ ap (λ (b : Bool). b && are_names_of (drop (suc count) form.names) form.more (filter_map name_in rest)) other))

-- the names with one more
same_second : (second : Option (List ℕ)) (word : List ℕ) (more : Option (List ℕ))
    → option_or second (Some word) ≡ option_or (option_or second (Some word)) more
same_second None word more = refl
same_second (Some other) word more = refl

kept_names : (names : Option Names) (word : List ℕ) (words : List (List ℕ))
    → more_names names (word ∷ words) ≡ more_names (Some (with_name names word)) words
kept_names None word words = refl
kept_names (Some names) word words =
    ap (λ (second : Option (List ℕ)). Some (record { first = names.first; second = second }))
    (same_second names.second word (slice_get words 0))

pub name_taken : (form : CommandForm) (names : Option Names) (count : ℕ) (word : List ℕ) (rest : List Part)
    → is_name_at form count word ≡ true
    → names_still form (Some (with_name names word)) (count + 1) rest ≡ names_still form names count (name word ∷ rest)
name_taken form names count word rest one =
    let words = filter_map name_in rest in
    let next : count + 1 ≡ suc count = omega arith in
    let many : count + 1 + length words ≡ count + suc (length words) = omega arith in
    let at : are_names_of (drop count form.names) form.more (word ∷ words)
    ≡ are_names_of (drop (suc count) form.names) form.more words =
    names_at form.names form.more count word words
    ∙ ap (λ (b : Bool). b && are_names_of (drop (suc count) form.names) form.more words) one in
    ap (λ (n : ℕ). cond (list_all is_known rest && are_names_of (drop n form.names) form.more words
    && nat_le form.needed (count + 1 + length words)) (more_names (Some (with_name names word)) words) None) next
    ∙ ap (λ (b : Bool). cond (list_all is_known rest && b && nat_le form.needed (count + 1 + length words))
    (more_names (Some (with_name names word)) words) None) (sym at)
    ∙ ap (λ (n : ℕ). cond (list_all is_known rest && are_names_of (drop count form.names) form.more (word ∷ words)
    && nat_le form.needed n) (more_names (Some (with_name names word)) words) None) many
    ∙ ap (λ (found : Option Names). cond (list_all is_known rest
    && are_names_of (drop count form.names) form.more (word ∷ words)
    && nat_le form.needed (count + suc (length words))) found None) (sym (kept_names names word words))
