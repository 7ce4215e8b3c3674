-- Each part of a program shows as many lists of faults as it has words: the faults of a token stand beside its word.
use Rattle.std.proofs.Common.{◌≡◌, refl, sym, ap, ◌∙◌, ℕ, suc, ◌+◌, ◌<◌, arith, List, [], ◌∷◌, ◌++◌}
use Rattle.std.proofs.Common.{length, map, Option, Some, None}
use Rattle.std.proofs.lemmas.List.{length-append}
use Rattle.std.specs.Prelude.{not, flat_map}
use Rattle.wb_base.specs.declared.faults.TheConstants.{DUPLICATE_NAME}
use Rattle.pas_tokens.specs.declared.kinds.Kind.{Kind}
use Rattle.pas_tokens.specs.declared.kinds.Kind.TheVariants as k
use Rattle.pas_tokens.specs.Cutting.{Wrong, wrong}
use Rattle.pas_syntax.specs.Tree.{Ident, Idents, Behind}
use Rattle.pas_syntax.specs.Words.{Word, maybe, at, name_at, idents_words}
use Rattle.pas_rules.specs.Marks.{Marks, no_token, shows, quiet, first_of, at_first, last_of, at_last}
use Rattle.pas_rules.specs.Marks.{followed, joined, listed, Judged, kept_by, checked_by, checked, faults_if}
use Rattle.pas_rules.specs.Marks.{noted, unless}
use Rattle.pas_rules.specs.Scopes.{each_new, new_names, contains}
use Rattle.pas_rules.specs.TypeForms.{maybe_quiet}

pub record AsMany (words : List Word) (marks : Marks) : Type 0 where
  pub same : length marks.tokens ≡ length words

pub none : AsMany [] no_token
none = record { same = refl }

pub one : (word : Word) (faults : List Wrong) → AsMany (word ∷ []) (shows faults)
one word faults = record { same = refl }

pub first_count : (faults behind : List Wrong) (tokens : List (List Wrong))
    → length (first_of faults behind tokens).tokens ≡ length tokens
first_count faults behind [] = refl
first_count faults behind (first ∷ more) = refl

pub last_count : (faults : List Wrong) (tokens : List (List Wrong)) → length (last_of faults tokens) ≡ length tokens
last_count faults [] = refl
last_count faults (last ∷ []) = refl
last_count faults (first ∷ (second ∷ more)) = ap suc (last_count faults (second ∷ more))

pub at_first_many : {words : List Word} (faults : List Wrong) (marks : Marks) → AsMany words marks
    → AsMany words (at_first faults marks)
at_first_many faults marks h = record { same = first_count faults marks.behind marks.tokens ∙ h.same }

pub at_last_many : {words : List Word} (faults : List Wrong) (marks : Marks) → AsMany words marks
    → AsMany words (at_last faults marks)
at_last_many faults marks h = record { same = last_count faults marks.tokens ∙ h.same }

pub and_then : {words more : List Word} (part next : Marks) → AsMany words part → AsMany more next
    → AsMany (words ++ more) (followed part next)
and_then {words = words} {more = more} part next h k = record {
  same = length-append part.tokens (at_first part.behind next).tokens
      ∙ (ap (λ n. n + length (at_first part.behind next).tokens) h.same
      ∙ (ap (λ n. length words + n) (first_count part.behind next.behind next.tokens ∙ k.same)
      ∙ sym (length-append words more)));
}

kept_count : {A : Type 0} (marks : Marks) (value : A) (faults : List Wrong)
    → length (kept_by marks value faults).marks.tokens ≡ length marks.tokens
kept_count marks value [] = refl
kept_count marks value (refusal ∷ more) = last_count (refusal ∷ more) marks.tokens

checked_by_count : {A : Type 0} (faults : A → List Wrong) (marks : Marks) (value : Option A)
    → length (checked_by faults marks value).marks.tokens ≡ length marks.tokens
checked_by_count faults marks None = refl
checked_by_count faults marks (Some value) = kept_count marks value (faults value)

pub checked_count : {A : Type 0} (faults : A → List Wrong) (part : Judged A)
    → length (checked faults part).marks.tokens ≡ length part.marks.tokens
checked_count faults part = checked_by_count faults part.marks part.value

pub checked_many : {A : Type 0} {words : List Word} (faults : A → List Wrong) (part : Judged A)
    → AsMany words part.marks → AsMany words (checked faults part).marks
checked_many faults part h = record { same = checked_count faults part ∙ h.same }

-- parts behind one another
pub all : {words : List Word} (part : Marks) → AsMany words part → AsMany words (joined (part ∷ []))
all part h = record { same = length-append part.tokens [] ∙ (omega arith ∙ h.same) }

-- how many tokens parts show
abbrev pub count : Marks → ℕ
count part = length part.tokens

pub followed_count : (part next : Marks) → count (followed part next) ≡ count part + count next
followed_count part next =
    length-append part.tokens (at_first part.behind next).tokens
    ∙ ap (λ n. length part.tokens + n) (first_count part.behind next.behind next.tokens)

-- the same of parts with a token behind each
abbrev pub total : List Marks → ℕ
total [] = 0
total (part ∷ parts) = suc (count part) + total parts

pub total_append : (parts more : List Marks) → total (parts ++ more) ≡ total parts + total more
total_append [] more = omega arith
total_append (part ∷ parts) more = omega (arith, total_append parts more)

pub listed_total : (part : Marks) (parts : List Marks) → suc (count (listed (part ∷ parts))) ≡ total (part ∷ parts)
listed_total part [] = omega arith
listed_total part (next ∷ parts) =
    let rest : Marks = listed (next ∷ parts) in
    omega (
      arith,
      followed_count part (followed quiet (followed rest no_token)),
      followed_count quiet (followed rest no_token),
      followed_count rest no_token,
      listed_total next parts,
    )

pub noted_many : {A : Type 0} {words : List Word} (faults : A → List Wrong) (part : Judged A)
    → AsMany words part.marks → AsMany words (noted faults part).marks
noted_many faults part h = at_last_many (faults_if faults part.value) part.marks h

-- two parts with a token between them; one behind a token, and before one
pub around : {words more : List Word} (word : Word) (part next : Marks) → AsMany words part → AsMany more next
    → AsMany (words ++ word ∷ more) (joined (part ∷ quiet ∷ next ∷ []))
around word part next h k =
    and_then part (joined (quiet ∷ next ∷ [])) h (and_then quiet (joined (next ∷ [])) (one word []) (all next k))

pub behind_word : {words : List Word} (word : Word) (part : Marks) → AsMany words part
    → AsMany (word ∷ words) (joined (quiet ∷ part ∷ []))
behind_word word part h = and_then quiet (joined (part ∷ [])) (one word []) (all part h)

pub before_word : {words : List Word} (word : Word) (part : Marks) → AsMany words part
    → AsMany (words ++ word ∷ []) (joined (part ∷ quiet ∷ []))
before_word word part h = and_then part (joined (quiet ∷ [])) h (all quiet (one word []))

pub between : {words : List Word} (word last : Word) (part : Marks) → AsMany words part
    → AsMany (word ∷ (words ++ last ∷ [])) (joined (quiet ∷ part ∷ quiet ∷ []))
between word last part h =
    and_then quiet (joined (part ∷ quiet ∷ [])) (one word []) (before_word last part h)

-- words in other groups
pub regrouped : (words more last : List Word) (marks : Marks) → AsMany ((words ++ more) ++ last) marks
    → AsMany (words ++ (more ++ last)) marks
regrouped words more last marks h = record {
  same = omega (
    arith,
    h.same,
    length-append (words ++ more) last,
    length-append words more,
    length-append words (more ++ last),
    length-append more last,
  );
}

pub grouped : (words more last : List Word) (marks : Marks) → AsMany (words ++ (more ++ last)) marks
    → AsMany ((words ++ more) ++ last) marks
grouped words more last marks h = record {
  same = omega (
    arith,
    h.same,
    length-append (words ++ more) last,
    length-append words more,
    length-append words (more ++ last),
    length-append more last,
  );
}

pub some_listed_total : (parts : List Marks) → 0 < total parts → suc (count (listed parts)) ≡ total parts
some_listed_total [] h = absurd (omega (arith, h))
some_listed_total (part ∷ parts) h = listed_total part parts

-- a name, and a list between parentheses
pub listed_count : (name opened closed : Marks) (parts : List Marks) → 0 < total parts
    → suc (count (joined (name ∷ opened ∷ listed parts ∷ closed ∷ [])))
    ≡ count name + (count opened + (total parts + count closed))
listed_count name opened closed parts h =
    let list : Marks = listed parts in
    omega (
      arith,
      followed_count name (joined (opened ∷ list ∷ closed ∷ [])),
      followed_count opened (joined (list ∷ closed ∷ [])),
      followed_count list (joined (closed ∷ [])),
      followed_count closed no_token,
      some_listed_total parts h,
    )

-- a word, or a part, and what stands behind it
pub next_word : {more : List Word} (word : Word) (faults : List Wrong) (rest : Marks) → AsMany more rest
    → AsMany (word ∷ more) (followed (shows faults) rest)
next_word word faults rest h = and_then (shows faults) rest (one word faults) h

pub maybe_many : (n : ℕ) (kind : Kind) (line : Option ℕ) → AsMany (maybe n kind line) (maybe_quiet line)
maybe_many n kind None = none
maybe_many n kind (Some line) = one (at n kind line) []

-- the same with nothing behind it
pub nothing_behind : (words : List Word) (marks : Marks) → AsMany words marks → AsMany (words ++ []) marks
nothing_behind words marks h = record { same = omega (arith, h.same, length-append words []) }

-- names that are declared
new_total : (taken : List (List ℕ)) (idents : List Ident)
    → total (each_new taken idents) ≡ length idents + length idents
new_total taken [] = refl
new_total taken (ident ∷ idents) = omega (arith, new_total (taken ++ ident.name ∷ []) idents)

pub more_idents : (n : ℕ) (more : List (Behind Ident))
    → length (flat_map (λ behind. at n k.Comma behind.line ∷ (name_at n behind.item ∷ [])) more)
    ≡ length (map (λ behind. behind.item) more) + length (map (λ behind. behind.item) more)
more_idents n [] = refl
more_idents n (behind ∷ more) = omega (arith, more_idents n more)

pub new_names_many : (n : ℕ) (taken : List (List ℕ)) (idents : Idents)
    → AsMany (idents_words n idents) (new_names taken idents)
new_names_many n taken idents =
    let others : List Ident = map (λ behind. behind.item) idents.more in
    let marks : List Marks = each_new (taken ++ idents.first.name ∷ []) others in
    let first : Marks = shows (unless (not (contains taken idents.first.name)) (wrong DUPLICATE_NAME)) in
    record {
      same = omega (
        arith,
        listed_total first marks,
        new_total (taken ++ idents.first.name ∷ []) others,
        more_idents n idents.more,
      );
    }
