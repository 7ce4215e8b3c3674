-- Loops of the code that read parameters with semicolons between them.
use Rattle.std.proofs.Common.{◌≡◌, refl, sym, ap, subst, ◌∙◌, ℕ, suc, arith, List, [], ◌∷◌, ◌++◌, map}
use Rattle.std.proofs.Common.{length, Ok, Err}
use Rattle.std.proofs.lemmas.List.{map-append}
use Rattle.pas_tokens.specs.declared.kinds.Kind.{Kind}
use Rattle.pas_tokens.specs.declared.kinds.Kind.TheVariants as k
use Rattle.pas_tokens.specs.Cutting.{Payload}
use Rattle.pas_tokens.specs.Tokens.{Token}
use Rattle.pas_syntax.specs.declared.stop.Stop.{Stop}
use Rattle.pas_syntax.specs.declared.tree.Behind.{Behind as CodeBehind}
use Rattle.pas_syntax.specs.declared.tree.Parameter.{Parameter as CodeParameter}
use Rattle.pas_syntax.specs.Tree.{Separated, Parameter}
use Rattle.pas_syntax.specs.Views.{behind_in, separated_in}
use Rattle.pas_syntax.specs.ProgramViews.{parameter_in}
use Rattle.pas_syntax.specs.inner.Prog.{done, skip, bind, run, head, ends, turns, turn_of, a_turn}
use Rattle.pas_syntax.specs.inner.Places.{Place, Fits, Passes, Parses}
use Rattle.pas_syntax.specs.inner.TypeReaders.{pushed, single}
use Rattle.pas_syntax.specs.inner.DeclarationReaders.{parameter, parameter_list, behind_parameter}
use Rattle.pas_syntax.proofs.PlaceLemmas.{told, goes_as, goes_on, stops, skips, answers, line_of_head}
use Rattle.pas_syntax.proofs.SoFar.{SoFar, begun_behind, turned, turn_stops, loop_ends}

-- the parameters so far
abbrev pub parameters_so_far : Place → Place → CodeParameter → List (CodeBehind CodeParameter) → Type 0
parameters_so_far old now first more =
    SoFar (λ m. parameter_list m) (λ m. behind_parameter m) old now
    (record { first = parameter_in old.spellings first; more = map (behind_in (parameter_in old.spellings)) more })

pub parameters_unbegun : {old new : Place} {why : Stop} → Parses parameter parameter_in old (Err why) new
    → Parses (λ m. parameter_list m) (λ s. separated_in (parameter_in s)) old (Err why) new
parameters_unbegun h = stops (λ m first. turns (behind_parameter m) m (single first)) h

pub parameters_begin : {old now : Place} {x : CodeParameter} (more : List (CodeBehind CodeParameter))
    → Parses parameter parameter_in old (Ok x) now → more ≡ []
    → parameters_so_far old now x more
parameters_begin {old = old} {now = now} {x = x} more h none =
    subst (λ all. SoFar (λ m. parameter_list m) (λ m. behind_parameter m) old now
    (record { first = parameter_in old.spellings x; more = map (behind_in (parameter_in old.spellings)) all }))
    (sym none) (begun_behind single h)

semicolon_goes : (m : ℕ) (found : Separated Parameter) (ts : List Token) (line : ℕ) → k.Semicolon ≡ (head ts).kind
    → Fits (head ts).kind (head ts).payload → line ≡ (head ts).line
    → run (a_turn (behind_parameter m) found) ts
    ≡ run (skip (bind (parameter m) (λ next. done (pushed found line next)))) ts
semicolon_goes m found ts line is fits same =
    told (λ kind payload line. turn_of (behind_parameter m found kind payload line)) k.Semicolon ts line tt is fits same

pub parameter_stops : {old now middle new : Place} {line : ℕ} {why : Stop} (first : CodeParameter)
    (more : List (CodeBehind CodeParameter))
    → parameters_so_far old now first more → k.Semicolon ≡ (head now.tokens).kind
    → Fits (head now.tokens).kind (head now.tokens).payload
    → Passes now line middle → Parses parameter parameter_in middle (Err why) new
    → Parses (λ m. parameter_list m) (λ s. separated_in (parameter_in s)) old (Err why) new
parameter_stops {old = old} {now = now} {line = line} first more so is fits passed h =
    let found : Separated Parameter = record {
      first = parameter_in old.spellings first;
      more = map (behind_in (parameter_in old.spellings)) more;
    } in
    turn_stops {view = λ s x. pushed found line (parameter_in s x)} so
    (goes_as (λ m. semicolon_goes m found now.tokens line is fits (line_of_head passed))
    (skips passed (omega arith) (stops (λ m next. done (pushed found line next)) h)))

pub one_parameter_more : {old now middle new : Place} {line : ℕ} {x : CodeParameter} (first : CodeParameter)
    (more all : List (CodeBehind CodeParameter)) → parameters_so_far old now first more
    → k.Semicolon ≡ (head now.tokens).kind → Fits (head now.tokens).kind (head now.tokens).payload
    → Passes now line middle → Parses parameter parameter_in middle (Ok x) new
    → all ≡ more ++ record { line = line; item = x } ∷ []
    → parameters_so_far old new first all
one_parameter_more {old = old} {now = now} {middle = middle} {new = new} {line = line} {x = x} first more all so is fits
    passed h push =
    let s = old.spellings in
    let view = behind_in (parameter_in s) in
    let found : Separated Parameter = record { first = parameter_in s first; more = map view more } in
    let last : CodeBehind CodeParameter = record { line = line; item = x } in
    let count : length now.tokens ≡ suc (length middle.tokens) = ap length passed.tokens in
    let mapped : map view all ≡ map view more ++ view last ∷ [] = ap (map view) push
    ∙ map-append view more (last ∷ []) in
    subst (λ xs. SoFar (λ m. parameter_list m) (λ m. behind_parameter m) old new
    (record { first = parameter_in s first; more = xs })) (sym mapped)
    (turned {view = λ s x. pushed found line (parameter_in s x)} {x = x} so
    (goes_as (λ m. semicolon_goes m found now.tokens line is fits (line_of_head passed))
    (skips passed (omega arith) (goes_on (λ m next. done (pushed found line next)) h
    (answers (ap (λ s. pushed found line (parameter_in s x)) (sym h.spellings))))))
    (omega (arith, count, h.shorter)))

last_parameter : (m : ℕ) (found : Separated Parameter) (kind : Kind) (payload : Payload) (line : ℕ)
    → (k.Semicolon ≡ kind → ⊥) → behind_parameter m found kind payload line ≡ ends
last_parameter m found k.Semicolon payload line not = absurd (not refl)
last_parameter m found kind payload line not = refl

pub parameters_end : {old now : Place} {first : CodeParameter} (more : List (CodeBehind CodeParameter))
    → parameters_so_far old now first more → (k.Semicolon ≡ (head now.tokens).kind → ⊥)
    → Parses (λ m. parameter_list m) (λ s. separated_in (parameter_in s)) old
    (Ok (record { first = first; more = more })) now
parameters_end more so not = loop_ends so (λ m. last_parameter m _ _ _ _ not) refl
