-- What is known at a place in a block, by what stands there.
use Rattle.std.proofs.Common.{◌≡◌, refl, sym, ap, subst, ◌∙◌, ℕ, List, [], ◌∷◌, ◌++◌, Option, Some, None}
use Rattle.std.proofs.Common.{true, arith}
use Rattle.std.specs.Prelude.{◌==◌, option_and_then, is_some, option_map}
use Rattle.std.specs.Option.{option_copied}
use Rattle.std.proofs.lemmas.Bool.Decides.{nat_tests}
use Rattle.std.proofs.lemmas.List.{append_assoc, append-nil}
use Rattle.wb_base.specs.declared.faults.TheConstants.{WRONG_TYPE}
use Rattle.pas_tokens.specs.Cutting.{Wrong, wrong}
use Rattle.pas_syntax.specs.Words.{Word}
use Rattle.pas_typed.specs.Typed as typed
use Rattle.pas_typed.specs.Types.{PasType}
use Rattle.pas_types.specs.declared.flow.Flow.{Flow}
use Rattle.pas_rules.specs.Marks.{Judged, refuses}
use Rattle.pas_rules.specs.Scopes.{Outer, Inner, Scopes}
use Rattle.pas_rules.specs.Labels.{block_labels, labels_of_block, goto_of}
use Rattle.pas_rules.specs.Expressions.{heading_of}
use Rattle.pas_rules.specs.Statements.{target_result, target_routine}
use Rattle.pas_scopes.specs.Ends.{AreQuiet}
use Rattle.pas_scopes.specs.Answers.{Means}
use Rattle.pas_types.specs.inner.LabelViews.{Known, known_labels, goto_by, entered, left, stood}
use Rattle.pas_types.specs.inner.FlowViews.{IsBeside, IsFlow}
use Rattle.pas_types.proofs.LabelRules.{main_goto, routine_goto, entered_known, left_known, stood_known}
use Rattle.pas_types.proofs.LabelLemmas.{by_true}

-- a goto by what is known
abbrev pub goto_beside : Known → Option Known → Option ℕ → ℕ → Judged typed.Statement
goto_beside block None last label = goto_by block last None label
goto_beside block (Some program) last label = goto_by program last (Some block) label

goto_known : (outer : Outer) (inner : Option Inner) (around before : List ℕ) (program : Option Known) (label : ℕ)
    → IsBeside outer inner program
    → goto_beside (known_labels (labels_of_block outer.labels inner) before around) program outer.last_label label
    ≡ goto_of (record { outer = outer; inner = inner }) around label
goto_known outer None around before None label h = main_goto outer before around label
goto_known outer None around before (Some program) label h = absurd h
goto_known outer (Some inner) around before None label h = absurd h
goto_known outer (Some inner) around before (Some program) label h =
    routine_goto outer inner program before around label h

pub goto_here : (scopes : Scopes) (around before : List ℕ) (flow : Flow) (label : ℕ) → IsFlow scopes around before flow
    → goto_beside flow.block (option_copied flow.program) scopes.outer.last_label label ≡ goto_of scopes around label
goto_here scopes around before flow label h =
    ap (λ (block : Known). goto_beside block (option_copied flow.program) scopes.outer.last_label label) h.block
    ∙ goto_known scopes.outer scopes.inner around before (option_copied flow.program) label h.beside

-- one word in place of another
pub quiet_at : (word other : Word) (tokens : List (List Wrong)) → AreQuiet (word ∷ []) tokens
    → AreQuiet (other ∷ []) tokens
quiet_at word other [] h = h
quiet_at word other (faults ∷ tokens) h = h

pub means_at : {A : Type 0} (word other : Word) (part : Judged A) (value : A) → Means (word ∷ []) part value
    → Means (other ∷ []) part value
means_at word other part value h = record {
  known = h.known;
  quiet = record { still = quiet_at word other part.marks.tokens h.quiet.still; behind = h.quiet.behind };
}

-- into a list, out of it, and behind a label
module _ (scopes : Scopes) (around before : List ℕ) (flow : Flow) where
  pub enters : (labels : List ℕ) (block : Known) → block ≡ entered labels flow.block → IsFlow scopes around before flow
      → IsFlow scopes (labels ++ around) before (record flow { block = block })
  enters labels block is h = record {
    block = is ∙ (ap (entered labels) h.block ∙ entered_known (block_labels scopes) before around labels);
    beside = h.beside;
  }

  pub leaves : (labels : List ℕ) (block : Known) → block ≡ left labels flow.block
      → IsFlow scopes (labels ++ around) before flow → IsFlow scopes around before (record flow { block = block })
  leaves labels block is h = record {
    block = is ∙ (ap (left labels) h.block ∙ left_known (block_labels scopes) before around labels);
    beside = h.beside;
  }

  pub stands : (label : ℕ) (block : Known) → block ≡ stood label flow.block → IsFlow scopes around before flow
      → IsFlow scopes around (before ++ label ∷ []) (record flow { block = block })
  stands label block is h = record {
    block = is ∙ (ap (stood label) h.block ∙ stood_known (block_labels scopes) before around label);
    beside = h.beside;
  }

  -- the same behind two parts
  pub regroup : (one other : List ℕ) → IsFlow scopes around ((before ++ one) ++ other) flow
      → IsFlow scopes around (before ++ (one ++ other)) flow
  regroup one other h = subst (λ labels. IsFlow scopes around labels flow) (append_assoc before one other) h

  -- and behind no label
  pub unmoved : IsFlow scopes around before flow → IsFlow scopes around (before ++ []) flow
  unmoved h = subst (λ labels. IsFlow scopes around labels flow) (sym (append-nil before)) h

-- the routine in whose body a name of a routine stands
same_number : (number : ℕ) → (number == number) ≡ true
same_number number = grind (arith, nat_tests)

pub own_routine : (scopes : Scopes) (inner : Option Inner) (own : Inner) (number : ℕ) (type : Option PasType)
    → inner ≡ Some own → own.number ≡ number
    → type ≡ option_and_then (λ heading. heading.result) (heading_of scopes number)
    → target_result own type ≡ target_routine scopes inner number
own_routine scopes inner own number type is at found =
    ap (target_result own) found
    ∙ (sym (by_true (own.number == number)
    (target_result own (option_and_then (λ heading. heading.result) (heading_of scopes number)))
    (refuses (wrong WRONG_TYPE)) (ap (λ (n : ℕ). n == number) at ∙ same_number number))
    ∙ ap (λ (found : Option Inner). target_routine scopes found number) (sym is))

pub is_some_map : {A B : Type 0} (f : A → B) (o : Option A) → is_some (option_map f o) ≡ is_some o
is_some_map f None = refl
is_some_map f (Some x) = refl
