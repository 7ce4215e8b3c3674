-- A whole program, by what was gone through of it.
use Rattle.std.proofs.Common.{◌≡◌, sym, subst, ◌∙◌, ℕ, List, Option, None}
use Rattle.wb_base.specs.declared.faults.Fault.{Fault}
use Rattle.pas_syntax.specs.declared.tree.Labels.{Labels as CodeLabels}
use Rattle.pas_syntax.specs.declared.tree.ProgramTree.{ProgramTree}
use Rattle.pas_syntax.specs.Tree.{Program}
use Rattle.pas_syntax.specs.Views.{if_there}
use Rattle.pas_syntax.specs.ProgramViews.{labels_in, program_in}
use Rattle.pas_syntax.specs.Words.{words_if, labels_words}
use Rattle.pas_typed.specs.declared.typed.Body.{Body as CodeBody}
use Rattle.pas_typed.specs.declared.typed.Labelled as code_labelled
use Rattle.pas_typed.specs.TypedViews.{statements_view}
use Rattle.pas_scopes.specs.declared.scopes.Scopes.{Scopes as CodeScopes}
use Rattle.pas_scopes.specs.declared.stop.Stop.{Stop}
use Rattle.pas_rules.specs.Declarations.{label_marks}
use Rattle.pas_rules.specs.Check.{start}
use Rattle.pas_scopes.specs.DeclaredSoFar.{IsDeclared, Notes}
use Rattle.pas_types.specs.inner.LabelViews.{Known}
use Rattle.pas_types.specs.inner.Programs.{LabelsIf, GoesOver, ComesTo, FaultBy, IsFaultless}
use Rattle.pas_types.proofs.WholeLemmas.{GoesFrom, goes_whole, comes_to}

module _ (tree : ProgramTree) (spellings : List ℕ) (begun new : CodeScopes) (a noting : Option Fault) (labels : Known)
    (found : List CodeBody) (declared : IsDeclared (start (program_in spellings tree)) begun None)
    (same : begun.spellings.now ≡ spellings) (part : Option CodeLabels) (part_is : part ≡ tree.declarations.labels)
    (labels_seen : LabelsIf (if_there (labels_in spellings) part) labels a)
    (noted_seen : Notes (words_if labels_words (if_there (labels_in spellings) part))
    (label_marks (if_there (labels_in spellings) part)) None a) where
  abbrev program : Program
  program = program_in spellings tree

  abbrev labels_if : LabelsIf program.labels labels a
  labels_if = subst (λ (p : Option CodeLabels). LabelsIf (if_there (labels_in spellings) p) labels a) part_is labels_seen

  noted : Notes (words_if labels_words program.labels) (label_marks program.labels) None a
  noted =
      subst (λ (p : Option CodeLabels). Notes (words_if labels_words (if_there (labels_in spellings) p))
      (label_marks (if_there (labels_in spellings) p)) None a) part_is noted_seen

  module _ (goes : GoesFrom tree spellings begun new a noting labels found declared same labels_if
      begun.spellings.now) where
    pub whole_over : GoesOver program begun a new noting found
    whole_over = goes_whole tree spellings begun new a noting labels found declared same labels_if goes

    pub new_same : new.spellings.now ≡ spellings
    new_same = whole_over.spellings_are ∙ same

    pub whole_comes : ComesTo (program_in new.spellings.now tree) new noting labels
    whole_comes =
        subst (λ (s : List ℕ). ComesTo (program_in s tree) new noting labels) (sym new_same)
        (comes_to tree spellings begun new a noting labels found declared same labels_if noted whole_over)

    pub whole_stops : (why : Stop) → FaultBy (program_in new.spellings.now tree) why → FaultBy program why
    whole_stops why h = subst (λ (s : List ℕ). FaultBy (program_in s tree) why) new_same h

    pub whole_list : (statements : List code_labelled.Labelled)
        → IsFaultless (program_in new.spellings.now tree) new noting (statements_view new.spellings.now statements)
        → IsFaultless program new noting (statements_view spellings statements)
    whole_list statements h =
        subst (λ (s : List ℕ). IsFaultless (program_in s tree) new noting (statements_view s statements)) new_same h
