-- What is read or written, argument by argument: each shows as many lists of faults as it has words.
use Rattle.std.proofs.Common.{refl, Some, None, ◌∙◌, ℕ, List, Option}
use Rattle.pas_syntax.specs.declared.tree.Argument.{Argument as CodeArgument}
use Rattle.pas_syntax.specs.ProgramViews.{argument_in}
use Rattle.pas_syntax.specs.Words.{Word}
use Rattle.pas_typed.specs.Types.{PasType, component_of}
use Rattle.pas_typed.specs.TypeOf.{type_of_place}
use Rattle.pas_types.specs.inner.Transfers.{component_of_item, item_written}
use Rattle.pas_typed.specs.Typed.{Value, Place}
use Rattle.pas_rules.specs.Marks.{Judged}
use Rattle.pas_rules.specs.Scopes.{Scopes}
use Rattle.pas_rules.specs.Expressions.{met}
use Rattle.pas_rules.specs.Calls.{Actual, actual_of, read_item, read_demand, without_width, component_demand}
use Rattle.pas_scopes.specs.inner.Listed.{item_at}
use Rattle.pas_rules.proofs.AsMany.{AsMany}
use Rattle.pas_rules.proofs.ExpressionsAsMany.{met_count}
use Rattle.pas_rules.proofs.CallsAsMany.{argument_many, text_count, on_text_count}

module _ (scopes : Scopes) (spellings : List ℕ) (n : ℕ) where
  pub read_many : (file : Option Place) (before : Word) (argument : CodeArgument)
      → AsMany (item_at scopes spellings n (read_item scopes.outer.types file) before argument).words
      (item_at scopes spellings n (read_item scopes.outer.types file) before argument).part.marks
  read_many file before argument =
      let actual : Actual = actual_of scopes (argument_in spellings argument) in
      record {
        same = met_count (read_demand scopes.outer.types file) (without_width actual)
            ∙ (argument_many scopes n (argument_in spellings argument)).same;
      }

  pub component_many : (component : Option PasType) (before : Word) (argument : CodeArgument)
      → AsMany (item_at scopes spellings n (λ actual. met (component_demand scopes.outer.types component)
      (without_width actual)) before argument).words
      (item_at scopes spellings n (λ actual. met (component_demand scopes.outer.types component)
      (without_width actual)) before argument).part.marks
  component_many component before argument =
      let actual : Actual = actual_of scopes (argument_in spellings argument) in
      record {
        same = met_count (component_demand scopes.outer.types component) (without_width actual)
            ∙ (argument_many scopes n (argument_in spellings argument)).same;
      }

  abbrev pub bytes_item : Option Place → Actual → Judged Value
  bytes_item None = component_of_item scopes.outer.types None
  bytes_item (Some file) = component_of_item scopes.outer.types (component_of scopes.outer.types (type_of_place file))

  pub bytes_many : (file : Option Place) (before : Word) (argument : CodeArgument)
      → AsMany (item_at scopes spellings n (bytes_item file) before argument).words
      (item_at scopes spellings n (bytes_item file) before argument).part.marks
  bytes_many None = component_many None
  bytes_many (Some file) = component_many (component_of scopes.outer.types (type_of_place file))

  pub written_many : (before : Word) (argument : CodeArgument)
      → AsMany (item_at scopes spellings n (item_written scopes.outer.types) before argument).words
      (item_at scopes spellings n (item_written scopes.outer.types) before argument).part.marks
  written_many before argument =
      let actual : Actual = actual_of scopes (argument_in spellings argument) in
      record {
        same = on_text_count scopes.outer.types actual actual.text refl
            (λ bytes h. text_count scopes (argument_in spellings argument).value bytes h)
            ∙ (argument_many scopes n (argument_in spellings argument)).same;
      }
