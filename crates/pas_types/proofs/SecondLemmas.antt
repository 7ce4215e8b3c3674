-- A heading behind its forward heading: what is answered of it, and the routine that it is of.
use Rattle.std.proofs.Common.{refl, ℕ, Option, Some, None}
use Rattle.std.proofs.Common.{Result, Ok, Err}
use Rattle.wb_base.specs.declared.faults.TheConstants.{WRONG_TYPE}
use Rattle.pas_tokens.specs.Cutting.{wrong}
use Rattle.pas_tokens.specs.Tokens.{fault_in}
use Rattle.pas_syntax.specs.Tree.{Ident, Behind, TypeName, Parameters}
use Rattle.pas_syntax.specs.Words.{Word}
use Rattle.pas_scopes.specs.declared.stop.Stop.{Stop}
use Rattle.pas_scopes.specs.declared.stop.Stop.TheVariants as stop
use Rattle.pas_rules.specs.Scopes.{Outer}
use Rattle.pas_rules.specs.Routines.{Sort, HeadingParts, second_heading}
use Rattle.pas_rules.specs.HeadingWords.{parts_words}
use Rattle.pas_types.specs.inner.RoutineAnswers.{IsSecond}
use Rattle.pas_rules.proofs.RoutinesAsMany.{second_heading_many}

module _ (outer : Outer) (word : Word) (sort : Sort) (name : Ident) (number line : ℕ) where
  abbrev pub head_with : Option Parameters → Option (Behind TypeName) → HeadingParts
  head_with parameters result = record { sort = sort; name = name; parameters = parameters; result = result }

  abbrev pub Second : Option Parameters → Option (Behind TypeName) → Result (Unit {0}) Stop → Type 0
  Second parameters result found = IsSecond (parts_words word (head_with parameters result) line)
      (second_heading outer (head_with parameters result) number).marks found

  pub alone_quiet : Second None None (Ok tt)
  alone_quiet = record { still = (refl, (refl, (refl, tt))); behind = refl }

  pub more_result : (result : Behind TypeName)
      → Second None (Some result) (Err (stop.Fault (fault_in result.line (wrong WRONG_TYPE))))
  more_result result = record {
    many = (second_heading_many outer word (head_with None (Some result)) number line).same;
    first = refl;
  }

  pub more_parameters : (parameters : Parameters) (result : Option (Behind TypeName))
      → Second (Some parameters) result (Err (stop.Fault (fault_in parameters.opened (wrong WRONG_TYPE))))
  more_parameters parameters result = record {
    many = (second_heading_many outer word (head_with (Some parameters) result) number line).same;
    first = refl;
  }
