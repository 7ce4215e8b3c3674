-- The parts of declarations and programs of the code as those of the readers, and readers of parts as the code has
-- them.
use Rattle.std.specs.Prelude.{ℕ, Bool, true, false, List, map}
use Rattle.std.specs.Str.{bytes_eq}
use Rattle.pas_tokens.specs.declared.kinds.Kind.{Kind}
use Rattle.pas_tokens.specs.declared.kinds.Kind.TheVariants as k
use Rattle.pas_tokens.specs.Cutting.{Payload, nothing, spelling}
use Rattle.pas_syntax.specs.declared.tree.Declarations.{Declarations as CodeDeclarations}
use Rattle.pas_syntax.specs.declared.tree.ProgramHead.{ProgramHead as CodeProgramHead}
use Rattle.pas_syntax.specs.declared.tree.Block.{Block}
use Rattle.pas_syntax.specs.Tree as tree
use Rattle.pas_syntax.specs.Tree.{Heading, Body, forward_name}
use Rattle.pas_syntax.specs.Views.{ident_in, if_there}
use Rattle.pas_syntax.specs.ProgramViews.{labels_in, rows_in, constant_row_in, type_row_in, variable_row_in}
use Rattle.pas_syntax.specs.ProgramViews.{compound_in, routine_in, program_parameters_in}
use Rattle.pas_syntax.specs.inner.Prog.{Prog, done, fail, look, skip, misplaced}
use Rattle.pas_syntax.specs.inner.DeclarationReaders.{ProgramHead, Declarations, procedure_behind, function_behind}

module _ (spellings : List ℕ) where
  abbrev pub declarations_in : CodeDeclarations → Declarations
  declarations_in all =
      record {
        labels = if_there (labels_in spellings) all.labels;
        constants = if_there (rows_in spellings (constant_row_in spellings)) all.constants;
        types = if_there (rows_in spellings (type_row_in spellings)) all.types;
        variables = if_there (rows_in spellings (variable_row_in spellings)) all.variables;
        routines = map (routine_in spellings) all.routines;
      }

  abbrev pub program_head_in : CodeProgramHead → ProgramHead
  program_head_in head =
      record {
        line = head.line;
        name = ident_in spellings head.name;
        parameters = if_there (program_parameters_in spellings) head.parameters;
        end = head.end;
      }

  abbrev pub block_in : Block → Body
  block_in block =
      tree.block (if_there (labels_in spellings) block.labels) (if_there (rows_in spellings (variable_row_in spellings))
      block.variables) (compound_in spellings block.body)

-- a heading with its first word
abbrev pub heading_at : ℕ → Kind → Payload → ℕ → Prog Heading
heading_at most k.Procedure nothing line = skip (procedure_behind most line)
heading_at most k.Function nothing line = skip (function_behind most line)
heading_at most kind payload line = fail misplaced

abbrev pub heading : ℕ → Prog Heading
heading most = look (heading_at most)

-- the name `forward`
abbrev pub forward_line_if : Bool → ℕ → Prog ℕ
forward_line_if true line = skip (done line)
forward_line_if false line = fail misplaced

abbrev pub forward_line_at : Kind → Payload → ℕ → Prog ℕ
forward_line_at k.Name (spelling name) line = forward_line_if (bytes_eq name forward_name) line
forward_line_at kind payload line = fail misplaced

abbrev pub forward_line : Prog ℕ
forward_line = look forward_line_at

-- the end of the text
abbrev pub end_line : Kind → Payload → ℕ → Prog ℕ
end_line k.EndOfText payload line = done line
end_line kind payload line = fail misplaced
