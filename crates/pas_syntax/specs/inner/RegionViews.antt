-- What the code knows of the tokens before a place.
use Rattle.std.specs.Prelude.{ℕ, nat_lt, if◌then◌else◌, Option, Some, None}
use Rattle.wb_base.specs.declared.faults.TheConstants.{VARIANT_RECORDS}
use Rattle.pas_tokens.specs.declared.kinds.Kind.{Kind}
use Rattle.pas_tokens.specs.declared.kinds.Kind.TheVariants as k
use Rattle.pas_syntax.specs.declared.regions.Stage.{Stage as CodeStage}
use Rattle.pas_syntax.specs.declared.regions.Stage.TheVariants as code
use Rattle.pas_syntax.specs.Regions.{Stage, outside, in_heading, in_parameters, behind_heading, in_declarations}
use Rattle.pas_syntax.specs.Regions.{part_at_stage}

abbrev pub stage_in : CodeStage → Stage
stage_in code.Outside = outside
stage_in code.InHeading = in_heading
stage_in code.InParameters = in_parameters
stage_in code.BehindHeading = behind_heading
stage_in code.InDeclarations = in_declarations

-- the part of Pascal that a token of this kind shows, where so many record types are open
abbrev pub part_in : ℕ → Stage → Kind → Option ℕ
part_in records stage k.Case = if nat_lt 0 records then Some VARIANT_RECORDS else None
part_in records stage kind = part_at_stage stage kind
