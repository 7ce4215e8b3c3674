-- What the tokens before a place tell of it: whether it is in a record type, or in the declarations of a routine. There
-- some tokens show a part of Pascal that is left out. This project's own.
use Rattle.std.specs.Prelude.{ℕ, ◌+◌, ◌-◌, nat_lt, Bool, false, if◌then◌else◌, List, fold, Option}
use Rattle.std.specs.Prelude.{Some, None}
use Rattle.std.specs.Str.{bytes_eq}
use Rattle.wb_base.specs.declared.faults.TheConstants.{VARIANT_RECORDS, NESTED_ROUTINES, LOCAL_CONSTANTS_AND_TYPES}
use Rattle.pas_tokens.specs.declared.kinds.Kind.{Kind}
use Rattle.pas_tokens.specs.declared.kinds.Kind.TheVariants as k
use Rattle.pas_tokens.specs.Cutting.{Payload, spelling}
use Rattle.pas_tokens.specs.Tokens.{Token}
use Rattle.pas_syntax.specs.Tree.{forward_name}

-- where a place stands to the routines: in none or behind the `begin` of one; in a heading; in its parameters; directly
-- behind the semicolon of a heading; or further in the declarations
pub data Stage : Type 0 where
  outside : Stage
  in_heading : Stage
  in_parameters : Stage
  behind_heading : Stage
  in_declarations : Stage

-- whether a token is the name `forward`
abbrev pub spells_forward : Payload → Bool
spells_forward (spelling name) = bytes_eq name forward_name
spells_forward other = false

-- behind one more token of a kind
abbrev pub stage_behind : Stage → Payload → Kind → Stage
stage_behind outside payload k.Procedure = in_heading
stage_behind outside payload k.Function = in_heading
stage_behind outside payload other = outside
stage_behind in_heading payload k.LeftParenthesis = in_parameters
stage_behind in_heading payload k.Semicolon = behind_heading
stage_behind in_heading payload other = in_heading
stage_behind in_parameters payload k.RightParenthesis = in_heading
stage_behind in_parameters payload other = in_parameters
stage_behind behind_heading payload k.Begin = outside
stage_behind behind_heading payload k.Name = if spells_forward payload then outside else in_declarations
stage_behind behind_heading payload other = in_declarations
stage_behind in_declarations payload k.Begin = outside
stage_behind in_declarations payload other = in_declarations

abbrev pub stage_of : List Token → Stage
stage_of before = fold (λ stage token. stage_behind stage token.payload token.kind) outside before

-- how many record types are open
abbrev pub records_behind : ℕ → Kind → ℕ
records_behind open_ones k.Record = open_ones + 1
records_behind open_ones k.End = open_ones - 1
records_behind open_ones other = open_ones

abbrev pub records_of : List Token → ℕ
records_of before = fold (λ open_ones token. records_behind open_ones token.kind) 0 before

-- the part of Pascal that a token of this kind shows in the declarations of a routine
abbrev pub local_part : Kind → Option ℕ
local_part k.Procedure = Some NESTED_ROUTINES
local_part k.Function = Some NESTED_ROUTINES
local_part k.Const = Some LOCAL_CONSTANTS_AND_TYPES
local_part k.Type = Some LOCAL_CONSTANTS_AND_TYPES
local_part other = None

abbrev pub part_at_stage : Stage → Kind → Option ℕ
part_at_stage behind_heading kind = local_part kind
part_at_stage in_declarations kind = local_part kind
part_at_stage stage kind = None

-- the part of Pascal that a token of this kind shows behind these tokens, if it may not stand there
abbrev pub part_behind : List Token → Kind → Option ℕ
part_behind before k.Case = if nat_lt 0 (records_of before) then Some VARIANT_RECORDS else None
part_behind before kind = part_at_stage (stage_of before) kind
