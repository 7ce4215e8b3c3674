-- Which trees a text may mean where its tokens allow several: an `else` belongs to the nearest `if` (ISO 7185,
-- 6.8.3.4), and the name `others` before the colon of an element is no constant (this project's own).
use Rattle.std.specs.Prelude.{◌≡◌, ◌≢◌, Bool, true, false, List, [], ◌∷◌, ⊤, All}
use Rattle.pas_syntax.specs.Tree as tree
use Rattle.pas_syntax.specs.Tree.{Behind, Separated, Constant, Plain, Statement, Statements, Elements, Others, Body}
use Rattle.pas_syntax.specs.Tree.{Routine, Program, others_name}

-- whether an `else` behind a statement would belong to an `if` in it
abbrev mutual
  pub takes_else : Plain → Bool
  takes_else (tree.if_then line e then_line s) = true
  takes_else (tree.if_else line e then_line s else_line t) = statement_takes_else t
  takes_else (tree.while line e do_line s) = statement_takes_else s
  takes_else (tree.for line name becomes first toward last do_line s) = statement_takes_else s
  takes_else other = false

  pub statement_takes_else : Statement → Bool
  statement_takes_else (tree.unlabelled s) = takes_else s
  statement_takes_else (tree.labelled numeral colon s) = takes_else s

-- the last of items
abbrev pub last_behind : {A : Type 0} → A → List (Behind A) → A
last_behind last [] = last
last_behind last (behind ∷ more) = last_behind behind.item more

abbrev pub last_item : {A : Type 0} → Separated A → A
last_item items = last_behind items.first items.more

-- a constant that is not the name `others`
abbrev pub IsNotOthers : Constant → Type 0
IsNotOthers (tree.named lead ident) = ident.name ≢ others_name
IsNotOthers other = ⊤

abbrev mutual
  pub IsNearest : Plain → Type 0
  IsNearest (tree.compound begin list end) = AllNearest list
  IsNearest (tree.if_then line e then_line s) = IsNearestStatement s
  IsNearest (tree.if_else line e then_line s else_line t) =
      (statement_takes_else s ≡ false) × IsNearestStatement s × IsNearestStatement t
  IsNearest (tree.case line e of_line elements tail end) = AreNearestElements elements × IsNearestTail tail
  IsNearest (tree.while line e do_line s) = IsNearestStatement s
  IsNearest (tree.repeat line list until e) = AllNearest list
  IsNearest (tree.for line name becomes first toward last do_line s) = IsNearestStatement s
  IsNearest other = ⊤

  pub IsNearestStatement : Statement → Type 0
  IsNearestStatement (tree.unlabelled s) = IsNearest s
  IsNearestStatement (tree.labelled numeral colon s) = IsNearest s

  pub AllNearest : Statements → Type 0
  AllNearest (tree.first_statement s) = IsNearestStatement s
  AllNearest (tree.more_statements list line s) = AllNearest list × IsNearestStatement s

  pub AreNearestElements : Elements → Type 0
  AreNearestElements (tree.first_element constants colon s) = IsNotOthers (last_item constants) × IsNearestStatement s
  AreNearestElements (tree.more_elements elements line constants colon s) =
      AreNearestElements elements × IsNotOthers (last_item constants) × IsNearestStatement s

  pub IsNearestTail : Others → Type 0
  IsNearestTail (tree.others line others_line colon s semicolon) = IsNearestStatement s
  IsNearestTail other = ⊤

abbrev pub IsNearestBody : Body → Type 0
IsNearestBody (tree.forward line) = ⊤
IsNearestBody (tree.block labels variables body) = AllNearest body.list

abbrev pub IsNearestProgram : Program → Type 0
IsNearestProgram program =
    All (λ routine. IsNearestBody routine.body) program.routines × AllNearest program.body.list
