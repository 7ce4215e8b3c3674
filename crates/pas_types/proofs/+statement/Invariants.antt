use Rattle.std.proofs.Common.{map, take}
use Rattle.pas_syntax.specs.declared.tree.Others.TheViews.{out-Statements, out-Elements}
use Rattle.pas_syntax.specs.Tree as tree
use Rattle.pas_syntax.specs.Views.{in_turn}
use Rattle.pas_syntax.specs.ProgramViews.{statement_in, more_statement_in, element_in}
use Rattle.pas_types.proofs.StatementLists.{IsSoFar}
use Rattle.pas_types.proofs.CaseParts.{AreArmsSoFar, arms_so_far}
use Rattle.pas_types.proofs.+statement.Given as goal

abbrev pub invariant-statements::in_turn-loop-next : goal.invariant-statements::in_turn-loop-next
invariant-statements::in_turn-loop-next l =
    let spellings = l.scopes.spellings.now in
    IsSoFar l.scopes l.fn.flow l.flow
    (in_turn (tree.first_statement (statement_in spellings (out-Statements l.list).first))
    (map (more_statement_in spellings) (take l.next-index l.next-items))) l.statements l.found

abbrev pub invariant-cases::arms_of-loop-next : goal.invariant-cases::arms_of-loop-next
invariant-cases::arms_of-loop-next l =
    let spellings = l.scopes.spellings.now in
    AreArmsSoFar l.scopes l.fn.flow l.flow l.base
    (arms_so_far spellings (element_in spellings (out-Elements l.elements).first) (take l.next-index l.next-items))
    l.arms l.taken.keys l.found
