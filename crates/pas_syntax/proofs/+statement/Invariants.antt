use Rattle.std.proofs.Common.{ℕ, ◌+◌, ◌-◌, ◌*◌, length, map}
use Rattle.pas_syntax.specs.declared.limits.TheConstants.{NESTING_LIMIT}
use Rattle.pas_syntax.specs.Tree as tree
use Rattle.pas_syntax.specs.Views.{in_turn}
use Rattle.pas_syntax.specs.ProgramViews.{statement_in, more_statement_in, more_element_in}
use Rattle.pas_syntax.specs.inner.StatementReaders as spec
use Rattle.pas_syntax.specs.inner.StatementViews.{an_element_in}
use Rattle.pas_syntax.proofs.SoFar.{SoFar}
use Rattle.pas_syntax.proofs.+statement.Given as goal

-- how many forms may still be opened
abbrev room : ℕ → ℕ
room forms = 8 * (NESTING_LIMIT - forms)

abbrev pub decreases-statements::statements : goal.decreases-statements::statements
decreases-statements::statements l = room l.depth.forms + 3

abbrev pub decreases-statements::statement : goal.decreases-statements::statement
decreases-statements::statement l = room l.depth.forms + 2

abbrev pub decreases-statements::plain : goal.decreases-statements::plain
decreases-statements::plain l = room l.depth.forms + 1

abbrev pub decreases-statements::compound : goal.decreases-statements::compound
decreases-statements::compound l = room l.depth.forms

abbrev pub decreases-statements::conditional : goal.decreases-statements::conditional
decreases-statements::conditional l = room l.depth.forms

abbrev pub decreases-statements::case_statement : goal.decreases-statements::case_statement
decreases-statements::case_statement l = room l.depth.forms

abbrev pub decreases-statements::while_loop : goal.decreases-statements::while_loop
decreases-statements::while_loop l = room l.depth.forms

abbrev pub decreases-statements::repeat_loop : goal.decreases-statements::repeat_loop
decreases-statements::repeat_loop l = room l.depth.forms

abbrev pub decreases-statements::for_loop : goal.decreases-statements::for_loop
decreases-statements::for_loop l = room l.depth.forms

abbrev pub decreases-cases::case_arms : goal.decreases-cases::case_arms
decreases-cases::case_arms l = room l.depth.forms + 5

abbrev pub decreases-cases::next_arm : goal.decreases-cases::next_arm
decreases-cases::next_arm l = room l.depth.forms + 4

abbrev pub decreases-cases::element : goal.decreases-cases::element
decreases-cases::element l = room l.depth.forms + 3

abbrev pub invariant-statements::statements-more : goal.invariant-statements::statements-more
invariant-statements::statements-more l =
    let s = l.fn.reader.spellings in
    SoFar (λ m. spec.statements m l.depth.forms) (λ m. spec.behind_statement (spec.statement m) m l.depth.forms)
    l.fn.reader l.reader (in_turn (tree.first_statement (statement_in s l.first)) (map (more_statement_in s) l.more))

abbrev pub decreases-statements::statements-more : goal.decreases-statements::statements-more
decreases-statements::statements-more l = length l.reader.tokens

abbrev pub invariant-cases::case_arms-more : goal.invariant-cases::case_arms-more
invariant-cases::case_arms-more l =
    let s = l.fn.reader.spellings in
    let first = an_element_in s l.first in
    SoFar (λ m. spec.arms m l.depth.forms) (λ m. spec.behind_arm (spec.statement m) m l.depth.forms) l.fn.reader
    l.reader (record {
      elements = in_turn (tree.first_element first.constants first.colon first.statement)
          (map (more_element_in s) l.more);
      others = tree.no_others;
    })

abbrev pub decreases-cases::case_arms-more : goal.decreases-cases::case_arms-more
decreases-cases::case_arms-more l = length l.reader.tokens
