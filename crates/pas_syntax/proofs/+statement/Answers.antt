use Rattle.std.proofs.Common.{◌≡◌, ◌∙◌, refl, sym, ap, subst, arith, ℕ, suc, Option, Ok, Err, ◌+◌}
use Rattle.std.proofs.Common.{List, [], ◌∷◌, ◌++◌}
use Rattle.std.proofs.Common.{length, map, Some, None, Result}
use Rattle.std.proofs.lemmas.Result.{err_from_is_err_and}
use Rattle.pas_tokens.specs.declared.kinds.Kind.{Kind}
use Rattle.pas_tokens.specs.declared.kinds.Kind.TheVariants as k
use Rattle.pas_tokens.specs.Cutting.{Payload}
use Rattle.pas_tokens.specs.Tokens.{Token}
use Rattle.pas_syntax.specs.Tree as tree
use Rattle.pas_syntax.specs.Tree.{Separated, Constant, Numeral, Expr, Plain, Statement, Statements, Compound}
use Rattle.pas_syntax.specs.Tree.{Elements}
use Rattle.pas_syntax.specs.declared.stop.Stop.{Stop}
use Rattle.pas_syntax.specs.declared.tree.MoreStatement as code_more
use Rattle.pas_syntax.specs.declared.tree.Others.TheViews.{roll-MoreStatement}
use Rattle.pas_syntax.specs.declared.tree.Plain.TheVariants as code_plain
use Rattle.pas_syntax.specs.declared.tree.Statement as code_statement
use Rattle.pas_syntax.specs.Views.{in_turn, constant_in, separated_in}
use Rattle.pas_syntax.specs.ProgramViews.{plain_in, statement_in, statements_in, more_statement_in}
use Rattle.pas_syntax.specs.ProgramViews.{others_in, compound_in, more_element_in}
use Rattle.pas_syntax.specs.inner.StatementViews.{an_element_in, arm_in}
use Rattle.pas_syntax.specs.inner.Prog.{Prog, done, turns, look, skip, bind, head, run, ends, turn_of, a_turn}
use Rattle.pas_syntax.specs.inner.Places.{Place, Fits, Passes}
use Rattle.pas_syntax.specs.inner.Readers.{expr}
use Rattle.pas_syntax.specs.inner.Marks.{mark, maybe_mark}
use Rattle.pas_syntax.specs.inner.StatementReaders.{Guard, ForHead, Element, Arms, numeral, guard_by, for_head_by}
use Rattle.pas_syntax.specs.inner.StatementReaders.{else_at, plain_at}
use Rattle.pas_syntax.specs.inner.StatementReaders.{labelled_by, behind_statement, compound_by}
use Rattle.pas_syntax.specs.inner.StatementReaders.{statement, statements, plain, arms, with_line}
use Rattle.pas_syntax.specs.inner.StatementReaders.{is_others, unless_others, Arm, one_more, tail, with_arm}
use Rattle.pas_syntax.specs.inner.StatementReaders.{behind_constants, behind_arm_by, behind_arm, first_arm, next_arm}
use Rattle.pas_syntax.specs.inner.StatementReaders.{element}
use Rattle.pas_syntax.specs.inner.StatementViews.{others_before_colon}
use Rattle.pas_syntax.specs.inner.TypeReaders.{items_by, constant}
use Rattle.pas_syntax.specs.inner.Places.{Place, Parses}
use Rattle.pas_syntax.proofs.PlaceLemmas.{returned, stops, goes_on, goes_as, skips, line_of_head, kept_no_memory}
use Rattle.pas_syntax.proofs.PlaceLemmas.{with_more, is_left_out, is_misplaced, answers, any_turns, told, no_memory}
use Rattle.pas_syntax.proofs.PlaceSteps.{from_here, and_then, behind_line, stopped, passed, formed, too_deep, read}
use Rattle.pas_syntax.proofs.PlaceSteps.{makes}
use Rattle.pas_syntax.proofs.PlaceSteps.{looks_at, then_in, comes, goes_from, more_from}
use Rattle.pas_syntax.proofs.SoFar.{SoFar, begun_behind, turned, turn_stops, loop_ends}
use Rattle.pas_syntax.proofs.StatementSeen.{unlabelled_seen, empty_seen, goto_seen, compound_seen}
use Rattle.pas_syntax.proofs.StatementSeen.{plain_compound_seen}
use Rattle.pas_syntax.proofs.StatementSeen.{statements_seen, more_statement_seen, element_seen}
use Rattle.pas_syntax.proofs.StatementSeen.{elements_seen, more_element_seen, nothing_seen, semicolon_seen}
use Rattle.pas_syntax.proofs.StatementSteps.{number_comes, no_number_comes, name_comes, nothing_comes}
use Rattle.pas_syntax.proofs.StatementSteps.{statement_takes}
use Rattle.pas_syntax.proofs.StatementSteps.{no_else_comes}
use Rattle.pas_syntax.proofs.CaseSteps.{semicolon_there, none_there, none_ends, end_comes, no_end_comes, others_come}
use Rattle.pas_syntax.proofs.CaseSteps.{element_comes, IsReal, real_ends, arm_there, bind_bind, so_far_as}
use Rattle.pas_syntax.proofs.CaseSteps.{fits_passed, element_read}
use Rattle.pas_syntax.proofs.ExprViews.{pushed_in_turn}
use Rattle.pas_syntax.proofs.+statement.Goals as goal

-- what stands behind a part of a statement
abbrev ended : ℕ → Statements → ℕ → Prog Compound
ended begin list end = done (record { begin = begin; list = list; end = end })

abbrev behind_list : ℕ → Statements → Prog Compound
behind_list begin list = bind (mark k.End) (ended begin list)

abbrev behind_begin : ℕ → ℕ → ℕ → Prog Compound
behind_begin m n begin = bind (statements m n) (behind_list begin)

pub statements::compound-returns-in_err-inner : goal.statements::compound-returns-in_err-inner
statements::compound-returns-in_err-inner t c =
    from_here (too_deep (λ m. behind_begin m (c.args.depth.forms + 1)) c.from_residual.result
    c.in_err-inner.ensures.err c.from_residual.ensures.1)

pub statements::compound-returns-in_err-list : goal.statements::compound-returns-in_err-list
statements::compound-returns-in_err-list t c =
    from_here (formed behind_begin c.in_ok-inner.ensures.ok
    (passed (λ m. behind_begin m c.in_ok-inner.inner.forms) c.pass-begin.ensures
    (stopped (λ m. behind_list c.pass-begin.result) c.from_residual-in_err-list.result c.in_err-list.ensures
    c.from_residual-in_err-list.ensures.1)))

pub statements::compound-returns-in_err-end : goal.statements::compound-returns-in_err-end
statements::compound-returns-in_err-end t c =
    from_here (formed behind_begin c.in_ok-inner.ensures.ok
    (passed (λ m. behind_begin m c.in_ok-inner.inner.forms) c.pass-begin.ensures
    (and_then (λ m. behind_list c.pass-begin.result) c.in_ok-list.ensures
    (stopped (λ m. ended c.pass-begin.result _) c.from_residual-in_err-end.result c.in_err-end.ensures
    c.from_residual-in_err-end.ensures.1))))

pub statements::compound-returns : goal.statements::compound-returns
statements::compound-returns t c =
    from_here (formed behind_begin c.in_ok-inner.ensures.ok
    (passed (λ m. behind_begin m c.in_ok-inner.inner.forms) c.pass-begin.ensures
    (and_then (λ m. behind_list c.pass-begin.result) c.in_ok-list.ensures
    (and_then (λ m. ended c.pass-begin.result _) c.in_ok-end.ensures
    (read (sym (compound_seen _ (record {
      begin = c.pass-begin.result;
      list = c.in_ok-list.list;
      end = c.in_ok-end.end;
    }))))))))

-- `while`
abbrev while_made : Guard → Statement → Prog Plain
while_made g s = done (tree.while g.line g.value g.behind s)

abbrev behind_do : ℕ → ℕ → Guard → Prog Plain
behind_do m n g = bind (statement m n) (while_made g)

abbrev behind_while : ℕ → ℕ → ℕ → Prog Plain
behind_while m n line = bind (guard_by m n k.Do line) (behind_do m n)

pub statements::while_loop-returns-in_err-inner : goal.statements::while_loop-returns-in_err-inner
statements::while_loop-returns-in_err-inner t c =
    from_here (too_deep (λ m. behind_while m (c.args.depth.forms + 1)) c.from_residual.result
    c.in_err-inner.ensures.err c.from_residual.ensures.1)

pub statements::while_loop-returns-in_err-head : goal.statements::while_loop-returns-in_err-head
statements::while_loop-returns-in_err-head t c =
    from_here (formed behind_while c.in_ok-inner.ensures.ok
    (stopped (λ m. behind_do m c.in_ok-inner.inner.forms) c.from_residual-in_err-head.result c.in_err-head.ensures
    c.from_residual-in_err-head.ensures.1))

pub statements::while_loop-returns-in_err-body : goal.statements::while_loop-returns-in_err-body
statements::while_loop-returns-in_err-body t c =
    from_here (formed behind_while c.in_ok-inner.ensures.ok
    (behind_line {q = λ m line. guard_by m c.in_ok-inner.inner.forms k.Do line}
    (λ m. behind_do m c.in_ok-inner.inner.forms) c.in_ok-head.ensures
    (stopped (λ m. while_made _) c.from_residual-in_err-body.result c.in_err-body.ensures
    c.from_residual-in_err-body.ensures.1)))

pub statements::while_loop-returns : goal.statements::while_loop-returns
statements::while_loop-returns t c =
    from_here (formed behind_while c.in_ok-inner.ensures.ok
    (behind_line {q = λ m line. guard_by m c.in_ok-inner.inner.forms k.Do line}
    (λ m. behind_do m c.in_ok-inner.inner.forms) c.in_ok-head.ensures
    (and_then (λ m. while_made _) c.in_ok-body.ensures
    (makes plain_in _ c.while_do.result c.while_do.ensures refl))))

-- `for`
abbrev for_made : ForHead → Statement → Prog Plain
for_made f s = done (tree.for f.line f.name f.becomes f.first f.toward f.last f.do_line s)

abbrev behind_for_do : ℕ → ℕ → ForHead → Prog Plain
behind_for_do m n f = bind (statement m n) (for_made f)

abbrev behind_for : ℕ → ℕ → ℕ → Prog Plain
behind_for m n line = bind (for_head_by m n line) (behind_for_do m n)

pub statements::for_loop-returns-in_err-inner : goal.statements::for_loop-returns-in_err-inner
statements::for_loop-returns-in_err-inner t c =
    from_here (too_deep (λ m. behind_for m (c.args.depth.forms + 1)) c.from_residual.result
    c.in_err-inner.ensures.err c.from_residual.ensures.1)

pub statements::for_loop-returns-in_err-head : goal.statements::for_loop-returns-in_err-head
statements::for_loop-returns-in_err-head t c =
    from_here (formed behind_for c.in_ok-inner.ensures.ok
    (stopped (λ m. behind_for_do m c.in_ok-inner.inner.forms) c.from_residual-in_err-head.result c.in_err-head.ensures
    c.from_residual-in_err-head.ensures.1))

pub statements::for_loop-returns-in_err-body : goal.statements::for_loop-returns-in_err-body
statements::for_loop-returns-in_err-body t c =
    from_here (formed behind_for c.in_ok-inner.ensures.ok
    (behind_line {q = λ m line. for_head_by m c.in_ok-inner.inner.forms line}
    (λ m. behind_for_do m c.in_ok-inner.inner.forms) c.in_ok-head.ensures
    (stopped (λ m. for_made _) c.from_residual-in_err-body.result c.in_err-body.ensures
    c.from_residual-in_err-body.ensures.1)))

pub statements::for_loop-returns : goal.statements::for_loop-returns
statements::for_loop-returns t c =
    from_here (formed behind_for c.in_ok-inner.ensures.ok
    (behind_line {q = λ m line. for_head_by m c.in_ok-inner.inner.forms line}
    (λ m. behind_for_do m c.in_ok-inner.inner.forms) c.in_ok-head.ensures
    (and_then (λ m. for_made _) c.in_ok-body.ensures
    (makes plain_in _ c.for_do.result c.for_do.ensures refl))))

-- `repeat`
abbrev repeat_made : ℕ → Statements → ℕ → Expr → Prog Plain
repeat_made line list until e = done (tree.repeat line list until e)

abbrev behind_until : ℕ → ℕ → ℕ → Statements → ℕ → Prog Plain
behind_until m n line list until = bind (expr m n 0) (repeat_made line list until)

abbrev behind_repeated : ℕ → ℕ → ℕ → Statements → Prog Plain
behind_repeated m n line list = bind (mark k.Until) (behind_until m n line list)

abbrev behind_repeat : ℕ → ℕ → ℕ → Prog Plain
behind_repeat m n line = bind (statements m n) (behind_repeated m n line)

pub statements::repeat_loop-returns-in_err-inner : goal.statements::repeat_loop-returns-in_err-inner
statements::repeat_loop-returns-in_err-inner t c =
    from_here (too_deep (λ m. behind_repeat m (c.args.depth.forms + 1)) c.from_residual.result
    c.in_err-inner.ensures.err c.from_residual.ensures.1)

pub statements::repeat_loop-returns-in_err-list : goal.statements::repeat_loop-returns-in_err-list
statements::repeat_loop-returns-in_err-list t c =
    let n = c.in_ok-inner.inner.forms in
    let line = c.pass-line.result in
    from_here (formed behind_repeat c.in_ok-inner.ensures.ok
    (passed (λ m. behind_repeat m n) c.pass-line.ensures
    (stopped (λ m. behind_repeated m n line) c.from_residual-in_err-list.result c.in_err-list.ensures
    c.from_residual-in_err-list.ensures.1)))

pub statements::repeat_loop-returns-in_err-until : goal.statements::repeat_loop-returns-in_err-until
statements::repeat_loop-returns-in_err-until t c =
    let n = c.in_ok-inner.inner.forms in
    let line = c.pass-line.result in
    from_here (formed behind_repeat c.in_ok-inner.ensures.ok
    (passed (λ m. behind_repeat m n) c.pass-line.ensures
    (and_then (λ m. behind_repeated m n line) c.in_ok-list.ensures
    (stopped (λ m. behind_until m n line _) c.from_residual-in_err-until.result c.in_err-until.ensures
    c.from_residual-in_err-until.ensures.1))))

pub statements::repeat_loop-returns-in_err-item : goal.statements::repeat_loop-returns-in_err-item
statements::repeat_loop-returns-in_err-item t c =
    let n = c.in_ok-inner.inner.forms in
    let line = c.pass-line.result in
    from_here (formed behind_repeat c.in_ok-inner.ensures.ok
    (passed (λ m. behind_repeat m n) c.pass-line.ensures
    (and_then (λ m. behind_repeated m n line) c.in_ok-list.ensures
    (and_then (λ m. behind_until m n line _) c.in_ok-until.ensures
    (stopped (λ m. repeat_made line _ _) c.from_residual-in_err-item.result c.in_err-item.ensures
    c.from_residual-in_err-item.ensures.1)))))

pub statements::repeat_loop-returns : goal.statements::repeat_loop-returns
statements::repeat_loop-returns t c =
    let n = c.in_ok-inner.inner.forms in
    let line = c.pass-line.result in
    from_here (formed behind_repeat c.in_ok-inner.ensures.ok
    (passed (λ m. behind_repeat m n) c.pass-line.ensures
    (and_then (λ m. behind_repeated m n line) c.in_ok-list.ensures
    (and_then (λ m. behind_until m n line _) c.in_ok-until.ensures
    (and_then (λ m. repeat_made line _ _) c.in_ok-item.ensures
    (makes plain_in _ c.repeat_until.result c.repeat_until.ensures refl))))))

-- `case`
abbrev case_made : Guard → Arms → ℕ → Prog Plain
case_made g all end = done (tree.case g.line g.value g.behind all.elements all.others end)

abbrev behind_arms : Guard → Arms → Prog Plain
behind_arms g all = bind (mark k.End) (case_made g all)

abbrev behind_of : ℕ → ℕ → Guard → Prog Plain
behind_of m n g = bind (arms m n) (behind_arms g)

abbrev behind_case : ℕ → ℕ → ℕ → Prog Plain
behind_case m n line = bind (guard_by m n k.Of line) (behind_of m n)

pub statements::case_statement-returns-in_err-inner : goal.statements::case_statement-returns-in_err-inner
statements::case_statement-returns-in_err-inner t c =
    from_here (too_deep (λ m. behind_case m (c.args.depth.forms + 1)) c.from_residual.result
    c.in_err-inner.ensures.err c.from_residual.ensures.1)

pub statements::case_statement-returns-in_err-head : goal.statements::case_statement-returns-in_err-head
statements::case_statement-returns-in_err-head t c =
    from_here (formed behind_case c.in_ok-inner.ensures.ok
    (stopped (λ m. behind_of m c.in_ok-inner.inner.forms) c.from_residual-in_err-head.result c.in_err-head.ensures
    c.from_residual-in_err-head.ensures.1))

pub statements::case_statement-returns-in_err-arms : goal.statements::case_statement-returns-in_err-arms
statements::case_statement-returns-in_err-arms t c =
    from_here (formed behind_case c.in_ok-inner.ensures.ok
    (behind_line {q = λ m line. guard_by m c.in_ok-inner.inner.forms k.Of line}
    (λ m. behind_of m c.in_ok-inner.inner.forms) c.in_ok-head.ensures
    (stopped (λ m. behind_arms _) c.from_residual-in_err-arms.result c.in_err-arms.ensures
    c.from_residual-in_err-arms.ensures.1)))

pub statements::case_statement-returns-in_err-end : goal.statements::case_statement-returns-in_err-end
statements::case_statement-returns-in_err-end t c =
    from_here (formed behind_case c.in_ok-inner.ensures.ok
    (behind_line {q = λ m line. guard_by m c.in_ok-inner.inner.forms k.Of line}
    (λ m. behind_of m c.in_ok-inner.inner.forms) c.in_ok-head.ensures
    (and_then (λ m. behind_arms _) c.in_ok-arms.ensures
    (stopped (λ m. case_made _ _) c.from_residual-in_err-end.result c.in_err-end.ensures
    c.from_residual-in_err-end.ensures.1))))

pub statements::case_statement-returns : goal.statements::case_statement-returns
statements::case_statement-returns t c =
    from_here (formed behind_case c.in_ok-inner.ensures.ok
    (behind_line {q = λ m line. guard_by m c.in_ok-inner.inner.forms k.Of line}
    (λ m. behind_of m c.in_ok-inner.inner.forms) c.in_ok-head.ensures
    (and_then (λ m. behind_arms _) c.in_ok-arms.ensures
    (and_then (λ m. case_made _ _) c.in_ok-end.ensures
    (makes plain_in _ c.case_of.result c.case_of.ensures refl)))))

-- `if`
abbrev behind_chosen : ℕ → ℕ → Guard → Statement → Prog Plain
behind_chosen m n g s = look (else_at (statement m) m n g s)

abbrev behind_then : ℕ → ℕ → Guard → Prog Plain
behind_then m n g = bind (statement m n) (behind_chosen m n g)

abbrev behind_if : ℕ → ℕ → ℕ → Prog Plain
behind_if m n line = bind (guard_by m n k.Then line) (behind_then m n)

pub statements::conditional-returns-in_err-inner : goal.statements::conditional-returns-in_err-inner
statements::conditional-returns-in_err-inner t c =
    from_here (too_deep (λ m. behind_if m (c.args.depth.forms + 1)) c.from_residual.result
    c.in_err-inner.ensures.err c.from_residual.ensures.1)

pub statements::conditional-returns-in_err-head : goal.statements::conditional-returns-in_err-head
statements::conditional-returns-in_err-head t c =
    from_here (formed behind_if c.in_ok-inner.ensures.ok
    (stopped (λ m. behind_then m c.in_ok-inner.inner.forms) c.from_residual-in_err-head.result c.in_err-head.ensures
    c.from_residual-in_err-head.ensures.1))

pub statements::conditional-returns-in_err-chosen : goal.statements::conditional-returns-in_err-chosen
statements::conditional-returns-in_err-chosen t c =
    from_here (formed behind_if c.in_ok-inner.ensures.ok
    (behind_line {q = λ m line. guard_by m c.in_ok-inner.inner.forms k.Then line}
    (λ m. behind_then m c.in_ok-inner.inner.forms) c.in_ok-head.ensures
    (stopped (λ m. behind_chosen m c.in_ok-inner.inner.forms _) c.from_residual-in_err-chosen.result
    c.in_err-chosen.ensures c.from_residual-in_err-chosen.ensures.1)))

abbrev else_made : Guard → Statement → ℕ → Statement → Prog Plain
else_made g s line t = done (tree.if_else g.line g.value g.behind s line t)

abbrev behind_else : ℕ → ℕ → Guard → Statement → ℕ → Prog Plain
behind_else m n g s line = bind (statement m n) (else_made g s line)

pub statements::conditional-returns-in_err-other-in-Else : goal.statements::conditional-returns-in_err-other-in-Else
statements::conditional-returns-in_err-other-in-Else t c =
    let n = c.in_ok-inner.inner.forms in
    from_here (formed behind_if c.in_ok-inner.ensures.ok
    (behind_line {q = λ m line. guard_by m n k.Then line} (λ m. behind_then m n) c.in_ok-head.ensures
    (and_then (λ m. behind_chosen m n _) c.in_ok-chosen.ensures
    (comes (λ m. else_at (statement m) m n _ _) k.Else tt c.in-Else.ensures.kind c.in-Else.ensures.fits
    (more_from (omega arith) (passed (λ m. behind_else m n _ _) c.pass-line.ensures
    (stopped (λ m. else_made _ _ c.pass-line.result) c.from_residual-in_err-other-in-Else.result
    c.in_err-other-in-Else.ensures c.from_residual-in_err-other-in-Else.ensures.1)))))))

pub statements::conditional-returns-in_ok-other-in-Else : goal.statements::conditional-returns-in_ok-other-in-Else
statements::conditional-returns-in_ok-other-in-Else t c =
    let n = c.in_ok-inner.inner.forms in
    from_here (formed behind_if c.in_ok-inner.ensures.ok
    (behind_line {q = λ m line. guard_by m n k.Then line} (λ m. behind_then m n) c.in_ok-head.ensures
    (and_then (λ m. behind_chosen m n _) c.in_ok-chosen.ensures
    (comes (λ m. else_at (statement m) m n _ _) k.Else tt c.in-Else.ensures.kind c.in-Else.ensures.fits
    (more_from (omega arith) (passed (λ m. behind_else m n _ _) c.pass-line.ensures
    (and_then (λ m. else_made _ _ c.pass-line.result) c.in_ok-other-in-Else.ensures
    (makes plain_in _ c.if_else.result c.if_else.ensures refl))))))))

pub statements::conditional-returns-in_default : goal.statements::conditional-returns-in_default
statements::conditional-returns-in_default t c =
    let n = c.in_ok-inner.inner.forms in
    from_here (formed behind_if c.in_ok-inner.ensures.ok
    (behind_line {q = λ m line. guard_by m n k.Then line} (λ m. behind_then m n) c.in_ok-head.ensures
    (and_then (λ m. behind_chosen m n _) c.in_ok-chosen.ensures
    (goes_from (λ m. no_else_comes (statement m) m n _ _ c.statement.new.reader.tokens
    (λ e. c.in_default.not-Else (c.kind.ensures.kind ∙ sym e)))
    (makes plain_in _ c.if_then.result c.if_then.ensures refl)))))

-- a label and a statement
abbrev label_made : Numeral → ℕ → Plain → Prog Statement
label_made label colon s = done (tree.labelled label colon s)

abbrev behind_colon : ℕ → ℕ → Numeral → ℕ → Prog Statement
behind_colon m n label colon = bind (plain m n) (label_made label colon)

abbrev behind_label : ℕ → ℕ → Numeral → Prog Statement
behind_label m n label = labelled_by (statement m) m n label

pub statements::statement-returns-in_err-numeral-in-Number : goal.statements::statement-returns-in_err-numeral-in-Number
statements::statement-returns-in_err-numeral-in-Number t c =
    let n = c.args.depth.forms in
    statement_takes n (goes_as (λ m. number_comes (statement m) m n c.args.reader.now.tokens c.in-Number.ensures.kind
    c.in-Number.ensures.fits)
    (from_here (stopped (λ m. behind_label m n) c.from_residual.result
    (any_turns numeral c.in_err-numeral-in-Number.ensures) c.from_residual.ensures.1)))

pub statements::statement-returns-in_err-colon-in-Number : goal.statements::statement-returns-in_err-colon-in-Number
statements::statement-returns-in_err-colon-in-Number t c =
    let n = c.args.depth.forms in
    statement_takes n (goes_as (λ m. number_comes (statement m) m n c.args.reader.now.tokens c.in-Number.ensures.kind
    c.in-Number.ensures.fits)
    (from_here (then_in (λ m. behind_label m n) c.in_ok-numeral-in-Number.ensures.shorter
    (any_turns numeral c.in_ok-numeral-in-Number.ensures)
    (stopped (λ m. behind_colon m n _) c.from_residual-in_err-colon-in-Number.result
    (any_turns (mark k.Colon) c.in_err-colon-in-Number.ensures) c.from_residual-in_err-colon-in-Number.ensures.1))))

pub statements::statement-returns-in_err-plain-in-Number : goal.statements::statement-returns-in_err-plain-in-Number
statements::statement-returns-in_err-plain-in-Number t c =
    let n = c.args.depth.forms in
    statement_takes n (goes_as (λ m. number_comes (statement m) m n c.args.reader.now.tokens c.in-Number.ensures.kind
    c.in-Number.ensures.fits)
    (from_here (then_in (λ m. behind_label m n) c.in_ok-numeral-in-Number.ensures.shorter
    (any_turns numeral c.in_ok-numeral-in-Number.ensures)
    (then_in (λ m. behind_colon m n _) c.in_ok-colon-in-Number.ensures.shorter
    (any_turns (mark k.Colon) c.in_ok-colon-in-Number.ensures)
    (stopped (λ m. label_made _ _) c.from_residual-in_err-plain-in-Number.result c.in_err-plain-in-Number.ensures
    c.from_residual-in_err-plain-in-Number.ensures.1)))))

pub statements::statement-returns-in_ok-plain-in-Number : goal.statements::statement-returns-in_ok-plain-in-Number
statements::statement-returns-in_ok-plain-in-Number t c =
    let n = c.args.depth.forms in
    statement_takes n (goes_as (λ m. number_comes (statement m) m n c.args.reader.now.tokens c.in-Number.ensures.kind
    c.in-Number.ensures.fits)
    (from_here (then_in (λ m. behind_label m n) c.in_ok-numeral-in-Number.ensures.shorter
    (any_turns numeral c.in_ok-numeral-in-Number.ensures)
    (then_in (λ m. behind_colon m n _) c.in_ok-colon-in-Number.ensures.shorter
    (any_turns (mark k.Colon) c.in_ok-colon-in-Number.ensures)
    (then_in (λ m. label_made _ _) (omega arith) c.in_ok-plain-in-Number.ensures
    (makes statement_in {least = 0} _ c.labelled.result c.labelled.ensures refl))))))

-- a statement without a label
pub statements::plain-returns-in-If : goal.statements::plain-returns-in-If
statements::plain-returns-in-If t c =
    looks_at (λ m. plain_at (statement m) m c.args.depth.forms) k.If tt (sym c.in-If.ensures.kind)
    c.in-If.ensures.fits
    c.conditional.ensures

pub statements::plain-returns-in-Case : goal.statements::plain-returns-in-Case
statements::plain-returns-in-Case t c =
    looks_at (λ m. plain_at (statement m) m c.args.depth.forms) k.Case tt (sym c.in-Case.ensures.kind)
    c.in-Case.ensures.fits c.case_statement.ensures

pub statements::plain-returns-in-While : goal.statements::plain-returns-in-While
statements::plain-returns-in-While t c =
    looks_at (λ m. plain_at (statement m) m c.args.depth.forms) k.While tt (sym c.in-While.ensures.kind)
    c.in-While.ensures.fits c.while_loop.ensures

pub statements::plain-returns-in-Repeat : goal.statements::plain-returns-in-Repeat
statements::plain-returns-in-Repeat t c =
    looks_at (λ m. plain_at (statement m) m c.args.depth.forms) k.Repeat tt (sym c.in-Repeat.ensures.kind)
    c.in-Repeat.ensures.fits c.repeat_loop.ensures

pub statements::plain-returns-in-For : goal.statements::plain-returns-in-For
statements::plain-returns-in-For t c =
    looks_at (λ m. plain_at (statement m) m c.args.depth.forms) k.For tt (sym c.in-For.ensures.kind)
    c.in-For.ensures.fits c.for_loop.ensures

pub statements::plain-returns-in-Name : goal.statements::plain-returns-in-Name
statements::plain-returns-in-Name t c =
    goes_as (λ m. name_comes (statement m) m c.args.depth.forms c.args.reader.now.tokens c.in-Name.ensures.kind
    c.in-Name.ensures.fits) c.named_statement.ensures

pub statements::plain-returns-in-With : goal.statements::plain-returns-in-With
statements::plain-returns-in-With t c =
    looks_at (λ m. plain_at (statement m) m c.args.depth.forms) k.With tt (sym c.in-With.ensures.kind)
    c.in-With.ensures.fits (goes_as (λ m. refl) is_left_out)

pub statements::plain-returns-in_default : goal.statements::plain-returns-in_default
statements::plain-returns-in_default t c =
    let not = c.in_default in
    let is = c.kind.ensures.kind in
    goes_as (λ m. ap (λ q. run q c.args.reader.now.tokens) (nothing_comes (statement m) m c.args.depth.forms _ _ _
    (λ e. not.not-Name (is ∙ sym e)) (λ e. not.not-Begin (is ∙ sym e)) (λ e. not.not-If (is ∙ sym e))
    (λ e. not.not-Case (is ∙ sym e)) (λ e. not.not-While (is ∙ sym e)) (λ e. not.not-Repeat (is ∙ sym e))
    (λ e. not.not-For (is ∙ sym e)) (λ e. not.not-Goto (is ∙ sym e)) (λ e. not.not-With (is ∙ sym e))))
    (answers (sym (empty_seen _)))

-- statements, one after the other
semicolon_goes : (m n : ℕ) (list : Statements) (ts : List Token) (line : ℕ) → k.Semicolon ≡ (head ts).kind
    → Fits (head ts).kind (head ts).payload → line ≡ (head ts).line
    → run (a_turn (behind_statement (statement m) m n) list) ts
    ≡ run (skip (bind (statement m n) (λ s. done (tree.more_statements list line s)))) ts
semicolon_goes m n list ts line is fits same =
    told (λ kind payload line. turn_of (behind_statement (statement m) m n list kind payload line)) k.Semicolon ts
    line
    tt is fits same

statements_end : (m n : ℕ) (list : Statements) (kind : Kind) (payload : Payload) (line : ℕ) → (k.Semicolon ≡ kind → ⊥)
    → behind_statement (statement m) m n list kind payload line ≡ ends
statements_end m n list k.Semicolon payload line not = absurd (not refl)
statements_end m n list kind payload line not = refl

pub statements::statements-returns-in_err-first : goal.statements::statements-returns-in_err-first
statements::statements-returns-in_err-first t c =
    let n = c.args.depth.forms in
    from_here (stopped (λ m first. turns (behind_statement (statement m) m n) m (tree.first_statement first))
    c.from_residual.result c.in_err-first.ensures c.from_residual.ensures.1)

pub statements::statements-more-init : goal.statements::statements-more-init
statements::statements-more-init t c =
    let s = c.args.reader.now.spellings in
    let n = c.args.depth.forms in
    let start = tree.first_statement (statement_in s c.in_ok-first.first) in
    subst (λ xs. SoFar (λ m. statements m n) (λ m. behind_statement (statement m) m n) c.args.reader.now
    c.statement.new.reader (in_turn start (map (more_statement_in s) xs))) (sym c.new-more.ensures)
    (begun_behind tree.first_statement c.in_ok-first.ensures)

-- and one more of them
module _ {old now middle : Place} {list : Statements} {line : ℕ} (n : ℕ)
    (so : SoFar (λ m. statements m n) (λ m. behind_statement (statement m) m n) old now list)
    (is : k.Semicolon ≡ (head now.tokens).kind) (fits : Fits (head now.tokens).kind (head now.tokens).payload)
    (passed : Passes now line middle) where
  statement_stops : {new : Place} {why : Stop} → Parses (λ m. statement m n) statement_in middle (Err why) new
      → Parses (λ m. statements m n) statements_in old (Err why) new
  statement_stops h =
      turn_stops {view = λ s x. tree.more_statements list line (statement_in s x)} so
      (goes_as (λ m. semicolon_goes m n list now.tokens line is fits (line_of_head passed))
      (skips passed (omega arith) (stops (λ m x. done (tree.more_statements list line x)) h)))

  statement_read : {new : Place} {found : code_statement.Statement}
      → Parses (λ m. statement m n) statement_in middle (Ok found) new
      → SoFar (λ m. statements m n) (λ m. behind_statement (statement m) m n) old new
      (tree.more_statements list line (statement_in old.spellings found))
  statement_read {found = found} h =
      turned {view = λ s x. tree.more_statements list line (statement_in s x)} so
      (goes_as (λ m. semicolon_goes m n list now.tokens line is fits (line_of_head passed))
      (skips passed (omega arith) (goes_on (λ m x. done (tree.more_statements list line x)) h
      (answers (ap (λ s. tree.more_statements list line (statement_in s found)) (sym h.spellings))))))
      (omega (arith, ap length passed.tokens, h.shorter))

-- in the list of the code
statement_pushed : (s : List ℕ) (start : Statements) (old all : List code_more.MoreStatement) (line : ℕ)
    (found : code_statement.Statement)
    → all ≡ old ++ roll-MoreStatement (record { line = line; statement = found }) ∷ []
    → in_turn start (map (more_statement_in s) all)
    ≡ tree.more_statements (in_turn start (map (more_statement_in s) old)) line (statement_in s found)
statement_pushed s start old all line found is =
    pushed_in_turn start (more_statement_in s) old all _ is
    ∙ ap (λ f. f (in_turn start (map (more_statement_in s) old)))
    (more_statement_seen s (record { line = line; statement = found }))

pub statements::statements-returns-in_err-statement-in-Semicolon
    : goal.statements::statements-returns-in_err-statement-in-Semicolon
statements::statements-returns-in_err-statement-in-Semicolon t c =
    returned (err_from_is_err_and _ c.from_residual-in_err-statement-in-Semicolon.ensures.1)
    (statement_stops c.args.depth.forms c.more.invariant c.in-Semicolon.ensures.kind c.in-Semicolon.ensures.fits
    c.pass-line.ensures c.in_err-statement-in-Semicolon.ensures)

pub statements::statements-more-preserved : goal.statements::statements-more-preserved
statements::statements-more-preserved t c =
    let n = c.args.depth.forms in
    subst (SoFar (λ m. statements m n) (λ m. behind_statement (statement m) m n) c.args.reader.now
    c.statement-in-Semicolon.new.reader) (sym (statement_pushed c.args.reader.now.spellings _ c.more.more _
    c.pass-line.result c.in_ok-statement-in-Semicolon.statement c.in_ok-push-in-Semicolon.ensures.ok))
    (statement_read n c.more.invariant c.in-Semicolon.ensures.kind c.in-Semicolon.ensures.fits c.pass-line.ensures
    c.in_ok-statement-in-Semicolon.ensures)

pub statements::statements-returns-in_default : goal.statements::statements-returns-in_default
statements::statements-returns-in_default t c =
    loop_ends c.more.invariant
    (λ m. statements_end m c.args.depth.forms _ _ _ _ (λ e. c.in_default.not-Semicolon (c.kind.ensures.kind ∙ sym e)))
    (sym (statements_seen c.args.reader.now.spellings _))

pub statements::statement-returns-in_err-plain-in_default : goal.statements::statement-returns-in_err-plain-in_default
statements::statement-returns-in_err-plain-in_default t c =
    let n = c.args.depth.forms in
    statement_takes n (goes_as (λ m. no_number_comes (statement m) m n c.args.reader.now.tokens
    (λ e. c.in_default.not-Number (c.kind.ensures.kind ∙ sym e)))
    (from_here (stopped (λ m s. done (tree.unlabelled s)) c.from_residual-in_err-plain-in_default.result
    c.in_err-plain-in_default.ensures c.from_residual-in_err-plain-in_default.ensures.1)))

pub statements::statement-returns-in_ok-plain-in_default : goal.statements::statement-returns-in_ok-plain-in_default
statements::statement-returns-in_ok-plain-in_default t c =
    let n = c.args.depth.forms in
    let found = c.in_ok-plain-in_default.field-0 in
    let got = c.in_ok-plain-in_default.ensures in
    statement_takes n (goes_as (λ m. no_number_comes (statement m) m n c.args.reader.now.tokens
    (λ e. c.in_default.not-Number (c.kind.ensures.kind ∙ sym e)))
    (goes_on (λ m s. done (tree.unlabelled s)) got
    (answers (ap (λ s. tree.unlabelled (plain_in s found)) (sym got.spellings) ∙ sym (unlabelled_seen _ found)))))

-- a compound statement, and a jump
abbrev body_made : Compound → Prog Plain
body_made body = done (tree.compound body.begin body.list body.end)

abbrev goto_made : ℕ → Numeral → Prog Plain
goto_made line label = done (tree.goto line label)

abbrev behind_goto : ℕ → Prog Plain
behind_goto line = bind numeral (goto_made line)

pub statements::plain-returns-in_err-body-in-Begin : goal.statements::plain-returns-in_err-body-in-Begin
statements::plain-returns-in_err-body-in-Begin t c =
    let n = c.args.depth.forms in
    looks_at (λ m. plain_at (statement m) m n) k.Begin tt (sym c.in-Begin.ensures.kind) c.in-Begin.ensures.fits
    (from_here (stopped {p = λ m. with_line (compound_by (statement m) m n)} (λ m. body_made) c.from_residual.result
    c.in_err-body-in-Begin.ensures c.from_residual.ensures.1))

pub statements::plain-returns-in_err-new-in-Begin : goal.statements::plain-returns-in_err-new-in-Begin
statements::plain-returns-in_err-new-in-Begin t c =
    let n = c.args.depth.forms in
    returned (err_from_is_err_and _ c.from_residual-in_err-new-in-Begin.ensures.1)
    (looks_at (λ m. plain_at (statement m) m n) k.Begin tt (sym c.in-Begin.ensures.kind) c.in-Begin.ensures.fits
    (goes_on {p = λ m. with_line (compound_by (statement m) m n)} (λ m. body_made) c.in_ok-body-in-Begin.ensures
    no_memory))

pub statements::plain-returns-in_ok-new-in-Begin : goal.statements::plain-returns-in_ok-new-in-Begin
statements::plain-returns-in_ok-new-in-Begin t c =
    let n = c.args.depth.forms in
    let body = c.in_ok-body-in-Begin.body in
    let got = c.in_ok-body-in-Begin.ensures in
    looks_at (λ m. plain_at (statement m) m n) k.Begin tt (sym c.in-Begin.ensures.kind) c.in-Begin.ensures.fits
    (goes_on {p = λ m. with_line (compound_by (statement m) m n)} (λ m. body_made) got
    (answers (ap (λ s. tree.compound (compound_in s body).begin (compound_in s body).list (compound_in s body).end)
    (sym got.spellings) ∙ sym (plain_compound_seen _ body)
    ∙ sym (ap (λ b. plain_in c.compound.new.reader.spellings (code_plain.Compound b)) c.in_ok-new-in-Begin.ensures))))

pub statements::plain-returns-in_err-numeral-in-Goto : goal.statements::plain-returns-in_err-numeral-in-Goto
statements::plain-returns-in_err-numeral-in-Goto t c =
    looks_at (λ m. plain_at (statement m) m c.args.depth.forms) k.Goto tt (sym c.in-Goto.ensures.kind)
    c.in-Goto.ensures.fits
    (from_here (passed (λ m. behind_goto) c.pass-line.ensures
    (stopped (λ m. goto_made c.pass-line.result) c.from_residual-in_err-numeral-in-Goto.result
    c.in_err-numeral-in-Goto.ensures c.from_residual-in_err-numeral-in-Goto.ensures.1)))

pub statements::plain-returns-in_ok-numeral-in-Goto : goal.statements::plain-returns-in_ok-numeral-in-Goto
statements::plain-returns-in_ok-numeral-in-Goto t c =
    looks_at (λ m. plain_at (statement m) m c.args.depth.forms) k.Goto tt (sym c.in-Goto.ensures.kind)
    c.in-Goto.ensures.fits
    (from_here (passed (λ m. behind_goto) c.pass-line.ensures
    (and_then (λ m. goto_made c.pass-line.result) c.in_ok-numeral-in-Goto.ensures
    (read (sym (goto_seen _ c.pass-line.result _))))))

pub statements::statements-returns-in_err-push-in-Semicolon
    : goal.statements::statements-returns-in_err-push-in-Semicolon
statements::statements-returns-in_err-push-in-Semicolon t c =
    returned (err_from_is_err_and _ c.from_residual-in_err-push-in-Semicolon.ensures.1)
    (statement_stops c.args.depth.forms c.more.invariant c.in-Semicolon.ensures.kind c.in-Semicolon.ensures.fits
    c.pass-line.ensures (kept_no_memory c.in_ok-statement-in-Semicolon.ensures))

-- an element behind its constants
abbrev element_made : Separated Constant → ℕ → Statement → Prog Element
element_made constants colon s = done (record { constants = constants; colon = colon; statement = s })

abbrev behind_element_colon : ℕ → ℕ → Separated Constant → ℕ → Prog Element
behind_element_colon m n constants colon = bind (statement m n) (element_made constants colon)

pub cases::element-returns-then-is_others : goal.cases::element-returns-then-is_others
cases::element-returns-then-is_others t c =
    let s = c.args.reader.now.spellings in
    let constants = separated_in (constant_in s) c.args.constants in
    goes_as (λ m. ap (λ b. run (unless_others b (bind (mark k.Colon) (behind_element_colon m c.args.depth.forms
    constants))) c.args.reader.now.tokens)
    (ap is_others (sym (c.last_of.ensures s)) ∙ sym c.is_others.ensures ∙ c.if-is_others.true)) is_misplaced

pub cases::element-returns-in_err-colon : goal.cases::element-returns-in_err-colon
cases::element-returns-in_err-colon t c =
    let s = c.args.reader.now.spellings in
    let n = c.args.depth.forms in
    let constants = separated_in (constant_in s) c.args.constants in
    goes_as (λ m. ap (λ b. run (unless_others b (bind (mark k.Colon) (behind_element_colon m n constants)))
    c.args.reader.now.tokens)
    (ap is_others (sym (c.last_of.ensures s)) ∙ sym c.is_others.ensures ∙ c.if-is_others.false))
    (from_here (stopped (λ m. behind_element_colon m n constants) c.from_residual.result c.in_err-colon.ensures
    c.from_residual.ensures.1))

pub cases::element-returns-in_err-statement : goal.cases::element-returns-in_err-statement
cases::element-returns-in_err-statement t c =
    let s = c.args.reader.now.spellings in
    let n = c.args.depth.forms in
    let constants = separated_in (constant_in s) c.args.constants in
    goes_as (λ m. ap (λ b. run (unless_others b (bind (mark k.Colon) (behind_element_colon m n constants)))
    c.args.reader.now.tokens)
    (ap is_others (sym (c.last_of.ensures s)) ∙ sym c.is_others.ensures ∙ c.if-is_others.false))
    (from_here (and_then (λ m. behind_element_colon m n constants) c.in_ok-colon.ensures
    (stopped (λ m. element_made constants c.in_ok-colon.colon) c.from_residual-in_err-statement.result
    c.in_err-statement.ensures c.from_residual-in_err-statement.ensures.1)))

pub cases::element-returns : goal.cases::element-returns
cases::element-returns t c =
    let s = c.args.reader.now.spellings in
    let n = c.args.depth.forms in
    let constants = separated_in (constant_in s) c.args.constants in
    goes_as (λ m. ap (λ b. run (unless_others b (bind (mark k.Colon) (behind_element_colon m n constants)))
    c.args.reader.now.tokens)
    (ap is_others (sym (c.last_of.ensures s)) ∙ sym c.is_others.ensures ∙ c.if-is_others.false))
    (from_here (and_then (λ m. behind_element_colon m n constants) c.in_ok-colon.ensures
    (and_then (λ m. element_made constants c.in_ok-colon.colon) c.in_ok-statement.ensures
    (read (sym (ap (λ arm. record { constants = arm.constants; colon = arm.colon; statement = arm.statement })
    (element_seen s (record {
      constants = c.args.constants;
      colon = c.in_ok-colon.colon;
      statement = c.in_ok-statement.statement;
    }))))))))

-- what stands behind a semicolon
abbrev next_made : Element → Prog Arm
next_made element = done (one_more element)

abbrev behind_name : ℕ → ℕ → ℕ → Separated Constant → Prog Arm
behind_name m n line constants = look (behind_constants (statement m) m n line constants)

abbrev tail_made : ℕ → ℕ → ℕ → Statement → Option ℕ → Prog Arm
tail_made line name colon s last = done (tail (tree.others line name colon s last))

abbrev behind_others : ℕ → ℕ → ℕ → Statement → Prog Arm
behind_others line name colon s = bind (maybe_mark k.Semicolon) (tail_made line name colon s)

abbrev behind_colon_of : ℕ → ℕ → ℕ → ℕ → ℕ → Prog Arm
behind_colon_of m n line name colon = bind (statement m n) (behind_others line name colon)

pub cases::next_arm-returns-in-End : goal.cases::next_arm-returns-in-End
cases::next_arm-returns-in-End t c =
    let line = c.args.semicolon in
    goes_as (λ m. end_comes (statement m) m c.args.depth.forms line c.args.reader.now.tokens c.in-End.ensures.kind)
    (answers (ap (λ x. tail x) (sym (semicolon_seen _ line))))

pub cases::next_arm-returns-in_err-constants-in_default : goal.cases::next_arm-returns-in_err-constants-in_default
cases::next_arm-returns-in_err-constants-in_default t c =
    let n = c.args.depth.forms in
    let line = c.args.semicolon in
    returned (err_from_is_err_and _ c.from_residual.ensures.1)
    (goes_as (λ m. no_end_comes (statement m) m n line c.args.reader.now.tokens
    (λ e. c.in_default.not-End (c.kind.ensures.kind ∙ sym e)))
    (stops (λ m. behind_name m n line) c.in_err-constants-in_default.ensures))

pub cases::next_arm-returns-in_err-chosen-in-Some : goal.cases::next_arm-returns-in_err-chosen-in-Some
cases::next_arm-returns-in_err-chosen-in-Some t c =
    let n = c.args.depth.forms in
    let line = c.args.semicolon in
    let name = c.in-Some.line in
    let got = c.in_ok-constants-in_default.ensures in
    let ts = c.constants.new.reader.tokens in
    let there = subst (λ s. Some name ≡ others_before_colon (head ts).kind
    (separated_in (constant_in s) c.in_ok-constants-in_default.constants)) got.spellings c.in-Some.ensures in
    goes_as (λ m. no_end_comes (statement m) m n line c.args.reader.now.tokens
    (λ e. c.in_default.not-End (c.kind.ensures.kind ∙ sym e)))
    (goes_on (λ m. behind_name m n line) got (with_more {least = suc (length ts)} (omega (arith, got.shorter))
    (goes_as (λ m. others_come (statement m) m n line _ ts name there (fits_passed c.pass-colon.ensures))
    (with_more {least = length ts} (omega arith) (from_here (passed (λ m. behind_colon_of m n line name)
    c.pass-colon.ensures
    (stopped (λ m. behind_others line name c.pass-colon.result) c.from_residual-in_err-chosen-in-Some.result
    c.in_err-chosen-in-Some.ensures c.from_residual-in_err-chosen-in-Some.ensures.1)))))))

pub cases::next_arm-returns-in_ok-chosen-in-Some : goal.cases::next_arm-returns-in_ok-chosen-in-Some
cases::next_arm-returns-in_ok-chosen-in-Some t c =
    let n = c.args.depth.forms in
    let line = c.args.semicolon in
    let name = c.in-Some.line in
    let got = c.in_ok-constants-in_default.ensures in
    let ts = c.constants.new.reader.tokens in
    let there = subst (λ s. Some name ≡ others_before_colon (head ts).kind
    (separated_in (constant_in s) c.in_ok-constants-in_default.constants)) got.spellings c.in-Some.ensures in
    goes_as (λ m. no_end_comes (statement m) m n line c.args.reader.now.tokens
    (λ e. c.in_default.not-End (c.kind.ensures.kind ∙ sym e)))
    (goes_on (λ m. behind_name m n line) got (with_more {least = suc (length ts)} (omega (arith, got.shorter))
    (goes_as (λ m. others_come (statement m) m n line _ ts name there (fits_passed c.pass-colon.ensures))
    (with_more {least = length ts} (omega arith) (from_here (passed (λ m. behind_colon_of m n line name)
    c.pass-colon.ensures
    (and_then (λ m. behind_others line name c.pass-colon.result) c.in_ok-chosen-in-Some.ensures
    (and_then (λ m. tail_made line name c.pass-colon.result _) c.maybe-end.ensures
    (makes arm_in _ c.others.result c.others.ensures refl)))))))))

pub cases::next_arm-returns-in_err-element-in-None : goal.cases::next_arm-returns-in_err-element-in-None
cases::next_arm-returns-in_err-element-in-None t c =
    let n = c.args.depth.forms in
    let line = c.args.semicolon in
    let found = c.in_ok-constants-in_default.constants in
    let got = c.in_ok-constants-in_default.ensures in
    let there = subst (λ s. None ≡ others_before_colon (head c.constants.new.reader.tokens).kind
    (separated_in (constant_in s) found)) got.spellings c.in-None.ensures in
    returned (err_from_is_err_and _ c.from_residual-in_err-element-in-None.ensures.1)
    (goes_as (λ m. no_end_comes (statement m) m n line c.args.reader.now.tokens
    (λ e. c.in_default.not-End (c.kind.ensures.kind ∙ sym e)))
    (goes_on (λ m. behind_name m n line) got (with_more (omega (arith, got.shorter))
    (goes_as (λ m. element_comes (statement m) m n line _ c.constants.new.reader.tokens there)
    (stops (λ m. next_made) (element_read n found got.spellings c.in_err-element-in-None.ensures))))))

pub cases::next_arm-returns-in_ok-element-in-None : goal.cases::next_arm-returns-in_ok-element-in-None
cases::next_arm-returns-in_ok-element-in-None t c =
    let n = c.args.depth.forms in
    let line = c.args.semicolon in
    let found = c.in_ok-constants-in_default.constants in
    let got = c.in_ok-constants-in_default.ensures in
    let read_so = c.in_ok-element-in-None.ensures in
    let there = subst (λ s. None ≡ others_before_colon (head c.constants.new.reader.tokens).kind
    (separated_in (constant_in s) found)) got.spellings c.in-None.ensures in
    goes_as (λ m. no_end_comes (statement m) m n line c.args.reader.now.tokens
    (λ e. c.in_default.not-End (c.kind.ensures.kind ∙ sym e)))
    (goes_on (λ m. behind_name m n line) got (with_more (omega (arith, got.shorter))
    (goes_as (λ m. element_comes (statement m) m n line _ c.constants.new.reader.tokens there)
    (goes_on (λ m. next_made) (element_read n found got.spellings read_so)
    (answers (ap (λ s. one_more (an_element_in s c.in_ok-element-in-None.field-0)) (sym read_so.spellings)))))))

-- the elements, one after the other
abbrev arms_from : ℕ → ℕ → Element → Prog Arms
arms_from m n first = turns (behind_arm (statement m) m n) m (first_arm (statement m) m first)

abbrev behind_first : ℕ → ℕ → Separated Constant → Prog Arms
behind_first m n constants = bind (element m n constants) (arms_from m n)

abbrev alone : Element → Arms
alone found = record {
  elements = tree.first_element found.constants found.colon found.statement;
  others = tree.no_others;
}

arm_goes : (m n : ℕ) (elements : Elements) (ts : List Token) (line : ℕ) → k.Semicolon ≡ (head ts).kind
    → Fits (head ts).kind (head ts).payload → line ≡ (head ts).line
    → run (a_turn (behind_arm (statement m) m n) (record { elements = elements; others = tree.no_others })) ts
    ≡ run (skip (bind (next_arm m n line) (λ arm. done (with_arm elements line arm)))) ts
arm_goes m n elements ts line is fits same =
    told (λ kind payload line. turn_of (behind_arm_by (statement m) m n elements tree.no_others kind payload line))
    k.Semicolon ts line tt is fits same

pub cases::case_arms-returns-in_err-constants : goal.cases::case_arms-returns-in_err-constants
cases::case_arms-returns-in_err-constants t c =
    returned (err_from_is_err_and _ c.from_residual.ensures.1)
    (stops (λ m. behind_first m c.args.depth.forms) c.in_err-constants.ensures)

pub cases::case_arms-returns-in_err-first : goal.cases::case_arms-returns-in_err-first
cases::case_arms-returns-in_err-first t c =
    let n = c.args.depth.forms in
    let got = c.in_ok-constants.ensures in
    returned (err_from_is_err_and _ c.from_residual-in_err-first.ensures.1)
    (goes_on (λ m. behind_first m n) got (with_more (omega (arith, got.shorter))
    (stops (λ m. arms_from m n) (element_read n c.in_ok-constants.constants got.spellings c.in_err-first.ensures))))

pub cases::case_arms-more-init : goal.cases::case_arms-more-init
cases::case_arms-more-init t c =
    let n = c.args.depth.forms in
    let s = c.args.reader.now.spellings in
    let got = c.in_ok-constants.ensures in
    let start = (alone (an_element_in s c.in_ok-first.first)).elements in
    subst (λ xs. SoFar (λ m. arms m n) (λ m. behind_arm (statement m) m n) c.args.reader.now c.element.new.reader
    (record { elements = in_turn start (map (more_element_in s) xs); others = tree.no_others }))
    (sym c.new-more.ensures)
    (so_far_as (λ m. bind_bind (items_by constant m) (λ constants. element m n constants) (arms_from m n)
    c.args.reader.now.tokens)
    (begun_behind alone (goes_on (λ m constants. element m n constants) got (with_more (omega (arith, got.shorter))
    (element_read n c.in_ok-constants.constants got.spellings c.in_ok-first.ensures)))))

-- where the same place has another name
here : {A X : Type 0} {whole : ℕ → Prog A} {view : List ℕ → X → A} {old now new : Place} {result : Result X Stop}
    → now ≡ new → Parses whole view old result now → Parses whole view old result new
here {whole = whole} {view = view} {old = old} {result = result} is h =
    subst (λ place. Parses whole view old result place) is h

pub cases::case_arms-returns-in_err-arm-in-Some : goal.cases::case_arms-returns-in_err-arm-in-Some
cases::case_arms-returns-in_err-arm-in-Some t c =
    let n = c.args.depth.forms in
    let s = c.args.reader.now.spellings in
    let line = c.in-Some.line in
    let at = semicolon_there c.in-Some.ensures in
    let elements = in_turn (alone (an_element_in s c.in_ok-first.first)).elements (map (more_element_in s)
    c.more.more) in
    returned (err_from_is_err_and _ c.from_residual-in_err-arm-in-Some.ensures.1)
    (turn_stops {view = λ s x. with_arm elements line (arm_in s x)} c.more.invariant
    (goes_as (λ m. arm_goes m n elements c.more.reader.tokens line at.kind at.fits (line_of_head at.passes))
    (skips at.passes (omega arith)
    (stops (λ m arm. done (with_arm elements line arm)) c.in_err-arm-in-Some.ensures))))

pub cases::case_arms-returns-in-None : goal.cases::case_arms-returns-in-None
cases::case_arms-returns-in-None t c =
    let n = c.args.depth.forms in
    let s = c.args.reader.now.spellings in
    here (none_there c.in-None.ensures)
    (loop_ends c.more.invariant (λ m. none_ends (statement m) m n _ c.in-None.ensures)
    (λ i. record {
      elements = sym (elements_seen s (record { first = c.in_ok-first.first; more = c.more.more })) i;
      others = sym (nothing_seen s) i;
    }))

pub cases::case_arms-returns-in_err-push-in-Element : goal.cases::case_arms-returns-in_err-push-in-Element
cases::case_arms-returns-in_err-push-in-Element t c =
    let n = c.args.depth.forms in
    let s = c.args.reader.now.spellings in
    let line = c.in-Some.line in
    let at = semicolon_there c.in-Some.ensures in
    let elements = in_turn (alone (an_element_in s c.in_ok-first.first)).elements (map (more_element_in s)
    c.more.more) in
    returned (err_from_is_err_and _ c.from_residual-in_err-push-in-Element.ensures.1)
    (turn_stops {view = λ s x. with_arm elements line (arm_in s x)} c.more.invariant
    (goes_as (λ m. arm_goes m n elements c.more.reader.tokens line at.kind at.fits (line_of_head at.passes))
    (skips at.passes (omega arith)
    (goes_on (λ m arm. done (with_arm elements line arm)) c.in_ok-arm-in-Some.ensures no_memory))))

pub cases::case_arms-more-smaller : goal.cases::case_arms-more-smaller
cases::case_arms-more-smaller t c =
    let at = semicolon_there c.in-Some.ensures in
    let count : length c.more.reader.tokens ≡ suc (length c.maybe.new.self.tokens) = ap length at.passes.tokens in
    omega (arith, count, c.in_ok-arm-in-Some.ensures.shorter)

pub cases::case_arms-more-preserved : goal.cases::case_arms-more-preserved
cases::case_arms-more-preserved t c =
    let n = c.args.depth.forms in
    let s = c.args.reader.now.spellings in
    let line = c.in-Some.line in
    let at = semicolon_there c.in-Some.ensures in
    let start = (alone (an_element_in s c.in_ok-first.first)).elements in
    let elements = in_turn start (map (more_element_in s) c.more.more) in
    let found = c.in-Element.element in
    let got = subst (λ arm. Parses (λ m. next_arm m n line) arm_in c.maybe.new.self (Ok arm) c.next_arm.new.reader)
    c.in-Element.is c.in_ok-arm-in-Some.ensures in
    let one : in_turn start (map (more_element_in s) c.push.new.self)
    ≡ (with_arm elements line (one_more (an_element_in s found))).elements =
    pushed_in_turn start (more_element_in s) c.more.more _ _ c.in_ok-push-in-Element.ensures.ok
    ∙ ap (λ f. f elements) (more_element_seen s (record { line = line; element = found })) in
    let count : length c.more.reader.tokens ≡ suc (length c.maybe.new.self.tokens) = ap length at.passes.tokens in
    subst (λ elements. SoFar (λ m. arms m n) (λ m. behind_arm (statement m) m n) c.args.reader.now
    c.next_arm.new.reader
    (record { elements = elements; others = tree.no_others })) (sym one)
    (turned {view = λ s x. with_arm elements line (one_more (an_element_in s x))} {x = found} c.more.invariant
    (goes_as (λ m. arm_goes m n elements c.more.reader.tokens line at.kind at.fits (line_of_head at.passes))
    (skips at.passes (omega arith)
    (goes_on (λ m arm. done (with_arm elements line arm)) got
    (answers (ap (λ s. with_arm elements line (one_more (an_element_in s found))) (sym got.spellings))))))
    (omega (arith, count, got.shorter)))

pub cases::case_arms-returns-in-Others : goal.cases::case_arms-returns-in-Others
cases::case_arms-returns-in-Others t c =
    let n = c.args.depth.forms in
    let s = c.args.reader.now.spellings in
    let line = c.in-Some.line in
    let at = semicolon_there c.in-Some.ensures in
    let start = (alone (an_element_in s c.in_ok-first.first)).elements in
    let elements = in_turn start (map (more_element_in s) c.more.more) in
    let found = c.in-Others.others in
    let got = subst (λ arm. Parses (λ m. next_arm m n line) arm_in c.maybe.new.self (Ok arm) c.next_arm.new.reader)
    c.in-Others.is c.in_ok-arm-in-Some.ensures in
    let ts = c.maybe.new.self.tokens in
    let real = subst (λ s. IsReal (tail (others_in s found))) (at.passes.spellings ∙ c.more.invariant.spellings)
    (arm_there (statement (suc (length ts))) (suc (length ts)) n line _ ts _
    (got.gives (suc (length ts)) (omega arith))) in
    loop_ends
    (turned {view = λ s x. with_arm elements line (tail (others_in s x))} {x = found} c.more.invariant
    (goes_as (λ m. arm_goes m n elements c.more.reader.tokens line at.kind at.fits (line_of_head at.passes))
    (skips at.passes (omega arith)
    (goes_on (λ m arm. done (with_arm elements line arm)) got
    (answers (ap (λ s. with_arm elements line (tail (others_in s found))) (sym got.spellings))))))
    (omega (arith, ap length at.passes.tokens, got.shorter)))
    (λ m. real_ends (statement m) m n _ (others_in s found) _ _ _ real)
    (λ i. record {
      elements = sym (elements_seen s (record { first = c.in_ok-first.first; more = c.more.more })) i;
      others = others_in s found;
    })
