use Rattle.std.proofs.Common.{◌∙◌, refl, sym, ap, arith, rules, ℕ, Some}
use Rattle.std.proofs.lemmas.Result.{err_from_is_err_and}
use Rattle.pas_tokens.specs.declared.kinds.Kind.TheVariants as k
use Rattle.pas_syntax.specs.declared.tree.Plain.TheVariants as code_plain
use Rattle.pas_syntax.specs.Tree as tree
use Rattle.pas_syntax.specs.Tree.{Ident, Plain, Arguments}
use Rattle.pas_syntax.specs.ProgramViews.{plain_in}
use Rattle.pas_syntax.specs.inner.Prog.{Prog, done, look, run}
use Rattle.pas_syntax.specs.inner.Readers.{ident}
use Rattle.pas_syntax.specs.inner.StatementReaders.{arguments_by, behind_statement_name, with_line}
use Rattle.pas_syntax.proofs.PlaceLemmas.{returned, stops, any_turns, still_stops, kept_no_memory, seen_as}
use Rattle.pas_syntax.proofs.PlaceSteps.{from_here, then_in, comes, goes_from, stopped, makes}
use Rattle.pas_syntax.proofs.StatementSeen.{assignment_seen}
use Rattle.pas_syntax.proofs.StatementSteps.{assigned, no_more_comes}
use Rattle.pas_syntax.proofs.statements.named_statement.Goals as goal

-- what is read behind the name, and behind the arguments
abbrev behind_name : ℕ → ℕ → Ident → Prog Plain
behind_name m n name = look (behind_statement_name m n name)

abbrev call_made : Ident → Arguments → Prog Plain
call_made name arguments = done (tree.procedure_call name (Some arguments))

pub returns-in_err-name : goal.returns-in_err-name
returns-in_err-name c =
    returned (err_from_is_err_and _ c.from_residual.ensures.1)
    (stops (λ m. behind_name m c.args.depth.forms) (any_turns ident c.in_err-name.ensures))

pub returns-in_err-arguments-in-LeftParenthesis : goal.returns-in_err-arguments-in-LeftParenthesis
returns-in_err-arguments-in-LeftParenthesis c =
    let n = c.args.depth.forms in
    from_here (then_in (λ m. behind_name m n) c.in_ok-name.ensures.shorter (any_turns ident c.in_ok-name.ensures)
    (comes (λ m. behind_statement_name m n _) k.LeftParenthesis tt c.in-LeftParenthesis.ensures.kind
    c.in-LeftParenthesis.ensures.fits
    (stopped {p = λ m. with_line (arguments_by m n)} (λ m. call_made _)
    c.from_residual-in_err-arguments-in-LeftParenthesis.result c.in_err-arguments-in-LeftParenthesis.ensures
    c.from_residual-in_err-arguments-in-LeftParenthesis.ensures.1)))

pub returns-in_ok-arguments-in-LeftParenthesis : goal.returns-in_ok-arguments-in-LeftParenthesis
returns-in_ok-arguments-in-LeftParenthesis c =
    let n = c.args.depth.forms in
    from_here (then_in (λ m. behind_name m n) c.in_ok-name.ensures.shorter (any_turns ident c.in_ok-name.ensures)
    (comes (λ m. behind_statement_name m n _) k.LeftParenthesis tt c.in-LeftParenthesis.ensures.kind
    c.in-LeftParenthesis.ensures.fits
    (then_in {p = λ m. with_line (arguments_by m n)} (λ m. call_made _) (omega arith)
    c.in_ok-arguments-in-LeftParenthesis.ensures
    (makes plain_in {least = 0} _ c.called.result c.called.ensures refl))))

pub returns-in_err-assignment-in-LeftBracket : goal.returns-in_err-assignment-in-LeftBracket
returns-in_err-assignment-in-LeftBracket c =
    returned (err_from_is_err_and _ c.from_residual-in_err-assignment-in-LeftBracket.ensures.1)
    (assigned c.args.depth.forms c.in_ok-name.ensures (search rules)
    (still_stops c.in_err-assignment-in-LeftBracket.ensures))

pub returns-in_err-new-in-LeftBracket : goal.returns-in_err-new-in-LeftBracket
returns-in_err-new-in-LeftBracket c =
    returned (err_from_is_err_and _ c.from_residual-in_err-new-in-LeftBracket.ensures.1)
    (assigned c.args.depth.forms c.in_ok-name.ensures (search rules)
    (kept_no_memory c.in_ok-assignment-in-LeftBracket.ensures))

pub returns-in_ok-new-in-LeftBracket : goal.returns-in_ok-new-in-LeftBracket
returns-in_ok-new-in-LeftBracket c =
    let found = c.in_ok-assignment-in-LeftBracket.assignment in
    assigned c.args.depth.forms c.in_ok-name.ensures (search rules)
    (seen_as (λ s. sym (ap (λ x. plain_in s (code_plain.Assignment x)) c.in_ok-new-in-LeftBracket.ensures
    ∙ assignment_seen s found)) c.in_ok-assignment-in-LeftBracket.ensures)

pub returns-in_default : goal.returns-in_default
returns-in_default c =
    let n = c.args.depth.forms in
    let not = c.in_default in
    let is = c.kind.ensures.kind in
    from_here (then_in (λ m. behind_name m n) (omega arith) (any_turns ident c.in_ok-name.ensures)
    (goes_from (λ m. ap (λ q. run q c.ident.new.self.tokens) (no_more_comes m n _ _ _ _
    (λ e. not.not-LeftParenthesis (is ∙ sym e)) (λ e. not.not-LeftBracket (is ∙ sym e))
    (λ e. not.not-Dot (is ∙ sym e)) (λ e. not.not-Caret (is ∙ sym e)) (λ e. not.not-Becomes (is ∙ sym e))))
    (makes plain_in {least = 0} _ c.called-in_default.result c.called-in_default.ensures refl)))
