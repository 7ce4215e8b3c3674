use Rattle.std.proofs.Common.{◌≡◌, ◌+◌, ◌-◌, true, false, nat_lt, sym, ap, ◌∙◌, arith}
use Rattle.std.proofs.lemmas.Bool.Decides.{nat_tests}
use Rattle.wb_base.specs.FaultAt.{fault_at, limit_passed}
use Rattle.wb_base.specs.declared.faults.TheConstants.{BAD_LAST_LINE, LIMIT_STRINGS}
use Rattle.web_pool.specs.PoolLines.{fails_at}
use Rattle.web_pool.specs.declared.pool.TheConstants.{FIRST_NUMBER, LAST_NUMBER}
use Rattle.web_pool.proofs.PoolLinesLemmas.{read_from-last, read_from-bad_last, read_from-fault, read_from-full}
use Rattle.web_pool.proofs.PoolLinesLemmas.{read_from-string}
use Rattle.web_pool.proofs.pool_lines.read_line.Goals as goal

pub returns-then-has_nine_digits-clause-string : goal.returns-then-has_nine_digits-clause-string
returns-then-has_nine_digits-clause-string c = λ lines.
    read_from-last _ _ _ lines (sym c.in-Some.ensures) (sym c.has_nine_digits.ensures ∙ c.if-has_nine_digits.true)

pub returns-in-Some-clause-fault : goal.returns-in-Some-clause-fault
returns-in-Some-clause-fault c = λ lines.
    read_from-bad_last _ _ _ lines (sym c.in-Some.ensures) (sym c.has_nine_digits.ensures ∙ c.if-has_nine_digits.false)
    ∙ ap fails_at (sym (c.at.ensures ∙ ap (fault_at BAD_LAST_LINE) c.pool_place.ensures))

pub returns-in-Err-clause-fault : goal.returns-in-Err-clause-fault
returns-in-Err-clause-fault c = λ lines.
    read_from-fault _ _ _ lines (sym c.in_default.ensures) c.in-Err.ensures.string
    ∙ ap fails_at (sym (c.at-in-Err.ensures ∙ ap (fault_at c.in-Err.code) c.pool_place-in-Err.ensures))

pub returns-in-Ok-clause-fault : goal.returns-in-Ok-clause-fault
returns-in-Ok-clause-fault c = λ lines.
    let full : nat_lt LAST_NUMBER (FIRST_NUMBER + (c.args.line - 1)) ≡ true = grind (arith, nat_tests) in
    read_from-full _ _ _ lines (sym c.in_default.ensures) c.in-Ok.ensures.string full
    ∙ ap fails_at (sym (c.limit.ensures ∙ ap (limit_passed LIMIT_STRINGS) c.pool_place-in-Ok.ensures))

pub returns-in-Ok-2-clause-string : goal.returns-in-Ok-2-clause-string
returns-in-Ok-2-clause-string c = λ lines.
    let room : nat_lt LAST_NUMBER (FIRST_NUMBER + (c.args.line - 1)) ≡ false = grind (arith, nat_tests) in
    read_from-string _ _ _ lines (sym c.in_default.ensures) c.in-Ok.ensures.string room
