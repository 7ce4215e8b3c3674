use Rattle.std.proofs.Common.{ℕ, ◌<◌, ◌≤◌, length, sym, subst, rules}
use Rattle.std.proofs.lemmas.List.{length-map}
use Rattle.web2c_cli.specs.inner.Reading.{order_by}
use Rattle.web2c_cli.specs.inner.Running.{pascal_by}
use Rattle.web2c_cli.proofs.RunningLemmas.{too_few, play_halted, play_told, play_untold}
use Rattle.web2c_cli.proofs.running.run_pascal.Goals as goal

pub returns-then-len-file_count-clause-work : goal.returns-then-len-file_count-clause-work
returns-then-len-file_count-clause-work g c files =
    rw c.too_few_ports.ensures (too_few (order_by c.args.order.now) (pascal_by c.args.pascal.now) _
    (subst (λ (n : ℕ). n < length c.args.pascal.now.program.files) (sym (length-map _ _)) (search rules)))

pub returns-in_err-ending-clause-work : goal.returns-in_err-ending-clause-work
returns-in_err-ending-clause-work g c files =
    play_halted (order_by c.args.order.now) (pascal_by c.args.pascal.now) _ _ _ files _ _ _ c.steps-steps.ensures
    (subst (λ (n : ℕ). length c.args.pascal.now.program.files ≤ n) (sym (length-map _ _)) (search rules))
    c.from_residual.ensures.1 c.in_err-ending.ensures.work

pub returns-in_err-status-clause-work : goal.returns-in_err-status-clause-work
returns-in_err-status-clause-work g c files =
    play_untold (order_by c.args.order.now) (pascal_by c.args.pascal.now) _ _ _ _ files _ _ _ _ c.steps-steps.ensures
    (subst (λ (n : ℕ). length c.args.pascal.now.program.files ≤ n) (sym (length-map _ _)) (search rules))
    c.in_ok-ending.ensures.work c.in_err-status.ensures.work c.from_residual-in_err-status.ensures.1

pub returns-clause-work : goal.returns-clause-work
returns-clause-work g c files =
    play_told (order_by c.args.order.now) (pascal_by c.args.pascal.now) _ _ _ files _ _ _ _ c.steps-steps.ensures
    (subst (λ (n : ℕ). length c.args.pascal.now.program.files ≤ n) (sym (length-map _ _)) (search rules))
    c.in_ok-ending.ensures.work c.in_ok-status.ensures.work
