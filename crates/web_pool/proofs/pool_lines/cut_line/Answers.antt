use Rattle.std.proofs.Common.{◌≡◌, ◌<◌, ◌+◌, length, drop, sym, ap, ◌∙◌, arith}
use Rattle.std.proofs.lemmas.Bool.Decides.{nat_tests}
use Rattle.std.proofs.lemmas.List.{drop_all}
use Rattle.web_pool.proofs.PoolLinesLemmas.{pieces_of-cut}
use Rattle.web_pool.proofs.pool_lines.cut_line.Goals as goal
use Rattle.web_pool.proofs.pool_lines.cut_line.Goals.{then-end-text, else-end-text}

-- what follows the first line, with or without a byte 10 between them
pub returns-clause-pieces : goal.returns-clause-pieces
returns-clause-pieces c =
    let some : 0 < length c.args.text.now = grind (arith, nat_tests) in
    let rest : drop c.if-end-text.after c.args.text.now ≡ drop (c.length_to_line_end-end.result + 1) c.args.text.now =
    elim c.if-end-text.branch [
      | then-end-text w ↦ ap (λ n. drop n c.args.text.now) w.after-is
      | else-end-text w ↦
          drop_all c.if-end-text.after c.args.text.now (omega arith)
          ∙ sym (drop_all (c.length_to_line_end-end.result + 1) c.args.text.now (omega arith))
    ] in
    pieces_of-cut _ _ _ some c.length_to_line_end-end.ensures.value rest
