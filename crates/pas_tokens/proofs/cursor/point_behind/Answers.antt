use Rattle.std.proofs.Common.{◌≡◌, ◌∙◌, ap, arith, count_by, drop, take, ◌+◌, ◌-◌}
use Rattle.wb_base.specs.Pieces.{ends_line}
use Rattle.pas_tokens.proofs.LineLemmas.{line-behind}
use Rattle.pas_tokens.proofs.cursor.point_behind.Goals as goal

pub returns-clause-place : goal.returns-clause-place
returns-clause-place c =
    let size : (c.args.point.before + c.args.size) - c.args.point.before ≡ c.args.size = omega arith in
    let size_is = ap (λ n. count_by ends_line (take n (drop c.args.point.before c.args.text.now))) size in record {
      short = c.requires.place.short;
      within = c.requires.within;
      line = line-behind c.args.text.now c.args.point.before c.args.size c.args.point.line c.line_ends.result
          c.requires.place.line (c.line_ends.ensures.value ∙ size_is);
    }
