use Rattle.std.proofs.Common.{◌∙◌, ap, length, unwrap_or, rules, tests}
use Rattle.std.proofs.lemmas.Iterator.{YieldsList-from_slice}
use Rattle.std.proofs.lemmas.Iterator.Search.{position_from_yields_List}
use Rattle.wb_base.specs.Pieces.{ends_line}
use Rattle.wb_base.proofs.PiecesLemmas.{position_or_len-found}
use Rattle.web_pool.proofs.pool_lines.length_to_line_end.Goals as goal

pub returns-clause-value : goal.returns-clause-value
returns-clause-value c =
    let found = position_from_yields_List ends_line _ _ c.position.result c.position.ensures.ran
    (YieldsList-from_slice c.args.text.now cc) (λ x b q k. search (rules, tests)) in
    c.unwrap_or.ensures ∙ ap (λ r. unwrap_or r (length c.args.text.now)) found
    ∙ position_or_len-found ends_line c.args.text.now
