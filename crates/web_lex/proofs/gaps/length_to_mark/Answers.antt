use Rattle.std.proofs.Common.{◌∙◌, ap, length, unwrap_or, rules, tests}
use Rattle.std.proofs.lemmas.Iterator.{YieldsList-from_slice}
use Rattle.std.proofs.lemmas.Iterator.Search.{position_from_yields_List}
use Rattle.wb_base.proofs.PiecesLemmas.{position_or_len-found}
use Rattle.web_lex.specs.inner.Ahead.{matters_in_comment}
use Rattle.web_lex.proofs.gaps.length_to_mark.Goals as goal

pub returns-clause-value : goal.returns-clause-value
returns-clause-value c =
    let found = position_from_yields_List matters_in_comment _ _ c.position.result c.position.ensures.ran
    (YieldsList-from_slice c.args.bytes.now cc) (λ x b q k. search (rules, tests)) in
    c.unwrap_or.ensures ∙ ap (λ r. unwrap_or r (length c.args.bytes.now)) found
    ∙ position_or_len-found matters_in_comment c.args.bytes.now
