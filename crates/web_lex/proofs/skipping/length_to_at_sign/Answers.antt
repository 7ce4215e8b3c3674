use Rattle.std.proofs.Common.{◌∙◌, ap, length, unwrap_or, rules, tests}
use Rattle.std.proofs.lemmas.Iterator.{YieldsList-from_slice}
use Rattle.std.proofs.lemmas.Iterator.Search.{position_from_yields_List}
use Rattle.wb_base.proofs.PiecesLemmas.{position_or_len-found}
use Rattle.web_lex.specs.inner.Ahead.{is_at_sign}
use Rattle.web_lex.proofs.skipping.length_to_at_sign.Goals as goal

pub returns-clause-value : goal.returns-clause-value
returns-clause-value c =
    let found = position_from_yields_List is_at_sign _ _ c.position.result c.position.ensures.ran
    (YieldsList-from_slice c.args.bytes.now cc) (λ x b q k. search (rules, tests)) in
    c.unwrap_or.ensures ∙ ap (λ r. unwrap_or r (length c.args.bytes.now)) found
    ∙ position_or_len-found is_at_sign c.args.bytes.now
