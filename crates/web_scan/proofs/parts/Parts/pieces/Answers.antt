use Rattle.std.proofs.Common.{◌≡◌, ◌∙◌, ◌<◌, ◌≤◌, length, get_or, ap, rules}
use Rattle.std.proofs.lemmas.Option.{slice_get_read, slice_get_past}
use Rattle.web_scan.specs.Pieces.{pascal_texts_at}
use Rattle.web_scan.proofs.UnderLemmas.{texts_under-Some, texts_under-None}
use Rattle.web_scan.proofs.parts.Parts.pieces.Goals as goal

pub returns-in-Some-clause-texts : goal.returns-in-Some-clause-texts
returns-in-Some-clause-texts c =
    let named = c.self.inside.named.items in
    let tokens = c.self.inside.tokens.items in
    let found = c.in-Some.pieces.now in
    let within : c.args.section < length named = search rules in
    let there : found ≡ get_or named c.args.section found = search rules in
    rw (← c.self.view_is) (
    ap (pascal_texts_at tokens) c.deref-in-Some.ensures.value
    ∙ texts_under-Some c.args.section tokens named found (search (rules, slice_get_read)))

pub returns-in-None-clause-texts : goal.returns-in-None-clause-texts
returns-in-None-clause-texts c =
    let named = c.self.inside.named.items in
    let past : length named ≤ c.args.section = search rules in
    rw (← c.self.view_is) (texts_under-None c.args.section c.self.inside.tokens.items named (slice_get_past _ _ past))
