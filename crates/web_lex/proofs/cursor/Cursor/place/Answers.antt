use Rattle.std.proofs.Common.{ap, sym, ◌∙◌, ◌+◌, drop}
use Rattle.web_lex.proofs.TextLemmas.{text_from-at, place_of-raw}
use Rattle.web_lex.specs.Raw.{place_of, raw_text}
use Rattle.web_lex.proofs.cursor.Cursor.place.Goals as goal

pub returns-then-self-count : goal.returns-then-self-count
returns-then-self-count c =
    let inside = c.self.inside in
    let rest = ap (λ ahead. ahead.rest) c.self.view_is in
    let at = text_from-at inside.lines.now inside.index inside.line.now c.place.result c.place.ensures in
    sym (ap (place_of c.args.self.now.end) (sym rest ∙ at)
    ∙ place_of-raw c.args.self.now.end c.place.result inside.line.now
    (raw_text (drop (inside.index + 1) inside.lines.now)))
