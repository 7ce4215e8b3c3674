use Rattle.std.proofs.Common.{◌∙◌, ◌-◌, ◌∷◌, List, length, take, sym, ap}
use Rattle.wb_base.specs.declared.tokens.Tok.{Tok}
use Rattle.macro_expand.specs.Expansion.{replaced, token_removed, meaning}
use Rattle.macro_expand.specs.Flat.{nothing, ends, text_before}
use Rattle.macro_expand.specs.inner.Levels.{level_of, levels_of, list_of, argument_of}
use Rattle.macro_expand.specs.inner.Places.{levels_at}
use Rattle.macro_expand.proofs.StackLemmas.{Answers-as}
use Rattle.macro_expand.proofs.stack.Stack.remove_token.Goals as goal

-- the text of a simple macro, without an argument
pub returns-in-Simple-clause-answers : goal.returns-in-Simple-clause-answers
returns-in-Simple-clause-answers c =
    let items = c.args.self.now.frames.items in
    let lower = level_of c.args.top ∷ levels_of (take (length items - 1) items) in
    let at = levels_at c.place_of.result items in
    let tokens = c.args.self.now.web.now.tokens in
    let steps = c.args.self.now.steps - 1 in
    let text = c.in-Simple.text.now in
    let none = c.default.result in
    Answers-as (replaced c.place_of.result.steps (text_before (text_before (argument_of at none.environment)
    none.text.now nothing) text
    (ends (list_of tokens at))))
    (token_removed steps (list_of tokens lower) (meaning c.args.self.now.web.now c.args.token.now))
    c.open_text.result c.open_text.new.self
    (ap (token_removed steps (list_of tokens lower)) (sym c.in-Simple.ensures.means)
    ∙ ap (λ (argument : List Tok). replaced steps (text_before (text_before (argument_of at none.environment)
    argument nothing) text
    (ends (list_of tokens lower)))) (sym c.default.ensures.0)
    ∙ ap (λ levels. replaced steps (text_before (text_before (argument_of at none.environment) none.text.now
    nothing) text
    (ends (list_of tokens levels)))) (sym c.place_of.ensures.levels)
    ∙ ap (λ steps. replaced steps (text_before (text_before (argument_of at none.environment) none.text.now
    nothing) text
    (ends (list_of tokens at)))) (sym c.place_of.ensures.steps))
    c.open_text.ensures.answers
