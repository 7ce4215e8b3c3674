use Rattle.std.proofs.Common.{◌∙◌, ◌∷◌, ◌++◌, [], ap, refl}
use Rattle.macro_expand.specs.Flat.{nothing, ends, pieces_before}
use Rattle.macro_expand.specs.inner.Levels.{list_of}
use Rattle.macro_expand.proofs.StackLemmas.{levels_of-put, list_of-section}
use Rattle.macro_expand.proofs.stack.Stack.new.Goals as goal

-- the pieces of the unnamed section
pub returns-clause-list : goal.returns-clause-list
returns-clause-list c =
    let tokens = c.args.web.now.tokens in
    ap (list_of tokens) (levels_of-put [] c.of_pieces.result c.push.new.self.items
    (c.push.ensures.items ∙ ap (λ items. items ++ c.of_pieces.result ∷ []) c.new-frames.ensures))
    ∙ ap (λ level. list_of tokens (level ∷ [])) c.of_pieces.ensures
    ∙ list_of-section tokens c.unnamed.result.now 0 [] refl
    ∙ ap (λ texts. pieces_before texts (ends nothing)) c.unnamed.ensures.texts
