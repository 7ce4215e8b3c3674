use Rattle.std.proofs.Common.{◌≡◌, ◌∙◌, ◌<◌, ◌+◌, ◌-◌, ◌∷◌, ◌==◌, false, length, take, sym, ap, arith}
use Rattle.std.proofs.lemmas.List.{length-take-le}
use Rattle.std.proofs.lemmas.Bool.{eqb-false}
use Rattle.web_scan.specs.Pieces.{pascal_texts_at}
use Rattle.macro_expand.specs.Expansion.{replaced, token_removed, section}
use Rattle.macro_expand.specs.inner.Levels.{level_of, levels_of, list_of}
use Rattle.macro_expand.specs.inner.Places.{levels_at}
use Rattle.macro_expand.proofs.LevelsLemmas.{length-levels_of}
use Rattle.macro_expand.proofs.StackLemmas.{Answers-as, AreLevels-opened, replaced-as, IsLevel-section}
use Rattle.macro_expand.proofs.StackLemmas.{list_of-section, section_level, section-some}
use Rattle.macro_expand.proofs.stack.Stack.open_section.Goals as goal

-- the new level
pub open-requires-clause-levels : goal.open-requires-clause-levels
open-requires-clause-levels c =
    let items = c.args.self.now.frames.items in
    let lower = level_of c.args.top ∷ levels_of (take (length items - 1) items) in
    let long : length (levels_of (take (length items - 1) items)) ≡ length items - 1 =
    length-levels_of (take (length items - 1) items) ∙ length-take-le (length items - 1) items (omega arith) in
    let web = c.args.self.now.web.now in
    let number = c.place_of-place.result.level + 1 in
    let height : number ≡ length lower = omega (arith, c.place_of-place.ensures.level) in
    AreLevels-opened web number (section_level c.args.pieces.now number) (level_of c.of_pieces.result) lower
    (levels_at c.place_of-place.result items)
    c.of_pieces.ensures c.place_of-place.ensures.levels height
    (IsLevel-section web number c.args.pieces.now c.requires.pieces.within c.requires.pieces.texts)
    c.requires.levels

-- it gives the pieces
pub returns-clause-answers : goal.returns-clause-answers
returns-clause-answers c =
    let items = c.args.self.now.frames.items in
    let lower = level_of c.args.top ∷ levels_of (take (length items - 1) items) in
    let long : length (levels_of (take (length items - 1) items)) ≡ length items - 1 =
    length-levels_of (take (length items - 1) items) ∙ length-take-le (length items - 1) items (omega arith) in
    let tokens = c.args.self.now.web.now.tokens in
    let pieces = c.args.pieces.now in
    let number = c.place_of-place.result.level + 1 in
    let height : number ≡ length lower = omega (arith, c.place_of-place.ensures.level) in
    let empty : (length pieces == 0) ≡ false = sym c.is_empty.ensures ∙ c.if-is_empty.false in
    let some : 0 < length pieces = omega (arith, eqb-false (length pieces) 0 empty) in
    Answers-as (replaced c.place_of-place.result.steps (list_of tokens (level_of c.of_pieces.result ∷ levels_at
    c.place_of-place.result items)))
    (token_removed (c.args.self.now.steps - 1) (list_of tokens lower) (section (pascal_texts_at tokens pieces)))
    c.open.result c.open.new.self
    (section-some (c.args.self.now.steps - 1) (list_of tokens lower) tokens pieces some
    ∙ ap (replaced (c.args.self.now.steps - 1)) (sym (list_of-section tokens pieces number lower height))
    ∙ replaced-as tokens (c.args.self.now.steps - 1) c.place_of-place.result.steps (section_level pieces number)
    (level_of c.of_pieces.result) lower
    (levels_at c.place_of-place.result items) c.of_pieces.ensures c.place_of-place.ensures.levels
    c.place_of-place.ensures.steps)
    c.open.ensures.answers
