use Rattle.std.proofs.Common.{◌≡◌, ◌∙◌, ◌<◌, ◌-◌, ◌∷◌, None, Some, length, take, get_or, sym, ap, subst, arith}
use Rattle.macro_expand.proofs.LevelsLemmas.{no_frame}
use Rattle.macro_expand.specs.declared.frames.Head.{Head}
use Rattle.macro_expand.specs.Expansion.{removal, token_removed, replaced, meaning}
use Rattle.macro_expand.specs.Flat.{token, opens, closes, ends, argument, followed_by}
use Rattle.macro_expand.specs.Items as item
use Rattle.macro_expand.specs.inner.Answers.{list_left}
use Rattle.macro_expand.specs.inner.Heads.{Splits, IsHeadOf}
use Rattle.macro_expand.specs.inner.Levels.{level_of, levels_of, list_of, argument_of, AreLevels}
use Rattle.macro_expand.proofs.ExpansionLemmas.{removal-none}
use Rattle.macro_expand.proofs.StackLemmas.{topmost, removal-of, AreLevels-as, Answers-as, gives-as}
use Rattle.macro_expand.proofs.stack.Stack.remove_head.Goals as goal

-- no step is left
pub returns-then-self-eq0-clause-answers : goal.returns-then-self-eq0-clause-answers
returns-then-self-eq0-clause-answers c =
    ap (λ steps. removal c.args.self.now.web.now steps (list_left c.args.self.now)) c.if-self-eq0.true
    ∙ removal-none c.args.self.now.web.now (list_left c.args.self.now)

-- the topmost level is one of the web, and so is the level behind its head
pub split_head-requires : goal.split_head-requires
split_head-requires c =
    let items = c.args.self.now.frames.items in
    let web = c.args.self.now.web.now in
    let top = level_of (get_or c.deref.result.now (c.len-last.result - 1) no_frame) in
    let lower = levels_of (take (length items - 1) items) in
    let parts : levels_of items ≡ top ∷ lower =
    topmost items c.deref.result.now no_frame c.len-last.result c.deref.ensures.0 c.len-last.ensures.value
    c.requires.some in
    let here : AreLevels web (top ∷ lower) = AreLevels-as web (top ∷ lower) (levels_of items) (sym parts)
    c.requires.sound.levels in
    here.0.within

pub remove_token-requires-clause-levels : goal.remove_token-requires-clause-levels
remove_token-requires-clause-levels c =
    let items = c.args.self.now.frames.items in
    let web = c.args.self.now.web.now in
    let top = level_of (get_or c.deref.result.now (c.len-last.result - 1) no_frame) in
    let lower = levels_of (take (length items - 1) items) in
    let parts : levels_of items ≡ top ∷ lower =
    topmost items c.deref.result.now no_frame c.len-last.result c.deref.ensures.0 c.len-last.ensures.value
    c.requires.some in
    let here : AreLevels web (top ∷ lower) = AreLevels-as web (top ∷ lower) (levels_of items) (sym parts)
    c.requires.sound.levels in
    let kept = c.split_head.ensures.kept (length lower) here.0 in
    (kept.0, here.1)

pub open_argument-requires-clause-levels : goal.open_argument-requires-clause-levels
open_argument-requires-clause-levels c =
    let items = c.args.self.now.frames.items in
    let web = c.args.self.now.web.now in
    let top = level_of (get_or c.deref.result.now (c.len-last.result - 1) no_frame) in
    let lower = levels_of (take (length items - 1) items) in
    let parts : levels_of items ≡ top ∷ lower =
    topmost items c.deref.result.now no_frame c.len-last.result c.deref.ensures.0 c.len-last.ensures.value
    c.requires.some in
    let here : AreLevels web (top ∷ lower) = AreLevels-as web (top ∷ lower) (levels_of items) (sym parts)
    c.requires.sound.levels in
    let kept = c.split_head.ensures.kept (length lower) here.0 in
    (kept.0, here.1)

pub put-requires-clause-levels : goal.put-requires-clause-levels
put-requires-clause-levels c =
    let items = c.args.self.now.frames.items in
    let web = c.args.self.now.web.now in
    let top = level_of (get_or c.deref.result.now (c.len-last.result - 1) no_frame) in
    let lower = levels_of (take (length items - 1) items) in
    let parts : levels_of items ≡ top ∷ lower =
    topmost items c.deref.result.now no_frame c.len-last.result c.deref.ensures.0 c.len-last.ensures.value
    c.requires.some in
    let here : AreLevels web (top ∷ lower) = AreLevels-as web (top ∷ lower) (levels_of items) (sym parts)
    c.requires.sound.levels in
    let kept = c.split_head.ensures.kept (length lower) here.0 in
    (kept.0, here.1)

pub put-requires-in-Close-clause-levels : goal.put-requires-in-Close-clause-levels
put-requires-in-Close-clause-levels c =
    let items = c.args.self.now.frames.items in
    let web = c.args.self.now.web.now in
    let top = level_of (get_or c.deref.result.now (c.len-last.result - 1) no_frame) in
    let lower = levels_of (take (length items - 1) items) in
    let parts : levels_of items ≡ top ∷ lower =
    topmost items c.deref.result.now no_frame c.len-last.result c.deref.ensures.0 c.len-last.ensures.value
    c.requires.some in
    let here : AreLevels web (top ∷ lower) = AreLevels-as web (top ∷ lower) (levels_of items) (sym parts)
    c.requires.sound.levels in
    let kept = c.split_head.ensures.kept (length lower) here.0 in
    (kept.0, here.1)

pub remove_token-requires-clause-token : goal.remove_token-requires-clause-token
remove_token-requires-clause-token c =
    let items = c.args.self.now.frames.items in
    let web = c.args.self.now.web.now in
    let top = level_of (get_or c.deref.result.now (c.len-last.result - 1) no_frame) in
    let lower = levels_of (take (length items - 1) items) in
    let parts : levels_of items ≡ top ∷ lower =
    topmost items c.deref.result.now no_frame c.len-last.result c.deref.ensures.0 c.len-last.ensures.value
    c.requires.some in
    let here : AreLevels web (top ∷ lower) = AreLevels-as web (top ∷ lower) (levels_of items) (sym parts)
    c.requires.sound.levels in
    let kept = c.split_head.ensures.kept (length lower) here.0 in
    subst (IsHeadOf web) c.in-Token.is kept.1

-- a token
pub returns-in-Token-clause-answers : goal.returns-in-Token-clause-answers
returns-in-Token-clause-answers c =
    let items = c.args.self.now.frames.items in
    let web = c.args.self.now.web.now in
    let top = level_of (get_or c.deref.result.now (c.len-last.result - 1) no_frame) in
    let lower = levels_of (take (length items - 1) items) in
    let parts : levels_of items ≡ top ∷ lower =
    topmost items c.deref.result.now no_frame c.len-last.result c.deref.ensures.0 c.len-last.ensures.value
    c.requires.some in
    let here : AreLevels web (top ∷ lower) = AreLevels-as web (top ∷ lower) (levels_of items) (sym parts)
    c.requires.sound.levels in
    let new = level_of c.split_head.result.1 in
    let steps = c.args.self.now.steps in
    let some : 0 < steps = omega (arith, c.if-self-eq0.false) in
    let split : list_of web.tokens (top ∷ lower) ≡ token c.in-Token.token.now (list_of web.tokens (new ∷ lower)) =
    subst (λ (h : Head). Splits web.tokens lower top h new) c.in-Token.is (c.split_head.ensures.split lower) in
    Answers-as (token_removed (steps - 1) (list_of web.tokens (new ∷ lower)) (meaning web c.in-Token.token.now))
    (removal web steps (list_left c.args.self.now)) c.remove_token.result c.remove_token.new.self
    (removal-of web steps items (top ∷ lower) (token c.in-Token.token.now (list_of web.tokens (new ∷ lower))) some
    parts split)
    c.remove_token.ensures.answers

-- a parameter
pub returns-in-Parameter-clause-answers : goal.returns-in-Parameter-clause-answers
returns-in-Parameter-clause-answers c =
    let items = c.args.self.now.frames.items in
    let web = c.args.self.now.web.now in
    let top = level_of (get_or c.deref.result.now (c.len-last.result - 1) no_frame) in
    let lower = levels_of (take (length items - 1) items) in
    let parts : levels_of items ≡ top ∷ lower =
    topmost items c.deref.result.now no_frame c.len-last.result c.deref.ensures.0 c.len-last.ensures.value
    c.requires.some in
    let here : AreLevels web (top ∷ lower) = AreLevels-as web (top ∷ lower) (levels_of items) (sym parts)
    c.requires.sound.levels in
    let new = level_of c.split_head.result.1 in
    let steps = c.args.self.now.steps in
    let some : 0 < steps = omega (arith, c.if-self-eq0.false) in
    let given = argument_of (new ∷ lower) new.environment in
    let split : list_of web.tokens (top ∷ lower) ≡ argument given (list_of web.tokens (new ∷ lower)) =
    subst (λ (h : Head). Splits web.tokens lower top h new) c.in-Parameter.is (c.split_head.ensures.split lower) in
    Answers-as (replaced (steps - 1) (followed_by given (ends (list_of web.tokens (new ∷ lower)))))
    (removal web steps (list_left c.args.self.now)) c.open_argument.result c.open_argument.new.self
    (removal-of web steps items (top ∷ lower) (argument given (list_of web.tokens (new ∷ lower))) some parts split)
    c.open_argument.ensures.answers

pub returns-in-Open-clause-answers : goal.returns-in-Open-clause-answers
returns-in-Open-clause-answers c =
    let items = c.args.self.now.frames.items in
    let web = c.args.self.now.web.now in
    let top = level_of (get_or c.deref.result.now (c.len-last.result - 1) no_frame) in
    let lower = levels_of (take (length items - 1) items) in
    let parts : levels_of items ≡ top ∷ lower =
    topmost items c.deref.result.now no_frame c.len-last.result c.deref.ensures.0 c.len-last.ensures.value
    c.requires.some in
    let here : AreLevels web (top ∷ lower) = AreLevels-as web (top ∷ lower) (levels_of items) (sym parts)
    c.requires.sound.levels in
    let new = level_of c.split_head.result.1 in
    let steps = c.args.self.now.steps in
    let some : 0 < steps = omega (arith, c.if-self-eq0.false) in
    let split : list_of web.tokens (top ∷ lower) ≡ opens c.in-Open.number (list_of web.tokens (new ∷ lower)) =
    subst (λ (h : Head). Splits web.tokens lower top h new) c.in-Open.is (c.split_head.ensures.split lower) in
    removal-of web steps items (top ∷ lower) (opens c.in-Open.number (list_of web.tokens (new ∷ lower))) some parts
    split
    ∙ gives-as (Some (item.opens c.in-Open.number)) (steps - 1) c.put.new.self.steps (list_of web.tokens (new ∷
    lower)) (list_left c.put.new.self)
    c.put.ensures.steps c.put.ensures.list

pub returns-in-Close-clause-answers : goal.returns-in-Close-clause-answers
returns-in-Close-clause-answers c =
    let items = c.args.self.now.frames.items in
    let web = c.args.self.now.web.now in
    let top = level_of (get_or c.deref.result.now (c.len-last.result - 1) no_frame) in
    let lower = levels_of (take (length items - 1) items) in
    let parts : levels_of items ≡ top ∷ lower =
    topmost items c.deref.result.now no_frame c.len-last.result c.deref.ensures.0 c.len-last.ensures.value
    c.requires.some in
    let here : AreLevels web (top ∷ lower) = AreLevels-as web (top ∷ lower) (levels_of items) (sym parts)
    c.requires.sound.levels in
    let new = level_of c.split_head.result.1 in
    let steps = c.args.self.now.steps in
    let some : 0 < steps = omega (arith, c.if-self-eq0.false) in
    let split : list_of web.tokens (top ∷ lower) ≡ closes c.in-Close.number (list_of web.tokens (new ∷ lower)) =
    subst (λ (h : Head). Splits web.tokens lower top h new) c.in-Close.is (c.split_head.ensures.split lower) in
    removal-of web steps items (top ∷ lower) (closes c.in-Close.number (list_of web.tokens (new ∷ lower))) some
    parts split
    ∙ gives-as (Some (item.closes c.in-Close.number)) (steps - 1) c.put-in-Close.new.self.steps (list_of web.tokens
    (new ∷ lower)) (list_left c.put-in-Close.new.self)
    c.put-in-Close.ensures.steps c.put-in-Close.ensures.list

-- the end of the level
pub returns-in-End-clause-answers : goal.returns-in-End-clause-answers
returns-in-End-clause-answers c =
    let items = c.args.self.now.frames.items in
    let web = c.args.self.now.web.now in
    let top = level_of (get_or c.deref.result.now (c.len-last.result - 1) no_frame) in
    let lower = levels_of (take (length items - 1) items) in
    let parts : levels_of items ≡ top ∷ lower =
    topmost items c.deref.result.now no_frame c.len-last.result c.deref.ensures.0 c.len-last.ensures.value
    c.requires.some in
    let here : AreLevels web (top ∷ lower) = AreLevels-as web (top ∷ lower) (levels_of items) (sym parts)
    c.requires.sound.levels in
    let new = level_of c.split_head.result.1 in
    let steps = c.args.self.now.steps in
    let some : 0 < steps = omega (arith, c.if-self-eq0.false) in
    let split : list_of web.tokens (top ∷ lower) ≡ ends (list_of web.tokens lower) =
    subst (λ (h : Head). Splits web.tokens lower top h new) c.in-End.is (c.split_head.ensures.split lower) in
    removal-of web steps items (top ∷ lower) (ends (list_of web.tokens lower)) some parts split
    ∙ gives-as None (steps - 1) c.end_level.new.self.steps (list_of web.tokens lower) (list_left
    c.end_level.new.self)
    c.end_level.ensures.steps c.end_level.ensures.list
