use Rattle.std.proofs.Common.{◌≡◌, ◌∙◌, sym, ap, ◌+◌, ◌-◌, take, drop, length, suc, arith, refl, add-one}
use Rattle.std.proofs.lemmas.List.{take_rest}
use Rattle.macro_expand.specs.inner.Levels.{level_of}
use Rattle.macro_expand.proofs.ArgumentLemmas.{with_argument-refused, with_argument-steps_passed, is_opened-empty}
use Rattle.macro_expand.proofs.ArgumentLemmas.{is_opened, passed_unseen}
use Rattle.macro_expand.proofs.ArgumentLemmas.{closing_place-take-Some, taken}
use Rattle.macro_expand.proofs.arguments.Place.take_argument.Goals as goal

-- no token is left in the text
pub returns-in_default-clause-refused : goal.returns-in_default-clause-refused
returns-in_default-clause-refused c = λ web lower text all.
    with_argument-refused web.tokens text c.args.self.steps lower (level_of c.args.self.top) c.requires
    (is_opened-empty c.args.self.top.text.now c.in_default.ensures.cases)

-- another token
pub returns-then-not-is_opening-clause-refused : goal.returns-then-not-is_opening-clause-refused
returns-then-not-is_opening-clause-refused c = λ web lower text all.
    with_argument-refused web.tokens text c.args.self.steps lower (level_of c.args.self.top) c.requires
    (ap is_opened c.in-Some.ensures.cases.0 ∙ sym c.is_opening.ensures ∙ c.if-not-is_opening.true)

-- the `)` is too far
pub returns-in_default-find_closing-clause-refused : goal.returns-in_default-find_closing-clause-refused
returns-in_default-find_closing-clause-refused c = λ web lower text all.
    passed_unseen web lower (level_of c.args.self.top) text c.args.self.steps c.in-Some.first.now
    c.in-Some.opened.now c.min-searched.result all
    c.requires c.in-Some.ensures.cases.0 (sym c.is_opening.ensures
    ∙ c.if-not-is_opening.false) c.min-searched.ensures
    (sym c.find_closing.ensures.place ∙ c.in_default-find_closing.is)

pub returns-then-steps-count-clause-refused : goal.returns-then-steps-count-clause-refused
returns-then-steps-count-clause-refused c = λ web lower text all.
    let count = c.in-Some-find_closing.count in
    with_argument-steps_passed web.tokens text c.args.self.steps lower (level_of c.args.self.top)
    c.in-Some.first.now c.in-Some.opened.now count
    c.requires c.in-Some.ensures.cases.0 (sym c.is_opening.ensures ∙ c.if-not-is_opening.false)
    (closing_place-take-Some 0 c.min-searched.result c.in-Some.opened.now count (sym c.find_closing.ensures.place
    ∙ c.in-Some-find_closing.is))
    c.if-steps-count.true

-- the argument and what is behind it
pub returns-clause-taken : goal.returns-clause-taken
returns-clause-taken c = λ web lower all.
    let count = c.in-Some-find_closing.count in
    let opened = c.in-Some.opened.now in
    let behind : take (length opened - (count + 1)) (drop (count + 1) opened) ≡ drop (suc count) opened =
    take_rest opened (count + 1) ∙ ap (λ n. drop n opened) (add-one count) in
    taken web lower c.args.self _ _ c.in-Some.first.now opened count all c.requires c.in-Some.ensures.cases.0
    (sym c.is_opening.ensures ∙ c.if-not-is_opening.false)
    (closing_place-take-Some 0 c.min-searched.result opened count (sym c.find_closing.ensures.place
    ∙ c.in-Some-find_closing.is))
    (omega (arith, c.if-steps-count.false)) refl refl refl refl (ap (λ text. record (level_of c.args.self.top) {
      text = text;
    }) behind)
