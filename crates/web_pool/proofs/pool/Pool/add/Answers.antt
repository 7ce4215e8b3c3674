use Rattle.std.proofs.Common.{◌≡◌, ◌∙◌, sym, ap}
use Rattle.web_pool.specs.Strings.{numbered, numbered_at, numbered_last}
use Rattle.web_pool.proofs.StringsLemmas.{ok_new, refused_new, seen_new, numbered-one, numbered-long, numbered-other}
use Rattle.web_pool.proofs.StringsLemmas.{numbered-new, with_string-one, with_string-found, with_string-new, seen_too}
use Rattle.web_pool.proofs.pool.Pool.add.Goals as goal

pub returns-then-bytes-eq1-clause-ok : goal.returns-then-bytes-eq1-clause-ok
returns-then-bytes-eq1-clause-ok c = rw c.from.ensures (numbered-one _ _ c.if-bytes-eq1.true)

pub returns-then-bytes-eq1-clause-all_strings : goal.returns-then-bytes-eq1-clause-all_strings
returns-then-bytes-eq1-clause-all_strings c = seen_too _ _ _ (sym (with_string-one _ _ c.if-bytes-eq1.true))

pub returns-then-bytes-gt-LONGEST_STRING-clause-refused : goal.returns-then-bytes-gt-LONGEST_STRING-clause-refused
returns-then-bytes-gt-LONGEST_STRING-clause-refused c = numbered-long _ _ c.if-bytes-gt-LONGEST_STRING.true

pub returns-in-Some-clause-ok : goal.returns-in-Some-clause-ok
returns-in-Some-clause-ok c =
    numbered-other _ _ c.if-bytes-eq1.false c.if-bytes-gt-LONGEST_STRING.false
    ∙ ap (λ place. numbered_at place c.args.bytes.now c.args.self.now) (sym c.in-Some.ensures.place)

pub returns-in-Some-clause-all_strings : goal.returns-in-Some-clause-all_strings
returns-in-Some-clause-all_strings c =
    seen_too _ _ _ (sym (with_string-found _ _ _ c.if-bytes-eq1.false (sym c.in-Some.ensures.place)))

-- a new string
new_is : (c : goal.After-add_last)
    → numbered c.args.bytes.now c.args.self.now ≡ numbered_last c.args.bytes.now c.args.self.now
new_is c = numbered-new _ _ c.if-bytes-eq1.false c.if-bytes-gt-LONGEST_STRING.false (sym c.in-None.ensures.place)

pub returns-in-None-clause-ok : goal.returns-in-None-clause-ok
returns-in-None-clause-ok c =
    ok_new c.add_last.result c.args.bytes.now c.args.self.now c.add_last.new.self (new_is c) c.add_last.ensures.ok

pub returns-in-None-clause-refused : goal.returns-in-None-clause-refused
returns-in-None-clause-refused c =
    refused_new c.add_last.result c.args.bytes.now c.args.self.now (new_is c) c.add_last.ensures.refused

pub returns-in-None-clause-memory : goal.returns-in-None-clause-memory
returns-in-None-clause-memory c = λ none. new_is c ∙ c.add_last.ensures.memory none

pub returns-in-None-clause-all_strings : goal.returns-in-None-clause-all_strings
returns-in-None-clause-all_strings c =
    seen_new c.add_last.result c.args.bytes.now c.args.self.now c.add_last.new.self
    (with_string-new _ _ c.if-bytes-eq1.false (sym c.in-None.ensures.place)) c.add_last.ensures.grown
