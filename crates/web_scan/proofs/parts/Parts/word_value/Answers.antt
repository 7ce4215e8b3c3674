use Rattle.std.proofs.Common.{rules, ◌∙◌, ap, Result, Err}
use Rattle.std.specs.Prelude.{ℤ}
use Rattle.wb_base.specs.declared.faults.WorkErr.{WorkErr}
use Rattle.wb_base.specs.declared.faults.WorkErr.TheVariants.{Fault as of_input}
use Rattle.web_names.specs.Identifiers.{Identifiers}
use Rattle.web_scan.specs.Scanned.{Scanned}
use Rattle.web_scan.specs.inner.PartsView.{scanned_in}
use Rattle.web_scan.proofs.NamesLemmas.{among_used}
use Rattle.web_scan.proofs.WordValueLemmas.{used_as, value-refused, none_refused, some_known, value-numeric}
use Rattle.web_scan.proofs.WordValueLemmas.{value-none, value-defining, same_identifiers}
use Rattle.web_scan.proofs.parts.Parts.word_value.Goals as goal
use Rattle.web_scan.proofs.parts.Parts.word_value.Goals.{in-Numeric, in_default}

-- a refusal
abbrev err : WorkErr → Result ℤ WorkErr
err error = Err error

pub returns-in-Err : goal.returns-in-Err
returns-in-Err c =
    let names = c.self.inside.names in
    let same = ap (λ (web : Scanned). web.names.names) c.self.view_is in
    record {
      ok = tt;
      fault = none_refused ℤ (Err (of_input c.at.result)) c.args.place c.args.defining c.args.word.now names.names
          c.args.self.now.names.names same
          (value-refused c.args.defining names.options c.args.word.now names.names c.in-Err.field-0
          c.in-Err.ensures.refused c.in-Err.ensures.memory)
          (ap (λ fault. err (of_input fault)) c.at.ensures);
      unchanged = tt;
    }

pub invariant_of-self-then-id-defining : goal.invariant_of-self-then-id-defining
invariant_of-self-then-id-defining c =
    let kept = c.self.invariant in
    record {
      same_options = c.in-Ok.ensures.options ∙ kept.same_options;
      few_names = (among_used _ _ _ _ _ kept.few_names c.in-Ok.ensures.ok).few;
      few_tokens = kept.few_tokens;
      few_quoted = kept.few_quoted;
      few_sections = kept.few_sections;
      texts = kept.texts;
      unnamed = kept.unnamed;
      named = kept.named;
    }

pub returns-then-id-defining-clause-fault : goal.returns-then-id-defining-clause-fault
returns-then-id-defining-clause-fault c =
    let names = c.self.inside.names in
    let same = ap (λ (web : Scanned). web.names.names) c.self.view_is in
    let uses = used_as names.options c.args.word.now names.names c.in-Ok.id c.intern.new.self.names c.in-Ok.ensures.ok
    in
    none_refused ℤ (Err (of_input c.at.result)) c.args.place c.args.defining c.args.word.now names.names
    c.args.self.now.names.names same
    (value-defining c.args.defining c.args.word.now names.names c.in-Ok.id c.intern.new.self.names uses
    c.if-id-defining.true)
    (ap (λ fault. err (of_input fault)) c.at.ensures)

pub invariant_of-self-2 : goal.invariant_of-self-2
invariant_of-self-2 c =
    let kept = c.self.invariant in
    record {
      same_options = c.in-Ok.ensures.options ∙ kept.same_options;
      few_names = (among_used _ _ _ _ _ kept.few_names c.in-Ok.ensures.ok).few;
      few_tokens = kept.few_tokens;
      few_quoted = kept.few_quoted;
      few_sections = kept.few_sections;
      texts = kept.texts;
      unnamed = kept.unnamed;
      named = kept.named;
    }

pub returns-clause-ok : goal.returns-clause-ok
returns-clause-ok c =
    let names = c.self.inside.names in
    let same = ap (λ (web : Scanned). web.names.names) c.self.view_is in
    let uses = used_as names.options c.args.word.now names.names c.in-Ok.id c.intern.new.self.names c.in-Ok.ensures.ok
    in
    elim c.match-class.branch [
      | in-Numeric w ↦ (
          let known = value-numeric c.args.defining c.args.word.now names.names c.in-Ok.id c.intern.new.self.names
          c.kind-class.result.0 c.kind-class.result.1 uses c.kind-class.ensures w.in-Numeric.is c.if-id-defining.false
          in
          let range = c.kind-class.type_inv in
          rw w.result-is
          (some_known c.args.place c.args.defining c.args.word.now names.names c.args.self.now.names.names
          c.kind-class.result.1 _ same
          known.value_is (search rules)))
      | in_default w ↦ rw w.result-is tt
    ]

pub returns-clause-fault : goal.returns-clause-fault
returns-clause-fault c =
    let names = c.self.inside.names in
    let same = ap (λ (web : Scanned). web.names.names) c.self.view_is in
    let uses = used_as names.options c.args.word.now names.names c.in-Ok.id c.intern.new.self.names c.in-Ok.ensures.ok
    in
    elim c.match-class.branch [
      | in-Numeric w ↦ rw w.result-is tt
      | in_default w ↦ none_refused ℤ c.match-class.result c.args.place c.args.defining c.args.word.now names.names
          c.args.self.now.names.names same
          (value-none c.args.defining c.args.word.now names.names c.in-Ok.id c.intern.new.self.names
          c.kind-class.result.0
          c.kind-class.result.1 uses c.kind-class.ensures w.in_default.not-Numeric)
          (w.result-is ∙ ap (λ fault. err (of_input fault)) c.at.ensures)
    ]

pub returns-clause-unchanged : goal.returns-clause-unchanged
returns-clause-unchanged c =
    let names = c.self.inside.names in
    let uses = used_as names.options c.args.word.now names.names c.in-Ok.id c.intern.new.self.names c.in-Ok.ensures.ok
    in
    elim c.match-class.branch [
      | in-Numeric w ↦ (
          let known = value-numeric c.args.defining c.args.word.now names.names c.in-Ok.id c.intern.new.self.names
          c.kind-class.result.0 c.kind-class.result.1 uses c.kind-class.ensures w.in-Numeric.is c.if-id-defining.false
          in
          rw w.result-is
          (ap (λ (names : Identifiers). scanned_in (record c.self.inside { names = names }))
          (same_identifiers c.intern.new.self names c.in-Ok.ensures.options known.unchanged) ∙ c.self.view_is))
      | in_default w ↦ rw w.result-is tt
    ]
