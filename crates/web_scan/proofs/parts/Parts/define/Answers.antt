use Rattle.std.proofs.Common.{◌≡◌, ◌≤◌, ◌∙◌, ap, length, arith, rules}
use Rattle.web_names.specs.Identifiers.{Identifiers, name_limit}
use Rattle.web_scan.proofs.NamesLemmas.{among_defined}
use Rattle.web_scan.proofs.parts.Parts.define.Goals as goal
use Rattle.web_scan.proofs.parts.Parts.define.Goals.{in-Ok, in-Err}

pub invariant_of-self : goal.invariant_of-self
invariant_of-self c =
    let kept = c.self.invariant in
    let few : length c.define.new.self.names ≤ name_limit =
    elim c.match-define.branch [
      | in-Ok w ↦ (among_defined _ _ _ _ _ kept.few_names w.in-Ok.ensures.ok).few
      | in-Err w ↦ (
          let same : length c.define.new.self.names ≡ length c.self.inside.names.names =
          ap (λ (after : Identifiers). length after.names) w.in-Err.ensures.unchanged in
          omega arith)
    ] in
    record {
      same_options = c.define.ensures.options ∙ kept.same_options;
      few_names = few;
      few_tokens = kept.few_tokens;
      few_quoted = kept.few_quoted;
      few_sections = kept.few_sections;
      texts = kept.texts;
      unnamed = kept.unnamed;
      named = kept.named;
    }

pub returns-clause-id : goal.returns-clause-id
returns-clause-id c =
    elim c.match-define.branch [
      | in-Ok w ↦ rw w.result-is (among_defined _ _ _ _ _ c.self.invariant.few_names w.in-Ok.ensures.ok).among
      | in-Err w ↦ rw w.result-is (search rules)
    ]
