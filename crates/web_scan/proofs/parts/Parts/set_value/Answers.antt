use Rattle.std.proofs.Common.{◌∙◌, ap, arith}
use Rattle.web_names.specs.Identifiers.{Identifiers}
use Rattle.web_scan.proofs.parts.Parts.set_value.Goals as goal

pub invariant_of-self : goal.invariant_of-self
invariant_of-self c =
    let kept = c.self.invariant in
    record {
      same_options = ap (λ (after : Identifiers). after.options) c.set.ensures.value ∙ kept.same_options;
      few_names = omega arith;
      few_tokens = kept.few_tokens;
      few_quoted = kept.few_quoted;
      few_sections = kept.few_sections;
      texts = kept.texts;
      unnamed = kept.unnamed;
      named = kept.named;
    }
