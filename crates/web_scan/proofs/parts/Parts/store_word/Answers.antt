use Rattle.std.proofs.Common.{◌∙◌}
use Rattle.web_scan.proofs.NamesLemmas.{among_used}
use Rattle.web_scan.proofs.parts.Parts.store_word.Goals as goal

pub invariant_of-self : goal.invariant_of-self
invariant_of-self c =
    let kept = c.self.invariant in
    record {
      same_options = c.in-Ok.ensures.options ∙ kept.same_options;
      few_names = (among_used _ _ _ _ _ kept.few_names c.in-Ok.ensures.ok).few;
      few_tokens = kept.few_tokens;
      few_quoted = kept.few_quoted;
      few_sections = kept.few_sections;
      texts = kept.texts;
      unnamed = kept.unnamed;
      named = kept.named;
    }
