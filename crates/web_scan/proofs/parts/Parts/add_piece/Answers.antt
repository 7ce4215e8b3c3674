use Rattle.std.proofs.Common.{length, ap, arith}
use Rattle.web_scan.specs.Scanned.{Scanned}
use Rattle.web_scan.proofs.PartsLemmas.{scanned_in-under}
use Rattle.web_scan.proofs.parts.Parts.add_piece.Goals as goal

pub invariant_of-self-in-Continue-branch-2 : goal.invariant_of-self-in-Continue-branch-2
invariant_of-self-in-Continue-branch-2 c =
    let kept = c.self.invariant in
    let same = ap (λ (web : Scanned). length web.tokens) c.self.view_is in
    record {
      same_options = kept.same_options;
      few_names = kept.few_names;
      few_tokens = kept.few_tokens;
      few_quoted = kept.few_quoted;
      few_sections = kept.few_sections;
      texts = kept.texts;
      unnamed = kept.unnamed;
      named = c.push_under.ensures.within _ (omega arith) kept.named;
    }

pub invariant_of-self-in_err-push_under-in-Some : goal.invariant_of-self-in_err-push_under-in-Some
invariant_of-self-in_err-push_under-in-Some c =
    let kept = c.self.invariant in
    let same = ap (λ (web : Scanned). length web.tokens) c.self.view_is in
    record {
      same_options = kept.same_options;
      few_names = kept.few_names;
      few_tokens = kept.few_tokens;
      few_quoted = kept.few_quoted;
      few_sections = kept.few_sections;
      texts = kept.texts;
      unnamed = kept.unnamed;
      named = c.push_under.ensures.within _ (omega arith) kept.named;
    }

pub returns-in_ok-push_under-in-Some-clause-ok : goal.returns-in_ok-push_under-in-Some-clause-ok
returns-in_ok-push_under-in-Some-clause-ok c =
    let same = ap (λ (web : Scanned). length web.tokens) c.self.view_is in
    rw c.in-Some.is
    (scanned_in-under c.self.inside c.push_under.new.named c.in-Some.name c.args.first _ _ c.self.view_is (omega arith)
    c.in_ok-push_under-in-Some.ensures.ok)
