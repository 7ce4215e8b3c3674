use Rattle.std.proofs.Common.{◌≡◌, ◌∙◌, ◌∷◌, refl, sym, ap, subst, arith, ◌≢◌, length}
use Rattle.pas_tokens.specs.declared.kinds.Kind.TheVariants as k
use Rattle.pas_tokens.specs.Tokens.{after_first}
use Rattle.pas_tokens.specs.inner.CodeCuts.{token_by}
use Rattle.pas_syntax.specs.inner.Prog.{head}
use Rattle.pas_syntax.specs.inner.Places.{Fits}
use Rattle.pas_syntax.proofs.PlaceLemmas.{Behind, behind_head, first_is, pass_spelled, head_fits}
use Rattle.pas_syntax.proofs.reader.Reader.pass.Goals as goal

pub invariant_of-self : goal.invariant_of-self
invariant_of-self c =
    let tokens = c.self.inside.cursor in
    let not_end : (head tokens).kind ≢ k.EndOfText =
    subst (λ place. (head place.tokens).kind ≢ k.EndOfText) (sym c.self.view_is) c.requires in
    let b : Behind tokens = behind_head tokens c.self.invariant.tokens not_end in
    let t = token_by c.peek-token.result in
    let is : head tokens ≡ t = first_is tokens t c.peek-token.ensures in
    let s = pass_spelled c.self.inside.spellings.now c.self.inside.spelled c.spelled_by.result tokens t
    c.self.invariant.within c.self.invariant.spelled (b.split ∙ ap (λ t. t ∷ after_first tokens) is)
    (c.spelled_by.ensures c.peek-token.result.kind) in
    let count : length tokens ≡ length (head tokens ∷ after_first tokens) = ap length b.split in
    rw c.advance.ensures record {
      tokens = b.tokens;
      spelled = s.0;
      within = s.1;
      short = c.self.invariant.short;
      few = omega (arith, count, c.self.invariant.few);
    }

pub returns : goal.returns
returns c =
    let tokens = c.self.inside.cursor in
    let not_end : (head tokens).kind ≢ k.EndOfText =
    subst (λ place. (head place.tokens).kind ≢ k.EndOfText) (sym c.self.view_is) c.requires in
    let b : Behind tokens = behind_head tokens c.self.invariant.tokens not_end in
    let t = token_by c.peek-token.result in
    let is : head tokens ≡ t = first_is tokens t c.peek-token.ensures in
    rw (sym c.self.view_is, c.advance.ensures) record {
      token = t;
      tokens = b.split ∙ ap (λ t. t ∷ after_first tokens) is;
      same = refl;
      fits = subst (λ t. Fits t.kind t.payload) is (head_fits tokens c.self.invariant.tokens);
      taken = refl;
      spellings = refl;
    }
