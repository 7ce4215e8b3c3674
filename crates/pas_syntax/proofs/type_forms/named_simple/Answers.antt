use Rattle.std.proofs.Common.{◌∙◌, refl, sym, ap, None}
use Rattle.pas_syntax.specs.Tree as tree
use Rattle.pas_syntax.specs.Views.{ident_in}
use Rattle.pas_syntax.specs.inner.Prog.{look, run, head}
use Rattle.pas_syntax.specs.inner.TypeReaders.{behind_simple_name, range_by}
use Rattle.pas_syntax.proofs.PlaceLemmas.{goes_as}
use Rattle.pas_syntax.proofs.PlaceSteps.{from_here, and_then, as_read, read}
use Rattle.pas_syntax.proofs.ConstantSteps.{dots_goes, no_dots}
use Rattle.pas_syntax.proofs.type_forms.named_simple.Goals as goal

pub returns-in-Dots : goal.returns-in-Dots
returns-in-Dots c =
    let s = c.args.reader.now.spellings in
    let ts = c.ident.new.self.tokens in
    from_here (and_then (λ m name. look (behind_simple_name name)) c.in_ok-name.ensures
    (λ e. as_read (goes_as (λ m. dots_goes (ident_in s c.in_ok-name.name) ts c.in-Dots.ensures.kind
    c.in-Dots.ensures.fits
    ∙ ap (λ s. run (range_by (tree.named None (ident_in s c.in_ok-name.name))) ts) (sym e)) c.range.ensures) e))

pub returns-in_default : goal.returns-in_default
returns-in_default c =
    let s = c.args.reader.now.spellings in
    let ts = c.ident.new.self.tokens in
    from_here (and_then (λ m name. look (behind_simple_name name)) c.in_ok-name.ensures
    (λ e. goes_as (λ m. ap (λ q. run q ts) (no_dots (ident_in s c.in_ok-name.name) (head ts).kind (head ts).payload
    (head ts).line (λ e. c.in_default.not-Dots (c.kind.ensures.kind ∙ sym e)))) (read refl e)))
