use Rattle.std.proofs.Common.{◌∙◌, ap, sym, ℕ, Vec, position}
use Rattle.std.specs.Str.{bytes_eq}
use Rattle.std.specs.declared.alloc.Global.{Global}
use Rattle.web_pool.proofs.StringsLemmas.{position-map}
use Rattle.web_pool.proofs.pool.Pool.place_of.Goals as goal

-- the place among the strings as they are kept
pub returns-in_err-place-clause-place : goal.returns-in_err-place-clause-place
returns-in_err-place-clause-place c =
    c.from_residual.ensures ∙ c.in_err-place.ensures.index
    ∙ sym (position-map (bytes_eq c.args.bytes.now) (λ (text : Vec ℕ Global). text.items) c.self.inside.strings.keys)
    ∙ ap (position (bytes_eq c.args.bytes.now)) c.self.view_is

pub returns-clause-place : goal.returns-clause-place
returns-clause-place c =
    c.in_ok-place.ensures.index
    ∙ sym (position-map (bytes_eq c.args.bytes.now) (λ (text : Vec ℕ Global). text.items) c.self.inside.strings.keys)
    ∙ ap (position (bytes_eq c.args.bytes.now)) c.self.view_is
