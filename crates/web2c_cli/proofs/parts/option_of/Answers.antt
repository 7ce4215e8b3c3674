use Rattle.std.proofs.Common.{ap, ◌∙◌, List, ℕ, map, option_map}
use Rattle.std.specs.List.{find}
use Rattle.std.specs.Str.{bytes_eq}
use Rattle.web2c_cli.specs.CommandLine.{OptionForm}
use Rattle.web2c_cli.specs.inner.Table.{option_by}
use Rattle.web2c_cli.proofs.PartsLemmas.{find-map}
use Rattle.web2c_cli.proofs.parts.option_of.Goals as goal

pub returns : goal.returns
returns c =
    ap (option_map option_by) c.option_spelled.ensures
    ∙ find-map option_by (λ (form : OptionForm). bytes_eq form.spelling c.spelling_in.result.now) c.args.options.now
    ∙ ap (λ (s : List ℕ). find (λ (form : OptionForm). bytes_eq form.spelling s) (map option_by c.args.options.now))
    c.spelling_in.ensures
