use Rattle.std.proofs.Common.{◌≡◌, Some, None, option_copied, ap, sym, ◌∙◌, rules}
use Rattle.std.specs.List.{position}
use Rattle.wb_ports.proofs.MemShelfLemmas.{is_named, found, missing}
use Rattle.wb_ports.proofs.mem_shelf.bytes_of.Goals as goal

pub returns-in_err-place : goal.returns-in_err-place
returns-in_err-place c =
    let none : position (is_named c.args.name.now) c.args.files.now ≡ None = search rules in
    ap option_copied c.from_residual.ensures ∙ sym (missing c.args.files.now c.args.name.now none)

pub returns : goal.returns
returns c =
    let some : position (is_named c.args.name.now) c.args.files.now ≡ Some c.in_ok-place.place = search rules in
    ap Some c.deref.ensures.value ∙ sym
    (found c.args.files.now c.args.name.now c.in_ok-place.place c.index-files-place.result some)
