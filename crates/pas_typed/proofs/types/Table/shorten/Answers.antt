use Rattle.std.proofs.Common.{sym, ap, subst, ◌∙◌, arith, take, map}
use Rattle.std.proofs.lemmas.List.{take-map, take_all}
use Rattle.pas_typed.specs.declared.types.TypeRow.{TypeRow as CodeTypeRow}
use Rattle.pas_typed.specs.declared.types.Structure.{Structure}
use Rattle.pas_typed.specs.TypeViews.{AreCounted}
use Rattle.pas_typed.proofs.ShortTables.{counted-take}
use Rattle.pas_typed.proofs.types.Table.shorten.Goals as goal

pub invariant_of-self : goal.invariant_of-self
invariant_of-self c =
    let rows = c.loop-self.self-inside.rows in
    let all = take_all c.args.count rows (omega (arith, c.loop-self-test.false, c.len.ensures)) in
    subst AreCounted (sym c.loop-self.invariant ∙ all) (counted-take c.self.inside.rows c.args.count c.self.invariant)

pub returns : goal.returns
returns c =
    let rows = c.loop-self.self-inside.rows in
    let all = take_all c.args.count rows (omega (arith, c.loop-self-test.false, c.len.ensures)) in
    let structure_of : CodeTypeRow → Structure = λ found. found.structure in
    ap (map structure_of) (sym all ∙ c.loop-self.invariant)
    ∙ (sym (take-map structure_of c.args.count c.self.inside.rows)
    ∙ ap (take c.args.count) c.self.view_is)
