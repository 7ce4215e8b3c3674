use Rattle.std.proofs.Common.{◌≡◌, sym, subst, ◌∙◌, ℕ, map, drop, arith}
use Rattle.pas_typed.specs.Types.{Made}
use Rattle.pas_typed.specs.TypeViews.{range_view, type_view, table_view}
use Rattle.pas_rules.specs.TypeForms as spec
use Rattle.pas_scopes.proofs.TypePartLemmas.{arrays_step}
use Rattle.pas_scopes.proofs.GrowthLemmas.{grows_on, grows_push}
use Rattle.pas_scopes.proofs.type_forms.arrays.Goals as goal

pub loop-left-preserved : goal.loop-left-preserved
loop-left-preserved c = record {
  grows = grows_on c.args.types.now c.loop-left.types c.make.new.self c.loop-left.invariant.grows
      (grows_push c.loop-left.types c.make.new.self _ c.in_ok-made.ensures.structures);
  within = omega (arith, c.loop-left.invariant.within);
  same = λ spellings. sym (c.in_ok-made.ensures.made spellings)
      ∙ arrays_step (table_view spellings c.args.types.now) c.args.ranges.now c.loop-left.left _
      (type_view c.args.element)
      (record { type = type_view c.loop-left.made; table = table_view spellings c.loop-left.types }) (omega arith)
      c.loop-left.invariant.within (c.loop-left.invariant.same spellings);
}

pub returns-clause-made : goal.returns-clause-made
returns-clause-made c spellings =
    let found : Made = record {
      type = type_view c.loop-left.made;
      table = table_view spellings c.loop-left.types;
    } in
    let none : c.loop-left.left ≡ 0 = omega arith in
    subst (λ (n : ℕ). found
    ≡ spec.arrays (table_view spellings c.args.types.now) (map range_view (drop n c.args.ranges.now))
    (type_view c.args.element)) none (c.loop-left.invariant.same spellings)
