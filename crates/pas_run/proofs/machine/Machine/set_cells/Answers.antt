use Rattle.std.proofs.Common.{List, refl, sym, ap, ◌∙◌, arith}
use Rattle.std.proofs.lemmas.List.{take_all}
use Rattle.pas_run.specs.declared.cells.Cell.{Cell}
use Rattle.pas_run.specs.inner.FlatStore.{Activations, with_cells, behind_by}
use Rattle.pas_run.specs.inner.MachineState.{MachineState}
use Rattle.pas_run.proofs.CopyLemmas.{with_none, set_more}
use Rattle.pas_run.proofs.machine.Machine.set_cells.Goals as goal

pub loop-number-init : goal.loop-number-init
loop-number-init g c = record {
  stored = λ less within.
      ap (λ (activations : Activations). record c.args.self.now { activations = activations })
      (sym (with_none (behind_by c.args.behind c.args.at) c.args.self.now.activations));
  files = refl;
}

pub loop-number-preserved : goal.loop-number-preserved
loop-number-preserved g c = record {
  stored = λ less within.
      set_more (behind_by c.args.behind c.args.at) c.args.cells.now c.loop-number.number _ c.args.self.now
      c.loop-number.self c.set_in.new.self less c.loop-number-test.true (omega (arith, within))
      (c.loop-number.invariant.stored less within) c.set_in.ensures;
  files = ap (λ (machine : MachineState). machine.files) c.set_in.ensures ∙ c.loop-number.invariant.files;
}

pub returns-clause-stored : goal.returns-clause-stored
returns-clause-stored g c less within =
    c.loop-number.invariant.stored less within
    ∙ ap (λ (cells : List Cell). record c.args.self.now {
      activations = with_cells (behind_by c.args.behind c.args.at) cells c.args.self.now.activations;
    }) (take_all c.loop-number.number c.args.cells.now (omega (arith, c.loop-number-test.false)))
