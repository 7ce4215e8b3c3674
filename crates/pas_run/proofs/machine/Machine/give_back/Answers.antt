use Rattle.std.proofs.Common.{◌≡◌, ◌∷◌, [], ◌++◌, List, length, map, sym, ap, ◌∙◌, refl, append-nil, arith}
use Rattle.std.specs.Vec.Iter.{into_iter_items}
use Rattle.pas_run.specs.inner.MachineState.{KeptFile, MachineState}
use Rattle.pas_run.specs.declared.files.RunFile.{RunFile}
use Rattle.pas_run.proofs.BindingLemmas.{kept_told, kept_failures, nothing_left}
use Rattle.pas_run.proofs.machine.Machine.give_back.Goals as goal

pub returns-clause-told : goal.returns-clause-told
returns-clause-told g c =
    let at = c.loop-file in
    let none = c.in-None.ensures.steps in
    let empty : into_iter_items at.file-iterator ≡ [] = nothing_left _ (sym at.invariant.2 ∙ none.0) in
    let all : at.yielded ≡ c.self.inside.files.items =
    sym (append-nil at.yielded) ∙ (rw empty at at.invariant.0 ∙ c.into_iter-file-iterator.ensures.into_iter_gives.0) in
    ap (map g.P.Port.told)
    (at.invariant.1 ∙ ap (map (λ (file : RunFile g.row.P.Denot g.P.Port). file.port)) all)
    ∙ (sym (kept_told (λ (file : RunFile g.row.P.Denot g.P.Port). record {
      state = file.state;
      told = g.P.Port.told file.port;
      failures = g.P.Port.failures file.port;
    }) (λ (file : RunFile g.row.P.Denot g.P.Port). file.port) g.P.Port.told g.P.Port.failures
    (λ (file : RunFile g.row.P.Denot g.P.Port). file.state) (λ file. refl) (λ file. refl) (λ file. refl)
    c.self.inside.files.items)
    ∙ ap (λ (machine : MachineState). map (λ (kept : KeptFile). kept.told) machine.files) c.self.view_is)

pub returns-clause-failures : goal.returns-clause-failures
returns-clause-failures g c =
    let at = c.loop-file in
    let none = c.in-None.ensures.steps in
    let empty : into_iter_items at.file-iterator ≡ [] = nothing_left _ (sym at.invariant.2 ∙ none.0) in
    let all : at.yielded ≡ c.self.inside.files.items =
    sym (append-nil at.yielded) ∙ (rw empty at at.invariant.0 ∙ c.into_iter-file-iterator.ensures.into_iter_gives.0) in
    ap (map g.P.Port.failures)
    (at.invariant.1 ∙ ap (map (λ (file : RunFile g.row.P.Denot g.P.Port). file.port)) all)
    ∙ (sym (kept_failures (λ (file : RunFile g.row.P.Denot g.P.Port). record {
      state = file.state;
      told = g.P.Port.told file.port;
      failures = g.P.Port.failures file.port;
    }) (λ (file : RunFile g.row.P.Denot g.P.Port). file.port) g.P.Port.told g.P.Port.failures
    (λ (file : RunFile g.row.P.Denot g.P.Port). file.state) (λ file. refl) (λ file. refl) (λ file. refl)
    c.self.inside.files.items)
    ∙ ap (λ (machine : MachineState). map (λ (kept : KeptFile). kept.failures) machine.files) c.self.view_is)
