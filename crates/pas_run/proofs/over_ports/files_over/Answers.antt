use Rattle.std.proofs.Common.{◌≡◌, ◌<◌, ◌+◌, ◌∷◌, [], ◌++◌, List, length, map, sym, ap, ◌∙◌, append_assoc, arith}
use Rattle.std.proofs.Common.{get_or}
use Rattle.std.proofs.lemmas.List.{map-append, length-append, length-map}
use Rattle.std.specs.Vec.Iter.{into_iter_items}
use Rattle.pas_typed.specs.TypedViews.{program_view}
use Rattle.pas_meaning.specs.Trial.{no_variable, parameters_of}
use Rattle.pas_run.specs.declared.files.RunFile.{RunFile}
use Rattle.pas_run.proofs.RunLemmas.{parameter_there}
use Rattle.pas_run.proofs.BindingLemmas.{started_as, states_grow}
use Rattle.pas_run.proofs.over_ports.files_over.Goals as goal

pub loop-port-preserved : goal.loop-port-preserved
loop-port-preserved g c =
    let at = c.loop-port in
    let port = c.in-Some.port in
    let program = program_view c.args.program.now in
    let i = c.len-number.result in
    let steps : into_iter_items at.port-iterator ≡ port ∷ into_iter_items c.next.new.self = c.in-Some.ensures.steps.0 in
    let all : length at.yielded + length (into_iter_items at.port-iterator) ≡ length program.files =
    omega (
      arith,
      length-append at.yielded (into_iter_items at.port-iterator),
      ap length at.invariant.0,
      ap length c.into_iter-port-iterator.ensures.into_iter_gives.0,
      c.requires.many,
    ) in
    let many : length at.files.items ≡ length at.yielded =
    sym (length-map at.files.items (λ (file : RunFile g.row.P.Denot g.P.Port). file.port)) ∙ ap length at.invariant.1 in
    let own : i ≡ length at.files.items = omega (arith, c.len-number.ensures) in
    let within : i < length program.files = omega (arith, all, ap length steps, many, own) in
    let found = get_or (parameters_of program) i no_variable in
    let there = parameter_there program i within in (
      append_assoc at.yielded (port ∷ []) _ ∙ rw (← steps) at.invariant.0,
      ap (map (λ (file : RunFile g.row.P.Denot g.P.Port). file.port)) c.push_reserved.ensures.items
          ∙ (map-append (λ (file : RunFile g.row.P.Denot g.P.Port). file.port) at.files.items (c.new.result ∷ [])
          ∙ (ap (λ before. before ++ c.new.result.port ∷ []) at.invariant.1
          ∙ ap (λ last. at.yielded ++ last ∷ []) c.new.ensures.port)),
      states_grow (λ (file : RunFile g.row.P.Denot g.P.Port). file.state) (parameters_of program) at.files.items
          c.push_reserved.new.self.items c.new.result i found c.push_reserved.ensures.items own there
          (started_as found c.is_text.result c.new.result.state c.new.ensures.state (c.is_text.ensures found there))
          at.invariant.2,
      let was = at.invariant.3 in
          let gone = c.in-Some.ensures.steps.1 in
          let short = ap length steps in
          omega arith,
      c.push_reserved.ensures.capacity ∙ at.invariant.4,
    )
