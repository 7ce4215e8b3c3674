use Rattle.std.proofs.Common.{◌≡◌, ◌-◌, true, ap, ◌∙◌}
use Rattle.wb_ports.specs.MemShelf.{ShelfState, first_length}
use Rattle.wb_ports.specs.inner.MemShelfKept.{files_in}
use Rattle.wb_ports.proofs.MemShelfLemmas.{wider, appends, whole_piece, some_prefix}
use Rattle.wb_ports.proofs.mem_shelf.MemShelfShelf.write.Goals as goal

pub invariant_of-self : goal.invariant_of-self
invariant_of-self c = λ opened. c.append_unless.ensures.still_writable _ (c.self.invariant opened)

pub invariant_of-self-2 : goal.invariant_of-self-2
invariant_of-self-2 c =
    wider _ _ _ _ _ (λ opened. c.append_unless.ensures.still_writable _ (c.self.invariant opened))
    c.keep_failure.ensures.capacity

pub returns-then-append_unless-clause-ok : goal.returns-then-append_unless-clause-ok
returns-then-append_unless-clause-ok c =
    let opened : c.self.inside.is_open ≡ true = ap (λ (s : ShelfState). s.is_open) c.self.view_is ∙ c.requires in
    let whole = whole_piece c.count_call-listed.result c.append_unless.result c.self.inside.room
    (first_length (files_in c.self.inside.files.items)) c.args.piece.now c.append_unless.ensures.all
    c.if-append_unless.true in
    rw (c.append_unless.ensures.bytes, whole, ← c.self.view_is)
    (appends _ _ c.self.inside.files.items c.args.piece.now (c.self.invariant opened))

pub returns-clause-failed : goal.returns-clause-failed
returns-clause-failed c =
    let opened : c.self.inside.is_open ≡ true = ap (λ (s : ShelfState). s.is_open) c.self.view_is ∙ c.requires in
    let prefix = some_prefix c.count_call-listed.result
    (c.self.inside.room - first_length (files_in c.self.inside.files.items)) c.args.piece.now in (
      prefix.0,
      rw (c.append_unless.ensures.bytes, prefix.1, ← c.self.view_is)
          (appends _ _ c.self.inside.files.items _ (c.self.invariant opened)),
    )
