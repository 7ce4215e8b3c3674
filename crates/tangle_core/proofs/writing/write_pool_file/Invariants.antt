use Rattle.tangle_core.specs.inner.Filling.{seen_now}
use Rattle.tangle_core.proofs.writing.write_pool_file.Given as goal

abbrev pub ghosts-fill_pool : goal.ghosts-fill_pool
ghosts-fill_pool g a = record {
  seen = seen_now (g.S.Shelf.files a.shelf.now) (g.S.Shelf.open_name a.shelf.now) (g.S.Shelf.faults a.shelf.now)
      (g.S.Shelf.last_failure a.shelf.now) a.copy.now;
}
