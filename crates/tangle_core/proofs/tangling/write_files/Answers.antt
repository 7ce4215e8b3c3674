use Rattle.std.proofs.Common.{◌≡◌, ◌∙◌, ℕ, List, [], Option, ap, subst, sym, length, IfSome, ◌==◌}
use Rattle.std.proofs.lemmas.List.{length-map}
use Rattle.wb_base.specs.declared.tokens.Tok.{Tok}
use Rattle.web_pool.specs.PoolText.{pool_text}
use Rattle.web_scan.specs.declared.pieces.Piece.{Piece}
use Rattle.web_scan.specs.Pieces.{pascal_text_at, pascal_texts_at}
use Rattle.web_scan.specs.Scanned.{PascalText}
use Rattle.wb_ports.specs.Held.{WhereTold}
use Rattle.wb_ports.specs.Files.{Files, SameFiles, Loads}
use Rattle.wb_ports.proofs.FilesLemmas.{same_files}
use Rattle.macro_expand.specs.Expansion.{expansion_of}
use Rattle.tangle_core.specs.Tangled.{tangled}
use Rattle.tangle_core.specs.Job.{pascal_name, pool_name}
use Rattle.tangle_core.specs.inner.Writing.{LeavesFile}
use Rattle.tangle_core.proofs.TanglingLemmas.{pascal_stopped, pascal_whole, tangles_handed, pool_refused, pool_done}
use Rattle.tangle_core.proofs.TanglingLemmas.{output_of, loads_still}
use Rattle.tangle_core.proofs.tangling.write_files.Goals as goal

pub returns-in_err-lines-clause-work : goal.returns-in_err-lines-clause-work
returns-in_err-lines-clause-work g c job on before console ports pascal_is pool_is reaches =
    tangles_handed job on _ c.in_err-lines.field-0.0 _ _ _ c.from_residual.ensures.1
    (pascal_stopped job on c.args.web.now c.args.pascal.now c.in_err-lines.field-0.0 _ before _ _ console ports
    pascal_is c.in_err-lines.ensures.fault
    (c.in_err-lines.ensures.written, (c.in_err-lines.ensures.failed, c.in_err-lines.ensures.out_of_memory)) reaches)

pub returns-in_err-write_pool_file-clause-work : goal.returns-in_err-write_pool_file-clause-work
returns-in_err-write_pool_file-clause-work g c job on before console ports pascal_is pool_is reaches =
    tangles_handed job on _ c.in_err-write_pool_file.field-0.0 _ _ _ c.from_residual-in_err-write_pool_file.ensures.1
    (pool_refused job on c.args.web.now c.args.pool.now c.pool.result.now c.in_err-write_pool_file.field-0.0 _ before
    _ _ console ports pool_is c.pool.ensures (λ e. (c.in_err-write_pool_file.ensures.none e).0)
    c.in_err-write_pool_file.ensures.faultless
    (c.in_err-write_pool_file.ensures.failed, c.in_err-write_pool_file.ensures.out_of_memory)
    (pascal_whole job on c.args.web.now c.args.pascal.now before _ _ console ports pascal_is c.in_ok-lines.ensures.ok.0
    (c.in_ok-lines.ensures.written (λ e. absurd (cc)) (λ e. absurd (cc))) reaches))

-- as many texts as pieces
texts_count : (tokens : List Tok) (pieces : List Piece) (texts : List PascalText)
    → pascal_texts_at tokens pieces ≡ texts → length pieces ≡ length texts
texts_count tokens pieces texts is = sym (length-map pieces (pascal_text_at tokens)) ∙ ap length is

pub returns-clause-work : goal.returns-clause-work
returns-clause-work g c job on before console ports pascal_is pool_is reaches =
    let files = g.S.Shelf.files in
    let same : c.pool.result.now ≡ [] → WhereTold SameFiles (files c.write_pascal.new.shelf)
    (files c.write_pool_file.new.shelf) =
    λ e. subst (λ (s : g.row.S.Denot). WhereTold SameFiles (files c.write_pascal.new.shelf) (files s))
    (sym (c.in_ok-write_pool_file.ensures.none e).1) (same_files (files c.write_pascal.new.shelf)) in (
      output_of c.args.web.now (tangled (expansion_of c.args.web.now)).lines,
      (
        record {
          lines = c.in_ok-lines.ensures.ok.1;
          strings = c.count.ensures ∙ ap length c.pool-2.ensures;
          no_output = c.is_empty.ensures ∙ ap (λ (n : ℕ). n == 0)
              (texts_count _ _ _ c.unnamed.ensures.texts);
        },
        pool_done job on c.args.web.now c.args.pool.now c.pool.result.now before _ _ console ports pool_is
            c.pool.ensures same c.in_ok-write_pool_file.ensures.ok
            (pascal_whole job on c.args.web.now c.args.pascal.now before _ _ console ports pascal_is
            c.in_ok-lines.ensures.ok.0
            (c.in_ok-lines.ensures.written (λ e. absurd (cc)) (λ e. absurd (cc))) reaches),
      ),
    )

-- the same under the names that the base gives
named_pascal : (files : Option Files) (text base name : List ℕ) → name ≡ pascal_name base
    → IfSome files (λ all. Loads all name text) → IfSome files (λ all. Loads all (pascal_name base) text)
named_pascal files text base name is loads =
    subst (λ (n : List ℕ). IfSome files (λ all. Loads all n text)) is loads

named_pool : (a b : Option Files) (text base name : List ℕ) → name ≡ pool_name base
    → WhereTold (LeavesFile name text) a b → WhereTold (LeavesFile (pool_name base) text) a b
named_pool a b text base name is left = subst (λ (n : List ℕ). WhereTold (LeavesFile n text) a b) is left

pub returns-clause-kept : goal.returns-clause-kept
returns-clause-kept g c = λ base pascal_is pool_is wanted there.
    let files = g.S.Shelf.files in
    let same : c.pool.result.now ≡ [] → WhereTold SameFiles (files c.write_pascal.new.shelf)
    (files c.write_pool_file.new.shelf) =
    λ e. subst (λ (s : g.row.S.Denot). WhereTold SameFiles (files c.write_pascal.new.shelf) (files s))
    (sym (c.in_ok-write_pool_file.ensures.none e).1) (same_files (files c.write_pascal.new.shelf)) in
    loads_still base c.write_pascal.new.copy.kept c.pool.result.now (files c.write_pascal.new.shelf)
    (files c.write_pool_file.new.shelf) same
    (λ some. named_pool (files c.write_pascal.new.shelf) (files c.write_pool_file.new.shelf)
    (pool_text c.pool.result.now) base c.args.pool.now pool_is (c.in_ok-write_pool_file.ensures.ok some))
    (named_pascal (files c.write_pascal.new.shelf) c.write_pascal.new.copy.kept base c.args.pascal.now pascal_is
    (c.in_ok-lines.ensures.kept wanted there))
