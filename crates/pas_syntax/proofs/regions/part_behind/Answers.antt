use Rattle.std.proofs.Common.{◌≡◌, refl, sym, ap, ◌∙◌, ◌<◌, arith, [], ◌∷◌, ◌++◌, length, append_assoc}
use Rattle.std.proofs.lemmas.List.{length-append}
use Rattle.pas_tokens.specs.inner.CodeCuts.{token_by}
use Rattle.pas_syntax.specs.Regions.{stage_behind, records_behind, records_of}
use Rattle.pas_syntax.specs.inner.Prog.{head}
use Rattle.pas_syntax.specs.inner.RegionViews.{stage_in, part_in}
use Rattle.pas_syntax.proofs.PlaceLemmas.{first_is}
use Rattle.pas_syntax.proofs.RegionSteps.{behind_next, records_next, stage_next, records_few, part_known, part_there}
use Rattle.pas_syntax.proofs.regions.part_behind.Goals as goal

pub loop-init : goal.loop-init
loop-init c = record { front = []; split = refl; count = refl; records = refl; stage = refl; few = omega arith }

pub behind-region-requires : goal.behind-region-requires
behind-region-requires c =
    omega (arith, c.loop.invariant.few, c.loop-test.true, c.requires.within, c.requires.few)

pub loop-preserved : goal.loop-preserved
loop-preserved c =
    let known = c.loop.invariant in
    let front = known.front in
    let token = token_by c.peek.result in
    let further : 1 < length c.loop.cursor =
    omega (
      arith,
      ap length known.split,
      length-append front c.loop.cursor,
      known.count,
      c.loop-test.true,
      c.requires.within,
    ) in
    let split : c.loop.cursor ≡ token ∷ c.advance.new.self =
    behind_next c.loop.cursor token c.peek.ensures further ∙ ap (λ ts. token ∷ ts) (sym c.advance.ensures) in
    record {
      front = front ++ token ∷ [];
      split = known.split ∙ ap (λ ts. front ++ ts) split ∙ sym (append_assoc front (token ∷ []) c.advance.new.self);
      count = omega (arith, known.count, length-append front (token ∷ []));
      records =
          c.behind-region.ensures.records ∙ ap (λ n. records_behind n token.kind) known.records
          ∙ sym (records_next front token);
      stage =
          c.behind-region.ensures.stage ∙ ap (λ s. stage_behind s token.payload token.kind) known.stage
          ∙ sym (stage_next front token);
      few =
          omega (arith, known.few, c.behind-region.ensures.records, records_few c.loop.region.records token.kind);
    }

pub returns : goal.returns
returns c =
    let known = c.loop.invariant in
    let front = known.front in
    let kind = (head c.loop.cursor).kind in
    c.part.ensures
    ∙ ap (λ t. part_in c.loop.region.records (stage_in c.loop.region.stage) t.kind)
    (sym (first_is c.loop.cursor (token_by c.peek-2.result) c.peek-2.ensures))
    ∙ ap (λ n. part_in n (stage_in c.loop.region.stage) kind) known.records
    ∙ ap (λ s. part_in (records_of front) s kind) known.stage
    ∙ part_known front kind
    ∙ part_there c.args.cursor front c.loop.cursor c.args.taken known.split
    (omega (arith, known.count, c.loop-test.false, c.loop.auto.counter-end))
