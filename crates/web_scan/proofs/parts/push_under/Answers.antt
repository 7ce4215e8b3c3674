use Rattle.std.proofs.Common.{◌≤◌, ◌∷◌, ◌++◌, [], List, Vec, length, ap, ◌∙◌, arith}
use Rattle.std.proofs.lemmas.List.{map-append, length-map}
use Rattle.std.specs.declared.alloc.Global.{Global}
use Rattle.web_scan.specs.declared.pieces.Piece.{Piece}
use Rattle.web_scan.specs.inner.Under.{pieces_in, with_piece_under}
use Rattle.web_scan.proofs.UnderLemmas.{with_piece_under-padded, pieces_in-set, AreWithin-padded}
use Rattle.web_scan.proofs.parts.push_under.Goals as goal

pub padded-preserved : goal.padded-preserved
padded-preserved c =
    let named = c.padded.named.items in
    let under : List (List Piece) → List (List Piece) = with_piece_under c.args.name c.args.piece in
    let few : length (pieces_in named) ≤ c.args.name =
    omega (arith, length-map named (λ (pieces : Vec Piece Global). pieces.items)) in
    record {
      same =
          ap (λ (items : List (Vec Piece Global)). under (pieces_in items)) c.in_ok-push.ensures.items
          ∙ ap under (map-append (λ (pieces : Vec Piece Global). pieces.items) named _)
          ∙ ap (λ (items : List Piece). under (pieces_in named ++ items ∷ [])) c.new.ensures.items
          ∙ with_piece_under-padded c.args.name c.args.piece (pieces_in named) few
          ∙ c.padded.invariant.same;
      within = λ size within. AreWithin-padded size named _ c.new.result c.in_ok-push.ensures.items c.new.ensures.items
          (c.padded.invariant.within size within);
    }

pub returns-clause-ok : goal.returns-clause-ok
returns-clause-ok c =
    pieces_in-set c.args.name c.args.piece c.padded.named.items c.index_mut.result.now c.push-2.new.self
    (omega arith) c.index_mut.ensures.value c.in_ok-push-2.ensures.items
    ∙ c.padded.invariant.same
