use Rattle.std.proofs.Common.{[], List, Bool, All, subst, sym, ap, ◌∙◌, arith, rules}
use Rattle.std.proofs.lemmas.List.Elements.{All-head}
use Rattle.macro_expand.specs.Items.{item_of}
use Rattle.tangle_out.specs.declared.folding.Kept.{Kept}
use Rattle.tangle_out.specs.Pieces.{Piece}
use Rattle.tangle_out.specs.Folder.{FolderState, Stands, IsShort, Adds}
use Rattle.tangle_out.specs.inner.CodePieces.{pieces_in}
use Rattle.tangle_out.specs.inner.Table.{joined_after}
use Rattle.tangle_out.proofs.FolderLemmas.{plain_ok, not_digit}
use Rattle.tangle_out.proofs.folder.Folder.step.Goals as goal

pub glued-piece-requires : goal.glued-piece-requires
glued-piece-requires c =
    let short = subst (λ piece. All IsShort (pieces_in piece)) c.in-Some-Some.field-0-is
    c.in-Some-Some.ensures.short in
    record { short = All-head IsShort _ [] short }

pub returns-in-Some-Some : goal.returns-in-Some-Some
returns-in-Some-Some c = record {
  taken = λ items s.
      let s1 = subst (λ (state : FolderState). Stands state items) (sym c.self.view_is) s in
      let pieces = c.in-Some-Some.ensures.pieces ∙ ap pieces_in c.in-Some-Some.field-0-is in
      let joined = λ (after_join : Bool). c.in-Some-Some.ensures.joined after_join
      ∙ ap (λ piece. joined_after (pieces_in piece) after_join) c.in-Some-Some.field-0-is in
      let after = plain_ok items (item_of c.args.item) _ _ _ _ _ _
      (not_digit c.args.item c.in_default.not-Digit) s1 (sym c.is_some.ensures ∙ c.if-is_some.false)
      c.unit_of.ensures c.in-Some-Some.ensures.value pieces joined in (
        subst (λ (pieces : List Piece). Adds items (item_of c.args.item) pieces) (sym c.glued-piece.ensures.value)
            after.0,
        after.1,
      );
  left = tt;
  short = λ k d l. search (rules);
}

pub returns-in-Some-None : goal.returns-in-Some-None
returns-in-Some-None c = record {
  taken = λ items s.
      let s1 = subst (λ (state : FolderState). Stands state items) (sym c.self.view_is) s in
      let pieces = c.in-Some-None.ensures.pieces ∙ ap pieces_in c.in-Some-None.field-0-is in
      let joined = λ (after_join : Bool). c.in-Some-None.ensures.joined after_join
      ∙ ap (λ piece. joined_after (pieces_in piece) after_join) c.in-Some-None.field-0-is in
      plain_ok items (item_of c.args.item) _ _ _ _ _ []
      (not_digit c.args.item c.in_default.not-Digit) s1 (sym c.is_some.ensures ∙ c.if-is_some.false)
      c.unit_of.ensures c.in-Some-None.ensures.value pieces joined;
  left = tt;
  short = λ k d l. absurd (omega arith);
}

pub returns-in-None : goal.returns-in-None
returns-in-None c =
    let state : Kept → FolderState =
    λ kept. record { number = c.self.inside.number; kept = kept; joined = c.self.inside.joined } in
    record { taken = tt; left = ap state c.in-None.ensures.left ∙ c.self.view_is; short = tt }
