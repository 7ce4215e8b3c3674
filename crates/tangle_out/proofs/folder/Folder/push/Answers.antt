use Rattle.std.proofs.Common.{[], reverse, sym, subst, ap, length, arith}
use Rattle.std.proofs.lemmas.Result.{err_from_is_err_and}
use Rattle.macro_expand.specs.Items.{digit, item_of}
use Rattle.tangle_out.specs.Folder.{FolderState, Stands, HasRoomFor}
use Rattle.tangle_out.proofs.FolderLemmas.{adds, shows, digit_ok, digit_err, item_ok, item_err_number, item_err_unit}
use Rattle.tangle_out.proofs.FolderLemmas.{not_digit, can_take, depth_after_digits}
use Rattle.tangle_out.proofs.folder.Folder.push.Goals as goal

pub returns-in-Digit-clause-ok : goal.returns-in-Digit-clause-ok
returns-in-Digit-clause-ok c = λ items s.
    let s1 = subst (λ (state : FolderState). Stands state items) (sym c.self.view_is) s in
    let after = digit_ok (reverse items) c.in-Digit.byte _ c.in_ok-with_digit.field-0 s1.holds
    (sym c.in_ok-with_digit.ensures.value) in
    rw (c.in-Digit.is, c.new.ensures) (adds items (digit c.in-Digit.byte) _ _ [] s1 after.0 after.1)

pub returns-in_err-kept-clause-fault : goal.returns-in_err-kept-clause-fault
returns-in_err-kept-clause-fault c =
    let p = err_from_is_err_and c.from_residual-in_err-kept.result c.from_residual-in_err-kept.ensures.1 in
    rw (p.1, p.2) (λ items s.
    let s1 = subst (λ (state : FolderState). Stands state items) (sym c.self.view_is) s in
    shows items (item_of c.args.item) _ _ s1
    (item_err_number (reverse items) (item_of c.args.item) _ _ (not_digit c.args.item c.in_default.not-Digit) s1.holds
    (sym c.in_err-kept.ensures.value)))

pub returns-in_err-self-inside-clause-fault : goal.returns-in_err-self-inside-clause-fault
returns-in_err-self-inside-clause-fault c =
    let p = err_from_is_err_and c.from_residual-in_err-self-inside.result
    c.from_residual-in_err-self-inside.ensures.1 in
    let fault = rw c.unit_of.ensures at c.in_err-self-inside.ensures.value in
    rw (p.1, p.2) (λ items s.
    let s1 = subst (λ (state : FolderState). Stands state items) (sym c.self.view_is) s in
    shows items (item_of c.args.item) _ _ s1
    (item_err_unit (reverse items) (item_of c.args.item) _ _ _ (not_digit c.args.item c.in_default.not-Digit) s1.holds
    (sym c.in_ok-kept.ensures.value) (sym fault)))

pub returns-clause-ok : goal.returns-clause-ok
returns-clause-ok c = λ items s.
    let s1 = subst (λ (state : FolderState). Stands state items) (sym c.self.view_is) s in
    let kept = rw c.unit_of.ensures at c.in_ok-self-inside.ensures.value in
    let after = item_ok (reverse items) (item_of c.args.item) _ _ _ (not_digit c.args.item c.in_default.not-Digit)
    s1.holds (sym c.in_ok-kept.ensures.value) (sym kept) in
    rw (
      c.in_ok-self-inside.ensures.pieces,
      c.in_ok-self-inside.ensures.joined,
      c.in_ok-kept.ensures.pieces,
      c.in_ok-kept.ensures.joined,
      c.new-given.ensures.pieces,
      c.new-given.ensures.joined,
      c.unit_of.ensures,
    )
    (adds items (item_of c.args.item) _ _ _ s1 after.0 after.1)

pub returns-in_err-with_digit-clause-fault : goal.returns-in_err-with_digit-clause-fault
returns-in_err-with_digit-clause-fault c =
    let p = err_from_is_err_and c.from_residual.result c.from_residual.ensures.1 in
    rw (p.1, p.2, c.in-Digit.is) (λ items s.
    let s1 = subst (λ (state : FolderState). Stands state items) (sym c.self.view_is) s in
    shows items (digit c.in-Digit.byte) _ _ s1
    (digit_err (reverse items) c.in-Digit.byte _ _ s1.holds (sym c.in_err-with_digit.ensures.value)))

pub after-requires : goal.after-requires
after-requires c =
    let depth = depth_after_digits c.self.inside.kept c.in_ok-kept.kept c.self.inside.number
    (sym c.in_ok-kept.ensures.value) in
    let room = subst (λ (state : FolderState). HasRoomFor state (item_of c.args.item)) (sym c.self.view_is)
    c.requires.room in
    let len = c.in_ok-kept.ensures.len in
    let none = ap length c.new-given.ensures.pieces in
    record {
      small = c.in_ok-kept.ensures.small;
      unit = rw c.unit_of.ensures
          (can_take c.in_ok-kept.kept (item_of c.args.item) c.requires.item (λ e. rw depth (room e)));
      room = omega arith;
    }
