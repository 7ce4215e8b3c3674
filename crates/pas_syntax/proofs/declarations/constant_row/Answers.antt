use Rattle.std.proofs.Common.{refl, ℕ}
use Rattle.std.proofs.lemmas.Result.{err_from_is_err_and}
use Rattle.pas_tokens.specs.declared.kinds.Kind.TheVariants as k
use Rattle.pas_syntax.specs.Tree.{Ident, ConstantRow, Constant}
use Rattle.pas_syntax.specs.Views.{ident_in, constant_in}
use Rattle.pas_syntax.specs.inner.Prog.{Prog, done, bind}
use Rattle.pas_syntax.specs.inner.Marks.{mark}
use Rattle.pas_syntax.specs.inner.TypeReaders.{constant}
use Rattle.pas_syntax.proofs.PlaceLemmas.{returned, stops}
use Rattle.pas_syntax.proofs.PlaceSteps.{from_here, and_then, stopped, read}
use Rattle.pas_syntax.proofs.declarations.constant_row.Goals as goal

-- what is read behind each part
abbrev made : Ident → ℕ → Constant → ℕ → Prog ConstantRow
made name equals found end = done (record { name = name; equals = equals; value = found; end = end })

abbrev behind_found : Ident → ℕ → Constant → Prog ConstantRow
behind_found name equals found = bind (mark k.Semicolon) (made name equals found)

abbrev behind_equals : Ident → ℕ → ℕ → Prog ConstantRow
behind_equals name m equals = bind (constant) (behind_found name equals)

abbrev behind_name : ℕ → Ident → Prog ConstantRow
behind_name m name = bind (mark k.Equal) (behind_equals name m)

pub returns-in_err-name : goal.returns-in_err-name
returns-in_err-name c =
    returned (err_from_is_err_and _ c.from_residual.ensures.1) (stops behind_name c.in_err-name.ensures)

pub returns-in_err-equals : goal.returns-in_err-equals
returns-in_err-equals c =
    let name = ident_in c.args.reader.now.spellings c.in_ok-name.name in
    from_here (and_then behind_name c.in_ok-name.ensures
    (stopped (behind_equals name) c.from_residual-in_err-equals.result c.in_err-equals.ensures
    c.from_residual-in_err-equals.ensures.1))

pub returns-in_err-value : goal.returns-in_err-value
returns-in_err-value c =
    let name = ident_in c.args.reader.now.spellings c.in_ok-name.name in
    from_here (and_then behind_name c.in_ok-name.ensures
    (and_then (behind_equals name) c.in_ok-equals.ensures
    (stopped (λ m. behind_found name c.in_ok-equals.equals) c.from_residual-in_err-value.result
    c.in_err-value.ensures c.from_residual-in_err-value.ensures.1)))

pub returns-in_err-end : goal.returns-in_err-end
returns-in_err-end c =
    let s = c.args.reader.now.spellings in
    let name = ident_in s c.in_ok-name.name in
    from_here (and_then behind_name c.in_ok-name.ensures
    (and_then (behind_equals name) c.in_ok-equals.ensures
    (and_then (λ m. behind_found name c.in_ok-equals.equals) c.in_ok-value.ensures
    (stopped (λ m. made name c.in_ok-equals.equals (constant_in s c.in_ok-value.value))
    c.from_residual-in_err-end.result
    c.in_err-end.ensures c.from_residual-in_err-end.ensures.1))))

pub returns : goal.returns
returns c =
    let s = c.args.reader.now.spellings in
    let name = ident_in s c.in_ok-name.name in
    from_here (and_then behind_name c.in_ok-name.ensures
    (and_then (behind_equals name) c.in_ok-equals.ensures
    (and_then (λ m. behind_found name c.in_ok-equals.equals) c.in_ok-value.ensures
    (and_then (λ m. made name c.in_ok-equals.equals (constant_in s c.in_ok-value.value)) c.in_ok-end.ensures
    (read refl)))))
