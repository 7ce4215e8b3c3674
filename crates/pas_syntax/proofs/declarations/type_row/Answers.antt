use Rattle.std.proofs.Common.{refl, ℕ}
use Rattle.std.proofs.lemmas.Result.{err_from_is_err_and}
use Rattle.pas_tokens.specs.declared.kinds.Kind.TheVariants as k
use Rattle.pas_syntax.specs.Tree.{Ident, TypeRow, TypeForm}
use Rattle.pas_syntax.specs.Views.{ident_in}
use Rattle.pas_syntax.specs.ProgramViews.{type_in}
use Rattle.pas_syntax.specs.inner.Prog.{Prog, done, bind}
use Rattle.pas_syntax.specs.inner.Marks.{mark}
use Rattle.pas_syntax.specs.inner.TypeReaders.{type_form}
use Rattle.pas_syntax.proofs.PlaceLemmas.{returned, stops}
use Rattle.pas_syntax.proofs.PlaceSteps.{from_here, and_then, stopped, read}
use Rattle.pas_syntax.proofs.declarations.type_row.Goals as goal

-- what is read behind each part
abbrev made : Ident → ℕ → TypeForm → ℕ → Prog TypeRow
made name equals found end = done (record { name = name; equals = equals; form = found; end = end })

abbrev behind_found : Ident → ℕ → TypeForm → Prog TypeRow
behind_found name equals found = bind (mark k.Semicolon) (made name equals found)

abbrev behind_equals : Ident → ℕ → ℕ → Prog TypeRow
behind_equals name m equals = bind (type_form m 0) (behind_found name equals)

abbrev behind_name : ℕ → Ident → Prog TypeRow
behind_name m name = bind (mark k.Equal) (behind_equals name m)

pub returns-in_err-name : goal.returns-in_err-name
returns-in_err-name c =
    returned (err_from_is_err_and _ c.from_residual.ensures.1) (stops behind_name c.in_err-name.ensures)

pub returns-in_err-equals : goal.returns-in_err-equals
returns-in_err-equals c =
    let name = ident_in c.args.reader.now.spellings c.in_ok-name.name in
    from_here (and_then behind_name c.in_ok-name.ensures
    (stopped (behind_equals name) c.from_residual-in_err-equals.result c.in_err-equals.ensures
    c.from_residual-in_err-equals.ensures.1))

pub returns-in_err-form : goal.returns-in_err-form
returns-in_err-form c =
    let name = ident_in c.args.reader.now.spellings c.in_ok-name.name in
    from_here (and_then behind_name c.in_ok-name.ensures
    (and_then (behind_equals name) c.in_ok-equals.ensures
    (stopped (λ m. behind_found name c.in_ok-equals.equals) c.from_residual-in_err-form.result
    c.in_err-form.ensures c.from_residual-in_err-form.ensures.1)))

pub returns-in_err-end : goal.returns-in_err-end
returns-in_err-end c =
    let s = c.args.reader.now.spellings in
    let name = ident_in s c.in_ok-name.name in
    from_here (and_then behind_name c.in_ok-name.ensures
    (and_then (behind_equals name) c.in_ok-equals.ensures
    (and_then (λ m. behind_found name c.in_ok-equals.equals) c.in_ok-form.ensures
    (stopped (λ m. made name c.in_ok-equals.equals (type_in s c.in_ok-form.form)) c.from_residual-in_err-end.result
    c.in_err-end.ensures c.from_residual-in_err-end.ensures.1))))

pub returns : goal.returns
returns c =
    let s = c.args.reader.now.spellings in
    let name = ident_in s c.in_ok-name.name in
    from_here (and_then behind_name c.in_ok-name.ensures
    (and_then (behind_equals name) c.in_ok-equals.ensures
    (and_then (λ m. behind_found name c.in_ok-equals.equals) c.in_ok-form.ensures
    (and_then (λ m. made name c.in_ok-equals.equals (type_in s c.in_ok-form.form)) c.in_ok-end.ensures
    (read refl)))))
