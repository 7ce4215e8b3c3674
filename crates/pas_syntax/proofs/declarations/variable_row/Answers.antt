use Rattle.std.proofs.Common.{◌≡◌, refl, sym, ℕ, List}
use Rattle.std.proofs.lemmas.Result.{err_from_is_err_and}
use Rattle.pas_tokens.specs.declared.kinds.Kind.TheVariants as k
use Rattle.pas_tokens.specs.Tokens.{Token}
use Rattle.pas_syntax.specs.Tree.{Idents, VariableRow, TypeForm}
use Rattle.pas_syntax.specs.Views.{ident_in, separated_in}
use Rattle.pas_syntax.specs.ProgramViews.{type_in}
use Rattle.pas_syntax.specs.inner.Prog.{Prog, done, bind, run, turns}
use Rattle.pas_syntax.specs.inner.Marks.{mark}
use Rattle.pas_syntax.specs.inner.Readers.{ident}
use Rattle.pas_syntax.specs.inner.TypeReaders.{single, behind_item, idents_by, type_form}
use Rattle.pas_syntax.specs.inner.DeclarationReaders.{variable_row_behind}
use Rattle.pas_syntax.proofs.ProgLemmas.{run_assoc}
use Rattle.pas_syntax.proofs.PlaceLemmas.{returned, stops, goes_as}
use Rattle.pas_syntax.proofs.PlaceSteps.{from_here, and_then, stopped, read}
use Rattle.pas_syntax.proofs.declarations.variable_row.Goals as goal

-- what is read behind each part
abbrev made : Idents → ℕ → TypeForm → ℕ → Prog VariableRow
made names colon found end = done (record { names = names; colon = colon; form = found; end = end })

abbrev behind_found : Idents → ℕ → TypeForm → Prog VariableRow
behind_found names colon found = bind (mark k.Semicolon) (made names colon found)

abbrev behind_colon : Idents → ℕ → ℕ → Prog VariableRow
behind_colon names m colon = bind (type_form m 0) (behind_found names colon)

abbrev behind_names : ℕ → Idents → Prog VariableRow
behind_names m names = bind (mark k.Colon) (behind_colon names m)

-- the names are read as one
with_names : (m : ℕ) (ts : List Token)
    → run (bind ident (variable_row_behind m)) ts ≡ run (bind (idents_by m) (behind_names m)) ts
with_names m ts = sym (run_assoc ident (λ name. turns (behind_item ident) m (single name)) (behind_names m) ts)

pub returns-in_err-names : goal.returns-in_err-names
returns-in_err-names c =
    returned (err_from_is_err_and _ c.from_residual.ensures.1)
    (goes_as (λ m. with_names m c.args.reader.now.tokens) (stops behind_names c.in_err-names.ensures))

pub returns-in_err-colon : goal.returns-in_err-colon
returns-in_err-colon c =
    let names = separated_in (ident_in c.args.reader.now.spellings) c.in_ok-names.names in
    goes_as (λ m. with_names m c.args.reader.now.tokens) (from_here (and_then behind_names c.in_ok-names.ensures
    (stopped (behind_colon names) c.from_residual-in_err-colon.result c.in_err-colon.ensures
    c.from_residual-in_err-colon.ensures.1)))

pub returns-in_err-form : goal.returns-in_err-form
returns-in_err-form c =
    let names = separated_in (ident_in c.args.reader.now.spellings) c.in_ok-names.names in
    goes_as (λ m. with_names m c.args.reader.now.tokens) (from_here (and_then behind_names c.in_ok-names.ensures
    (and_then (behind_colon names) c.in_ok-colon.ensures
    (stopped (λ m. behind_found names c.in_ok-colon.colon) c.from_residual-in_err-form.result
    c.in_err-form.ensures c.from_residual-in_err-form.ensures.1))))

pub returns-in_err-end : goal.returns-in_err-end
returns-in_err-end c =
    let s = c.args.reader.now.spellings in
    let names = separated_in (ident_in s) c.in_ok-names.names in
    goes_as (λ m. with_names m c.args.reader.now.tokens) (from_here (and_then behind_names c.in_ok-names.ensures
    (and_then (behind_colon names) c.in_ok-colon.ensures
    (and_then (λ m. behind_found names c.in_ok-colon.colon) c.in_ok-form.ensures
    (stopped (λ m. made names c.in_ok-colon.colon (type_in s c.in_ok-form.form)) c.from_residual-in_err-end.result
    c.in_err-end.ensures c.from_residual-in_err-end.ensures.1)))))

pub returns : goal.returns
returns c =
    let s = c.args.reader.now.spellings in
    let names = separated_in (ident_in s) c.in_ok-names.names in
    goes_as (λ m. with_names m c.args.reader.now.tokens) (from_here (and_then behind_names c.in_ok-names.ensures
    (and_then (behind_colon names) c.in_ok-colon.ensures
    (and_then (λ m. behind_found names c.in_ok-colon.colon) c.in_ok-form.ensures
    (and_then (λ m. made names c.in_ok-colon.colon (type_in s c.in_ok-form.form)) c.in_ok-end.ensures
    (read refl))))))
