-- What the name stands for, by its class and value.
use Rattle.std.proofs.Common.{◌≡◌, ◌∙◌, sym, ap, map, slice_get, Some, nat_abs, ◌<◌, subst}
use mir.Syntax.{w64}
use mir.Val.{to_z, of_z}
use Rattle.web_names.specs.declared.classes.Class.TheVariants as class
use Rattle.web_scan.proofs.ReadingLemmas.{kind_of, IsTextOf-text_of_macro, length-printed, low-numeric}
use Rattle.web_scan.proofs.ReadingLemmas.{high-numeric, IsValueOf-kind}
use Rattle.macro_expand.specs.Expansion.{itself}
use Rattle.macro_expand.specs.Foldable.{IsConstant}
use Rattle.macro_expand.specs.Items.{number}
use Rattle.macro_expand.proofs.MeaningLemmas.{name_meaning-numeric, name_meaning-simple, name_meaning-parametric}
use Rattle.macro_expand.proofs.MeaningLemmas.{same_number}
use Rattle.macro_expand.proofs.meanings.meaning_of_name.Goals as goal

pub returns-in-Ordinary-default-clause-kept : goal.returns-in-Ordinary-default-clause-kept
returns-in-Ordinary-default-clause-kept c =
    length-printed c.names-names.result.now.options c.names-names.result.now.names c.args.id c.printed.result.now
    c.printed.ensures

pub returns-in-Numeric-default-clause-means : goal.returns-in-Numeric-default-clause-means
returns-in-Numeric-default-clause-means c =
    let value = c.kind.result.1 in
    let at : slice_get (map kind_of c.args.web.now.names.names) c.args.id ≡ Some (class.Numeric, value) =
    ap (λ names. slice_get (map kind_of names.names) c.args.id) (sym c.names-names.ensures.names) ∙ c.kind.ensures
    ∙ ap (λ kind. Some (kind, value)) c.in-Numeric-default.is-0 in
    let small : nat_abs value < 32768 = IsValueOf-kind c.args.web.now c.args.id class.Numeric value
    c.names-names.ensures.lawful at in
    ap (λ value. itself (number (to_z w64 (of_z w64 value)))) c.from.ensures
    ∙ ap (λ value. itself (number value)) (same_number value small)
    ∙ name_meaning-numeric c.args.web.now c.args.id value at

pub returns-in-Numeric-default-clause-kept : goal.returns-in-Numeric-default-clause-kept
returns-in-Numeric-default-clause-kept c =
    let value = c.kind.result.1 in
    let at : slice_get (map kind_of c.args.web.now.names.names) c.args.id ≡ Some (class.Numeric, value) =
    ap (λ names. slice_get (map kind_of names.names) c.args.id) (sym c.names-names.ensures.names) ∙ c.kind.ensures
    ∙ ap (λ kind. Some (kind, value)) c.in-Numeric-default.is-0 in
    let small : nat_abs value < 32768 = IsValueOf-kind c.args.web.now c.args.id class.Numeric value
    c.names-names.ensures.lawful at in
    subst IsConstant (sym (ap (λ value. to_z w64 (of_z w64 value)) c.from.ensures ∙ same_number value small))
    (record { low = low-numeric value small; high = high-numeric value small })

pub returns-in-Simple-default-clause-means : goal.returns-in-Simple-default-clause-means
returns-in-Simple-default-clause-means c =
    let value = c.kind.result.1 in
    name_meaning-simple c.args.web.now c.args.id value c.macro_text.result.now
    (ap (λ names. slice_get (map kind_of names.names) c.args.id) (sym c.names-names.ensures.names) ∙ c.kind.ensures
    ∙ ap (λ kind. Some (kind, value)) c.in-Simple-default.is-0) c.macro_text.ensures

pub returns-in-Simple-default-clause-kept : goal.returns-in-Simple-default-clause-kept
returns-in-Simple-default-clause-kept c =
    IsTextOf-text_of_macro c.args.web.now c.args.id c.macro_text.result.now c.names-names.ensures.lawful
    c.macro_text.ensures

pub returns-in-Parametric-default-clause-means : goal.returns-in-Parametric-default-clause-means
returns-in-Parametric-default-clause-means c =
    let value = c.kind.result.1 in
    name_meaning-parametric c.args.web.now c.args.id value c.macro_text-in-Parametric-default.result.now
    (ap (λ names. slice_get (map kind_of names.names) c.args.id) (sym c.names-names.ensures.names) ∙ c.kind.ensures
    ∙ ap (λ kind. Some (kind, value)) c.in-Parametric-default.is-0) c.macro_text-in-Parametric-default.ensures

pub returns-in-Parametric-default-clause-kept : goal.returns-in-Parametric-default-clause-kept
returns-in-Parametric-default-clause-kept c =
    IsTextOf-text_of_macro c.args.web.now c.args.id c.macro_text-in-Parametric-default.result.now
    c.names-names.ensures.lawful
    c.macro_text-in-Parametric-default.ensures
