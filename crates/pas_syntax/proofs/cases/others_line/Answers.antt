use Rattle.std.proofs.Common.{◌≡◌, refl, sym, ◌∙◌, List, [], map, None}
use Rattle.std.proofs.lemmas.Bool.{false≢true}
use Rattle.pas_tokens.specs.declared.kinds.Kind.{Kind}
use Rattle.pas_tokens.specs.declared.kinds.Kind.TheVariants as k
use Rattle.pas_syntax.specs.declared.tree.Behind.{Behind as CodeBehind}
use Rattle.pas_syntax.specs.Tree as tree
use Rattle.pas_syntax.specs.Tree.{Constant}
use Rattle.pas_syntax.specs.Views.{behind_in, constant_in}
use Rattle.pas_syntax.specs.inner.StatementViews.{others_before_colon}
use Rattle.pas_syntax.proofs.cases.others_line.Goals as goal

-- several constants are no name alone
not_alone : {X : Type 0} (view : X → Constant) (kind : Kind) (first : Constant) (more : List (CodeBehind X))
    → (more ≡ [] → ⊥) → others_before_colon kind (record { first = first; more = map (behind_in view) more }) ≡ None
not_alone view k.Colon (tree.named None name) [] several = absurd (several refl)
not_alone view kind first more several = refl

pub returns-then-not-is_empty : goal.returns-then-not-is_empty
returns-then-not-is_empty c =
    let s = c.args.reader.now.spellings in
    let there = c.args.constants.now in
    sym (not_alone (constant_in s) _ (constant_in s there.first) there.more (λ e. false≢true (sym
    c.if-not-is_empty.true ∙ c.is_empty.ensures.1 e)))
