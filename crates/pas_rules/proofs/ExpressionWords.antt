-- Expressions and variables have a word or more.
use Rattle.std.proofs.Common.{ℕ, ◌<◌, arith, List, ◌∷◌, ◌++◌, length}
use Rattle.std.proofs.lemmas.List.{length-append}
use Rattle.pas_syntax.specs.Tree as tree
use Rattle.pas_syntax.specs.Tree.{Expr, Sum, Term, Factor}
use Rattle.pas_syntax.specs.Words.{Word, expr_words, sum_words, term_words, factor_words, variable_words}

some_behind : (words more : List Word) (word : Word) → 0 < length (words ++ word ∷ more)
some_behind words more word = omega (arith, length-append words (word ∷ more))

pub variable_some : (n a : ℕ) (v : tree.Variable) → 0 < length (variable_words n a v)
variable_some n a (tree.whole ident) = omega arith
variable_some n a (tree.indexed v opened indexes closed) = some_behind (variable_words n a v) _ _
variable_some n a (tree.field_of v line ident) = some_behind (variable_words n a v) _ _
variable_some n a (tree.buffer_of v line) = some_behind (variable_words n a v) _ _

pub factor_some : (n a : ℕ) (f : Factor) → 0 < length (factor_words n a f)
factor_some n a (tree.literal numeral) = omega arith
factor_some n a (tree.literal_text quoted) = omega arith
factor_some n a (tree.parenthesized opened e closed) = omega arith
factor_some n a (tree.negated line f) = omega arith
factor_some n a (tree.variable v) = variable_some n a v
factor_some n a (tree.function_call name opened arguments closed) = omega arith
factor_some n a (tree.set_value line) = omega arith
factor_some n a (tree.nil line) = omega arith

pub term_some : (n a : ℕ) (t : Term) → 0 < length (term_words n a t)
term_some n a (tree.first_factor f) = factor_some n a f
term_some n a (tree.more_factors left op f) = some_behind (term_words n a left) _ _
term_some n a (tree.quotient left line) = some_behind (term_words n a left) _ _

pub sum_some : (n a : ℕ) (s : Sum) → 0 < length (sum_words n a s)
sum_some n a (tree.first_term t) = term_some n a t
sum_some n a (tree.signed_term lead t) = omega arith
sum_some n a (tree.more_terms left op t) = some_behind (sum_words n a left) _ _
sum_some n a (tree.membership left line) = some_behind (sum_words n a left) _ _

pub expr_some : (n a : ℕ) (e : Expr) → 0 < length (expr_words n a e)
expr_some n a (tree.sum s) = sum_some n a s
expr_some n a (tree.relation left op right) = some_behind (sum_words n a left) _ _
