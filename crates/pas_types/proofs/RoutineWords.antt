-- The words of a routine: those of its heading, up to the semicolon, and those behind it.
use Rattle.std.proofs.Common.{◌≡◌, sym, ap, ◌∙◌, ℕ, List, [], ◌∷◌, ◌++◌, Option}
use Rattle.std.proofs.lemmas.List.{append_assoc}
use Rattle.pas_tokens.specs.declared.kinds.Kind.TheVariants as k
use Rattle.pas_syntax.specs.Tree as tree
use Rattle.pas_syntax.specs.Tree.{Labels, Rows, VariableRow, Compound}
use Rattle.pas_syntax.specs.Words.{Word, at, words_if, labels_words, rows_words, variable_row_words, statements_words}
use Rattle.pas_syntax.specs.Words.{name_at, parameters_words, result_words, heading_words, body_words}
use Rattle.pas_rules.specs.Routines.{head_of}
use Rattle.pas_rules.specs.HeadingWords.{parts_words}

-- the word that a heading begins with
abbrev pub first_word : tree.Heading → Word
first_word (tree.procedure line name parameters) = at 0 k.Procedure line
first_word (tree.function line name parameters result) = at 0 k.Function line

pub heading_split : (heading : tree.Heading) (line : ℕ) (rest : List Word)
    → heading_words heading ++ at 0 k.Semicolon line ∷ rest
    ≡ parts_words (first_word heading) (head_of heading) line ++ rest
heading_split (tree.procedure at_line name parameters) line rest =
    let first : List Word = words_if parameters_words parameters in
    let semicolon : List Word = at 0 k.Semicolon line ∷ [] in
    ap (λ (words : List Word). at 0 k.Procedure at_line ∷ (name_at 0 name ∷ words)) (sym (append_assoc first semicolon rest))
heading_split (tree.function at_line name parameters result) line rest =
    let first : List Word = words_if parameters_words parameters in
    let second : List Word = words_if result_words result in
    let semicolon : List Word = at 0 k.Semicolon line ∷ [] in
    ap (λ (words : List Word). at 0 k.Function at_line ∷ (name_at 0 name ∷ words))
    (append_assoc first second (semicolon ++ rest)
    ∙ (ap (λ (words : List Word). first ++ words) (sym (append_assoc second semicolon rest))
    ∙ sym (append_assoc first (second ++ semicolon) rest)))

pub block_split : (labels : Option Labels) (variables : Option (Rows VariableRow)) (body : Compound) (line : ℕ)
    → body_words (tree.block labels variables body) ++ at 0 k.Semicolon line ∷ []
    ≡ words_if labels_words labels ++ (words_if (rows_words k.Var variable_row_words) variables
    ++ at 1 k.Begin body.begin ∷ (statements_words 1 body.list
    ++ at 1 k.End body.end ∷ (at 0 k.Semicolon line ∷ [])))
block_split labels variables body line =
    let first : List Word = words_if labels_words labels in
    let second : List Word = words_if (rows_words k.Var variable_row_words) variables in
    let list : List Word = statements_words 1 body.list in
    let end : List Word = at 1 k.End body.end ∷ [] in
    let semicolon : List Word = at 0 k.Semicolon line ∷ [] in
    let begin : Word = at 1 k.Begin body.begin in
    append_assoc first (second ++ begin ∷ (list ++ end)) semicolon
    ∙ ap (λ (words : List Word). first ++ words)
    (append_assoc second (begin ∷ (list ++ end)) semicolon
    ∙ ap (λ (words : List Word). second ++ begin ∷ words) (append_assoc list end semicolon))
