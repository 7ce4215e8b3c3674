-- The words of headings of routines.
use Rattle.std.specs.Prelude.{List, ◌∷◌, ◌++◌, [], ℕ}
use Rattle.pas_tokens.specs.declared.kinds.Kind.TheVariants as k
use Rattle.pas_syntax.specs.Words.{Word, at, name_at, words_if, parameters_words, result_words}
use Rattle.pas_rules.specs.Routines.{HeadingParts}

-- the words of a heading behind its name, with the semicolon in this line, and all of them, of which this is the first
abbrev pub rest_words : HeadingParts → ℕ → List Word
rest_words head line =
    words_if parameters_words head.parameters ++ (words_if result_words head.result ++ at 0 k.Semicolon line ∷ [])

abbrev pub parts_words : Word → HeadingParts → ℕ → List Word
parts_words word head line = word ∷ (name_at 0 head.name ∷ rest_words head line)
