-- What the declarations of labels answer.
use Rattle.std.specs.Prelude.{◌≡◌, ℕ, false, [], ◌∷◌, map, Option, Result, Ok, Err}
use Rattle.pas_tokens.specs.declared.kinds.Kind.TheVariants as k
use Rattle.pas_syntax.specs.Tree.{Numeral, Separated, Labels}
use Rattle.pas_syntax.specs.Words.{number_at, separated, words_if, labels_words}
use Rattle.pas_scopes.specs.declared.stop.Stop.{Stop}
use Rattle.pas_types.specs.declared.labels.Label.{Label}
use Rattle.pas_rules.specs.Marks.{shows, listed}
use Rattle.pas_rules.specs.Declarations.{numerals_of, declared_labels, new_label, each_label, label_marks}
use Rattle.pas_scopes.specs.Answers.{FailsBy, IsQuiet}
use Rattle.pas_types.specs.inner.LabelViews.{Known, numbers_of, known_labels}

-- a label that stands nowhere yet
abbrev pub fresh_label : ℕ → ℕ × Label
fresh_label label = (label, record { stands = false; around = 0 })

-- a label behind others
abbrev pub IsNew : Known → Numeral → Result (Unit {0}) Stop → Type 0
IsNew labels numeral (Ok done) = new_label (numbers_of labels) numeral.value ≡ []
IsNew labels numeral (Err why) =
    FailsBy (number_at 0 numeral ∷ []) (shows (new_label (numbers_of labels) numeral.value)) why

-- all labels of a part, none of which stands yet
abbrev pub Numbers : Separated Numeral → Result Known Stop → Type 0
Numbers numbers (Ok found) =
    (found ≡ known_labels (map (λ numeral. numeral.value) (numerals_of numbers)) [] [])
    × IsQuiet (separated 0 k.Comma (λ numeral. number_at 0 numeral ∷ []) numbers)
    (listed (each_label [] (numerals_of numbers))) false
Numbers numbers (Err why) =
    FailsBy (separated 0 k.Comma (λ numeral. number_at 0 numeral ∷ []) numbers)
    (listed (each_label [] (numerals_of numbers))) why

abbrev pub Declares : Option Labels → Result Known Stop → Type 0
Declares part (Ok found) =
    (found ≡ known_labels (declared_labels part) [] []) × IsQuiet (words_if labels_words part) (label_marks part) false
Declares part (Err why) = FailsBy (words_if labels_words part) (label_marks part) why
