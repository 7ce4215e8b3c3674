-- What is noted of a type expression that is declared.
use Rattle.std.proofs.Common.{◌≡◌, ◌≢◌, refl, sym, ap, subst, ◌∙◌, ℕ, Bool, false, List, Option, Some, None, Ok, Err}
use Rattle.wb_base.specs.declared.faults.Fault.{Fault}
use Rattle.pas_tokens.specs.Cutting.{Wrong}
use Rattle.pas_syntax.specs.Words.{Word}
use Rattle.pas_scopes.specs.declared.stop.Stop.{Stop}
use Rattle.pas_scopes.specs.declared.stop.Stop.TheVariants as stop
use Rattle.pas_scopes.specs.declared.judged.Judged.{Judged as CodeJudged}
use Rattle.pas_rules.specs.Marks.{Judged}
use Rattle.pas_scopes.specs.Ends.{Ends}
use Rattle.pas_scopes.specs.Answers.{end_in, stands_at, stands_by, StopsBy}
use Rattle.pas_scopes.specs.FormAnswers.{first_told, FoundIf}
use Rattle.pas_scopes.specs.DeclaredSoFar.{first_noted, NotesIf}
use Rattle.pas_scopes.proofs.EndLemmas.{end_quiet}
use Rattle.pas_scopes.proofs.AnswerLemmas.{stops_fails, refused_shows}
use Rattle.pas_scopes.proofs.DeclaredLemmas.{notes_why, fault_noted}

module _ {X A : Type 0} (Clear : Type 0) (words : List Word) (part : Judged A) (view : X → A) where
  noted_at : (value : A) (line : ℕ) (refusal : Option Wrong) → Ends words part value line refusal false
      → NotesIf Clear words part.marks None (first_noted None (stands_at line refusal))
  noted_at value line None h =
      λ clear. record { still = end_quiet words part.marks.tokens line h.end; behind = h.behind }
  noted_at value line (Some refusal) h = λ clear. refused_shows words part value line refusal false h

  -- it is found
  pub notes_found_form : (found : CodeJudged X) (one two three : Option Fault)
      → (one ≡ None → FoundIf Clear words part view two (Ok found))
      → ((fault : Fault) → one ≡ Some fault → two ≡ Some fault) → (end_in found.end).is_short ≡ false
      → three ≡ first_noted two (stands_by (end_in found.end)) → NotesIf Clear words part.marks one three
  notes_found_form found None None three h stays whole is =
      subst (NotesIf Clear words part.marks None) (sym is)
      (noted_at (view found.value) (end_in found.end).line (end_in found.end).refusal
      (subst (λ (short : Bool). Ends words part (view found.value) (end_in found.end).line (end_in found.end).refusal
      short) whole (h refl)))
  notes_found_form found None (Some fault) three h stays whole is =
      subst (NotesIf Clear words part.marks None) (sym is)
      (λ clear. stops_fails words part (stop.Fault fault) (h refl clear))
  notes_found_form found (Some fault) two three h stays whole is =
      is ∙ ap (λ (noted : Option Fault). first_noted noted (stands_by (end_in found.end))) (stays fault refl)

  told_some : (fault : Fault) (why : Stop) → why ≢ stop.OutOfMemory
      → StopsBy words part (first_told (Some fault) why) → StopsBy words part (stop.Fault fault)
  told_some fault stop.OutOfMemory some h = absurd (some refl)
  told_some fault (stop.Fault other) some h = h
  told_some fault stop.Missing some h = h

  -- checking stops in it
  pub notes_stopped_form : (why : Stop) (one two three : Option Fault) → why ≢ stop.OutOfMemory
      → (one ≡ None → FoundIf Clear words part view two (Err why))
      → ((fault : Fault) → one ≡ Some fault → two ≡ Some fault) → three ≡ first_noted two (Err why)
      → NotesIf Clear words part.marks one three
  notes_stopped_form why None None three some h stays is =
      subst (NotesIf Clear words part.marks None) (sym is)
      (notes_why Clear words part.marks None why some (λ clear. stops_fails words part why (h refl clear)))
  notes_stopped_form why None (Some fault) three some h stays is =
      subst (NotesIf Clear words part.marks None) (sym is)
      (λ clear. stops_fails words part (stop.Fault fault) (told_some fault why some (h refl clear)))
  notes_stopped_form why (Some fault) two three some h stays is =
      is ∙ ap (λ (noted : Option Fault). first_noted noted (Err why)) (stays fault refl)

  pub none_stopped : (why : Stop) (one two : Option Fault) → why ≢ stop.OutOfMemory
      → (one ≡ None → FoundIf Clear words part view two (Err why))
      → ((fault : Fault) → one ≡ Some fault → two ≡ Some fault) → Clear → first_noted two (Err why) ≡ None → ⊥
  none_stopped why None None some h stays clear none = fault_noted words part None why some (h refl clear) none
  none_stopped why None (Some fault) some h stays clear none = cc
  none_stopped why (Some fault) two some h stays clear none =
      some_none (sym (ap (λ (noted : Option Fault). first_noted noted (Err why)) (stays fault refl)) ∙ none)
    where
      some_none : Some fault ≡ None → ⊥
      some_none e = cc
