-- Answers to a question: a value, or the kind of the error that the question commits.
use Rattle.std.specs.Prelude.{ℕ, Option, Some, None}

pub data Answer (A : Type 0) : Type 0 where
  fine : A → Answer A
  wrong : ℕ → Answer A

abbrev pub then_answer : {A B : Type 0} → Answer A → (A → Answer B) → Answer B
then_answer (fine value) next = next value
then_answer (wrong kind) next = wrong kind

-- what is there, or else an error
abbrev pub or_wrong : {A : Type 0} → ℕ → Option A → Answer A
or_wrong kind None = wrong kind
or_wrong kind (Some value) = fine value
