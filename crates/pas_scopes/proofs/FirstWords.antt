-- What expressions show at their first word, where they are one too many.
use Rattle.std.proofs.Common.{refl, ℕ, List, [], ◌∷◌, ◌++◌, Option, Some, None}
use Rattle.pas_syntax.specs.declared.operators.Multiplying.{Multiplying}
use Rattle.pas_syntax.specs.declared.operators.Adding.{Adding}
use Rattle.pas_syntax.specs.declared.operators.Relation.{Relation}
use Rattle.pas_syntax.specs.Tree as tree
use Rattle.pas_syntax.specs.Tree.{Ident, Exprs}
use Rattle.pas_syntax.specs.Words.{Word, name_at, variable_words}
use Rattle.pas_scopes.specs.declared.stop.Stop.{Stop}
use Rattle.pas_rules.specs.Marks.{noted, checked, Judged}
use Rattle.pas_typed.specs.Types.{Base, PasType, Table}
use Rattle.pas_typed.specs.Typed.{Value, Place, Variable, Heading, FileTest, Slot}
use Rattle.pas_rules.specs.Scopes.{Scopes, Entity, constant, variable, routine, function, file_test, file_step}
use Rattle.pas_rules.specs.Scopes.{procedure, unclear, type, entity_of, standard_file}
use Rattle.pas_rules.specs.Expressions.{variable_value, place_of, elements_at, only, ordinal_only, array_only}
use Rattle.pas_rules.specs.Expressions.{record_only, files_only, as_value, as_place, product_of, addition_of}
use Rattle.pas_rules.specs.Expressions.{comparison_of, product_base, addition_base, as_array, as_call, Given}
use Rattle.pas_rules.specs.Expressions.{heading_of, call_with, function_call_of, function_alone}
use Rattle.pas_rules.specs.Expressions.{without_arguments, test_alone}
use Rattle.pas_scopes.specs.Arguments.{ShowsFirst, first_name_shows}
use Rattle.pas_scopes.proofs.FirstLemmas.{first_words, first_tokens, first_noted, first_checked, mild_unless, AreMild}

only_mild : (base : Base) (table : Table) (value : Value) → AreMild (only base table value)
only_mild base table value = mild_unless _

-- two operands with an operator between them
module _ (words more : List Word) (table : Table) (left right : Judged Value) (why : Stop)
    (h : ShowsFirst words left.marks.tokens why) where
  pub comparison_first : (op : Relation)
      → ShowsFirst (words ++ more) (comparison_of table left op right).marks.tokens why
  comparison_first op =
      first_words words more _ why
      (first_tokens words (noted (ordinal_only table) left).marks.tokens _ why
      (first_noted words (ordinal_only table) left why (λ value. mild_unless _) h))

  pub addition_first : (op : Adding) → ShowsFirst (words ++ more) (addition_of table left op right).marks.tokens why
  addition_first op =
      first_words words more _ why
      (first_tokens words (noted (only (addition_base op) table) left).marks.tokens _ why
      (first_noted words (only (addition_base op) table) left why (only_mild (addition_base op) table) h))

  pub product_first : (op : Multiplying) → ShowsFirst (words ++ more) (product_of table left op right).marks.tokens why
  product_first op =
      first_words words more _ why
      (first_tokens words (noted (only (product_base op) table) left).marks.tokens _ why
      (first_noted words (only (product_base op) table) left why (only_mild (product_base op) table) h))

-- names
module _ (n : ℕ) (ident : Ident) where
  pub place_name_first : (entity : Option Entity)
      → ShowsFirst (name_at n ident ∷ []) (as_place entity).marks.tokens (first_name_shows ident.line entity)
  place_name_first None = refl
  place_name_first (Some (constant base value)) = refl
  place_name_first (Some (type found)) = refl
  place_name_first (Some (variable found)) = refl
  place_name_first (Some (routine number)) = refl
  place_name_first (Some (function found)) = refl
  place_name_first (Some (file_test found)) = refl
  place_name_first (Some (file_step found)) = refl
  place_name_first (Some (procedure found)) = refl
  place_name_first (Some unclear) = refl

  without_first : (number : ℕ) (entity : Entity) (result : Option PasType) (parameters : List Variable)
      → ShowsFirst (name_at n ident ∷ []) (without_arguments number result parameters).marks.tokens
      (first_name_shows ident.line (Some entity))
  without_first number entity None parameters = refl
  without_first number entity (Some found) [] = refl
  without_first number entity (Some found) (parameter ∷ parameters) = refl

  alone_first : (number : ℕ) (entity : Entity) (heading : Option Heading)
      → ShowsFirst (name_at n ident ∷ []) (function_alone number heading).marks.tokens
      (first_name_shows ident.line (Some entity))
  alone_first number entity None = refl
  alone_first number entity (Some heading) = without_first number entity heading.result heading.parameters

  test_first : (test : FileTest) (entity : Entity) (slot : Option Slot)
      → ShowsFirst (name_at n ident ∷ []) (test_alone test slot).marks.tokens
      (first_name_shows ident.line (Some entity))
  test_first test entity None = refl
  test_first test entity (Some slot) = refl

  pub value_name_first : (scopes : Scopes) (entity : Option Entity)
      → ShowsFirst (name_at n ident ∷ []) (as_value scopes entity).marks.tokens (first_name_shows ident.line entity)
  value_name_first scopes None = refl
  value_name_first scopes (Some (constant base value)) = refl
  value_name_first scopes (Some (type found)) = refl
  value_name_first scopes (Some (variable found)) = refl
  value_name_first scopes (Some (routine number)) =
      alone_first number (routine number) (heading_of scopes number)
  value_name_first scopes (Some (function found)) = refl
  value_name_first scopes (Some (file_test test)) = test_first test (file_test test) (standard_file scopes _)
  value_name_first scopes (Some (file_step found)) = refl
  value_name_first scopes (Some (procedure found)) = refl
  value_name_first scopes (Some unclear) = refl

  -- a name before arguments
  call_with_first : (scopes : Scopes) (number : ℕ) (entity : Entity) (heading : Heading) (arguments : List Given)
      (more : List Word) (result : Option PasType)
      → ShowsFirst (name_at n ident ∷ more) (call_with scopes number heading arguments result).marks.tokens
      (first_name_shows ident.line (Some entity))
  call_with_first scopes number entity heading arguments more None = refl
  call_with_first scopes number entity heading arguments more (Some found) = refl

  function_first : (scopes : Scopes) (number : ℕ) (entity : Entity) (arguments : List Given) (more : List Word)
      (heading : Option Heading)
      → ShowsFirst (name_at n ident ∷ more) (function_call_of scopes number arguments heading).marks.tokens
      (first_name_shows ident.line (Some entity))
  function_first scopes number entity arguments more None = refl
  function_first scopes number entity arguments more (Some heading) =
      call_with_first scopes number entity heading arguments more heading.result

  pub call_name_first : (scopes : Scopes) (arguments : List Given) (more : List Word) (entity : Option Entity)
      → ShowsFirst (name_at n ident ∷ more) (as_call scopes arguments entity).marks.tokens
      (first_name_shows ident.line entity)
  call_name_first scopes arguments more None = refl
  call_name_first scopes arguments more (Some (constant base value)) = refl
  call_name_first scopes arguments more (Some (type found)) = refl
  call_name_first scopes arguments more (Some (variable found)) = refl
  call_name_first scopes arguments more (Some (routine number)) =
      function_first scopes number (routine number) arguments more (heading_of scopes number)
  call_name_first scopes arguments more (Some (function found)) = refl
  call_name_first scopes arguments more (Some (file_test test)) = refl
  call_name_first scopes arguments more (Some (file_step found)) = refl
  call_name_first scopes arguments more (Some (procedure found)) = refl
  call_name_first scopes arguments more (Some unclear) = refl

-- the name that a variable begins with
abbrev pub name_of : tree.Variable → Ident
name_of (tree.whole ident) = ident
name_of (tree.indexed v opened indexes closed) = name_of v
name_of (tree.field_of v line ident) = name_of v
name_of (tree.buffer_of v line) = name_of v

abbrev pub name_shows : Scopes → Ident → Stop
name_shows scopes ident = first_name_shows ident.line (entity_of scopes ident.name)

module _ (scopes : Scopes) (n a : ℕ) where
  elements_first : (words : List Word) (why : Stop) (place : Judged Place) (es : Exprs)
      → ShowsFirst words place.marks.tokens why → ShowsFirst words (elements_at scopes place es).marks.tokens why
  elements_first words why place (tree.first_expr e) h = first_tokens words place.marks.tokens _ why h
  elements_first words why place (tree.more_exprs before line e) h =
      first_tokens words (elements_at scopes place before).marks.tokens _ why
      (elements_first words why place before h)

  indexed_first : (v : tree.Variable) (opened : ℕ) (indexes : Exprs) (closed : ℕ)
      → ShowsFirst (variable_words n a v) (place_of scopes v).marks.tokens (name_shows scopes (name_of v))
      → ShowsFirst (variable_words n a (tree.indexed v opened indexes closed))
      (place_of scopes (tree.indexed v opened indexes closed)).marks.tokens (name_shows scopes (name_of v))
  indexed_first v opened indexes closed h =
      let why : Stop = name_shows scopes (name_of v) in
      let array : Judged Place = as_array scopes.outer.types (place_of scopes v) in
      first_words (variable_words n a v) _ _ why
      (first_tokens (variable_words n a v) (elements_at scopes array indexes).marks.tokens _ why
      (elements_first (variable_words n a v) why array indexes
      (first_checked (variable_words n a v) (array_only scopes.outer.types) (place_of scopes v) why
      (λ place. mild_unless _) h)))

  field_first : (v : tree.Variable) (line : ℕ) (ident : Ident)
      → ShowsFirst (variable_words n a v) (place_of scopes v).marks.tokens (name_shows scopes (name_of v))
      → ShowsFirst (variable_words n a (tree.field_of v line ident))
      (place_of scopes (tree.field_of v line ident)).marks.tokens (name_shows scopes (name_of v))
  field_first v line ident h =
      let why : Stop = name_shows scopes (name_of v) in
      first_words (variable_words n a v) _ _ why
      (first_tokens (variable_words n a v)
      (checked (record_only scopes.outer.types) (place_of scopes v)).marks.tokens _ why
      (first_checked (variable_words n a v) (record_only scopes.outer.types) (place_of scopes v) why
      (λ place. mild_unless _) h))

  buffer_first : (v : tree.Variable) (line : ℕ)
      → ShowsFirst (variable_words n a v) (place_of scopes v).marks.tokens (name_shows scopes (name_of v))
      → ShowsFirst (variable_words n a (tree.buffer_of v line))
      (place_of scopes (tree.buffer_of v line)).marks.tokens (name_shows scopes (name_of v))
  buffer_first v line h =
      let why : Stop = name_shows scopes (name_of v) in
      first_words (variable_words n a v) _ _ why
      (first_tokens (variable_words n a v)
      (checked (files_only scopes.outer.types) (place_of scopes v)).marks.tokens _ why
      (first_checked (variable_words n a v) (files_only scopes.outer.types) (place_of scopes v) why
      (λ place. mild_unless _) h))

  pub place_first : (v : tree.Variable)
      → ShowsFirst (variable_words n a v) (place_of scopes v).marks.tokens (name_shows scopes (name_of v))
  place_first (tree.whole ident) = place_name_first n ident (entity_of scopes ident.name)
  place_first (tree.indexed v opened indexes closed) = indexed_first v opened indexes closed (place_first v)
  place_first (tree.field_of v line ident) = field_first v line ident (place_first v)
  place_first (tree.buffer_of v line) = buffer_first v line (place_first v)

  pub variable_first : (v : tree.Variable)
      → ShowsFirst (variable_words n a v) (variable_value scopes v).marks.tokens (name_shows scopes (name_of v))
  variable_first (tree.whole ident) = value_name_first n ident scopes (entity_of scopes ident.name)
  variable_first (tree.indexed v opened indexes closed) = place_first (tree.indexed v opened indexes closed)
  variable_first (tree.field_of v line ident) = place_first (tree.field_of v line ident)
  variable_first (tree.buffer_of v line) = place_first (tree.buffer_of v line)
