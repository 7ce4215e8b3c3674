-- Scopes (ISO 7185, 6.2): lists of names in the order of their declarations. The required names lie outside the
-- program's scope, and that outside each routine's.
use Rattle.std.specs.Prelude.{ℕ, ◌&&◌, Bool, true, false, not, List, [], ◌∷◌, ◌++◌, map}
use Rattle.std.specs.Prelude.{find}
use Rattle.std.specs.Prelude.{codes, ℤ, pos, if◌then◌else◌, Option, Some, None, option_map, option_and_then}
use Rattle.std.specs.Str.{bytes_eq}
use Rattle.std.specs.List.{list_any}
use Rattle.wb_base.specs.declared.faults.TheConstants.{DUPLICATE_NAME}
use Rattle.pas_tokens.specs.declared.limits.TheConstants.{GREATEST_NUMBER}
use Rattle.pas_tokens.specs.Cutting.{wrong}
use Rattle.pas_syntax.specs.Tree.{Ident, Idents}
use Rattle.pas_rules.specs.Marks.{Marks, shows, unless, listed}
use Rattle.pas_typed.specs.Types.{Base, integer, char, boolean, PasType, whole, text, same_type, Table}
use Rattle.pas_typed.specs.Typed as typed
use Rattle.pas_typed.specs.Typed.{Function, FileTest, FileStep, Variable, Slot, Heading, Home, global, local}

-- the required procedures that are no steps of a file
pub data Procedure : Type 0 where
  read : Procedure
  readln : Procedure
  write : Procedure
  writeln : Procedure
  uexit : Procedure

-- what a name stands for. One of which the declaration shows a fault is unclear
pub data Entity : Type 0 where
  constant : Base → ℤ → Entity
  type : PasType → Entity
  variable : Slot → Entity
  routine : ℕ → Entity
  function : Function → Entity
  file_test : FileTest → Entity
  file_step : FileStep → Entity
  procedure : Procedure → Entity
  unclear : Entity

pub record Named : Type 0 where
  pub name : List ℕ
  pub entity : Entity

abbrev pub names : List ℕ → Entity → Named
names name entity = record { name = name; entity = entity }

-- a routine as far as it is known, and whether its body is still to come
pub record KnownRoutine : Type 0 where
  pub heading : Heading
  pub awaits_body : Bool

-- the program's scope, with what goes with it: the names of its parameters, its labels and the one on its last
-- statement, if that is empty, the types made so far, its variables and routines
pub record Outer : Type 0 where
  pub parameters : List (List ℕ)
  pub labels : List ℕ
  pub last_label : Option ℕ
  pub types : Table
  pub names : List Named
  pub globals : List Variable
  pub routines : List KnownRoutine

-- the scope of a routine with this number
pub record Inner : Type 0 where
  pub number : ℕ
  pub labels : List ℕ
  pub names : List Named
  pub variables : List Variable

pub record Scopes : Type 0 where
  pub outer : Outer
  pub inner : Option Inner

-- the names that lie outside
abbrev pub required_types : List Named
required_types =
    names (codes "integer") (type (whole integer))
    ∷ names (codes "char") (type (whole char))
    ∷ names (codes "boolean") (type (whole boolean))
    ∷ names (codes "text") (type text)
    ∷ []

abbrev pub required_constants : List Named
required_constants =
    names (codes "false") (constant boolean (pos 0))
    ∷ names (codes "true") (constant boolean (pos 1))
    ∷ names (codes "maxint") (constant integer (pos GREATEST_NUMBER))
    ∷ []

abbrev pub required_functions : List Named
required_functions =
    names (codes "ord") (function typed.ord)
    ∷ names (codes "chr") (function typed.chr)
    ∷ names (codes "abs") (function typed.abs)
    ∷ names (codes "odd") (function typed.odd)
    ∷ names (codes "eof") (file_test typed.eof)
    ∷ names (codes "eoln") (file_test typed.eoln)
    ∷ []

abbrev pub required_procedures : List Named
required_procedures =
    names (codes "reset") (file_step typed.reset)
    ∷ names (codes "rewrite") (file_step typed.rewrite)
    ∷ names (codes "get") (file_step typed.get)
    ∷ names (codes "put") (file_step typed.put)
    ∷ names (codes "read") (procedure read)
    ∷ names (codes "readln") (procedure readln)
    ∷ names (codes "write") (procedure write)
    ∷ names (codes "writeln") (procedure writeln)
    ∷ names (codes "uexit") (procedure uexit)
    ∷ []

abbrev pub required : List Named
required = required_types ++ required_constants ++ required_functions ++ required_procedures

-- what a name stands for in a list of names, if it is there
abbrev pub entity_in : List Named → List ℕ → Option Entity
entity_in found name = option_map (λ named. named.entity) (find (λ named. bytes_eq named.name name) found)

-- the first that is there
abbrev pub or_else : {A : Type 0} → Option A → Option A → Option A
or_else (Some found) other = Some found
or_else None other = other

-- what a name stands for: in the routine, else in the program, else outside
abbrev pub names_inside : Option Inner → List Named
names_inside None = []
names_inside (Some inner) = inner.names

abbrev pub entity_of : Scopes → List ℕ → Option Entity
entity_of scopes name =
    or_else (entity_in (names_inside scopes.inner) name)
    (or_else (entity_in scopes.outer.names name) (entity_in required name))

abbrev pub is_global : Home → Bool
is_global global = true
is_global local = false

-- whether names have a name
abbrev pub contains : List (List ℕ) → List ℕ → Bool
contains found name = list_any (λ other. bytes_eq other name) found

abbrev pub names_of : List Named → List (List ℕ)
names_of found = map (λ named. named.name) found

-- names with one more, where it is not there yet
abbrev pub with_new : List Named → List ℕ → Entity → List Named
with_new found name entity = if contains (names_of found) name then found else found ++ names name entity ∷ []

-- spellings with one more, where it is not there yet
abbrev pub with_name : List (List ℕ) → List ℕ → List (List ℕ)
with_name found name = if contains found name then found else found ++ name ∷ []

-- names of a list, one after another
abbrev pub idents_of : Idents → List Ident
idents_of idents = idents.first ∷ map (λ behind. behind.item) idents.more

abbrev pub spellings_of : Idents → List (List ℕ)
spellings_of idents = map (λ ident. ident.name) (idents_of idents)

-- names that are declared where these are taken: one that is there already shows it
abbrev pub each_new : List (List ℕ) → List Ident → List Marks
each_new taken [] = []
each_new taken (ident ∷ idents) =
    shows (unless (not (contains taken ident.name)) (wrong DUPLICATE_NAME))
    ∷ each_new (taken ++ ident.name ∷ []) idents

abbrev pub new_names : List (List ℕ) → Idents → Marks
new_names taken idents = listed (each_new taken (idents_of idents))

-- `input` and `output`, the text files that need no declaration where they are parameters of the program
abbrev pub standard_names : List (List ℕ)
standard_names = codes "input" ∷ codes "output" ∷ []

-- a text file of the program
abbrev pub global_text : Entity → Option Slot
global_text (variable slot) = if is_global slot.home && same_type slot.type text then Some slot else None
global_text entity = None

-- the file that is meant where a call names none: the parameter of the program with this name, where nothing hides it
abbrev pub standard_file : Scopes → List ℕ → Option Slot
standard_file scopes name = option_and_then global_text (entity_of scopes name)
