-- How names, strings, tokens and sections are refused. The faults and the limits are this project's own. A limit is
-- the last fault that a token shows, and of limits that one token passes the first in this order: names, section
-- names, tokens, strings, sections.
use Rattle.std.specs.Prelude.{ℕ, pos, ◌+◌, nat_lt, if◌then◌else◌, List, [], ◌∷◌, ◌++◌, length, Result, Ok, Err}
use Rattle.wb_base.specs.declared.faults.Fault.{Fault}
use Rattle.wb_base.specs.declared.faults.TheConstants.{POOL_STRING_TOO_LONG, NAME_APPEARED, NAME_DEFINED}
use Rattle.wb_base.specs.declared.faults.TheConstants.{NAME_CONFLICT, NO_NAME_MATCHES, SEVERAL_NAMES_MATCH}
use Rattle.wb_base.specs.declared.faults.TheConstants.{INCOMPATIBLE_NAMES, LIMIT_TOKENS, LIMIT_STRINGS}
use Rattle.wb_base.specs.declared.faults.TheConstants.{LIMIT_SECTIONS}
use Rattle.wb_base.specs.declared.places.Place.{Place}
use Rattle.wb_base.specs.declared.tokens.Tok.{Tok}
use Rattle.wb_base.specs.declared.tokens.Tok.TheVariants as tok
use Rattle.wb_base.specs.FaultAt.{fault_at, limit_passed}
use Rattle.wb_base.specs.Steps.{◌>>=◌}
use Rattle.web_names.specs.declared.name_errors.NameErr.{NameErr}
use Rattle.web_names.specs.declared.name_errors.NameErr.TheVariants as name
use Rattle.web_pool.specs.declared.refusals.PoolErr.{PoolErr}
use Rattle.web_pool.specs.declared.refusals.PoolErr.TheVariants.{TooLong, Full, OutOfMemory}
use Rattle.web_scan.specs.declared.limits.TheConstants.{TOKEN_LIMIT, SECTION_LIMIT}
use Rattle.web_scan.specs.Scanned.{Scanned}

-- the fault of a refused name, which this place shows; `which` is the limit of names of its kind. No name is refused
-- for want of memory
abbrev pub name_fault : ℕ → Place → NameErr → Fault
name_fault which place name.Appeared = fault_at NAME_APPEARED place
name_fault which place name.Before = fault_at NAME_DEFINED place
name_fault which place name.Conflict = fault_at NAME_CONFLICT place
name_fault which place name.NoMatch = fault_at NO_NAME_MATCHES place
name_fault which place name.Ambiguous = fault_at SEVERAL_NAMES_MATCH place
name_fault which place name.Incompatible = fault_at INCOMPATIBLE_NAMES place
name_fault which place name.Full = limit_passed which place
name_fault which place name.OutOfMemory = limit_passed which place

-- what names answer, or the fault of their refusal
abbrev pub unless_refused : {A : Type 0} → ℕ → Place → Result A NameErr → Result A Fault
unless_refused which place (Ok value) = Ok value
unless_refused which place (Err refusal) = Err (name_fault which place refusal)

-- the web, where one more token may be stored
abbrev pub with_room : Place → Scanned → Result Scanned Fault
with_room place web =
    if nat_lt (length web.tokens) TOKEN_LIMIT then Ok web else Err (limit_passed LIMIT_TOKENS place)

-- the web with one more token
abbrev pub stored : Place → Tok → Scanned → Result Scanned Fault
stored place token web =
    with_room place web >>= (λ web. Ok (record web { tokens = web.tokens ++ token ∷ [] }))

-- a string in double quotes in the right side of a numeric definition, by what the pool answers: its number, and the
-- web with the strings of the pool after it
abbrev pub string_number : Place → Scanned → Result (ℕ × List (List ℕ)) PoolErr → Result (ℕ × Scanned) Fault
string_number place web (Ok numbered) = Ok (numbered.0, record web { strings = numbered.1 })
string_number place web (Err TooLong) = Err (fault_at POOL_STRING_TOO_LONG place)
string_number place web (Err Full) = Err (limit_passed LIMIT_STRINGS place)
string_number place web (Err OutOfMemory) = Err (limit_passed LIMIT_STRINGS place)

-- the same in a text, where its number is stored as a token: the limit of tokens comes before that of strings
abbrev pub string_stored : Place → Scanned → Result (ℕ × List (List ℕ)) PoolErr → Result Scanned Fault
string_stored place web (Ok numbered) =
    stored place (tok.Number (pos numbered.0)) (record web { strings = numbered.1 })
string_stored place web (Err TooLong) = Err (fault_at POOL_STRING_TOO_LONG place)
string_stored place web (Err Full) = with_room place web >>= (λ web. Err (limit_passed LIMIT_STRINGS place))
string_stored place web (Err OutOfMemory) = with_room place web >>= (λ web. Err (limit_passed LIMIT_STRINGS place))

-- the web with one more section, which begins at this place
abbrev pub section_begun : Place → Scanned → Result Scanned Fault
section_begun place web =
    if nat_lt web.count SECTION_LIMIT then Ok (record web { count = web.count + 1 })
    else Err (limit_passed LIMIT_SECTIONS place)
