-- The console line that reports a fault. The texts and their numbers are this project's own.
use Rattle.std.specs.Prelude.{ℕ, ◌==◌, ◌++◌, List, [], ◌∷◌, codes, decimal, if◌then◌else◌}
use Rattle.wb_base.specs.declared.faults.Fault.{Fault}
use Rattle.wb_base.specs.declared.faults.TheConstants.{LINE_TOO_LONG, STRAY_CHANGE_MARK, NO_NEW_PART}
use Rattle.wb_base.specs.declared.faults.TheConstants.{NO_END_OF_CHANGE, EMPTY_CHANGE, CHANGE_NOT_FOUND}
use Rattle.wb_base.specs.declared.faults.TheConstants.{CHANGE_LINES_DIFFER, BAD_BYTE, COMMENT_NOT_ENDED}
use Rattle.wb_base.specs.declared.faults.TheConstants.{STRING_NOT_ENDED, AT_SIGN_NOT_DOUBLED, SECTION_NAME_NOT_ENDED}
use Rattle.wb_base.specs.declared.faults.TheConstants.{STRAY_END, BAD_CONTROL_TEXT, POOL_STRING_TOO_LONG}
use Rattle.wb_base.specs.declared.faults.TheConstants.{BAD_DEFINITION, BAD_NUMERIC_DEFINITION, VALUE_TOO_BIG}
use Rattle.wb_base.specs.declared.faults.TheConstants.{NAME_APPEARED, NAME_DEFINED, NAME_CONFLICT}
use Rattle.wb_base.specs.declared.faults.TheConstants.{UNBALANCED_PARENTHESES, NO_EQUALS_SIGN, DEFINITION_IN_PASCAL}
use Rattle.wb_base.specs.declared.faults.TheConstants.{NO_NAME_MATCHES, SEVERAL_NAMES_MATCH, INCOMPATIBLE_NAMES}
use Rattle.wb_base.specs.declared.faults.TheConstants.{LIMIT_PASSED, SECTION_NOT_PRESENT, NO_PARAMETER_GIVEN}
use Rattle.wb_base.specs.declared.faults.TheConstants.{TOO_MANY_LEVELS, TOO_MANY_STEPS, NUMBERS_WITHOUT_SIGN}
use Rattle.wb_base.specs.declared.faults.TheConstants.{CONSTANT_TOO_BIG, REAL_CONSTANT, STRING_TOO_LONG, LINE_NOT_CUT}
use Rattle.wb_base.specs.declared.faults.TheConstants.{STRAY_END_OF_METACOMMENT, METACOMMENT_NOT_ENDED}
use Rattle.wb_base.specs.declared.faults.TheConstants.{BAD_POOL_LENGTH, POOL_LINE_TOO_SHORT, BAD_LAST_LINE}
use Rattle.wb_base.specs.declared.faults.TheConstants.{CHECK_SUM_LEFT_OUT, BAD_PASCAL_BYTE, BAD_PASCAL_TOKEN}
use Rattle.wb_base.specs.declared.faults.TheConstants.{PASCAL_SYNTAX, PASCAL_LEFT_OUT, UNKNOWN_NAME, DUPLICATE_NAME}
use Rattle.wb_base.specs.declared.faults.TheConstants.{WRONG_TYPE, CONSTANT_OUT_OF_RANGE, WRONG_LABEL, WRONG_GOTO}
use Rattle.wb_base.specs.declared.faults.TheConstants.{TOO_LARGE, FILE_RULE, RESULT_NEVER_ASSIGNED, BAD_C_TOKEN}
use Rattle.wb_base.specs.declared.faults.TheConstants.{C_SYNTAX, C_STRUCTURE, LIMIT_FILE_BYTES}
use Rattle.wb_base.specs.declared.faults.TheConstants.{LIMIT_NAMES, LIMIT_SECTION_NAMES, LIMIT_TOKENS, LIMIT_STRINGS}
use Rattle.wb_base.specs.declared.faults.TheConstants.{LIMIT_SECTIONS, REAL_NUMBERS, VARIANT_RECORDS, NESTED_ROUTINES}
use Rattle.wb_base.specs.declared.faults.TheConstants.{ENUMERATIONS, SETS, POINTERS, WITH_STATEMENTS}
use Rattle.wb_base.specs.declared.faults.TheConstants.{ROUTINES_AS_PARAMETERS, READING_NUMBERS, STRINGS_OUTSIDE_WRITE}
use Rattle.wb_base.specs.declared.faults.TheConstants.{LOCAL_CONSTANTS_AND_TYPES, NESTING_PAST_LIMIT}

-- the text beside this number in a table, or none
abbrev pub text_beside : List (ℕ × List ℕ) → ℕ → List ℕ
text_beside [] number = []
text_beside (row ∷ rows) number = if row.0 == number then row.1 else text_beside rows number

-- the text of each fault by its number; that of a limit or of a part left out goes on with its name
abbrev pub fault_texts : List (ℕ × List ℕ)
fault_texts =
    (LINE_TOO_LONG, codes "line too long")
    ∷ (STRAY_CHANGE_MARK, codes "stray change mark")
    ∷ (NO_NEW_PART, codes "no @y")
    ∷ (NO_END_OF_CHANGE, codes "no @z")
    ∷ (EMPTY_CHANGE, codes "empty change")
    ∷ (CHANGE_NOT_FOUND, codes "change block not found")
    ∷ (CHANGE_LINES_DIFFER, codes "change lines differ")
    ∷ (BAD_BYTE, codes "bad byte")
    ∷ (COMMENT_NOT_ENDED, codes "comment not ended")
    ∷ (STRING_NOT_ENDED, codes "string not ended")
    ∷ (AT_SIGN_NOT_DOUBLED, codes "at sign not doubled")
    ∷ (SECTION_NAME_NOT_ENDED, codes "section name not ended")
    ∷ (STRAY_END, codes "stray @> or }")
    ∷ (BAD_CONTROL_TEXT, codes "bad control text")
    ∷ (POOL_STRING_TOO_LONG, codes "pool string too long")
    ∷ (BAD_DEFINITION, codes "bad definition")
    ∷ (BAD_NUMERIC_DEFINITION, codes "bad numeric definition")
    ∷ (VALUE_TOO_BIG, codes "value too big")
    ∷ (NAME_APPEARED, codes "identifier already appeared")
    ∷ (NAME_DEFINED, codes "identifier defined before")
    ∷ (NAME_CONFLICT, codes "identifier conflict")
    ∷ (UNBALANCED_PARENTHESES, codes "parentheses do not balance")
    ∷ (NO_EQUALS_SIGN, codes "equals sign missing")
    ∷ (DEFINITION_IN_PASCAL, codes "definition in Pascal text")
    ∷ (NO_NAME_MATCHES, codes "prefix matches no name")
    ∷ (SEVERAL_NAMES_MATCH, codes "prefix matches several names")
    ∷ (INCOMPATIBLE_NAMES, codes "incompatible section names")
    ∷ (LIMIT_PASSED, codes "limit passed: ")
    ∷ (SECTION_NOT_PRESENT, codes "section not present")
    ∷ (NO_PARAMETER_GIVEN, codes "no parameter given")
    ∷ (TOO_MANY_LEVELS, codes "too many levels")
    ∷ (TOO_MANY_STEPS, codes "too many steps")
    ∷ (NUMBERS_WITHOUT_SIGN, codes "two numbers without a sign")
    ∷ (CONSTANT_TOO_BIG, codes "constant too big")
    ∷ (REAL_CONSTANT, codes "real constant")
    ∷ (STRING_TOO_LONG, codes "string too long")
    ∷ (LINE_NOT_CUT, codes "line too long to cut")
    ∷ (STRAY_END_OF_METACOMMENT, codes "stray end of metacomment")
    ∷ (METACOMMENT_NOT_ENDED, codes "metacomment not ended")
    ∷ (BAD_POOL_LENGTH, codes "pool length bad")
    ∷ (POOL_LINE_TOO_SHORT, codes "pool line too short")
    ∷ (BAD_LAST_LINE, codes "bad last line")
    ∷ (CHECK_SUM_LEFT_OUT, codes "check sum left out")
    ∷ (BAD_PASCAL_BYTE, codes "bad byte")
    ∷ (BAD_PASCAL_TOKEN, codes "bad token")
    ∷ (PASCAL_SYNTAX, codes "syntax")
    ∷ (PASCAL_LEFT_OUT, codes "left out: ")
    ∷ (UNKNOWN_NAME, codes "unknown name")
    ∷ (DUPLICATE_NAME, codes "duplicate")
    ∷ (WRONG_TYPE, codes "type")
    ∷ (CONSTANT_OUT_OF_RANGE, codes "constant out of range")
    ∷ (WRONG_LABEL, codes "label")
    ∷ (WRONG_GOTO, codes "goto")
    ∷ (TOO_LARGE, codes "too large")
    ∷ (FILE_RULE, codes "file rule")
    ∷ (RESULT_NEVER_ASSIGNED, codes "result never assigned")
    ∷ (BAD_C_TOKEN, codes "bad token")
    ∷ (C_SYNTAX, codes "syntax")
    ∷ (C_STRUCTURE, codes "structure")
    ∷ []

-- the names of the limits
abbrev pub limit_names : List (ℕ × List ℕ)
limit_names =
    (LIMIT_FILE_BYTES, codes "file bytes")
    ∷ (LIMIT_NAMES, codes "names")
    ∷ (LIMIT_SECTION_NAMES, codes "section names")
    ∷ (LIMIT_TOKENS, codes "tokens")
    ∷ (LIMIT_STRINGS, codes "strings")
    ∷ (LIMIT_SECTIONS, codes "sections")
    ∷ []

-- the names of the parts of Pascal that are left out
abbrev pub left_out_names : List (ℕ × List ℕ)
left_out_names =
    (REAL_NUMBERS, codes "real numbers")
    ∷ (VARIANT_RECORDS, codes "variant record")
    ∷ (NESTED_ROUTINES, codes "nested routine")
    ∷ (ENUMERATIONS, codes "enumeration")
    ∷ (SETS, codes "set")
    ∷ (POINTERS, codes "pointer")
    ∷ (WITH_STATEMENTS, codes "with")
    ∷ (ROUTINES_AS_PARAMETERS, codes "routine as parameter")
    ∷ (READING_NUMBERS, codes "reading a number")
    ∷ (STRINGS_OUTSIDE_WRITE, codes "string outside write")
    ∷ (LOCAL_CONSTANTS_AND_TYPES, codes "local constant or type")
    ∷ (NESTING_PAST_LIMIT, codes "nesting")
    ∷ []

-- what stands after the text of a fault: the name of the limit or of the part left out, else nothing
abbrev pub detail_of : ℕ → ℕ → List ℕ
detail_of code which =
    if code == LIMIT_PASSED then text_beside limit_names which
    else (if code == PASCAL_LEFT_OUT then text_beside left_out_names which else [])

-- `! NAME:LINE: TEXT (Fnn)`, without the byte 10 at its end
abbrev pub console_line : Fault → List ℕ → List ℕ
console_line fault name =
    codes "! " ++ name ++ codes ":" ++ decimal fault.line ++ codes ": "
    ++ text_beside fault_texts fault.code ++ detail_of fault.code fault.which
    ++ codes " (F" ++ decimal fault.code ++ codes ")"
