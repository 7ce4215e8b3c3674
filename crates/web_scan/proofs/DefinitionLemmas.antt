-- Definitions, a step at a time.
use Rattle.std.proofs.Common.{◌≡◌, ℕ, List, Bor, Result, Ok, Err, refl, sym, ap, ◌∙◌}
use Rattle.wb_base.specs.declared.faults.Fault.{Fault}
use Rattle.wb_base.specs.declared.faults.TheConstants.{BAD_DEFINITION}
use Rattle.wb_base.specs.declared.places.Place.{Place}
use Rattle.wb_base.specs.FaultAt.{fault_at}
use Rattle.wb_base.specs.Steps.{◌>>=◌}
use Rattle.web_lex.specs.declared.codes.Code.{Code}
use Rattle.web_lex.specs.Reading.{Reading}
use Rattle.web_lex.specs.declared.tokens.Lexed.{Lexed}
use Rattle.web_lex.specs.declared.tokens.Lexed.TheVariants as lexed
use Rattle.web_lex.specs.Token.{Token, word, token_of}
use Rattle.web_names.specs.declared.classes.Class.{Class}
use Rattle.web_scan.specs.Definitions.{defined_word, class_read, macro_defined, name_defined, right_side_read}
use Rattle.web_scan.specs.Definitions.{definition}
use Rattle.web_scan.specs.Scanned.{Scanned, Scanning, place_of_last, token_read}
use Rattle.web_scan.proofs.ScannerLemmas.{scanning_with}

-- what follows the name, where it stands at this place and has this class
abbrev side_from : Place → Class → ℕ × Scanning → Result (Code × Scanning) Fault
side_from at_name kind found = right_side_read at_name found.0 kind found.1

abbrev name_from : Place → List ℕ → Class × Scanning → Result (Code × Scanning) Fault
name_from at_name bytes signs = name_defined bytes signs.0 signs.1 >>= side_from at_name signs.0

abbrev signs_from : Scanning → List ℕ → Result (Code × Scanning) Fault
signs_from named bytes = class_read named >>= name_from (place_of_last named) bytes

abbrev word_from : Token × Scanning → Result (Code × Scanning) Fault
word_from read = defined_word (place_of_last read.1) read.0 >>= signs_from read.1

-- a token that is no word
pub not_word :
    (token : Lexed) (place : Place) → ((bytes : Bor (List ℕ)) → token ≡ lexed.Word bytes → ⊥)
    → defined_word place (token_of token) ≡ Err (fault_at BAD_DEFINITION place)
not_word (lexed.Word bytes) place other = absurd (other bytes refl)
not_word token place other = refl

pub definition-unread : (now : Scanning) (fault : Fault) → token_read now ≡ Err fault → definition now ≡ Err fault
unfolding definition
definition-unread now fault is = ap (λ (r : Result (Token × Scanning) Fault). r >>= word_from) is

pub definition-unnamed :
    (now named : Scanning) (token : Token) (fault : Fault) → token_read now ≡ Ok (token, named)
    → defined_word (place_of_last named) token ≡ Err fault → definition now ≡ Err fault
unfolding definition
definition-unnamed now named token fault is refuses =
    ap (λ (r : Result (Token × Scanning) Fault). r >>= word_from) is
    ∙ ap (λ (r : Result (List ℕ) Fault). r >>= signs_from named) refuses

definition-named :
    (now named : Scanning) (token : Token) (bytes : List ℕ) → token_read now ≡ Ok (token, named) → token ≡ word bytes
    → definition now ≡ signs_from named bytes
unfolding definition
definition-named now named token bytes is name =
    ap (λ (r : Result (Token × Scanning) Fault). r >>= word_from) is ∙ ap (λ token. word_from (token, named)) name

pub definition-unsigned :
    (now named : Scanning) (token : Token) (bytes : List ℕ) (fault : Fault)
    → token_read now ≡ Ok (token, named) → token ≡ word bytes → class_read named ≡ Err fault
    → definition now ≡ Err fault
definition-unsigned now named token bytes fault is name refuses =
    definition-named now named token bytes is name
    ∙ ap (λ (r : Result (Class × Scanning) Fault). r >>= name_from (place_of_last named) bytes) refuses

definition-signed :
    (now named signed : Scanning) (token : Token) (bytes : List ℕ) (kind : Class)
    → token_read now ≡ Ok (token, named) → token ≡ word bytes → class_read named ≡ Ok (kind, signed)
    → definition now ≡ name_from (place_of_last named) bytes (kind, signed)
definition-signed now named signed token bytes kind is name signs =
    definition-named now named token bytes is name
    ∙ ap (λ (r : Result (Class × Scanning) Fault). r >>= name_from (place_of_last named) bytes) signs

-- a name at the last sign
abbrev begun_by : Scanning → ℕ × Scanned → Result (ℕ × Scanning) Fault
begun_by signed found = Ok (found.0, record signed { web = found.1 })

name_defined-is :
    (signed : Scanning) (reading : Reading) (parts : Scanned) (place : Place) (bytes : List ℕ) (kind : Class)
    → scanning_with reading parts ≡ signed → place ≡ place_of_last signed
    → name_defined bytes kind signed ≡ (macro_defined place bytes kind parts >>= begun_by
    (scanning_with reading parts))
name_defined-is signed reading parts place bytes kind view same =
    ap (name_defined bytes kind) (sym view)
    ∙ ap (λ place. macro_defined place bytes kind parts >>= begun_by (scanning_with reading parts))
    (sym (same ∙ ap place_of_last (sym view)))

pub definition-refused :
    (now named signed : Scanning) (reading : Reading) (parts : Scanned) (place : Place) (token : Token)
    (bytes : List ℕ)
    (kind : Class) (fault : Fault)
    → token_read now ≡ Ok (token, named) → token ≡ word bytes → class_read named ≡ Ok (kind, signed)
    → scanning_with reading parts ≡ signed → place ≡ place_of_last signed
    → macro_defined place bytes kind parts ≡ Err fault → definition now ≡ Err fault
definition-refused now named signed reading parts place token bytes kind fault is name signs view same refuses =
    definition-signed now named signed token bytes kind is name signs
    ∙ ap (λ (r : Result (ℕ × Scanning) Fault). r >>= side_from (place_of_last named) kind)
    (name_defined-is signed reading parts place bytes kind view same
    ∙ ap (λ (r : Result (ℕ × Scanned) Fault). r >>= begun_by (scanning_with reading parts)) refuses)

pub definition-is :
    (now named signed : Scanning) (reading : Reading) (parts web : Scanned) (at_name place : Place) (token : Token)
    (bytes : List ℕ)
    (kind : Class) (id : ℕ)
    → token_read now ≡ Ok (token, named) → token ≡ word bytes → at_name ≡ place_of_last named
    → class_read named ≡ Ok (kind, signed) → scanning_with reading parts ≡ signed → place ≡ place_of_last signed
    → macro_defined place bytes kind parts ≡ Ok (id, web)
    → definition now ≡ right_side_read at_name id kind (scanning_with reading web)
definition-is now named signed reading parts web at_name place token bytes kind id is name there signs view same
    defines =
    definition-signed now named signed token bytes kind is name signs
    ∙ ap (λ (r : Result (ℕ × Scanning) Fault). r >>= side_from (place_of_last named) kind)
    (name_defined-is signed reading parts place bytes kind view same
    ∙ ap (λ (r : Result (ℕ × Scanned) Fault). r >>= begun_by (scanning_with reading parts)) defines)
    ∙ ap (λ at_name. right_side_read at_name id kind (scanning_with reading web)) (sym there)
