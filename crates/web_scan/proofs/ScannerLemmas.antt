-- What a scanner reads, by what its reader reads.
use Rattle.std.proofs.Common.{◌≡◌, ℕ, false, List, Result, Ok, Err, refl, sym, ap, ◌∙◌}
use Rattle.wb_base.specs.declared.faults.Fault.{Fault}
use Rattle.wb_base.specs.declared.places.Place.{Place}
use Rattle.wb_base.specs.Steps.{◌>>=◌}
use Rattle.web_lex.specs.declared.section_names.SectionName.{SectionName}
use Rattle.web_lex.specs.Raw.{PlacedByte}
use Rattle.web_lex.specs.Token.{Token}
use Rattle.web_lex.specs.Reading.{Reading, next_token, next_name, unless_met}
use Rattle.web_lex.specs.SectionName.{name_at}
use Rattle.web_scan.specs.Scanned.{Scanned, Scanning, token_read}
use Rattle.web_scan.specs.Sections.{name_found, name_read}

-- a scanner with this reader and this web
abbrev pub scanning_with : Reading → Scanned → Scanning
scanning_with reading web = record { reading = reading; web = web }

-- a token
pub token_read-ok :
    (now : Scanning) (reading after : Reading) (web : Scanned) (token : Token)
    → scanning_with reading web ≡ now → next_token reading ≡ Ok (token, after)
    → token_read now ≡ Ok (token, scanning_with after web)
token_read-ok now reading after web token view is =
    ap token_read (sym view)
    ∙ ap (λ (read : Result (Token × Reading) Fault). read >>= (λ read. Ok (read.0, scanning_with read.1 web))) is

-- the reader after a name
abbrev after_name : Reading → SectionName × List PlacedByte → Result (SectionName × Reading) Fault
after_name reading named = Ok (named.0, record reading { rest = named.1; after_digit = false })

-- two answers that are the same
same_named :
    (a b : SectionName × Reading) (answer : Result (SectionName × Reading) Fault)
    → answer ≡ Ok a → answer ≡ Ok b → a ≡ b
same_named a b answer is_a is_b = cc

place_kept :
    (reading after : Reading) (name : SectionName) (r : Result (SectionName × List PlacedByte) Fault)
    → r >>= after_name reading ≡ Ok (name, after)
    → after.place ≡ reading.place
place_kept reading after name (Ok named) is =
    let now : Reading = record reading { rest = named.1; after_digit = false } in
    let same = ap (λ p. p.1) (same_named (named.0, now) (name, after) (Ok (named.0, now)) refl is) in
    sym (ap (λ (reading : Reading). reading.place) same)
place_kept reading after name (Err fault) is = absurd cc

-- the name of a section stands at the place of the token before it
pub next_name-place : (reading after : Reading) (name : SectionName) → next_name reading ≡ Ok (name, after)
    → after.place ≡ reading.place
next_name-place reading after name is =
    place_kept reading after name (unless_met reading.fault (name_at reading.end reading.rest)) is

-- what is made of a name that is read at this place
abbrev found_in : Place → Scanned → SectionName × Reading → Result (ℕ × Scanning) Fault
found_in place web named = name_found place named.0 web >>= (λ found. Ok (found.0, scanning_with named.1 found.1))

name_read-is :
    (now : Scanning) (reading after : Reading) (web : Scanned) (name : SectionName)
    → scanning_with reading web ≡ now → next_name reading ≡ Ok (name, after)
    → name_read now ≡ found_in after.place web (name, after)
name_read-is now reading after web name view is =
    ap name_read (sym view) ∙ ap (λ (read : Result (SectionName × Reading) Fault). read >>= found_in reading.place web)
    is
    ∙ ap (λ place. found_in place web (name, after)) (sym (next_name-place reading after name is))

-- a name that is read and found
pub name_read-ok :
    (now : Scanning) (reading after : Reading) (web found : Scanned) (name : SectionName) (place : Place) (number : ℕ)
    → scanning_with reading web ≡ now → next_name reading ≡ Ok (name, after) → place ≡ after.place
    → name_found place name web ≡ Ok (number, found) → name_read now ≡ Ok (number, scanning_with after found)
name_read-ok now reading after web found name place number view is same there =
    name_read-is now reading after web name view is
    ∙ ap (λ place. found_in place web (name, after)) (sym same)
    ∙ ap (λ (r : Result (ℕ × Scanned) Fault). r >>= (λ found. Ok (found.0, scanning_with after found.1))) there

-- a name that is read and refused
pub name_read-refused :
    (now : Scanning) (reading after : Reading) (web : Scanned) (name : SectionName) (place : Place) (fault : Fault)
    → scanning_with reading web ≡ now → next_name reading ≡ Ok (name, after) → place ≡ after.place
    → name_found place name web ≡ Err fault → name_read now ≡ Err fault
name_read-refused now reading after web name place fault view is same refused =
    name_read-is now reading after web name view is
    ∙ ap (λ place. found_in place web (name, after)) (sym same)
    ∙ ap (λ (r : Result (ℕ × Scanned) Fault). r >>= (λ found. Ok (found.0, scanning_with after found.1))) refused

-- a fault in a name
pub name_read-fault :
    (now : Scanning) (reading : Reading) (web : Scanned) (fault : Fault)
    → scanning_with reading web ≡ now → next_name reading ≡ Err fault → name_read now ≡ Err fault
name_read-fault now reading web fault view is =
    ap name_read (sym view) ∙ ap (λ (read : Result (SectionName × Reading) Fault). read >>= found_in reading.place web)
    is
