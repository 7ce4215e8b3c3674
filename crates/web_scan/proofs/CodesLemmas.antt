-- Sections and their parts, a code at a time.
use Rattle.std.proofs.Common.{◌≡◌, ◌≢◌, ℕ, zero, suc, ◌+◌, ◌<◌, ◌≤◌, length, None, Result, Ok, Err, refl}
use Rattle.std.proofs.Common.{sym, ap, ◌∙◌, arith}
use Rattle.wb_base.specs.declared.faults.Fault.{Fault}
use Rattle.wb_base.specs.declared.places.Place.{Place}
use Rattle.wb_base.specs.Steps.{◌>>=◌}
use Rattle.web_lex.specs.declared.codes.Code.{Code}
use Rattle.web_lex.specs.declared.codes.Code.TheVariants as code
use Rattle.web_lex.specs.Reading.{Reading}
use Rattle.web_scan.specs.Definitions.{definition}
use Rattle.web_scan.specs.Refusals.{section_begun}
use Rattle.web_scan.specs.Scanned.{Scanned, Scanning, place_of_last, code_found, most_tokens}
use Rattle.web_scan.specs.Sections.{sections, section, section_parts, named_text, pascal_text}
use Rattle.web_scan.proofs.ScannerLemmas.{scanning_with}
use Rattle.web_scan.proofs.StepsLemmas.{StillReads, StillReads-more, StillReads-stops, StillReads-ends}

-- how many codes may still come: after the end none, and else no more than the bytes of the rest and the end
abbrev pub codes_left : Code → ℕ → ℕ
codes_left code.End bytes = 0
codes_left c bytes = bytes + 1

-- a code and what stands after it
abbrev pub AtCode : Type 0
AtCode = Code × Scanning

abbrev pub at_code_left : AtCode → ℕ
at_code_left at = codes_left at.0 (length at.1.reading.rest)

pub codes_left-le : (c : Code) (bytes : ℕ) → codes_left c bytes ≤ bytes + 1
codes_left-le code.End bytes = omega arith
codes_left-le c bytes = omega arith

pub codes_left-is : (c : Code) (bytes : ℕ) → c ≢ code.End → codes_left c bytes ≡ bytes + 1
codes_left-is code.End bytes other = absurd (other refl)
codes_left-is c bytes other = refl

-- a code that is the end or shortens the rest
pub codes_left-found : (c : Code) (bytes before : ℕ) → (c ≢ code.End → bytes < before)
    → codes_left c bytes < before + 1
codes_left-found code.End bytes before shorter = omega arith
codes_left-found code.Ignore bytes before shorter = let less : bytes < before = shorter (λ e. cc) in omega arith
codes_left-found code.At bytes before shorter = let less : bytes < before = shorter (λ e. cc) in omega arith
codes_left-found code.Octal bytes before shorter = let less : bytes < before = shorter (λ e. cc) in omega arith
codes_left-found code.Hex bytes before shorter = let less : bytes < before = shorter (λ e. cc) in omega arith
codes_left-found code.LeftOut bytes before shorter = let less : bytes < before = shorter (λ e. cc) in omega arith
codes_left-found code.MetaOpen bytes before shorter = let less : bytes < before = shorter (λ e. cc) in omega arith
codes_left-found code.MetaClose bytes before shorter = let less : bytes < before = shorter (λ e. cc) in omega arith
codes_left-found code.Join bytes before shorter = let less : bytes < before = shorter (λ e. cc) in omega arith
codes_left-found code.Verbatim bytes before shorter = let less : bytes < before = shorter (λ e. cc) in omega arith
codes_left-found code.Line bytes before shorter = let less : bytes < before = shorter (λ e. cc) in omega arith
codes_left-found code.Control bytes before shorter = let less : bytes < before = shorter (λ e. cc) in omega arith
codes_left-found code.Stray bytes before shorter = let less : bytes < before = shorter (λ e. cc) in omega arith
codes_left-found code.Definition bytes before shorter = let less : bytes < before = shorter (λ e. cc) in omega arith
codes_left-found code.Format bytes before shorter = let less : bytes < before = shorter (λ e. cc) in omega arith
codes_left-found code.Pascal bytes before shorter = let less : bytes < before = shorter (λ e. cc) in omega arith
codes_left-found code.Name bytes before shorter = let less : bytes < before = shorter (λ e. cc) in omega arith
codes_left-found code.Section bytes before shorter = let less : bytes < before = shorter (λ e. cc) in omega arith

-- one step more
pub codes_more :
    {A : Type 0} (read : ℕ → AtCode → Result A Fault) (start now next : AtCode)
    → StillReads at_code_left read start now → now.0 ≢ code.End
    → (next.0 ≢ code.End → length next.1.reading.rest < length now.1.reading.rest)
    → ((left : ℕ) → read (suc left) now ≡ read left next) → StillReads at_code_left read start next
codes_more read start now next still other shorter step =
    let here = codes_left-is now.0 (length now.1.reading.rest) other in
    let after = codes_left-found next.0 (length next.1.reading.rest) (length now.1.reading.rest) shorter in
    StillReads-more at_code_left read start now next still (omega arith) step

-- the last step, at the end and elsewhere
pub codes_end :
    {A : Type 0} (read : ℕ → AtCode → Result A Fault) (start now : AtCode) (result : Result A Fault)
    → StillReads at_code_left read start now → ((left : ℕ) → read left now ≡ result)
    → (most : ℕ) → length start.1.reading.rest < most → read most start ≡ result
codes_end read start now result still ends most enough =
    let few = codes_left-le start.0 (length start.1.reading.rest) in
    StillReads-ends at_code_left read start now result still ends most (omega arith)

pub codes_stop :
    {A : Type 0} (read : ℕ → AtCode → Result A Fault) (start now : AtCode) (result : Result A Fault)
    → StillReads at_code_left read start now → now.0 ≢ code.End → ((left : ℕ) → read (suc left) now ≡ result)
    → (most : ℕ) → length start.1.reading.rest < most → read most start ≡ result
codes_stop read start now result still other stops most enough =
    let few = codes_left-le start.0 (length start.1.reading.rest) in
    let here = codes_left-is now.0 (length now.1.reading.rest) other in
    StillReads-stops at_code_left read start now result still (omega arith) stops most (omega arith)

-- the parts of a section
abbrev pub parts_read : ℕ → AtCode → Result (Code × Scanning) Fault
parts_read most at = section_parts most at.0 at.1

-- the code after a definition, and what is read there
abbrev parts_from : ℕ → AtCode → Result (Code × Scanning) Fault
parts_from left ended = section_parts left ended.0 ended.1

pub parts-definition :
    (start : AtCode) (c : Code) (now next : Scanning) (found : Code)
    → StillReads at_code_left parts_read start (c, now) → c ≡ code.Definition → definition now ≡ Ok (found, next)
    → length next.reading.rest < length now.reading.rest → StillReads at_code_left parts_read start (found, next)
unfolding section_parts
parts-definition start c now next found still defines is shorter =
    codes_more parts_read start (c, now) (found, next) still (λ end. let wrong = sym defines ∙ end in absurd cc)
    (λ other. shorter)
    (λ left. ap (λ c. section_parts (suc left) c now) defines
    ∙ ap (λ (r : Result (Code × Scanning) Fault). r >>= parts_from left) is)

pub parts-undefined :
    (start : AtCode) (c : Code) (now : Scanning) (fault : Fault)
    → StillReads at_code_left parts_read start (c, now) → c ≡ code.Definition → definition now ≡ Err fault
    → (most : ℕ) → length start.1.reading.rest < most → section_parts most start.0 start.1 ≡ Err fault
unfolding section_parts
parts-undefined start c now fault still defines is =
    codes_stop parts_read start (c, now) (Err fault) still (λ end. let wrong = sym defines ∙ end in absurd cc)
    (λ left. ap (λ c. section_parts (suc left) c now) defines
    ∙ ap (λ (r : Result (Code × Scanning) Fault). r >>= parts_from left) is)

pub parts-pascal :
    (start : AtCode) (c : Code) (now : Scanning) (result : Result (Code × Scanning) Fault)
    → StillReads at_code_left parts_read start (c, now) → c ≡ code.Pascal → pascal_text None now ≡ result
    → (most : ℕ) → length start.1.reading.rest < most → section_parts most start.0 start.1 ≡ result
unfolding section_parts
parts-pascal start c now result still pascal is =
    codes_stop parts_read start (c, now) result still (λ end. let wrong = sym pascal ∙ end in absurd cc)
    (λ left. ap (λ c. section_parts (suc left) c now) pascal ∙ is)

pub parts-name :
    (start : AtCode) (c : Code) (now : Scanning) (result : Result (Code × Scanning) Fault)
    → StillReads at_code_left parts_read start (c, now) → c ≡ code.Name → named_text now ≡ result
    → (most : ℕ) → length start.1.reading.rest < most → section_parts most start.0 start.1 ≡ result
unfolding section_parts
parts-name start c now result still name is =
    codes_stop parts_read start (c, now) result still (λ end. let wrong = sym name ∙ end in absurd cc)
    (λ left. ap (λ c. section_parts (suc left) c now) name ∙ is)

section_parts-end : (left : ℕ) (now : Scanning) → section_parts left code.End now ≡ Ok (code.End, now)
unfolding section_parts
section_parts-end zero now = refl
section_parts-end (suc left) now = refl

pub parts-end :
    (start : AtCode) (c : Code) (now : Scanning) → StillReads at_code_left parts_read start (c, now) → c ≡ code.End
    → (most : ℕ) → length start.1.reading.rest < most → section_parts most start.0 start.1 ≡ Ok (c, now)
parts-end start c now still end =
    codes_end parts_read start (c, now) (Ok (c, now)) still
    (λ left. ap (λ c. section_parts left c now) end ∙ section_parts-end left now ∙ ap (λ c. Ok (c, now)) (sym end))

pub parts-section :
    (start : AtCode) (c : Code) (now : Scanning) → StillReads at_code_left parts_read start (c, now) → c ≡ code.Section
    → (most : ℕ) → length start.1.reading.rest < most → section_parts most start.0 start.1 ≡ Ok (c, now)
unfolding section_parts
parts-section start c now still begins =
    codes_stop parts_read start (c, now) (Ok (c, now)) still (λ end. let wrong = sym begins ∙ end in absurd cc)
    (λ left. ap (λ c. section_parts (suc left) c now) begins ∙ ap (λ c. Ok (c, now)) (sym begins))

-- a code that is passed
pub record IsPassed (c : Code) : Type 0 where
  pub not_definition : c ≢ code.Definition
  pub not_pascal : c ≢ code.Pascal
  pub not_name : c ≢ code.Name
  pub not_section : c ≢ code.Section
  pub not_end : c ≢ code.End

section_parts-passed :
    (left : ℕ) (c : Code) (now : Scanning) → IsPassed c
    → section_parts (suc left) c now ≡ section_parts left (code_found now).0 (code_found now).1
unfolding section_parts
section_parts-passed left code.Definition now passed = absurd (passed.not_definition refl)
section_parts-passed left code.Pascal now passed = absurd (passed.not_pascal refl)
section_parts-passed left code.Name now passed = absurd (passed.not_name refl)
section_parts-passed left code.Section now passed = absurd (passed.not_section refl)
section_parts-passed left code.End now passed = absurd (passed.not_end refl)
section_parts-passed left c now passed = refl

pub parts-passed :
    (start : AtCode) (c : Code) (now next : Scanning) (found : Code)
    → StillReads at_code_left parts_read start (c, now) → IsPassed c → code_found now ≡ (found, next)
    → (found ≢ code.End → length next.reading.rest < length now.reading.rest)
    → StillReads at_code_left parts_read start (found, next)
parts-passed start c now next found still passed is shorter =
    codes_more parts_read start (c, now) (found, next) still passed.not_end shorter
    (λ left. section_parts-passed left c now passed ∙ ap (parts_from left) is)

-- where the end was found, the section ends with it
same_end : (a b : Code × Scanning) (r : Result (Code × Scanning) Fault) → r ≡ Ok a → r ≡ Ok b → a ≡ b
same_end a b r is_a is_b = cc

pub end_kept :
    (c ended : Code) (next after : Scanning)
    → ((most : ℕ) → length next.reading.rest < most → section_parts most c next ≡ Ok (ended, after))
    → c ≡ code.End → ended ≡ code.End
end_kept c ended next after is end =
    let most = most_tokens next in
    let at_end = ap (λ c. section_parts most c next) end ∙ section_parts-end most next in
    ap (λ p. p.0) (same_end (ended, after) (code.End, next) (section_parts most c next) (is most (omega arith)) at_end)

-- a section
pub section-is :
    (now next : Scanning) (reading : Reading) (parts web : Scanned) (place : Place) (found : Code)
    (result : Result (Code × Scanning) Fault)
    → scanning_with reading parts ≡ now → place ≡ place_of_last now → section_begun place parts ≡ Ok web
    → code_found (scanning_with reading web) ≡ (found, next) → length next.reading.rest ≤ length now.reading.rest
    → ((most : ℕ) → length next.reading.rest < most → section_parts most found next ≡ result)
    → section now ≡ result
unfolding section
section-is now next reading parts web place found result view same begins is not_longer reads =
    let begun : Scanned → Result (Code × Scanning) Fault =
    λ web. section_parts (most_tokens now) (code_found (record now { web = web })).0
    (code_found (record now { web = web })).1 in
    ap (λ (place : Place). section_begun place now.web >>= begun) (sym same)
    ∙ ap (λ (now : Scanning). section_begun place now.web >>= begun) (sym view)
    ∙ ap (λ (r : Result Scanned Fault). r >>= begun) begins
    ∙ ap (λ (scanning : Scanning). parts_from (most_tokens now) (code_found (record scanning { web = web })))
    (sym view)
    ∙ ap (parts_from (most_tokens now)) is
    ∙ reads (most_tokens now) (omega arith)

pub section-refused :
    (now : Scanning) (reading : Reading) (parts : Scanned) (place : Place) (fault : Fault)
    → scanning_with reading parts ≡ now → place ≡ place_of_last now → section_begun place parts ≡ Err fault
    → section now ≡ Err fault
unfolding section
section-refused now reading parts place fault view same refuses =
    let begun : Scanned → Result (Code × Scanning) Fault =
    λ web. section_parts (most_tokens now) (code_found (record now { web = web })).0
    (code_found (record now { web = web })).1 in
    ap (λ (place : Place). section_begun place now.web >>= begun) (sym same)
    ∙ ap (λ (now : Scanning). section_begun place now.web >>= begun) (sym view)
    ∙ ap (λ (r : Result Scanned Fault). r >>= begun) refuses

-- all sections
abbrev pub sections_read : ℕ → AtCode → Result Scanned Fault
sections_read most at = sections most at.0 at.1

abbrev sections_from : ℕ → AtCode → Result Scanned Fault
sections_from left ended = sections left ended.0 ended.1

pub sections-section :
    (start : AtCode) (c : Code) (now next : Scanning) (found : Code)
    → StillReads at_code_left sections_read start (c, now) → c ≡ code.Section → section now ≡ Ok (found, next)
    → (found ≢ code.End → length next.reading.rest < length now.reading.rest)
    → StillReads at_code_left sections_read start (found, next)
unfolding sections
sections-section start c now next found still begins is shorter =
    codes_more sections_read start (c, now) (found, next) still
    (λ end. let wrong = sym begins ∙ end in absurd cc) shorter
    (λ left. ap (λ c. sections (suc left) c now) begins
    ∙ ap (λ (r : Result (Code × Scanning) Fault). r >>= sections_from left) is)

pub sections-refused :
    (start : AtCode) (c : Code) (now : Scanning) (fault : Fault)
    → StillReads at_code_left sections_read start (c, now) → c ≡ code.Section → section now ≡ Err fault
    → (most : ℕ) → length start.1.reading.rest < most → sections most start.0 start.1 ≡ Err fault
unfolding sections
sections-refused start c now fault still begins is =
    codes_stop sections_read start (c, now) (Err fault) still (λ end. let wrong = sym begins ∙ end in absurd cc)
    (λ left. ap (λ c. sections (suc left) c now) begins
    ∙ ap (λ (r : Result (Code × Scanning) Fault). r >>= sections_from left) is)

at_end : (left : ℕ) (now : Scanning) → sections left code.End now ≡ Ok now.web
unfolding sections
at_end zero now = refl
at_end (suc left) now = refl

pub sections-end :
    (start : AtCode) (c : Code) (now : Scanning) → StillReads at_code_left sections_read start (c, now) → c ≡ code.End
    → (most : ℕ) → length start.1.reading.rest < most → sections most start.0 start.1 ≡ Ok now.web
sections-end start c now still end =
    codes_end sections_read start (c, now) (Ok now.web) still
    (λ left. ap (λ c. sections left c now) end ∙ at_end left now)

sections_passed-is :
    (left : ℕ) (c : Code) (now : Scanning) → c ≢ code.End → c ≢ code.Section
    → sections (suc left) c now ≡ sections left (code_found now).0 (code_found now).1
unfolding sections
sections_passed-is left code.End now not_end not_section = absurd (not_end refl)
sections_passed-is left code.Section now not_end not_section = absurd (not_section refl)
sections_passed-is left c now not_end not_section = refl

pub sections-passed :
    (start : AtCode) (c : Code) (now next : Scanning) (found : Code)
    → StillReads at_code_left sections_read start (c, now) → c ≢ code.End → c ≢ code.Section
    → code_found now ≡ (found, next)
    → (found ≢ code.End → length next.reading.rest < length now.reading.rest)
    → StillReads at_code_left sections_read start (found, next)
sections-passed start c now next found still not_end not_section is shorter =
    codes_more sections_read start (c, now) (found, next) still not_end shorter
    (λ left. sections_passed-is left c now not_end not_section ∙ ap (sections_from left) is)
