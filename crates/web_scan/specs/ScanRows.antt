-- The scan at work on short webs.
use Rattle.std.specs.Prelude.{◌≡◌, ℕ, ℤ, pos, negsuc, false, List, [], ◌∷◌, map, codes, Option, Some}
use Rattle.std.specs.Prelude.{None, Result, Ok, Err, refl}
use Rattle.wb_base.specs.declared.faults.Fault.{Fault}
use Rattle.wb_base.specs.declared.options.Case.TheVariants.{Mixed}
use Rattle.wb_base.specs.declared.options.Options.{Options}
use Rattle.wb_base.specs.declared.places.FileTag.TheVariants.{Web}
use Rattle.wb_base.specs.declared.tokens.Joined.TheVariants as two
use Rattle.wb_base.specs.declared.tokens.Tok.{Tok}
use Rattle.wb_base.specs.declared.tokens.Tok.TheVariants as tok
use Rattle.change_merge.specs.Lines.{lines_numbered_from}
use Rattle.web_names.specs.Identifiers.{defined, used, with_value, compared_form}
use Rattle.web_names.specs.SectionNames.{whole_name, prefix_name, is_prefix_of}
use Rattle.web_pool.specs.Strings.{numbered}
use Rattle.web_scan.specs.Definitions.{definition}
use Rattle.web_scan.specs.Numeric.{right_side}
use Rattle.web_scan.specs.Scan.{scan_of}
use Rattle.web_scan.specs.Scanned.{PascalText, Scanned}
use Rattle.web_scan.specs.Sections.{section_text, pascal_text, head_read, named_text, section_parts, section}
use Rattle.web_scan.specs.Sections.{sections}
use Rattle.web_scan.specs.Texts.{macro_text}

-- the options where none is given
abbrev by_default : Options
by_default = record { length = 32; underline = false; case = Mixed; strict = false }

-- the scan of a web of these lines
abbrev scan : List (List ℕ) → Result Scanned Fault
scan lines = scan_of by_default (lines_numbered_from 1 Web lines)

-- the number and the line of the first fault of a web of these lines, if it has one
abbrev fault_in : Result Scanned Fault → Option (ℕ × ℕ)
fault_in (Ok web) = None
fault_in (Err fault) = Some (fault.code, fault.line)

abbrev fault : List (List ℕ) → Option (ℕ × ℕ)
fault lines = fault_in (scan lines)

-- this of what a web of these lines gives, if it has no fault
abbrev shown_of : {A : Type 0} → (Scanned → A) → Result Scanned Fault → Option A
shown_of value (Ok web) = Some (value web)
shown_of value (Err fault) = None

abbrev shown : {A : Type 0} → (Scanned → A) → List (List ℕ) → Option A
shown value lines = shown_of value (scan lines)

-- the values of the names
abbrev values : Scanned → List ℤ
values web = map (λ name. name.value) web.names.names

-- texts of sections, each with the number of its section
abbrev numbered_texts : List PascalText → List (ℕ × List Tok)
numbered_texts pieces = map (λ piece. (piece.number, piece.text)) pieces

-- the texts of the unnamed section, and those under each name
abbrev pieces : Scanned → List (ℕ × List Tok) × List (List (ℕ × List Tok))
pieces web = (numbered_texts web.unnamed, map numbered_texts web.named)

-- the texts of the macros
abbrev texts : Scanned → List (List Tok)
texts web = web.texts

-- the strings of the pool, and what is printed as it stands
abbrev strings : Scanned → List (List ℕ) × List (List ℕ)
strings web = (web.strings, web.quoted)

-- faults of reading come in the order of the tokens, in texts and in right sides alike
pub faults_of_reading :
    (fault (codes "@ @p x" ∷ codes "'\t'" ∷ []) ≡ Some (8, 2))
    × (fault (codes "@ @p {" ∷ codes "x @* y" ∷ []) ≡ Some (9, 2))
    × (fault (codes "@ @p x" ∷ codes "'ab" ∷ []) ≡ Some (10, 2))
    × (fault (codes "@ @p x" ∷ codes "'a@b'" ∷ []) ≡ Some (11, 2))
    × (fault (codes "@ @p @<a" ∷ codes "b @*" ∷ []) ≡ Some (12, 2))
    × (fault (codes "@ @p x" ∷ codes "}" ∷ codes "@d" ∷ []) ≡ Some (13, 2))
    × (fault (codes "@ @p @^a" ∷ codes "b @p" ∷ []) ≡ Some (14, 2))
    × (fault (codes "@ @d xx=1" ∷ codes "2e" ∷ []) ≡ Some (35, 2))
    × (fault (codes "@ @d xx==1" ∷ codes "@$" ∷ []) ≡ Some (43, 2))
    × (fault (codes "@ } @$ 1e @p x" ∷ []) ≡ None)
unfolding scan_of sections section section_parts definition right_side macro_text pascal_text named_text section_text
    head_read used defined with_value compared_form whole_name prefix_name is_prefix_of numbered
faults_of_reading = (refl, refl, refl, refl, refl, refl, refl, refl, refl, refl)

-- the token that does not fit shows the fault, and is no use of a word
pub forms_of_definitions :
    (fault (codes "@ @d x" ∷ codes "=1" ∷ []) ≡ Some (16, 1))
    × (fault (codes "@ @d" ∷ codes "2" ∷ []) ≡ Some (16, 2))
    × (fault (codes "@ @d xx" ∷ codes "yy==z" ∷ []) ≡ Some (16, 2))
    × (fault (codes "@ @p xx_y" ∷ codes "@ @d" ∷ codes "ab" ∷ codes "xxy=1" ∷ []) ≡ Some (16, 4))
    × (fault (codes "@ @d xx(" ∷ codes "x)==y" ∷ []) ≡ Some (16, 2))
    × (fault (codes "@ @d xx(#" ∷ codes "==y" ∷ []) ≡ Some (16, 2))
    × (fault (codes "@ @d xx(#)" ∷ codes "=y" ∷ []) ≡ Some (16, 2))
    × (fault (codes "@ @d xx" ∷ codes "@<A@>=x" ∷ []) ≡ Some (16, 2))
    × (fault (codes "@ x" ∷ codes "@d" ∷ codes "" ∷ []) ≡ Some (16, 3))
unfolding scan_of sections section section_parts definition right_side macro_text pascal_text named_text section_text
    head_read used defined with_value compared_form whole_name prefix_name is_prefix_of numbered
forms_of_definitions = (refl, refl, refl, refl, refl, refl, refl, refl, refl)

-- names that appeared or were defined before; at the last sign, before the right side
pub definitions_of_names :
    (fault (codes "@ @p xx" ∷ codes "@ @d xx=1" ∷ []) ≡ Some (19, 2))
    × (fault (codes "@ @p xx" ∷ codes "@ @d xx" ∷ codes "=" ∷ codes "}" ∷ []) ≡ Some (19, 3))
    × (fault (codes "@ @p xx" ∷ codes "@ @d xx==1" ∷ []) ≡ None)
    × (fault (codes "@ @d xx==y" ∷ codes "@d xx" ∷ codes "=" ∷ codes "}" ∷ []) ≡ Some (20, 3))
    × (fault (codes "@ @d xx==y" ∷ codes "@d xx(#)" ∷ codes "==(" ∷ []) ≡ Some (20, 3))
unfolding scan_of sections section section_parts definition right_side macro_text pascal_text named_text section_text
    head_read used defined with_value compared_form whole_name prefix_name is_prefix_of numbered
definitions_of_names = (refl, refl, refl, refl, refl)

-- signs and constants, of which words are numeric macros with a whole definition; the sum is too big at its name
pub numeric_faults :
    (fault (codes "@ @d nn=nn+1" ∷ []) ≡ Some (17, 1))
    × (fault (codes "@ @d nn=" ∷ codes "x" ∷ []) ≡ Some (17, 2))
    × (fault (codes "@ @d nn==1" ∷ codes "@d mm=" ∷ codes "nn" ∷ []) ≡ Some (17, 3))
    × (fault (codes "@ @d nn=1" ∷ codes "*2" ∷ []) ≡ Some (17, 2))
    × (fault (codes "@ @d nn=214748364" ∷ codes "{}7" ∷ codes "@'0" ∷ codes "-2147483647" ∷ []) ≡ None)
    × (fault (codes "@ @d nn=214748364" ∷ codes "8" ∷ codes "}" ∷ []) ≡ Some (18, 2))
    × (fault (codes "@ @d mm=32768" ∷ []) ≡ Some (18, 1))
    × (fault (codes "@ @d mm=32767" ∷ []) ≡ None)
    × (fault (codes "@ @d" ∷ codes "mm" ∷ codes "=-32768" ∷ codes "" ∷ codes "@<" ∷ []) ≡ Some (18, 2))
    × (fault (codes "@ @d" ∷ codes "mm" ∷ codes "=-32768" ∷ codes "}" ∷ []) ≡ Some (13, 4))
unfolding scan_of sections section section_parts definition right_side macro_text pascal_text named_text section_text
    head_read used defined with_value compared_form whole_name prefix_name is_prefix_of numbered
numeric_faults = (refl, refl, refl, refl, refl, refl, refl, refl, refl, refl)

-- words that look alike
pub conflicts :
    (fault (codes "@ @p foo_bar:=foobar" ∷ []) ≡ Some (21, 1))
    × (fault (codes "@ @p foo_bar" ∷ codes "foobar" ∷ []) ≡ Some (21, 2))
    × (fault (codes "@ @p foo_bar" ∷ codes "@ @d foobar==x" ∷ codes "@p foobar" ∷ []) ≡ None)
    × (fault (codes "@ @d foo_bar==x" ∷ codes "@p foo_bar foobar" ∷ []) ≡ None)
unfolding scan_of sections section section_parts definition right_side macro_text pascal_text named_text section_text
    head_read used defined with_value compared_form whole_name prefix_name is_prefix_of numbered
conflicts = (refl, refl, refl, refl)

-- an extra `)`, and the token that ends a text in which a parenthesis is open
pub parentheses :
    (fault (codes "@ @p (" ∷ codes ")" ∷ codes ")" ∷ []) ≡ Some (22, 3))
    × (fault (codes "@ @d xx==(" ∷ codes "@p x" ∷ []) ≡ Some (22, 2))
    × (fault (codes "@ @d xx==(" ∷ codes "@<}" ∷ []) ≡ Some (22, 2))
    × (fault (codes "@ @p (x" ∷ codes "@*" ∷ []) ≡ Some (22, 2))
    × (fault (codes "@ @p (" ∷ codes "" ∷ codes "" ∷ []) ≡ Some (22, 3))
    × (fault (codes "@ @p (.)@=)@>((*{(}))" ∷ []) ≡ Some (22, 1))
unfolding scan_of sections section section_parts definition right_side macro_text pascal_text named_text section_text
    head_read used defined with_value compared_form whole_name prefix_name is_prefix_of numbered
parentheses = (refl, refl, refl, refl, refl, refl)

-- the head of a named text, and what may not stand in a text, though a parenthesis is open
pub heads_and_texts :
    (fault (codes "@ @<A@>" ∷ codes "x" ∷ []) ≡ Some (23, 2))
    × (fault (codes "@ @<A@>+" ∷ codes "@<" ∷ []) ≡ Some (23, 2))
    × (fault (codes "@ @<A@>++" ∷ codes "==x" ∷ []) ≡ None)
    × (fault (codes "@ @p x" ∷ codes "@d" ∷ []) ≡ Some (24, 2))
    × (fault (codes "@ @p (" ∷ codes "@f" ∷ []) ≡ Some (24, 2))
    × (fault (codes "@ @<A@>=x" ∷ codes "@p" ∷ []) ≡ Some (24, 2))
unfolding scan_of sections section section_parts definition right_side macro_text pascal_text named_text section_text
    head_read used defined with_value compared_form whole_name prefix_name is_prefix_of numbered
heads_and_texts = (refl, refl, refl, refl, refl, refl)

-- a prefix stands for a name that was seen before it; the `@<` is the place of the name
pub prefixes :
    (fault (codes "@ @p @<Ini...@>@<Initialize@>" ∷ []) ≡ Some (25, 1))
    × (fault (codes "@ @p x" ∷ codes "@<Ini" ∷ codes "...@>@<Initialize@>" ∷ []) ≡ Some (25, 2))
    × (fault (codes "@ @p @<Inner part@> @<Initialize@> @<In...@>" ∷ []) ≡ Some (26, 1))
    × (fault (codes "@ @p @<Initialize@>@<Ini...@>" ∷ codes "@ @<Initialize@>=x;" ∷ []) ≡ None)
    × (fault (codes "@ @p @<Initial@>" ∷ codes "@<Initialize@>" ∷ []) ≡ Some (27, 2))
    × (fault (codes "@ @<Initial@>=x" ∷ codes "@ @<" ∷ codes "Initialize@>x" ∷ []) ≡ Some (27, 2))
unfolding scan_of sections section section_parts definition right_side macro_text pascal_text named_text section_text
    head_read used defined with_value compared_form whole_name prefix_name is_prefix_of numbered
prefixes = (refl, refl, refl, refl, refl, refl)

-- each constant times the signs before it; signs after the last are ignored
pub numeric_values :
    (shown values (codes "@ @d mm=-3" ∷ codes "@d nn=mm+@'17+@\"F+\"a\"" ∷ [])
    ≡ Some (negsuc 2 ∷ pos 124 ∷ []))
    × (shown values (codes "@ @d mm=-+-" ∷ codes "1 2-+" ∷ [])
    ≡ Some (pos 12 ∷ []))
    × (shown values (codes "@ @d mm=1@'7" ∷ [])
    ≡ Some (pos 8 ∷ []))
    × (shown values (codes "@ @d mm=" ∷ [])
    ≡ Some (pos 0 ∷ []))
    × (shown values (codes "@ @d xx==y @d mm=\"ab\"-\"\" @d zz(#)==x" ∷ [])
    ≡ Some (pos 0 ∷ negsuc 0 ∷ pos 1 ∷ []))
unfolding scan_of sections section section_parts definition right_side macro_text pascal_text named_text section_text
    head_read used defined with_value compared_form whole_name prefix_name is_prefix_of numbered
numeric_values = (refl, refl, refl, refl, refl)

-- tokens of the texts of macros
pub texts_of_macros :
    (shown texts (codes "@ @d aa(#)==#b\"A\"'it''s@@'@=x@@y@>@& @d bb==#1\"ab\"<>" ∷ [])
    ≡ Some ((tok.Param ∷ tok.Letter 98 ∷ tok.Number (pos 65) ∷ tok.Quoted 0 ∷ tok.Verbatim 1 ∷ tok.Join ∷ [])
    ∷ (tok.Sign 35 ∷ tok.Digit 49 ∷ tok.Number (pos 256) ∷ tok.Joined two.Differs ∷ []) ∷ []))
unfolding scan_of sections section section_parts definition right_side macro_text pascal_text named_text section_text
    head_read used defined with_value compared_form whole_name prefix_name is_prefix_of numbered
texts_of_macros = refl

-- strings with one byte in place of each doubled one, and what is printed as it stands
pub strings_and_quotes :
    (shown strings (codes "@ @d mm=\"ab\"" ∷ codes "@p \"\" \"ab\" \"\"\"\" \"@@@@\"'it''s@@'@=x@@y@>" ∷ [])
    ≡ Some ((codes "ab" ∷ [] ∷ codes "@@" ∷ [], codes "'it''s@'" ∷ codes "x@y" ∷ [])))
unfolding scan_of sections section section_parts definition right_side macro_text pascal_text named_text section_text
    head_read used defined with_value compared_form whole_name prefix_name is_prefix_of numbered
strings_and_quotes = refl

-- what stands before the first section, formats with what follows them, and texts in the order of the web
pub sections_of_a_web :
    (shown pieces (codes "@p x @d no @<no@>" ∷ [])
    ≡ Some ([], []))
    × (shown pieces (codes "no @p no" ∷ codes "@ @f no } @d xx==y @f no @$ @p" ∷ codes "@*no" ∷ [])
    ≡ Some ((1, []) ∷ [], []))
    × (shown pieces (codes "@ @p x" ∷ codes "@*@<A b@>++=@<A " ∷ codes "b@>(@#)" ∷ codes "@ @d xx==y" ∷ codes
    "@<A...@>==#" ∷ [])
    ≡ Some (
      (1, tok.Letter 120 ∷ []) ∷ [],
      ((2, tok.Section 0 ∷ tok.Sign 40 ∷ tok.Sign 41 ∷ [])
          ∷ (3, tok.Sign 35 ∷ []) ∷ []) ∷ [],
    ))
unfolding scan_of sections section section_parts definition right_side macro_text pascal_text named_text section_text
    head_read used defined with_value compared_form whole_name prefix_name is_prefix_of numbered
sections_of_a_web = (refl, refl, refl)
