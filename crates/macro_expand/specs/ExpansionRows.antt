-- Expansion at work on short webs.
use Rattle.std.specs.Prelude.{◌≡◌, ℕ, zero, suc, pos, negsuc, false, nat_lt, if◌then◌else◌}
use Rattle.std.specs.Prelude.{List, [], ◌∷◌, ◌++◌, map, replicate, codes, Option, Some, None, Result, Ok, Err, refl}
use Rattle.wb_base.specs.declared.faults.Fault.{Fault}
use Rattle.wb_base.specs.declared.tokens.Joined.TheVariants as two
use Rattle.wb_base.specs.declared.options.Case.TheVariants.{Mixed}
use Rattle.wb_base.specs.declared.options.Options.{Options}
use Rattle.wb_base.specs.declared.places.FileTag.TheVariants.{Web}
use Rattle.wb_base.specs.declared.tokens.Tok.{Tok}
use Rattle.wb_base.specs.declared.tokens.Tok.TheVariants as tok
use Rattle.change_merge.specs.Lines.{lines_numbered_from}
use Rattle.web_names.specs.declared.classes.Class.TheVariants.{Simple}
use Rattle.web_names.specs.Identifiers.{Name, defined, used, with_value, compared_form, printed_form}
use Rattle.web_names.specs.SectionNames.{whole_name, prefix_name, is_prefix_of}
use Rattle.web_pool.specs.Strings.{numbered}
use Rattle.web_scan.specs.Definitions.{definition}
use Rattle.web_scan.specs.Numeric.{right_side}
use Rattle.web_scan.specs.Scan.{scan_of}
use Rattle.web_scan.specs.Scanned.{Scanned, nothing_scanned}
use Rattle.web_scan.specs.Sections.{section_text, pascal_text, head_read, named_text, section_parts, section}
use Rattle.web_scan.specs.Sections.{sections}
use Rattle.web_scan.specs.Texts.{macro_text}
use Rattle.macro_expand.specs.declared.refusals.ExpandErr.{ExpandErr}
use Rattle.macro_expand.specs.declared.refusals.ExpandErr.TheVariants.{NotPresent, NoParameter, Levels, Steps}
use Rattle.macro_expand.specs.Expansion.{Expansion, expansion_of, given_by, given_within, removal, with_argument}
use Rattle.macro_expand.specs.Flat.{nothing, ends, pieces_before}
use Rattle.macro_expand.specs.Items.{Expanded, digit, number, word, sign, joined, quoted, verbatim, join, line}
use Rattle.macro_expand.specs.Items.{meta_open, meta_close, opens, closes}

-- the options where none is given
abbrev by_default : Options
by_default = record { length = 32; underline = false; case = Mixed; strict = false }

-- this of a web of these lines, if it has no fault
abbrev unless_faulty : (Scanned → Expansion) → Result Scanned Fault → Option Expansion
unless_faulty given (Ok web) = Some (given web)
unless_faulty given (Err fault) = None

abbrev of_web : (Scanned → Expansion) → List (List ℕ) → Option Expansion
of_web given lines = unless_faulty given (scan_of by_default (lines_numbered_from 1 Web lines))

-- the expansion of a web of these lines
abbrev expansion : List (List ℕ) → Option Expansion
expansion lines = of_web expansion_of lines

-- the same with so many steps
abbrev expansion_by : ℕ → List (List ℕ) → Option Expansion
expansion_by steps lines = of_web (λ web. given_by web steps (pieces_before web.unnamed (ends nothing))) lines

-- words of one letter each, and signs
abbrev letter_or_sign : ℕ → Expanded
letter_or_sign byte = if nat_lt byte 97 then sign byte else word (byte ∷ [])

abbrev text : List ℕ → List Expanded
text bytes = map letter_or_sign bytes

-- items, and a fault or none behind them
abbrev gives : List Expanded → Option ExpandErr → Option Expansion
gives items fault = Some (record { items = items; fault = fault })

-- the items of the first section, and no fault
abbrev whole : List Expanded → Option Expansion
whole items = gives (opens 1 ∷ (items ++ closes 1 ∷ [])) None

-- items of the first section, and a fault behind them
abbrev broken : List Expanded → ExpandErr → Option Expansion
broken items fault = gives (opens 1 ∷ items) (Some fault)

-- items that stand for themselves, and the values of numeric macros and of strings
pub items :
    (expansion (codes "@ @d mm=-3" ∷ codes "@p xx*mm;" ∷ codes "\"A\" \"ab\" @'17 7" ∷ [])
    ≡ whole (word (codes "xx") ∷ sign 42 ∷ number (negsuc 2) ∷ sign 59 ∷ number (pos 65) ∷ number (pos 256)
    ∷ number (pos 15) ∷ digit 55 ∷ []))
    × (expansion (codes "@ @p 'a'@=b@>@&@\\@{@}:=#" ∷ [])
    ≡ whole (quoted (codes "'a'") ∷ verbatim (codes "b") ∷ join ∷ line ∷ meta_open ∷ meta_close
    ∷ joined two.Becomes ∷ sign 35 ∷ []))
unfolding scan_of sections section section_parts definition right_side macro_text pascal_text named_text section_text
    head_read used defined with_value compared_form whole_name prefix_name is_prefix_of numbered printed_form
    expansion_of given_by given_within removal with_argument
items = (refl, refl)

-- the texts of the unnamed section, and those under a name, each with its marks
pub sections_of_a_web :
    (expansion (codes "@ @d aa==b" ∷ [])
    ≡ gives [] None)
    × (expansion (codes "@ @p x" ∷ codes "@ @p y" ∷ [])
    ≡ gives (opens 1 ∷ word (codes "x") ∷ closes 1 ∷ opens 2 ∷ word (codes "y") ∷ closes 2 ∷ []) None)
    × (expansion (codes "@ @p @<Initialize@>@<Ini...@>" ∷ codes "@ @<Initialize@>=x;" ∷ [])
    ≡ whole (opens 2 ∷ (text (codes "x;") ++ closes 2 ∷ opens 2 ∷ (text (codes "x;") ++ closes 2 ∷ []))))
    × (expansion (codes "@ @p a@<A@>b" ∷ codes "@ @<A@>=x" ∷ codes "@ @<A@>=y" ∷ [])
    ≡ whole (word (codes "a") ∷ opens 2 ∷ word (codes "x") ∷ closes 2 ∷ opens 3 ∷ word (codes "y") ∷ closes 3
    ∷ word (codes "b") ∷ []))
    × (expansion (codes "@ @p a@<Initialize@>" ∷ [])
    ≡ broken (text (codes "a")) NotPresent)
unfolding scan_of sections section section_parts definition right_side macro_text pascal_text named_text section_text
    head_read used defined with_value compared_form whole_name prefix_name is_prefix_of numbered printed_form
    expansion_of given_by given_within removal with_argument
sections_of_a_web = (refl, refl, refl, refl, refl)

-- an argument is sought in the texts around, too; a parameter in it is that of the text in which it stands
pub arguments :
    (expansion (codes "@ @d hlp1(#)==p(#);e" ∷ codes "@d hlp2(#)==p(#);hlp1" ∷ codes "@d help2==b hlp2"
    ∷ codes "@p help2(a)(b)" ∷ [])
    ≡ whole (text (codes "bp(a);p(b);e")))
    × (expansion (codes "@ @d ff(#)==gg(#+#)" ∷ codes "@d gg(#)==#*#" ∷ codes "@p ff(k)" ∷ [])
    ≡ whole (text (codes "k+k*k+k")))
    × (expansion (codes "@ @d ff(#)==#" ∷ codes "@p ff(ff(ff(k)))" ∷ [])
    ≡ whole (text (codes "k")))
    × (expansion (codes "@ @d ff(#)==[#]" ∷ codes "@d aa==ff" ∷ codes "@p aa((k)(l))ff()" ∷ [])
    ≡ whole (text (codes "[(k)(l)][]")))
    × (expansion (codes "@ @d ab==cd" ∷ codes "@p ab(ab)" ∷ [])
    ≡ whole (word (codes "cd") ∷ sign 40 ∷ word (codes "cd") ∷ sign 41 ∷ []))
unfolding scan_of sections section section_parts definition right_side macro_text pascal_text named_text section_text
    head_read used defined with_value compared_form whole_name prefix_name is_prefix_of numbered printed_form
    expansion_of given_by given_within removal with_argument
arguments = (refl, refl, refl, refl, refl)

-- the `(` is the next item itself, and is not sought past the end of a piece
pub no_parameter :
    (expansion (codes "@ @d ff(#)==#" ∷ codes "@p ff;k" ∷ [])
    ≡ broken [] NoParameter)
    × (expansion (codes "@ @d ff(#)==#" ∷ codes "@p ff" ∷ codes "@ @p (k)" ∷ [])
    ≡ broken [] NoParameter)
    × (expansion (codes "@ @d ff(#)==#" ∷ codes "@p @<A@>(k)" ∷ codes "@ @<A@>=ff" ∷ [])
    ≡ broken (opens 2 ∷ []) NoParameter)
    × (expansion (codes "@ @d ff(#)==#" ∷ codes "@d pp==(k)" ∷ codes "@p ff pp" ∷ [])
    ≡ broken [] NoParameter)
    × (expansion (codes "@ @d ff(#)==#" ∷ codes "@d gg(#)==ff#" ∷ codes "@p gg((k))" ∷ [])
    ≡ broken [] NoParameter)
unfolding scan_of sections section section_parts definition right_side macro_text pascal_text named_text section_text
    head_read used defined with_value compared_form whole_name prefix_name is_prefix_of numbered printed_form
    expansion_of given_by given_within removal with_argument
no_parameter = (refl, refl, refl, refl, refl)

-- a macro that never ends
pub without_end :
    (expansion (codes "@ @d aa==aa" ∷ codes "@p aa" ∷ [])
    ≡ broken [] Levels)
    × (expansion (codes "@ @d aa==x aa" ∷ codes "@p aa" ∷ [])
    ≡ broken (replicate 199 (word (codes "x"))) Levels)
unfolding scan_of sections section section_parts definition right_side macro_text pascal_text named_text section_text
    head_read used defined with_value compared_form whole_name prefix_name is_prefix_of numbered printed_form
    expansion_of given_by given_within removal with_argument
without_end = (refl, refl)

-- each head that is removed is a step: here the mark, the macro, its argument in parentheses, the parameter, `k`, two
-- ends, the mark
-- and the last end
pub steps :
    (expansion_by 11 (codes "@ @d ff(#)==#" ∷ codes "@p ff(k)" ∷ [])
    ≡ whole (text (codes "k")))
    × (expansion_by 10 (codes "@ @d ff(#)==#" ∷ codes "@p ff(k)" ∷ [])
    ≡ gives (opens 1 ∷ word (codes "k") ∷ closes 1 ∷ []) (Some Steps))
    × (expansion_by 5 (codes "@ @d ff(#)==#" ∷ codes "@p ff(k)" ∷ [])
    ≡ broken [] Steps)
    × (expansion_by 4 (codes "@ @d ff(#)==#" ∷ codes "@p ff(k)" ∷ [])
    ≡ broken [] Steps)
    × (expansion_by 0 (codes "@ @d ff(#)==#" ∷ codes "@p ff(k)" ∷ [])
    ≡ gives [] (Some Steps))
unfolding scan_of sections section section_parts definition right_side macro_text pascal_text named_text section_text
    head_read used defined with_value compared_form whole_name prefix_name is_prefix_of numbered printed_form
    expansion_of given_by given_within removal with_argument
steps = (refl, refl, refl, refl, refl)

-- the step that is one too many comes before all else, and a level too many comes last
pub order_of_faults :
    (expansion_by 4 (codes "@ @d ff(#)==#" ∷ codes "@d aa==ff" ∷ codes "@p aa;" ∷ [])
    ≡ broken [] NoParameter)
    × (expansion_by 3 (codes "@ @d ff(#)==#" ∷ codes "@d aa==ff" ∷ codes "@p aa;" ∷ [])
    ≡ broken [] Steps)
    × (expansion_by 2 (codes "@ @p @<A@>" ∷ [])
    ≡ broken [] NotPresent)
    × (expansion_by 1 (codes "@ @p @<A@>" ∷ [])
    ≡ broken [] Steps)
    × (expansion_by 201 (codes "@ @d aa==aa" ∷ codes "@p aa" ∷ [])
    ≡ broken [] Levels)
    × (expansion_by 200 (codes "@ @d aa==aa" ∷ codes "@p aa" ∷ [])
    ≡ broken [] Steps)
unfolding scan_of sections section section_parts definition right_side macro_text pascal_text named_text section_text
    head_read used defined with_value compared_form whole_name prefix_name is_prefix_of numbered printed_form
    expansion_of given_by given_within removal with_argument
order_of_faults = (refl, refl, refl, refl, refl, refl)

-- macros each of which stands for the one before it, and the first for `x`
abbrev chain : ℕ → List Name
chain zero = []
chain (suc count) = chain count ++ record { word = codes "cc"; class = Simple; value = pos count } ∷ []

abbrev texts_of_chain : ℕ → List (List Tok)
texts_of_chain zero = (tok.Letter 120 ∷ []) ∷ []
texts_of_chain (suc count) = texts_of_chain count ++ (tok.Name count ∷ []) ∷ []

-- a web with 200 such macros, the last of which stands in its text
abbrev web_of_chain : ℕ → Scanned
web_of_chain last = record (nothing_scanned by_default) {
  names = record { options = by_default; names = chain 200 };
  texts = texts_of_chain 199;
  unnamed = record { number = 1; text = tok.Name last ∷ [] } ∷ [];
}

-- 200 levels are let through, and not one more
pub levels_of_a_chain :
    (Some (expansion_of (web_of_chain 198)) ≡ whole (text (codes "x")))
    × (Some (expansion_of (web_of_chain 199)) ≡ broken [] Levels)
unfolding expansion_of given_by given_within removal with_argument printed_form
levels_of_a_chain = (refl, refl)
