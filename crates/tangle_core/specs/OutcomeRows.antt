-- What tangling comes to, over short webs and change files.
use Rattle.std.specs.Prelude.{◌≡◌, ℕ, true, false, List, [], ◌∷◌, codes, refl}
use Rattle.std.specs.Fmt.{digits}
use Rattle.wb_base.specs.declared.options.Case.TheVariants.{Mixed}
use Rattle.wb_base.specs.declared.options.Options.{Options}
use Rattle.wb_base.specs.declared.places.FileTag.TheVariants.{Web, Change, Pas}
use Rattle.wb_base.specs.FaultAt.{fault_at}
use Rattle.wb_base.specs.declared.faults.TheConstants.{STRAY_CHANGE_MARK, BAD_BYTE, SECTION_NOT_PRESENT}
use Rattle.change_merge.specs.Lines.{all_lines, lines_of}
use Rattle.change_merge.specs.Changes.{blocks_of, changes_of}
use Rattle.change_merge.specs.Merge.{merge_of}
use Rattle.web_names.specs.Identifiers.{used, compared_form, printed_form}
use Rattle.web_names.specs.SectionNames.{whole_name}
use Rattle.web_pool.specs.PoolText.{pool_text}
use Rattle.web_pool.specs.Strings.{numbered}
use Rattle.web_scan.specs.Scan.{scan_of}
use Rattle.web_scan.specs.Sections.{section_text, pascal_text, section_parts, section, sections}
use Rattle.macro_expand.specs.Expansion.{removal, given_within, given_by, expansion_of}
use Rattle.tangle_core.specs.Tangled.{tangled}
use Rattle.tangle_core.specs.Outcome.{Outcome, refused, broken, done, outcome_of}

-- the options where none is given
abbrev by_default : Options
by_default = record { length = 32; underline = false; case = Mixed; strict = false }

abbrev outcome_with : List ℕ → List ℕ → Outcome
outcome_with web change = outcome_of web change by_default

-- a pool, or none; a web without output; a fault of the web; one of the expansion, behind the lines finished before it
pub of_a_web :
    (outcome_with (codes "@ @p x:=1") []
    ≡ done (record { lines = codes "{1:}x:=1{:1}" ∷ []; pool = []; strings = 0; no_output = false }))
    × (outcome_with (codes "@ @p x:=\"ab\"") []
    ≡ done (record {
      lines = codes "{1:}x:=256{:1}" ∷ [];
      pool = codes "02ab\n*000000000\n";
      strings = 1;
      no_output = false;
    }))
    × (outcome_with (codes "@ x") [] ≡ done (record { lines = []; pool = []; strings = 0; no_output = true }))
    × (outcome_with (codes "@ @p\n'\t'") [] ≡ refused (fault_at BAD_BYTE (record { file = Web; line = 2 })))
    × (outcome_with (codes "@ @p x@\\y @<Z@>") []
    ≡ broken (codes "{1:}x" ∷ []) (fault_at SECTION_NOT_PRESENT (record { file = Pas; line = 2 })))
unfolding outcome_of all_lines lines_of blocks_of changes_of merge_of scan_of sections section section_parts pascal_text
    section_text used compared_form printed_form whole_name numbered expansion_of given_by given_within removal tangled
    digits pool_text
of_a_web = (refl, refl, refl, refl, refl)

-- a line that is changed, and a fault of the change file
pub with_a_change_file :
    (outcome_with (codes "@ @p aa") (codes "@x\n@ @p aa\n@y\n@ @p bb\n@z")
    ≡ done (record { lines = codes "{1:}bb{:1}" ∷ []; pool = []; strings = 0; no_output = false }))
    × (outcome_with (codes "@ @p aa") (codes "@y")
    ≡ refused (fault_at STRAY_CHANGE_MARK (record { file = Change; line = 1 })))
unfolding outcome_of all_lines lines_of blocks_of changes_of merge_of scan_of sections section section_parts pascal_text
    section_text used compared_form printed_form whole_name numbered expansion_of given_by given_within removal tangled
    digits pool_text
with_a_change_file = (refl, refl)
