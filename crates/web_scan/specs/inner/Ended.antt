-- The codes that end the text of a macro, in the text of a section.
use Rattle.std.specs.Prelude.{ℕ, Ok, Err}
use Rattle.wb_base.specs.declared.faults.TheConstants.{DEFINITION_IN_PASCAL}
use Rattle.wb_base.specs.FaultAt.{fault_at}
use Rattle.wb_base.specs.Steps.{◌>>=◌}
use Rattle.web_lex.specs.declared.codes.Code.{Code}
use Rattle.web_lex.specs.declared.codes.Code.TheVariants as code
use Rattle.web_scan.specs.Scanned.{Scanning, place_of_last}
use Rattle.web_scan.specs.Texts.{TextRead, ended_text}

-- a section start or the end of the input ends the text that began after so many tokens; no other may stand in it
abbrev pub section_ended : ℕ → Code → Scanning → TextRead
section_ended first code.End scanning = ended_text first scanning >>= (λ text. Ok (text, code.End, scanning))
section_ended first code.Section scanning = ended_text first scanning >>= (λ text. Ok (text, code.Section, scanning))
section_ended first other scanning = Err (fault_at DEFINITION_IN_PASCAL (place_of_last scanning))
