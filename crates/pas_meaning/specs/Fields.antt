-- The bytes of an integer as it is written.
use Rattle.std.specs.Prelude.{ℕ, List, ◌++◌, nat_abs, replicate}
use Rattle.pas_meaning.specs.declared.fields.IntText.{IntText}
use Rattle.pas_meaning.specs.Files.{space}

abbrev pub text_of : IntText → List ℕ
text_of text = replicate (nat_abs text.spaces) space ++ text.digits.items
