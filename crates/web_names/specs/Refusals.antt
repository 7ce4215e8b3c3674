-- What clauses say of a refused name. Want of memory is the one free answer: no clause says when it comes.
use Rattle.std.specs.Prelude.{Result, Ok, Err, ⊤}
use Rattle.web_names.specs.declared.name_errors.NameErr.{NameErr}
use Rattle.web_names.specs.declared.name_errors.NameErr.TheVariants.{OutOfMemory}

-- where the answer is a refusal other than want of memory, this holds of it
abbrev pub IfRefused : {T : Type 0} → Result T NameErr → (NameErr → Type 0) → Type 0
IfRefused (Ok value) P = ⊤
IfRefused (Err OutOfMemory) P = ⊤
IfRefused (Err refusal) P = P refusal
