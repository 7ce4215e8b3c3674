-- The readers of reserved words and signs, by their kind.
use denote.Enum.Bare.{sameb}
use Rattle.std.specs.Prelude.{ℕ, Bool, true, Option, Some, None}
use Rattle.pas_tokens.specs.contracts.kinds.Kind.{the_type}
use Rattle.pas_tokens.specs.declared.kinds.Kind.{Kind}
use Rattle.pas_tokens.specs.Cutting.{Payload, nothing}
use Rattle.pas_syntax.specs.inner.Prog.{Prog, done, fail, look, skip, misplaced}

-- `==` on kinds
abbrev pub same_kind : Kind → Kind → Bool
same_kind = sameb the_type

-- a token of this kind, which says nothing else; its line
abbrev pub mark_if : Bool → Payload → ℕ → Prog ℕ
mark_if true nothing line = skip (done line)
mark_if same payload line = fail misplaced

abbrev pub mark_at : Kind → Kind → Payload → ℕ → Prog ℕ
mark_at wanted kind payload line = mark_if (same_kind wanted kind) payload line

abbrev pub mark : Kind → Prog ℕ
mark wanted = look (mark_at wanted)

-- the same of a token that may be there
abbrev pub maybe_if : Bool → Payload → ℕ → Prog (Option ℕ)
maybe_if true nothing line = skip (done (Some line))
maybe_if same payload line = done None

abbrev pub maybe_at : Kind → Kind → Payload → ℕ → Prog (Option ℕ)
maybe_at wanted kind payload line = maybe_if (same_kind wanted kind) payload line

abbrev pub maybe_mark : Kind → Prog (Option ℕ)
maybe_mark wanted = look (maybe_at wanted)
