-- Classes of bytes that std has no word for.
use Rattle.std.specs.Prelude.{ℕ, ◌==◌, ◌||◌, Bool}

-- a space or a tab
abbrev pub is_blank : ℕ → Bool
is_blank byte = byte == 32 || byte == 9

-- a space, a tab or a carriage return
abbrev pub is_white : ℕ → Bool
is_white byte = is_blank byte || byte == 13
