-- The condition on the metacomments that a folder takes. This project's own.
use Rattle.std.specs.Prelude.{◌≡◌, ℕ, ◌<◌}
use Rattle.macro_expand.specs.Items.{Expanded, meta_open}

-- where an item begins a metacomment and this many are open, one more can be counted
abbrev pub HasRoom : ℕ → Expanded → Type 0
HasRoom depth item = item ≡ meta_open → depth < 4294967295
