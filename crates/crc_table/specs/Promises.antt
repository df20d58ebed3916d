-- What the public call promises.
use Rattle.std.specs.Prelude.{◌≡◌, ℕ}
use Rattle.crc_table.specs.Table.{shifts}

-- `through` for a register
abbrev pub GivesThrough : ℕ → ℕ → Type 0
GivesThrough register r = r ≡ shifts 32 register
