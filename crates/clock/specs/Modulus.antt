-- Document 01, "Time": counting around a turn, for every modulus.
use Rattle.std.specs.Prelude.{ℕ, ◌+◌, ◌-◌, ◌%◌}

-- a − b modulo m, for b at most m: how far it is forward from b to a
abbrev pub minus_mod : ℕ → ℕ → ℕ → ℕ
minus_mod m a b = (a + (m - b)) % m
