-- `crc_table::through` meets its contract: it is the sum over all four bytes.
-- Assumes nothing.
use mathlib.Core.Path.{◌≡◌, sym, ap, ◌∙◌}
use mathlib.Core.List.{List, [], ◌∷◌}
use Prim.Native.Nat.{ℕ, ◌/◌, ◌%◌, ◌^◌}
use native.Mathlib.Nat.{div-one}
use native.Mathlib.Omega.{arith}
use lib.Bits.{bit_xor}
use lib.ListN.{get_or}
use Rattle.crc_table.specs.Table.{shifts}
use Rattle.crc_table.proofs.Rule.{listed, sliced_is}
use Rattle.crc_table.proofs.through.Goals as goal

-- what the tables have for a register's bytes, the lowest first
abbrev of_bytes : List ℕ → ℕ
of_bytes l = bit_xor (bit_xor (bit_xor (listed 0 (get_or l 0 0)) (listed 1 (get_or l 1 0))) (listed 2 (get_or l 2 0))) (listed 3 (get_or l 3 0))

pub returns : goal.returns
returns c =
    let v = c.args.register in
    let all : v % 2 ^ 32 ≡ v = omega arith in
    ap of_bytes c.to_le_bytes.ensures
    ∙ ap (λ (x : ℕ). of_bytes (x % 256 ∷ v / 256 % 256 ∷ v / 65536 % 256 ∷ v / 16777216 % 256 ∷ [])) (sym (div-one v))
    ∙ sliced_is 4 v (omega arith)
    ∙ ap (shifts 32) all
