-- `crc::residue` meets its contract: at a group the register, when it has gone through and with the bytes from that group on still to go in, ends at the residue; a turn adds four bytes.
-- Assumes nothing.
use mathlib.Core.Path.{◌≡◌, sym, ◌∙◌, ap}
use mathlib.Core.List.{List, []}
use Prim.Native.Nat.{ℕ, ◌+◌, ◌*◌, ◌/◌, ◌%◌, ◌<◌, ◌≤◌}
use native.Mathlib.Nat.{add-zero}
use native.Mathlib.Omega.{arith}
use borrow.Author.Rules.{rules}
use lib.Bits.{xor_lt}
use lib.ListN.{length, get_or, drop_of_length-le}
use mir.Syntax.{w32}
use Rattle.std.specs.Int.{from_be_bytes}
use Rattle.crc_table.specs.Table.{shifts}
use Rattle.crc.specs.Steps.{enter_bytes}
use Rattle.crc.proofs.Rule.{begins, group_is, four_at, loop_turn}
use Rattle.crc.proofs.residue.Goals as goal

pub loop-four-init : goal.loop-four-init
loop-four-init c =
    let bytes = c.args.bytes.now in
    let n = length bytes % 4 in
    let key = c.begun-key.result in (
      search rules,
      rw (add-zero n) (begins bytes n key (ap (λ (l : List ℕ). enter_bytes 0xFFFFFFFF l) (sym c.as_rchunks.ensures.front) ∙ c.begun-key.ensures)),
    )

pub loop-four-preserved : goal.loop-four-preserved
loop-four-preserved c =
    let bytes = c.args.bytes.now in
    let n = length bytes % 4 in
    let count = length bytes / 4 in
    let at = c.loop-four in
    let k = at.four-index in
    let i = n + 4 * k in
    let fours = c.as_rchunks.ensures in
    let turn : k < count = omega arith in
    let four : get_or c.as_rchunks.result.1.now k [] ≡ four_at bytes i =
    ap (λ (l : List (List ℕ)). get_or l k []) fours.back ∙ group_is bytes n count k turn (omega arith) in
    let next : i + 4 ≡ n + 4 * (k + 1) = omega arith in
    let own : (j : ℕ) → get_or bytes j 0 < 256 = λ j. omega (arith, c.type_inv.bytes j) in (
      xor_lt 32 c.through.result c.from_be_bytes.result (search rules) (search rules),
      rw (← next)
          (loop_turn bytes i at.key c.through.result c.from_be_bytes.result (omega arith)
          (own i, (own (i + 1), (own (i + 2), (own (i + 3), tt))))
          c.through.ensures (c.from_be_bytes.ensures ∙ ap (from_be_bytes w32) four) at.invariant.1),
    )

pub returns : goal.returns
returns c =
    let bytes = c.args.bytes.now in
    let at = c.loop-four in
    let end : length bytes ≤ length bytes % 4 + 4 * at.four-index = omega arith in
    c.through-2.ensures ∙ sym (at.invariant.1 ∙ ap (enter_bytes (shifts 32 at.key)) (drop_of_length-le bytes end))
