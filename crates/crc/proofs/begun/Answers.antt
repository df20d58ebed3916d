-- `crc::begun` meets its contract: at index i the register, shifted for the zero bytes and for the i bytes that are in it, ends where all bytes leave it with those from i on; a turn adds one byte at its place.
-- Assumes nothing.
use mathlib.Core.Path.{◌≡◌, refl, sym, ◌∙◌, ap}
use Prim.Native.Nat.{ℕ, ◌+◌, ◌-◌, ◌*◌, ◌%◌, ◌<◌, ◌≤◌, ◌^◌}
use native.Mathlib.Nat.{add-zero, mod-lt}
use native.Mathlib.Omega.{arith}
use borrow.Author.Rules.{rules}
use lib.Bits.{xor_lt}
use lib.Dec.{lit<}
use lib.ListN.{length, get_or, drop_of_length-le}
use Rattle.crc_table.specs.Table.{shifts}
use Rattle.crc.specs.Steps.{enter_bytes}
use Rattle.crc.proofs.Rule.{first_turn}
use Rattle.crc.proofs.begun.Goals as goal

pub loop-i-init : goal.loop-i-init
loop-i-init c =
    let bytes = c.args.first.now in
    let n = length bytes in
    let key = c.start-key.result in (
      search rules,
      ap (λ (x : ℕ). enter_bytes x bytes) (sym c.start-key.ensures ∙ ap (λ (x : ℕ). shifts (8 * x) key) (sym (add-zero (4 - n)))),
    )

pub loop-i-preserved : goal.loop-i-preserved
loop-i-preserved c =
    let bytes = c.args.first.now in
    let n = length bytes in
    let at = c.loop-i in
    let i = at.i in
    let byte : c.from.result ≡ get_or bytes i 0 = c.from.ensures in
    let own : get_or bytes i 0 < 256 = omega (arith, c.type_inv.first i) in
    let turn = first_turn bytes n i at.key (enter_bytes 0xFFFFFFFF bytes) (omega arith) c.loop-i-test.true refl own at.invariant.1 in (
      xor_lt 32 at.key (c.from.result * 2 ^ (8 * (n - 1 - i)) % 2 ^ 32) at.invariant.0 (mod-lt (c.from.result * 2 ^ (8 * (n - 1 - i))) (lit< tt)),
      rw byte turn,
    )

pub returns : goal.returns
returns c =
    let bytes = c.args.first.now in
    let n = length bytes in
    let at = c.loop-i in
    let end : n ≤ at.i = omega arith in
    let all : 4 - n + at.i ≡ 4 = omega arith in
    at.invariant.1 ∙ ap (enter_bytes (shifts (8 * (4 - n + at.i)) at.key)) (drop_of_length-le bytes end) ∙ ap (λ (x : ℕ). shifts (8 * x) at.key) all
