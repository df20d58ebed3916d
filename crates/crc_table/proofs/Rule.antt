-- What is listed is the tables' rule, by one computed test over the four lists; and the listed entries of a register's bytes make up what 32 shifts make of it.
-- Assumes nothing.
use mathlib.Core.Path.{◌≡◌, refl, sym, ◌∙◌, ap, ap₂}
use mathlib.Core.Bool.{Bool, true, ◌&&◌}
use mathlib.Core.List.{List, []}
use Prim.Native.Nat.{ℕ, zero, suc, ◌+◌, ◌-◌, ◌*◌, ◌/◌, ◌%◌, ◌^◌, ◌<◌, ◌≤◌}
use native.Mathlib.Nat.{mod-lt}
use native.Mathlib.Omega.{arith}
use borrow.Author.Tests.{eqb-true}
use lib.Dec.{eqb, lit<}
use lib.ListN.{length, get_or}
use lib.Pow.{pow_pos, mod-pow-add}
use lib.Bits.{bit_xor, xor_comm, xor_shifted}
use Rattle.ground.proofs.Test.{both_true}
use Rattle.ground.proofs.Entries.{every_entry, entry_at}
use Rattle.crc_table.specs.Table.{shift_of, shifts}
use Rattle.crc_table.proofs.Linear.{shifts_xor, shifts_add, shifts_small, shifts_top}
use Rattle.crc_table.specs.declared.tables.TheConstants.{TABLES}

-- the entry that is listed in table k for a byte
abbrev pub listed : ℕ → ℕ → ℕ
listed k b = get_or (get_or TABLES k []) b 0

-- what eight shifts make an entry of: for the lowest byte of the register the byte at its top, for another one the entry of the table before
abbrev source : ℕ → ℕ → ℕ
source zero b = b * 2 ^ 24
source (suc k) b = listed k b

-- an entry by that rule
abbrev rule : ℕ → ℕ → ℕ → Bool
rule k b entry = eqb entry (shifts 8 (source k b))

-- a table has an entry for each byte, by the rule
abbrev whole : ℕ → List ℕ → Bool
whole k table = eqb (length table) 256 && every_entry (rule k) 0 table

holds : every_entry whole 0 TABLES ≡ true
unfolding shift_of
holds = refl

entry_is : (k b : ℕ) → k < 4 → b < 256 → listed k b ≡ shifts 8 (source k b)
entry_is k b hk h =
    let table = get_or TABLES k [] in
    let own = both_true (eqb (length table) 256) (every_entry (rule k) 0 table) (entry_at whole TABLES [] holds k hk) in
    let size : length table ≡ 256 = eqb-true (length table) 256 own.0 in
    eqb-true (listed k b) (shifts 8 (source k b)) (entry_at (rule k) table 0 own.1 b (omega arith))

-- an entry is what a byte at the register's top becomes, over the number of tables
listed_is : (k b : ℕ) → k < 4 → b < 256 → listed k b ≡ shifts (8 * suc k) (b * 2 ^ 24)
listed_is zero b hk h = entry_is zero b hk h
listed_is (suc k) b hk h =
    let top = b * 2 ^ 24 in
    let n : 8 * suc k + 8 ≡ 8 * suc (suc k) = omega arith in
    entry_is (suc k) b hk h
    ∙ ap (shifts 8) (listed_is k b (omega arith) h)
    ∙ shifts_add (8 * suc k) 8 top
    ∙ ap (λ (x : ℕ). shifts x top) n

-- and so what 32 shifts make of a byte at its place in the register
byte_at : (k b : ℕ) → k < 4 → b < 256 → listed k b ≡ shifts 32 (b * 2 ^ (8 * k))
byte_at k b hk h =
    let up = 24 - 8 * k in
    let to : 8 * k + up ≡ 24 = omega arith in
    let all : up + 8 * suc k ≡ 32 = omega arith in
    listed_is k b hk h
    ∙ ap (shifts (8 * suc k)) (sym (shifts_top (8 * k) up b to h))
    ∙ shifts_add up (8 * suc k) (b * 2 ^ (8 * k))
    ∙ ap (λ (x : ℕ). shifts x (b * 2 ^ (8 * k))) all

-- the sum of what is listed for the lowest k bytes of a register
abbrev pub sliced : ℕ → ℕ → ℕ
sliced zero v = 0
sliced (suc k) v = bit_xor (sliced k v) (listed k (v / 2 ^ (8 * k) % 256))

-- it is what 32 shifts make of those bytes, over the number of tables
pub sliced_is : (k v : ℕ) → k ≤ 4 → sliced k v ≡ shifts 32 (v % 2 ^ (8 * k))
sliced_is zero v h =
    let none : 0 ≡ v % 2 ^ (8 * 0) = omega arith in
    sym (shifts_small 32 0 (lit< tt)) ∙ ap (shifts 32) none
sliced_is (suc k) v h =
    let hi = v / 2 ^ (8 * k) % 256 in
    let lo = v % 2 ^ (8 * k) in
    let n : 8 + 8 * k ≡ 8 * suc k = omega arith in
    ap₂ bit_xor (sliced_is k v (omega arith)) (byte_at k hi (omega arith) (mod-lt (v / 2 ^ (8 * k)) (lit< tt)))
    ∙ xor_comm (shifts 32 lo) (shifts 32 (hi * 2 ^ (8 * k)))
    ∙ sym (shifts_xor 32 (hi * 2 ^ (8 * k)) lo)
    ∙ ap (shifts 32)
    (xor_shifted hi (8 * k) lo (mod-lt v (pow_pos (8 * k)))
    ∙ sym (mod-pow-add v 8 (8 * k))
    ∙ ap (λ (x : ℕ). v % 2 ^ x) n)
