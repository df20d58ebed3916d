-- A number below 2^63 less a half turn fits a signed number of 64 bits.
-- Assumes nothing.
use Rattle.std.proofs.Common.{◌≡◌, ℕ, suc, ◌-◌, ◌%◌, ◌^◌, ◌<◌, ◌≤◌, Bool, true, false, cond, ltb, pos, negsuc, ◌-ℤ◌, refl, mod-lt, arith, w64, SFits, to_z}
use mir.ValLaws.{to_z_pos}

pub less_half_fits : (n : ℕ) → n < 2 ^ 63 → SFits w64 (pos n -ℤ pos 4294967296)
less_half_fits n h = go (ltb n 4294967296) refl
  where
    go : (b : Bool) → ltb n 4294967296 ≡ b → SFits w64 (cond b (negsuc (4294967296 - suc n)) (pos (n - 4294967296)))
    go true e = record { sfits = omega arith }
    go false e = record { sfits = omega arith }

-- the same of any remainder, as the code has it
pub remainder_fits : (w m : ℕ) → 0 < m → m ≤ 2 ^ 63 → SFits w64 (to_z w64 (w % m) -ℤ pos 4294967296)
remainder_fits w m p h =
    let below = mod-lt w p in
    let fits : w % m < 2 ^ 63 = omega arith in
    rw (to_z_pos w64 (w % m) fits) (less_half_fits (w % m) fits)
