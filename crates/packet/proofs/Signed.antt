-- A byte as a signed number of eight bits, by cases of its top bit.
-- Assumes nothing.
use mathlib.Core.Path.{◌≡◌, refl, ◌∙◌}
use mathlib.Core.Bool.{Bool, true, false, cond}
use Prim.Native.Nat.{ℕ, suc, ◌-◌, ◌<◌, ◌≤◌}
use native.Mathlib.Omega.{arith}
use lib.Dec.{ltb}
use lib.IntN.{pos, negsuc, ◌-ℤ◌}
use mir.Syntax.{w8}
use mir.Val.{SFits, to_z}
use mir.ValLaws.{to_z_pos}
use Rattle.ground.proofs.Refused.{yes<, no<}
use Rattle.packet.specs.Adaptation.{signed_of}

pub low : (b : ℕ) → b < 128 → to_z w8 b ≡ signed_of b
low b h = to_z_pos w8 b h ∙ yes< b 128 (pos b) (pos b -ℤ pos 256) h refl

pub high : (b : ℕ) → 128 ≤ b → pos b -ℤ pos 256 ≡ signed_of b
high b h = no< b 128 (pos b) (pos b -ℤ pos 256) h refl

-- a byte from 128 on less 256 fits eight bits, and so any wider number
pub fits : (b : ℕ) → 128 ≤ b → b < 256 → SFits w8 (pos b -ℤ pos 256)
fits b h l = go (ltb b 256) refl
  where
    go : (t : Bool) → ltb b 256 ≡ t → SFits w8 (cond t (negsuc (256 - suc b)) (pos (b - 256)))
    go true e = record { sfits = omega arith }
    go false e = record { sfits = omega arith }
