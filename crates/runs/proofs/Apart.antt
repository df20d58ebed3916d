-- What is held in one area leaves the bytes of every other as they were.
-- Assumes nothing.
use mathlib.Core.Path.{◌≡◌}
use mathlib.Core.List.{List}
use mathlib.Core.Logic.{◌⊎◌, inl, inr}
use Prim.Native.Nat.{ℕ, ◌+◌, ◌≤◌, ◌<◌}
use native.Mathlib.Decide.{dec_lt}
use native.Mathlib.Omega.{arith}
use lib.ListN.{length}
use Rattle.ground.specs.Write.{put}
use Rattle.ground.proofs.Frame.{part_apart}
use Rattle.gather.specs.Memory.{stretch}
use Rattle.state.specs.State.{area_start}

pub other_area : (store : List ℕ) (i : ℕ) (held : List ℕ) → length held ≤ 4095 → area_start i + length held ≤ length store
    → (j n : ℕ) → n ≤ 4095 → (j ≡ i → ⊥) → stretch n (put store (area_start i) held) (area_start j) ≡ stretch n store (area_start j)
other_area store i held fits inside j n few other = part_apart store (area_start i) held inside 0 (area_start j) n (go (dec_lt j i))
  where
    go : Dec (j < i) → (area_start j + n ≤ area_start i) ⊎ (area_start i + length held ≤ area_start j)
    go (yes b) = inl (omega arith)
    go (no m) = inr (omega arith)
