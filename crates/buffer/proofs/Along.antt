-- What holds of each of some packets and those before it.
-- Assumes nothing.
use mathlib.Core.List.{List, [], ◌∷◌, ◌++◌, append-nil}
use lib.Seq.{append_snoc}
use Rattle.buffer.specs.Verdict.{Arrival}
use Rattle.buffer.specs.Ticks.{up_to, Along}

-- one packet more of which P holds
pub along_more : (P : List Arrival → Arrival → Type 0) (earlier packets : List Arrival) (a : Arrival) → Along P earlier packets → P (earlier ++ packets) a
    → Along P earlier (packets ++ a ∷ [])
along_more P earlier [] a s p = (rw append-nil at p, tt)
along_more P earlier (x ∷ packets) a s p = (s.0, along_more P (up_to earlier x) packets a s.1 (rw append_snoc p))

-- P holds of a packet among them
pub along_at : (P : List Arrival → Arrival → Type 0) (earlier front : List Arrival) (a : Arrival) (back : List Arrival) → Along P earlier (front ++ a ∷ back)
    → P (earlier ++ front) a
along_at P earlier [] a back s = rw append-nil s.0
along_at P earlier (x ∷ front) a back s = rw append_snoc at (along_at P (up_to earlier x) front a back s.1)
