-- The walk over the records, by what remains: a turn takes one record off.
-- Assumes nothing.
use mathlib.Core.Path.{◌≡◌}
use mathlib.Core.List.{List}
use Prim.Native.Nat.{ℕ, suc, ◌<◌}
use lib.ListN.{length, drop, get_or}
use lib.Seq.{drop-cons, drop-length}
use Rattle.buffer.specs.Model.{step_of, walked}
use Rattle.buffer.specs.declared.Record.{Record}
use Rattle.buffer.specs.declared.model.Judging.{Judging}

-- what stands past the list's end
abbrev pub no_record : Record
no_record = record { tick = 0; pid = record { 0 = 0 } }

-- a turn
pub turned : (ys : List Record) (i : ℕ) (x : Judging) → i < length ys
    → walked (step_of x i (get_or ys i no_record).tick (get_or ys i no_record).pid.0) (suc i) (drop (suc i) ys) ≡ walked x i (drop i ys)
unfolding walked
turned ys i x l = rw (drop-cons ys i no_record)

-- the end
pub ended : (ys : List Record) (i : ℕ) (x : Judging) → i ≡ length ys → walked x i (drop i ys) ≡ x
unfolding walked
ended ys i x e = rw (e, drop-length ys)
