-- Where areas have different PIDs only one has a PID, and an area whose PID no other has clashes with none.
-- Assumes nothing.
use mathlib.Core.Path.{◌≡◌, refl, sym, ◌∙◌}
use mathlib.Core.Bool.{Bool, true, false, ◌&&◌, false≢true}
use mathlib.Core.List.{List}
use Prim.Native.Nat.{ℕ, ◌<◌}
use native.Mathlib.Decide.{dec_lt}
use native.Mathlib.Omega.{arith}
use borrow.Author.Tests.{eqb-true, eqb-false, eq-eqb, ne_eqb}
use lib.Dec.{eqb}
use lib.ListN.{length, get_or}
use Rattle.ground.specs.Walk.{apart}
use Rattle.ground.proofs.Test.{both_true, true_both}
use Rattle.ground.proofs.Walk.{apart_at}
use Rattle.state.specs.State.{is_used, free_area, has_pid}
use Rattle.state.specs.declared.Area.{Area}
use Rattle.sound.specs.Sound.{same_pid}

-- a used area with the PID has it, and the other way round
has_used : (pid : ℕ) (a : Area) → has_pid pid a ≡ true → (is_used a ≡ true) × (a.pid.0 ≡ pid)
has_used pid a e = let p = both_true (is_used a) (eqb a.pid.0 pid) e in (p.0, eqb-true a.pid.0 pid p.1)

-- two areas with one PID clash
clash : (pid : ℕ) (a b : Area) → has_pid pid a ≡ true → has_pid pid b ≡ true → same_pid a b ≡ true
clash pid a b p q =
    let x = has_used pid a p in
    let y = has_used pid b q in
    true_both (is_used a && is_used b) (eqb a.pid.0 b.pid.0) (true_both (is_used a) (is_used b) x.0 y.0) (eq-eqb a.pid.0 b.pid.0 (x.1 ∙ sym y.1))

-- where areas are apart only one has a PID
pub only_one : (pid : ℕ) (areas : List Area) → apart same_pid areas ≡ true → (i j : ℕ) → i < length areas → j < length areas
    → has_pid pid (get_or areas i free_area) ≡ true → has_pid pid (get_or areas j free_area) ≡ true → i ≡ j
only_one pid areas e i j hi hj p q = go (dec_lt i j) (dec_lt j i)
  where
    go : Dec (i < j) → Dec (j < i) → i ≡ j
    go (yes l) d = absurd (false≢true (sym (apart_at same_pid areas free_area e i j l hj) ∙ clash pid (get_or areas i free_area) (get_or areas j free_area) p q))
    go (no m) (yes l) = absurd (false≢true (sym (apart_at same_pid areas free_area e j i l hi) ∙ clash pid (get_or areas j free_area) (get_or areas i free_area) q p))
    go (no m) (no n) = omega arith

-- an area whose PID no other has clashes with none
pub lonely : (x b : Area) → has_pid x.pid.0 b ≡ false → (same_pid x b ≡ false) × (same_pid b x ≡ false)
lonely x b e = go (is_used x) (is_used b) e
  where
    go : (u w : Bool) → (w && eqb b.pid.0 x.pid.0) ≡ false
        → ((u && w && eqb x.pid.0 b.pid.0) ≡ false) × ((w && u && eqb b.pid.0 x.pid.0) ≡ false)
    go false false e = (refl, refl)
    go true false e = (refl, refl)
    go false true e = (refl, refl)
    go true true e = (ne_eqb x.pid.0 b.pid.0 (λ q. eqb-false b.pid.0 x.pid.0 e (sym q)), e)
