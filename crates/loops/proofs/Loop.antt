-- The laws of descriptors by places of the body, one for each kind of start that a loop's bytes can have.
-- Assumes nothing.
use mathlib.Core.Path.{◌≡◌, sym, ◌∙◌, ap, ap₂}
use mathlib.Core.List.{List, ◌∷◌, ◌++◌}
use Prim.Native.Nat.{ℕ, ◌+◌, ◌-◌, ◌≤◌, ◌<◌}
use native.Mathlib.Omega.{arith}
use lib.ListN.{length, get_or, take, drop, take-append-drop}
use lib.Seq.{slice, slice_empty, length-slice, length-take-le}
use Rattle.ground.proofs.Part.{drop_slice, slice_one, slice_two}
use Rattle.psi.specs.Loop.{filled, unfilled, onto}
use Rattle.loops.specs.Loop.{Descriptor, descriptors_of}
use Rattle.loops.specs.Claims.{laid_out}
use Rattle.loops.proofs.Unrolls as unrolls

module _ (b : List ℕ) (at stop : ℕ) (k : stop ≤ length b) where
  pub no_descriptors : at ≡ stop → descriptors_of at (slice at stop b) ≡ filled
  no_descriptors e = rw (e, slice_empty stop b) (unrolls.no_descriptors stop)

  pub lone_byte : at + 1 ≡ stop → descriptors_of at (slice at stop b) ≡ unfilled
  lone_byte e = rw (← e, slice_one at b 0 (omega arith)) (unrolls.descriptor_cut at (get_or b at 0))

  -- a tag and a length are there
  module _ (h : at + 2 ≤ stop) where
    abbrev tag : ℕ
    tag = get_or b at 0

    abbrev n : ℕ
    n = get_or b (at + 1) 0

    abbrev rest : List ℕ
    rest = slice (at + 2) stop b

    left : length rest ≡ stop - (at + 2)
    left = length-slice (at + 2) stop b k

    pub overrun : stop - (at + 2) < n → descriptors_of at (slice at stop b) ≡ unfilled
    overrun l = ap (descriptors_of at) (slice_two at stop b 0 h k) ∙ unrolls.descriptor_overruns at tag n rest (rw left l)

    pub descriptor : n ≤ stop - (at + 2)
        → descriptors_of at (slice at stop b) ≡ onto (record { at = at; tag = tag; bytes = take n rest }) (descriptors_of (at + 2 + n) (slice (at + 2 + n) stop b))
    descriptor l =
        let d : Descriptor = record { at = at; tag = tag; bytes = take n rest } in
        let long : length (take n rest) ≡ n = length-take-le n rest (rw left l) in
        let place : at + (2 + length (take n rest)) ≡ at + 2 + n = omega (arith, long) in
        let laid : slice at stop b ≡ laid_out d ++ drop n rest =
        slice_two at stop b 0 h k ∙ ap₂ (λ (m : ℕ) (r : List ℕ). tag ∷ m ∷ r) (sym long) (sym (take-append-drop n rest)) in
        ap (descriptors_of at) laid
        ∙ unrolls.descriptor_follows d (drop n rest)
        ∙ ap₂ (λ (m : ℕ) (r : List ℕ). onto d (descriptors_of m r)) place (drop_slice n (at + 2) stop b)
