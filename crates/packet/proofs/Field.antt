-- The adaptation field by its three forms, none, one without a flags byte and one with it, each of which decides the tests on control and length; and what a right length says of where the field ends.
-- Assumes nothing.
use mathlib.Core.Path.{◌≡◌, refl, ap}
use mathlib.Core.Bool.{false, not}
use mathlib.Core.List.{List}
use Prim.Native.Nat.{ℕ, zero, suc, ◌+◌, ◌-◌, ◌<◌, ◌≤◌}
use native.Mathlib.Omega.{arith}
use borrow.Author.Tests.{le-leb, lt-leb, ne_eqb, ltb-false, eqb-true, not-false}
use lib.Dec.{eqb, lit≤}
use lib.ListN.{get_or}
use Rattle.ground.specs.Answer.{given}
use Rattle.std.specs.declared.option.Option.{Option}
use Rattle.std.specs.Prelude.{Some, None}
use Rattle.ground.specs.Perhaps.{perhaps}
use Rattle.ground.proofs.Test.{neither}
use Rattle.packet.specs.Adaptation.{has_field, is_wrong_length, length_of}
use Rattle.packet.specs.Payload.{start_after}
use Rattle.packet.specs.Steps.{bare_field, read_flagged, read_field}

-- ---- the three forms
pub field_none : (control : ℕ) (s : List ℕ) → control < 2 → read_field control s ≡ given (bare_field None)
field_none control s h = rw (lt-leb 2 control h, ne_eqb control 2 (λ e. omega arith), ne_eqb control 3 (λ e. omega arith))

module _ (control : ℕ) (s : List ℕ) (has : 2 ≤ control) (right : is_wrong_length control (length_of s) ≡ false) where
  pub field_bare : length_of s ≡ 0 → read_field control s ≡ given (bare_field (Some 0))
  field_bare e = rw (right, le-leb 2 control has, e)

  pub field_flagged : (length_of s ≡ 0 → ⊥)
      → read_field control s ≡ read_flagged s (Some (length_of s)) (get_or s 5 0)
  field_flagged e = rw (right, le-leb 2 control has, ne_eqb (length_of s) 0 e)

-- ---- what a right length says, by the control
-- the field's length, where there is a field
abbrev pub size_by : ℕ → ℕ → Option ℕ
size_by control n = perhaps (has_field control) n

-- where the payload begins, and how much there is of it
abbrev pub Shape : ℕ → ℕ → Type 0
Shape control n =
    (start_after (size_by control n) ≤ 188)
    × (control ≡ 1 → (size_by control n ≡ None) × (188 - start_after (size_by control n) ≡ 184))
    × (control ≡ 2 → (size_by control n ≡ Some 183) × (188 - start_after (size_by control n) ≡ 0))
    × (control ≡ 3 → (m : ℕ) × ((size_by control n ≡ Some m) × (m ≤ 182) × (188 - start_after (size_by control n) ≡ 183 - m)))

pub shape : (control n : ℕ) → control < 4 → is_wrong_length control n ≡ false → Shape control n
shape zero n l e = (lit≤ tt, λ h. absurd (omega arith), λ h. absurd (omega arith), λ h. absurd (omega arith))
shape (suc zero) n l e = (lit≤ tt, λ h. (refl, refl), λ h. absurd (omega arith), λ h. absurd (omega arith))
shape (suc (suc zero)) n l e =
    let full = eqb-true n 183 (not-false (eqb n 183) (neither (not (eqb n 183)) false e).0) in
    (omega arith, λ h. absurd (omega arith), λ h. (ap Some full, omega arith), λ h. absurd (omega arith))
shape (suc (suc (suc zero))) n l e =
    let low = ltb-false 182 n e in
    (omega arith, λ h. absurd (omega arith), λ h. absurd (omega arith), λ h. (n, (refl, low, omega arith)))
shape (suc (suc (suc (suc k)))) n l e = absurd (omega arith)

-- so a field ends in the packet
pub field_ends : (control n : ℕ) → 2 ≤ control → control < 4 → is_wrong_length control n ≡ false → n ≤ 183
field_ends control n has l e = let inside : 5 + n ≤ 188 = rw (le-leb 2 control has) at (shape control n l e).0 in omega arith
