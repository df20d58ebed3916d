-- As many sections as some bytes begin are finished, given up or held: the count goes from section to section as the walk does.
-- Assumes nothing.
use mathlib.Core.Path.{◌≡◌, refl, sym, ◌∙◌, ap}
use mathlib.Core.List.{List, []}
use Prim.Native.Nat.{ℕ, ◌+◌, ◌*◌, ◌≤◌, ◌<◌}
use native.Mathlib.Omega.{arith}
use lib.ListN.{length, drop, length-drop}
use Rattle.ground.specs.Items.{onward}
use Rattle.ground.proofs.Items.{items_ind}
use Rattle.gather.specs.declared.kind.Kind.{Kind}
use Rattle.gather.specs.declared.kind.Kind.TheVariants.{Nothing, Part, Overlong, Whole}
use Rattle.gather.specs.Kind.{classify}
use Rattle.gather.specs.Rule.{Yield, unfinished, walk, first_begun, begun_in}
use Rattle.gather.proofs.Classes.{kind_empty, whole_fits, part_fits, part_some, overlong_fits}
use Rattle.gather.proofs.Walk.{walk_ind, walk_kind}

-- how many sections something gives: finished, given up or held
abbrev pub sections_in : Yield → ℕ
sections_in y = length y.sections + y.given_up + unfinished y.held

pub begun_is : (s : List ℕ) → begun_in s ≡ sections_in (walk s)
unfolding begun_in
begun_is s =
    items_ind ◌+◌ (λ at rest. first_begun (classify rest)) 0 (λ at s begun. begun ≡ sections_in (walk s)) (λ at. sym (ap sections_in (walk_kind [] Nothing kind_empty)))
    (λ at s rest h later. turn s rest (classify s) refl later) 0 s
  where
    turn : (s : List ℕ) (rest : ℕ → ℕ) (k : Kind) → classify s ≡ k → ((n : ℕ) → 0 < n → rest n ≡ sections_in (walk (drop n s)))
        → onward ◌+◌ (first_begun k) rest ≡ sections_in (walk s)
    turn s rest Nothing e later = rw (walk_kind s Nothing e)
    turn s rest Part e later = rw (walk_kind s Part e, part_some s e)
    turn s rest Overlong e later = rw (walk_kind s Overlong e)
    turn s rest (Whole n) e later = let w = whole_fits s n e in rw (walk_kind s (Whole n) e, later n (omega arith)) (omega arith)

-- ---- by the kind of what stands first
module _ (s : List ℕ) where
  pub begun_nothing : classify s ≡ Nothing → begun_in s ≡ 0
  begun_nothing e = begun_is s ∙ ap sections_in (walk_kind s Nothing e)

  pub begun_part : classify s ≡ Part → begun_in s ≡ 1
  begun_part e = begun_is s ∙ rw (walk_kind s Part e, part_some s e)

  pub begun_overlong : classify s ≡ Overlong → begun_in s ≡ 1
  begun_overlong e = begun_is s ∙ ap sections_in (walk_kind s Overlong e)

  pub begun_whole : (n : ℕ) → classify s ≡ Whole n → begun_in s ≡ 1 + begun_in (drop n s)
  begun_whole n e = begun_is s ∙ ap sections_in (walk_kind s (Whole n) e) ∙ rw (begun_is (drop n s)) (omega arith)

-- a section begins three bytes behind the one before it at least
pub begun_few : (s : List ℕ) → 3 * begun_in s ≤ length s + 2
begun_few s = rw (begun_is s) (walk_ind (λ s y. 3 * sections_in y ≤ length s + 2) (record {
  at_nothing = λ s e. omega arith;
  at_part = λ s e. let some = (part_fits s e).0 in rw (part_some s e) (omega arith);
  at_overlong = λ s e. let three = overlong_fits s e in omega arith;
  at_whole = λ s n y e f. let w = whole_fits s n e in let g = rw length-drop at f in omega arith;
}) s)
