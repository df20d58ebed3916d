-- The PID's own area where one is found, and else what the search for a free one finds.
-- Assumes nothing.
use mathlib.Core.Path.{◌≡◌, refl, sym, ◌∙◌, ap}
use mathlib.Core.Bool.{Bool, true, false, cond}
use mathlib.Core.List.{List}
use Prim.Native.Nat.{ℕ}
use borrow.Author.Tests.{lt-ltb, le-ltb}
use lib.Dec.{ltb}
use lib.ListN.{length}
use Rattle.std.specs.Prelude.{Option, Some, None, position}
use Rattle.std.specs.Option.{option_or}
use Rattle.state.specs.State.{area_of, free_area_of, has_pid, has_no_users}
use Rattle.state.specs.declared.Area.{Area}
use Rattle.state.proofs.Found.{index_some, index_none, found_index}
use Rattle.open_call.specs.Steps.{area_found}
use Rattle.open_call.proofs.area_for.Goals as goal

-- what the two searches find together, by whether the PID has an area
either : (pid : ℕ) (areas : List Area) (b : Bool) → ltb (area_of pid areas) (length areas) ≡ b
    → area_found pid areas ≡ (let i = cond b (area_of pid areas) (free_area_of areas) in cond (ltb i (length areas)) (Some i) None)
either pid areas b e = ap (λ (b : Bool). let i = cond b (area_of pid areas) (free_area_of areas) in cond (ltb i (length areas)) (Some i) None) e

found : (pid : ℕ) (areas : List Area) (own free : Option ℕ) → own ≡ position (has_pid pid) areas → free ≡ position has_no_users areas → option_or own free ≡ area_found pid areas
found pid areas (Some i) free o f =
    let at = index_some (has_pid pid) areas o in
    let has = lt-ltb _ _ at.1 in
    ap Some at.0 ∙ sym (ap (λ (b : Bool). cond b (Some (area_of pid areas)) None) has) ∙ sym (either pid areas true has)
found pid areas None free o f =
    let lacks = le-ltb _ _ (index_none (has_pid pid) areas o) in
    f ∙ found_index has_no_users areas refl ∙ sym (either pid areas false lacks)

pub returns : goal.returns
returns c = c.or.ensures ∙ found c.args.pid.0 c.args.areas c.area_of.result c.free_area.result c.area_of.ensures c.free_area.ensures
