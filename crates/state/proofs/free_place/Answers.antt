-- The zeros below the lowest free place are as many as the places that a search goes over in vain.
-- Assumes nothing.
use mathlib.Core.Path.{◌≡◌, sym, ◌∙◌, ap, ap₂}
use mathlib.Core.Bool.{cond}
use Prim.Native.Nat.{ℕ}
use Rattle.std.specs.Prelude.{Some, None}
use lib.Count.{count_trailing_zeros}
use lib.Dec.{ltb}
use lib.ListN.{length}
use borrow.Author.Rules.{rules}
use Rattle.ground.specs.Walk.{find}
use Rattle.ground.proofs.Set.{trailing_find}
use Rattle.state.specs.State.{is_free}
use Rattle.state.proofs.Found.{found_index}
use Rattle.state.proofs.free_place.Goals as goal

pub returns : goal.returns
returns c =
    let filters = c.args.filters in
    let long : length filters ≡ 32 = search rules in
    let zeros : count_trailing_zeros 32 c.free_places.result ≡ find is_free filters = ap₂ count_trailing_zeros (sym long) c.free_places.ensures ∙ trailing_find is_free filters in
    let n = count_trailing_zeros 32 c.free_places.result in
    let told : c.filter.result ≡ cond (ltb n 32) (Some n) None = search rules in
    told ∙ ap (λ (k : ℕ). cond (ltb k 32) (Some k) None) zeros ∙ sym (found_index is_free filters long)
