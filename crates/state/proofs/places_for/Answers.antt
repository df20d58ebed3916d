-- The bit of each place says whether the section is for the filter there.
-- Assumes nothing.
use mathlib.Core.Path.{◌≡◌, ◌∙◌}
use native.Mathlib.Omega.{arith}
use lib.ListN.{length, get_or}
use Rattle.state.specs.State.{free_filter}
use borrow.Author.Rules.{rules}
use Rattle.state.specs.Choice.{placed, free_place, is_for}
use Rattle.state.proofs.Chosen.{placed_length, for_placed}
use Rattle.state.proofs.Places.{set_told}
use Rattle.state.proofs.places_for.Goals as goal

pub returns : goal.returns
returns c =
    let a = c.args in
    let long : length a.filters ≡ 32 = search rules in
    set_told (is_for a.area a.table) (placed a.filters a.choices) free_place (placed_length a.filters a.choices ∙ long) c.passing.ensures
    (λ place b inside says. let told : b ≡ is_for a.area a.table (record { filter = get_or a.filters place free_filter; choice = get_or a.choices place 0 }) = search rules in
    told ∙ for_placed a.area a.table a.filters a.choices place (omega (arith, inside, long)))
