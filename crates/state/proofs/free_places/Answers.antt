-- The bit of each place says whether it is free.
-- Assumes nothing.
use mathlib.Core.Path.{◌≡◌}
use lib.ListN.{length}
use borrow.Author.Rules.{rules}
use Rattle.state.specs.State.{is_free, free_filter}
use Rattle.state.proofs.Places.{set_told}
use Rattle.state.proofs.free_places.Goals as goal

pub returns : goal.returns
returns c =
    let filters = c.args.filters in
    let long : length filters ≡ 32 = search rules in
    set_told is_free filters free_filter long c.passing.ensures (λ place b inside says. search rules)
