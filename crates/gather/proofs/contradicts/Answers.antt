-- `contradicts` takes the kind of the held bytes, cut at the end of the store.
-- Assumes nothing.
use mathlib.Core.Path.{◌≡◌, ◌∙◌, ap}
use Prim.Native.Nat.{ℕ, ◌+◌, ◌-◌}
use lib.ListN.{take, drop}
use native.Mathlib.Omega.{arith}
use Rattle.gather.specs.Kind.{classify}
use Rattle.gather.proofs.RuleOnMemory.{contradicts_is}
use Rattle.gather.proofs.contradicts.Goals as goal

pub returns : goal.returns
returns c =
    let a = c.args in
    let from = c.min-from.result in
    let n = c.min-n.result in
    let count : from + n - from ≡ n = omega arith in
    contradicts_is a.held a.store.now a.base from n c.kind_at.result c.is_part.result c.min-from.ensures c.min-n.ensures
    (c.kind_at.ensures ∙ ap (λ (k : ℕ). classify (take k (drop from a.store.now))) count) c.is_part.ensures
