-- `finish` copies what is held and then the rest of the new bytes.
-- Assumes nothing.
use Prim.Native.Nat.{◌-◌}
use lib.ListN.{take}
use mathlib.Core.List.{List}
use mathlib.Core.Path.{◌∙◌, ap}
use Prim.Native.Nat.{ℕ}
use Rattle.ground.specs.Write.{put}
use Rattle.gather.proofs.OnMemory.{finish_put}
use Rattle.gather.proofs.memory.finish.Goals as goal

pub returns : goal.returns
returns c =
    let a = c.args in
    let first = c.min-first.result in
    c.write-2.ensures
    ∙ ap (λ (l : List ℕ). put l first (take (a.bytes - first) a.new.now)) c.write.ensures
    ∙ finish_put a.out.now a.held.now a.new.now a.bytes first c.requires.0 c.requires.1 c.min-first.ensures
