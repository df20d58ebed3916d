-- The walk from byte 12 on is the last of a PMT's refusals, or what is to be found.
-- Assumes nothing.
use mathlib.Core.Path.{◌≡◌, sym, ◌∙◌, ap}
use mathlib.Core.Bool.{◌&&◌}
use mathlib.Core.List.{List, ◌++◌}
use Prim.Native.Nat.{ℕ, ◌+◌}
use Rattle.ground.specs.Answer.{refused, given}
use Rattle.ground.specs.Refusal.{judge}
use Rattle.ground.proofs.Judged.{goes_on}
use Rattle.ground.proofs.Test.{turned_over}
use Rattle.psi.specs.Refusals.{shared, verdict_of}
use Rattle.loops.specs.Body.{body_of, info_length, program_of, streams_of, pmt_own, pmt_loops}
use Rattle.loops.specs.Walk.{Found, placed}
use Rattle.loops.specs.Steps.{met, leaves, met_in, leaves_in, walk_descriptors, body_walked_of, run_of}
use Rattle.loops.proofs.Seek.{met_found}

pub body_walk : (asked item : ℕ) (s places : List ℕ) → walk_descriptors asked item (body_of s) 12 (12 + info_length s) 0 (met 0 0) places ≡ body_walked_of asked item s places
unfolding walk_descriptors program_of streams_of
body_walk asked item s places =
    turned_over ((program_of s).fills && (streams_of s).fills) (given (leaves (met_in asked item s) (placed 1 places (streams_of s).items))) (refused 26)
    ∙ ap (λ (f : Found). judge refused (pmt_loops s) (given (leaves f (placed 1 places (streams_of s).items)))) (met_found s asked item)

-- and so what judges the whole section, where what comes before the loops passes
pub run_on : (asked item : ℕ) (s places : List ℕ) → verdict_of (shared 2 13 s ++ pmt_own s) ≡ given tt
    → walk_descriptors asked item (body_of s) 12 (12 + info_length s) 0 (met 0 0) places ≡ run_of asked item s places
run_on asked item s places e =
    body_walk asked item s places ∙ sym (goes_on tt (leaves_in asked item s places) (shared 2 13 s ++ pmt_own s) tt e (pmt_loops s))
