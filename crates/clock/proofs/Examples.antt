-- Request 13's examples, by computation.
-- Assumes nothing.
use Rattle.std.proofs.Common.{◌≡◌, ◌+◌, ◌*◌, ◌%◌, ◌^◌, List, [], ◌∷◌, pos, ◌+ℤ◌, neg_ℤ, refl}
use Rattle.ground.specs.Answer.{given}
use Rattle.ground.specs.Walk.{total}
use Rattle.clock.specs.Range.{reference_turn}
use Rattle.clock.specs.Difference.{stamp_difference, reference_forward}
use Rattle.clock.specs.Sums.{Interval, ToldAlong, brought_back}

-- from the last reference to 1 and on to 27,000,000, in two steps and in one
pub past_turn : (reference_forward 1 2576980377599 ≡ given 2)
    × (reference_forward 27000000 1 ≡ given 26999999)
    × (reference_forward 27000000 2576980377599 ≡ given 27000001)
past_turn = (refl, refl, refl)

-- two ways that are more than a turn together
pub over_turn : (reference_forward 2000000000000 0 ≡ given 2000000000000)
    × (reference_forward 923019622400 2000000000000 ≡ given 1500000000000)
    × (reference_forward 923019622400 0 ≡ given 923019622400)
    × ((2000000000000 + 1500000000000) % reference_turn ≡ 923019622400)
over_turn = (refl, refl, refl, refl)

-- the same ways, and one more back to the first value: two turns, which the remainder does not see
abbrev pub intervals : List Interval
intervals =
    record { to = 2000000000000; way = 2000000000000 }
    ∷ record { to = 923019622400; way = 1500000000000 }
    ∷ record { to = 0; way = 1653960755200 }
    ∷ []

pub along_turns : ToldAlong reference_forward 0 intervals × (total (λ (i : Interval). i.way) intervals ≡ 2 * reference_turn) × (2 * reference_turn % reference_turn ≡ 0)
along_turns = ((refl, (refl, (refl, tt))), refl, refl)

-- to itself
pub to_itself : (reference_forward 5 5 ≡ given 0) × (stamp_difference 7 7 ≡ given (pos 0))
to_itself = (refl, refl)

-- half a turn stays, exchanged; whatever is less changes its sign
pub exchanged : (stamp_difference 4294967296 0 ≡ given (neg_ℤ (pos 4294967296)))
    × (stamp_difference 0 4294967296 ≡ given (neg_ℤ (pos 4294967296)))
    × (stamp_difference 4294967295 0 ≡ given (pos 4294967295))
    × (stamp_difference 0 4294967295 ≡ given (neg_ℤ (pos 4294967295)))
    × (stamp_difference 0 8589934591 ≡ given (pos 1))
    × (stamp_difference 8589934591 0 ≡ given (neg_ℤ (pos 1)))
exchanged = (refl, refl, refl, refl, refl, refl)

-- two differences whose sum is a turn too far, either way
pub brought_back_lem : (stamp_difference 3000000000 0 ≡ given (pos 3000000000))
    × (stamp_difference 6000000000 3000000000 ≡ given (pos 3000000000))
    × (stamp_difference 6000000000 0 ≡ given (neg_ℤ (pos 2589934592)))
    × (stamp_difference 0 6000000000 ≡ given (pos 2589934592))
    × (brought_back (2 ^ 32) (pos 3000000000 +ℤ pos 3000000000) ≡ neg_ℤ (pos 2589934592))
    × (brought_back (2 ^ 32) (neg_ℤ (pos 3000000000) +ℤ neg_ℤ (pos 3000000000)) ≡ pos 2589934592)
brought_back_lem = (refl, refl, refl, refl, refl, refl)
