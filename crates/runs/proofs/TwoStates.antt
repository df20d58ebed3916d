-- A packet call in two states that pass the same tests: both refuse it with one number, both do not want it, or both take it.
-- Assumes nothing.
use mathlib.Core.Path.{◌≡◌, refl, ap₂, subst}
use mathlib.Core.Bool.{Bool, true, false, cond, not, ◌||◌, false≢true}
use mathlib.Core.List.{List, [], ◌∷◌}
use Prim.Native.Nat.{ℕ, ◌<◌}
use borrow.Author.Tests.{leb-false}
use lib.Dec.{leb, ltb, eqb}
use lib.ListN.{length}
use Rattle.ground.specs.Answer.{refused, given}
use Rattle.ground.specs.Refusal.{Row, judge, ◌when◌}
use Rattle.ground.proofs.Judged.{judge_both}
use Rattle.packet.specs.Packet.{packet_refusals, contents}
use Rattle.packet.specs.Payload.{payload_of}
use Rattle.gather.specs.Rule.{leaves_none}
use Rattle.gather.specs.Memory.{contradicts_of}
use Rattle.state.specs.State.{area_of, area_start}
use Rattle.state.specs.declared.State.{State}
use Rattle.sound.specs.Sound.{sound}
use Rattle.packet_call.specs.Packet.{unwanted, AfterPacket, as_given, pid_of, held_in, first_refusals, last_refusals, outcome, put_back, after_tests, after_reading, packet_of}
use Rattle.driver.proofs.Cases.{Handles, packet_ind}
use Rattle.runs.specs.Run.{Buffers, World, Event, packet_event}
use Rattle.runs.specs.History.{is_accepted}

-- what a packet call tells, and the world that it leaves
abbrev pub told : List ℕ → Buffers → AfterPacket → Event
told p lent o = packet_event p lent o.answer (record { out = o.out; sets = o.sets })

abbrev pub left : AfterPacket → World
left o = record { state = o.state; store = o.store }

-- an accepted packet was taken
abbrev is_taken : List ℕ → AfterPacket → Bool
is_taken p o = is_accepted (told p (record { out = o.out; sets = o.sets }) o)

taken_handles : (s : State) (p store out sets : List ℕ) → is_taken p (packet_of s p store out sets) ≡ true → Handles s p store out sets
taken_handles s p store out sets =
    packet_ind s p store out sets (λ o. is_taken p o ≡ true → Handles s p store out sets) (λ n a b e. absurd (false≢true e)) (λ b e. absurd (false≢true e)) (λ h e. h)

module _ (s s₂ : State) (p store store₂ out sets : List ℕ) where
  abbrev own : ℕ
  own = area_of (pid_of p) s.areas

  abbrev own₂ : ℕ
  own₂ = area_of (pid_of p) s₂.areas

  data Both : AfterPacket → AfterPacket → Type 0 where
    refuse : (n : ℕ) → Both (as_given s store out sets (refused n)) (as_given s₂ store₂ out sets (refused n))
    leave : Both (as_given s store out sets (given unwanted)) (as_given s₂ store₂ out sets (given unwanted))
    take : Both (put_back s (area_of (pid_of p) s.areas) (outcome s (area_of (pid_of p) s.areas) p store) store out sets)
        (put_back s₂ (area_of (pid_of p) s₂.areas) (outcome s₂ (area_of (pid_of p) s₂.areas) p store₂) store₂ out sets)

  both_ind : (R : AfterPacket → AfterPacket → Type 0) → ((n : ℕ) → R (as_given s store out sets (refused n)) (as_given s₂ store₂ out sets (refused n)))
      → R (as_given s store out sets (given unwanted)) (as_given s₂ store₂ out sets (given unwanted))
      → R (put_back s (area_of (pid_of p) s.areas) (outcome s (area_of (pid_of p) s.areas) p store) store out sets) (put_back s₂ (area_of (pid_of p) s₂.areas) (outcome s₂ (area_of (pid_of p) s₂.areas) p store₂) store₂ out sets)
      → {o o₂ : AfterPacket} → Both o o₂ → R o o₂
  both_ind R refuses leaves takes (refuse n) = refuses n
  both_ind R refuses leaves takes leave = leaves
  both_ind R refuses leaves takes take = takes

  module _ (fine : sound s ≡ sound s₂) (size : length store ≡ length store₂) (many : length s.areas ≡ length s₂.areas) (same : area_of (pid_of p) s.areas ≡ area_of (pid_of p) s₂.areas)
      (held : area_of (pid_of p) s.areas < length s.areas
      → contradicts_of (held_in (area_of (pid_of p) s.areas) s) store (area_start (area_of (pid_of p) s.areas)) ≡ contradicts_of (held_in (area_of (pid_of p) s₂.areas) s₂) store₂ (area_start (area_of (pid_of p) s₂.areas))) where
    abbrev refusal : ℕ → AfterPacket
    refusal n = as_given s store out sets (refused n)

    abbrev refusal₂ : ℕ → AfterPacket
    refusal₂ n = as_given s₂ store₂ out sets (refused n)

    reading : Both (after_reading s own p store out sets) (after_reading s₂ own₂ p store₂ out sets)
    reading =
        subst (λ (b : Bool). Both (after_reading s own p store out sets) (cond b (as_given s₂ store₂ out sets (given unwanted)) (after_tests s₂ own₂ p store₂ out sets))) (ap₂ leb many same)
        (go (leb (length s.areas) own) refl)
      where
        go : (b : Bool) → leb (length s.areas) own ≡ b
            → Both (cond b (as_given s store out sets (given unwanted)) (after_tests s own p store out sets)) (cond b (as_given s₂ store₂ out sets (given unwanted)) (after_tests s₂ own₂ p store₂ out sets))
        go true e = leave
        go false e =
            subst (λ (b : Bool).
            Both (after_tests s own p store out sets)
            (judge refusal₂ ((9 when b) ∷ (10 when not (eqb (contents p).scrambling 0)) ∷ (11 when leaves_none (contents p).unit_start (payload_of p)) ∷ [])
            (put_back s₂ own₂ (outcome s₂ own₂ p store₂) store₂ out sets)))
            (held (leb-false (length s.areas) own e))
            (judge_both Both refusal refusal₂ refuse (last_refusals s own p store) _ _ take)

    both : Both (packet_of s p store out sets) (packet_of s₂ p store₂ out sets)
    unfolding packet_of
    both =
        subst (λ (rows : List Row). Both (judge refusal (first_refusals s p store out sets) (after_reading s own p store out sets)) (judge refusal₂ rows (after_reading s₂ own₂ p store₂ out sets)))
        (ap₂ (λ (b : Bool) (n : ℕ). (1 when not b) ∷ (3 when (not (eqb n 32768) || ltb (length out) 4278 || ltb (length sets) 61)) ∷ packet_refusals p) fine size)
        (judge_both Both refusal refusal₂ refuse (first_refusals s p store out sets) _ _ reading)

    -- what holds of both ways holds of the call
    pub packet_two : (R : AfterPacket → AfterPacket → Type 0) → ((n : ℕ) → R (as_given s store out sets (refused n)) (as_given s₂ store₂ out sets (refused n)))
        → R (as_given s store out sets (given unwanted)) (as_given s₂ store₂ out sets (given unwanted))
        → (Handles s p store out sets → Handles s₂ p store₂ out sets
        → R (put_back s (area_of (pid_of p) s.areas) (outcome s (area_of (pid_of p) s.areas) p store) store out sets) (put_back s₂ (area_of (pid_of p) s₂.areas) (outcome s₂ (area_of (pid_of p) s₂.areas) p store₂) store₂ out sets))
        → R (packet_of s p store out sets) (packet_of s₂ p store₂ out sets)
    packet_two R refuses leaves takes =
        both_ind (λ o o₂. (is_taken p o ≡ true → Handles s p store out sets) → (is_taken p o₂ ≡ true → Handles s₂ p store₂ out sets) → R o o₂)
        (λ n a b. refuses n) (λ a b. leaves) (λ a b. takes (a refl) (b refl)) both (taken_handles s p store out sets) (taken_handles s₂ p store₂ out sets)
