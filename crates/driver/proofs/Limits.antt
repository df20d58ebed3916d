-- What is said of a packet stays within the rule's limits, since a packet that is not refused has at most 184 bytes of payload.
-- Assumes nothing.
use mathlib.Core.Path.{◌≡◌, sym}
use mathlib.Core.List.{List}
use Prim.Native.Nat.{ℕ}
use native.Mathlib.Omega.{arith}
use lib.ListN.{get_or}
use Rattle.ground.specs.Answer.{given}
use Rattle.ground.proofs.Answer.{given_apart, given_same}
use Rattle.gather.specs.Memory.{state_of}
use Rattle.gather.proofs.RuleKeeps.{rule_keeps}
use Rattle.gather.proofs.AddsUp.{begun_most}
use Rattle.state.specs.State.{area_of, area_start, free_area}
use Rattle.state.specs.declared.State.{State}
use Rattle.packet_call.specs.Packet.{Said, AfterPacket, pid_of, packet_from, outcome, report, unwanted, packet_of}
use Rattle.driver.specs.Claims.{Limits}
use Rattle.driver.proofs.Cases.{Handles, packet_ind}

nothing : Limits unwanted
nothing = record { sections = omega arith; bytes = omega arith; given_up = omega arith; begun = omega arith }

module _ (s : State) (p store out sets : List ℕ) where
  reported : Handles s p store out sets → Limits (report (outcome s (area_of (pid_of p) s.areas) p store))
  reported h =
      let i = area_of (pid_of p) s.areas in
      let held = state_of (get_or s.areas i free_area).marks store (area_start i) in
      let kept = rule_keeps held (packet_from p) h.agrees in
      record { sections = kept.count h.short; bytes = kept.bytes h.short; given_up = kept.two; begun = begun_most held (packet_from p) h.short }

  pub packet_limits : (r : Said) → (packet_of s p store out sets).answer ≡ given r → Limits r
  packet_limits =
      packet_ind s p store out sets (λ (a : AfterPacket). (r : Said) → a.answer ≡ given r → Limits r)
      (λ n _ _ r e. absurd (given_apart (sym e)))
      (λ _ r e. rw (← given_same e) nothing)
      (λ h r e. rw (← given_same e) (reported h))
