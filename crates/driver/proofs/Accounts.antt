-- Sections begun are accounted for: the rule's counts add up, since refusal 9 has tested what was held, and how many bytes are held is read back from the marks.
-- Assumes nothing.
use mathlib.Core.Path.{◌≡◌, refl, sym, ◌∙◌, ap}
use mathlib.Core.List.{List}
use mathlib.Core.Logic.{⊎_elim}
use Prim.Native.Nat.{ℕ}
use native.Mathlib.Omega.{arith}
use lib.ListN.{length, get_or}
use lib.Seq.{get_or-set_same}
use Rattle.ground.specs.Answer.{given}
use Rattle.ground.proofs.Answer.{given_apart, given_same}
use Rattle.ground.proofs.Part.{length_part}
use Rattle.gather.specs.Rule.{State, Outcome}
use Rattle.gather.specs.Memory.{held_of, state_of}
use Rattle.gather.specs.Claims.Begun.{CountsNone}
use Rattle.gather.proofs.RuleOnMemory.{sound_says, number_again}
use Rattle.gather.proofs.AddsUp.{rule_adds, repeat_counts, without_counts}
use Rattle.state.specs.State.{area_of, area_start, free_area}
use Rattle.state.specs.declared.State as driver
use Rattle.sound.proofs.Clauses.{sound_tells, area_marks}
use Rattle.packet_call.specs.Packet.{Said, AfterPacket, pid_of, held_in, packet_from, outcome, with_marks, report, unwanted, put_back, packet_of}
use Rattle.driver.specs.Claims.{Accounted}
use Rattle.driver.proofs.Cases.{Handles, packet_ind}

-- a packet that is not wanted counts nothing, and all is held as before
unwanted_accounted : (p : List ℕ) (held : ℕ) → Accounted p unwanted held held
unwanted_accounted p held = record { adds_up = omega arith; none = λ w. (refl, refl, refl, refl) }

module _ (s : driver.State) (p store out sets : List ℕ) (eight : length s.areas ≡ 8) where
  abbrev own : ℕ
  own = area_of (pid_of p) s.areas

  abbrev result : Outcome
  result = outcome s own p store

  abbrev area : State
  area = state_of (get_or s.areas own free_area).marks store (area_start own)

  module _ (h : Handles s p store out sets) where
    -- how many bytes are held is what the marks say, before the call and after it
    before : length area.held ≡ held_in own s
    before =
        let sound = sound_says (get_or s.areas own free_area).marks (area_marks s (sound_tells s h.fine) own h.area) in
        length_part (held_in own s) store (area_start own) (omega (arith, sound.held, h.whole, h.area, eight))

    after : length result.next.held ≡ held_in own (put_back s own result store out sets).state
    after = sym (ap (λ a. held_of a.marks) (get_or-set_same s.areas own (with_marks (get_or s.areas own free_area) result) free_area h.area) ∙ number_again (length result.next.held))

    -- what is said adds up with these numbers
    reported : (held held' : ℕ) → length area.held ≡ held → length result.next.held ≡ held' → Accounted p (report result) held held'
    reported held held' b a = rw (← b, ← a) (record {
      adds_up = rule_adds area (packet_from p) h.agrees;
      none = ⊎_elim (λ r. all (repeat_counts area (packet_from p) r)) (λ n. all (without_counts area (packet_from p) n));
    })
      where
        all : CountsNone area result → (result.begun ≡ 0) × (length result.sections ≡ 0) × (result.given_up ≡ 0) × (length result.next.held ≡ length area.held)
        all c = (c.begun, ap length c.sections, c.given_up, ap length c.held)

  pub packet_accounted : (r : Said) → (packet_of s p store out sets).answer ≡ given r
      → let i = area_of (pid_of p) s.areas in
      Accounted p r (held_in i s) (held_in i (packet_of s p store out sets).state)
  packet_accounted =
      packet_ind s p store out sets (λ (a : AfterPacket). (r : Said) → a.answer ≡ given r → Accounted p r (held_in own s) (held_in own a.state))
      (λ n _ _ r e. absurd (given_apart (sym e)))
      (λ _ r e. rw (← given_same e) (unwanted_accounted p (held_in own s)))
      (λ h r e. rw (← given_same e) (reported h (held_in own s) _ (before h) (after h)))
