-- Every call keeps the state sound, and a packet call changes at most its own PID's area: a refusal changes nothing, and each accepted call touches one area.
-- Assumes nothing.
use mathlib.Core.Path.{◌≡◌, refl, ◌∙◌, ap}
use mathlib.Core.Bool.{Bool, true, cond, ◌&&◌}
use mathlib.Core.List.{List}
use mathlib.Core.Logic.{◌⊎◌, inl, inr}
use Prim.Native.Nat.{ℕ, ◌+◌, ◌≤◌}
use native.Mathlib.Omega.{arith}
use lib.Dec.{leb, eqb, ltb}
use lib.ListN.{length, get_or, set, length-set}
use lib.Seq.{get_or-set_other}
use Rattle.ground.specs.Answer.{Answer, refused, given}
use Rattle.ground.proofs.Test.{true_both}
use Rattle.ground.proofs.Walk.{all_at, all_of, all_set, apart_set, find_passes}
use Rattle.ground.proofs.Write.{length-put}
use Rattle.ground.proofs.Frame.{unseen, part_apart}
use Rattle.packet.specs.Packet.{contents}
use Rattle.packet.specs.Payload.{payload_of}
use Rattle.gather.specs.Rule.{Outcome}
use Rattle.gather.specs.Memory.{sound_marks, state_of}
use Rattle.gather.proofs.RuleKeeps.{rule_keeps}
use Rattle.gather.proofs.Stored.{house, stays_sound}
use Rattle.state.specs.State.{fresh, is_used, is_open, is_free, has_pid, area_of, area_start, free_place_of, place_of, free_area, free_filter}
use Rattle.state.specs.Choice.{sound_choice, code_of}
use Rattle.state.specs.declared.Area.{Area}
use Rattle.state.specs.declared.Choice.{Choice}
use Rattle.state.specs.declared.State.{State}
use Rattle.state.proofs.Chosen.{choice_back}
use Rattle.state.proofs.Found.{found_area, found_place}
use Rattle.sound.specs.Sound.{sound, sound_area, sound_filter, is_zero_area, same_pid}
use Rattle.sound.proofs.Pass.{counted_all}
use Rattle.sound.proofs.Clauses.{Clauses, sound_tells, sound_says, users_are, used_sound}
use Rattle.sound.proofs.Pids.{lonely}
use Rattle.open_call.specs.Open.{area_for, opened, open_of}
use Rattle.open_call.proofs.OpenStaysSound as opening
use Rattle.close_call.specs.Close.{without_filter, close_of}
use Rattle.close_call.proofs.CloseStaysSound.{closed_clauses}
use Rattle.packet_call.specs.Packet.{Said, unwanted, as_given, pid_of, outcome, with_marks, put_back, packet_of}
use Rattle.driver.specs.Claims.{OnlyArea}
use Rattle.driver.proofs.Cases.{Opens, open_ind, Closes, close_ind, Handles, packet_ind}

pub fresh_sound : sound fresh ≡ true
unfolding sound
fresh_sound = refl

-- ---- open and close
pub opens_clauses : (s : State) (pid : ℕ) (choice : Choice) → Opens s pid choice → Clauses (opened s pid choice)
opens_clauses s pid choice o =
    opening.opened_clauses s pid (code_of choice) (area_for pid s.areas) (free_place_of s.filters) (sound_tells s o.fine) o.low (ap sound_choice (choice_back choice) ∙ o.chosen) o.more (opening.for_pid pid s.areas) o.area o.place
    (find_passes is_free s.filters free_filter o.place)

pub open_sound : (s : State) (pid : ℕ) (choice : Choice) → sound s ≡ true → sound (open_of s pid choice).state ≡ true
open_sound s pid choice e = open_ind s pid choice (λ o. sound o.state ≡ true) (λ n a b. e) (λ o. sound_says (opened s pid choice) (opens_clauses s pid choice o))

pub closes_clauses : (s : State) (number : ℕ) → Closes s number → Clauses (without_filter s (place_of number s.filters))
closes_clauses s number c = closed_clauses s (place_of number s.filters) (sound_tells s c.fine) c.place (found_place number s.filters c.place).0

pub close_sound : (s : State) (number : ℕ) → sound s ≡ true → sound (close_of s number).state ≡ true
close_sound s number e =
    close_ind s number (λ o. sound o.state ≡ true) (λ n a b. e) (λ c. sound_says (without_filter s (place_of number s.filters)) (closes_clauses s number c))

-- ---- packet
module _ (s : State) (p store out sets : List ℕ) (eight : length s.areas ≡ 8) (h : Handles s p store out sets) where
  abbrev own : ℕ
  own = area_of (pid_of p) s.areas

  abbrev area : Area
  area = get_or s.areas own free_area

  abbrev result : Outcome
  result = outcome s own p store

  clauses : Clauses s
  clauses = sound_tells s h.fine

  -- the area is used and has the packet's PID
  pub own_used : (is_used area ≡ true) × (area.pid.0 ≡ pid_of p)
  own_used = found_area (pid_of p) s.areas h.area

  own_sound : (leb area.pid.0 0x1FFE ≡ true) × (sound_marks area.marks ≡ true)
  own_sound = used_sound area (all_at sound_area s.areas free_area clauses.areas own h.area) own_used.0

  -- what is held after the call fits the area
  pub held_fits : length result.next.held ≤ 4095
  held_fits = (rule_keeps (state_of area.marks store (area_start own)) _ h.agrees).held

  pub held_inside : area_start own + length result.next.held ≤ length store
  held_inside = let f = held_fits in let w = h.whole in let a = h.area in omega arith

  -- users and PIDs are as before
  pub same_used : (j : ℕ) → is_used (get_or (set s.areas own (with_marks area result)) j free_area) ≡ is_used (get_or s.areas j free_area)
  same_used = unseen is_used s.areas own (with_marks area result) free_area h.area refl

  own_marks_sound : sound_area (with_marks area result) ≡ true
  own_marks_sound =
      ap (λ (b : Bool). cond b (leb area.pid.0 0x1FFE && sound_marks (with_marks area result).marks) (is_zero_area (with_marks area result))) own_used.0
      ∙ true_both _ _ own_sound.0
      (stays_sound area.marks (contents p).counter (contents p).unit_start (payload_of p) store (area_start own) out
      (house area.marks (payload_of p) store own out own_sound.1 h.whole (rw eight at h.area) h.short h.room) own_sound.1 h.agrees h.counter)

  pub handles_clauses : Clauses (put_back s own result store out sets).state
  handles_clauses =
      record {
        from = clauses.from;
        to = clauses.to;
        areas = all_set sound_area s.areas own (with_marks area result) free_area clauses.areas own_marks_sound;
        pids =
            apart_set same_pid s.areas own (with_marks area result) free_area clauses.pids
            (λ j b n.
            lonely (with_marks area result) (get_or s.areas j free_area)
            (ap (λ (q : ℕ). has_pid q (get_or s.areas j free_area)) own_used.1 ∙ opening.others (pid_of p) s.areas (opening.own h.area) clauses.pids j b n));
        filters =
            all_of (sound_filter s.next (set s.areas own (with_marks area result))) s.filters free_filter
            (λ j b.
            let f = get_or s.filters j free_filter in
            ap (λ (u : Bool). cond (is_open f) (ltb f.number s.next && u) (eqb f.area 0)) (same_used f.area)
            ∙ all_at (sound_filter s.next s.areas) s.filters free_filter clauses.filters j b);
        numbers = clauses.numbers;
        choices = clauses.choices;
        users =
            counted_all s.filters (set s.areas own (with_marks area result))
            (λ j b. unseen (λ (a : Area). a.users) s.areas own (with_marks area result) free_area h.area refl j ∙ users_are s clauses j (rw length-set at b));
      }

pub packet_sound : (s : State) (p store out sets : List ℕ) → length s.areas ≡ 8 → sound s ≡ true → sound (packet_of s p store out sets).state ≡ true
packet_sound s p store out sets eight e =
    packet_ind s p store out sets (λ o. sound o.state ≡ true) (λ n a b. e) (λ l. e)
    (λ h. sound_says (put_back s (area_of (pid_of p) s.areas) (outcome s (area_of (pid_of p) s.areas) p store) store out sets).state (handles_clauses s p store out sets eight h))

-- "No packet of another PID .. changes it": a packet call changes at most its own PID's area, in the state and in the store
pub packet_own_area : (s : State) (p store out sets : List ℕ) → length s.areas ≡ 8 → OnlyArea (area_of (pid_of p) s.areas) s store (packet_of s p store out sets)
packet_own_area s p store out sets eight = packet_ind s p store out sets (OnlyArea own s store) (λ n a b. same (refused n)) (λ l. same (given unwanted)) on
  where
    own : ℕ
    own = area_of (pid_of p) s.areas

    same : (a : Answer Said) → OnlyArea (area_of (pid_of p) s.areas) s store (as_given s store out sets a)
    same a = record { filters = refl; choices = refl; next = refl; areas = λ j n. refl; size = refl; elsewhere = λ from n b. refl }

    on : Handles s p store out sets → OnlyArea (area_of (pid_of p) s.areas) s store (put_back s (area_of (pid_of p) s.areas) (outcome s (area_of (pid_of p) s.areas) p store) store out sets)
    on h =
        let i = area_of (pid_of p) s.areas in
        let o = outcome s i p store in
        let fits = held_fits s p store out sets eight h in
        let inside = held_inside s p store out sets eight h in
        record {
          filters = refl;
          choices = refl;
          next = refl;
          areas = λ j n. get_or-set_other s.areas i j (with_marks (get_or s.areas i free_area) o) free_area n;
          size = length-put store (area_start i) o.next.held inside;
          elsewhere = λ from n b. part_apart store (area_start i) o.next.held inside 0 from n (outside (area_start i) (length o.next.held) from n fits b);
        }
      where
        outside : (base m from n : ℕ) → m ≤ 4095 → (from + n ≤ base) ⊎ (base + 4096 ≤ from) → (from + n ≤ base) ⊎ (base + m ≤ from)
        outside base m from n f (inl b) = inl b
        outside base m from n f (inr a) = inr (omega arith)
