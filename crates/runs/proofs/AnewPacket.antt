-- A packet where the PID's area has seen nothing: one of another PID does the same, one of the PID changes what its area has seen and nothing else, and one that jumps or starts a section leaves the same world.
-- Assumes nothing.
use mathlib.Core.Path.{◌≡◌, refl, sym, ◌∙◌, ap, ap₂, subst}
use mathlib.Core.Bool.{Bool, true, false, not, false≢true}
use mathlib.Core.List.{List, [], ◌∷◌, map}
use Prim.Native.Nat.{ℕ, ◌+◌, ◌≤◌, ◌<◌}
use native.Mathlib.Decide.{ℕ_discrete}
use native.Mathlib.Omega.{arith}
use borrow.Author.Tests.{ne_eqb}
use lib.Dec.{eqb}
use lib.ListN.{length, get_or, set}
use lib.Seq.{set-get_or}
use Rattle.ground.specs.Answer.{refused, given}
use Rattle.ground.specs.Write.{put}
use Rattle.ground.proofs.Part.{length_part}
use Rattle.ground.proofs.Walk.{set-map}
use Rattle.ground.proofs.Write.{length-put}
use Rattle.packet.specs.Packet.{contents}
use Rattle.packet.specs.Payload.{payload_of}
use Rattle.gather.specs.Rule as gathering
use Rattle.gather.specs.Rule.{Outcome, blank, unfinished_of, rule}
use Rattle.gather.specs.Kind.{join}
use Rattle.gather.specs.Memory.{no_marks, held_of, marks_of, state_of, stretch, contradicts_of}
use Rattle.gather.specs.Claims.AsNew.{jumped}
use Rattle.gather.proofs.AsNew.{as_new}
use Rattle.gather.proofs.RuleOnMemory.{sound_says}
use Rattle.state.specs.State.{has_pid, area_of, area_start, free_area}
use Rattle.state.specs.Choice.{places_of}
use Rattle.state.specs.declared.Area.{Area}
use Rattle.state.specs.declared.State.{State}
use Rattle.state.proofs.Found.{found_area, has_pid_lem}
use Rattle.sound.specs.Sound.{sound}
use Rattle.sound.proofs.Clauses.{sound_tells, area_marks}
use Rattle.open_call.proofs.OpenStaysSound as opening
use Rattle.packet_call.specs.Packet.{Said, unwanted, AfterPacket, as_given, pid_of, held_in, packet_from, outcome, with_marks, report, sets_for, put_back, packet_of}
use Rattle.driver.proofs.Cases.{Handles, packet_ind}
use Rattle.driver.proofs.StaysSound.{held_fits, held_inside}
use Rattle.runs.specs.Run.{Buffers, World, packet_event}
use Rattle.runs.specs.AsNew.{forgotten, anew, said_of_jump, HoldsSame, SameHeld}
use Rattle.runs.proofs.Apart.{other_area}
use Rattle.runs.proofs.TwoStates.{told, left, packet_two}
use Rattle.runs.proofs.Anew.{of_other, of_own, forgotten_at, area_stays, long, one_forgotten, anew_clauses, anew_sound}

-- a world whose area of the PID has seen nothing
abbrev pub forget : ℕ → World → World
forget pid w = record { state = anew pid w.state; store = w.store }

module _ (s : State) (store p : List ℕ) (lent : Buffers) where
  abbrev out : List ℕ
  out = lent.out

  abbrev sets : List ℕ
  sets = lent.sets

  abbrev own : ℕ
  own = area_of (pid_of p) s.areas

  abbrev area : Area
  area = get_or s.areas own free_area

  -- ---- of another PID
  module _ (pid : ℕ) (fine : sound s ≡ true) (other : pid_of p ≡ pid → ⊥) where
    abbrev Same : AfterPacket → AfterPacket → Type 0
    Same o o₂ = (told p lent o ≡ told p lent o₂) × (forget pid (left o) ≡ left o₂)

    -- its area is none of the PID's
    not_own : own < length s.areas → has_pid pid area ≡ false
    not_own b = let found = found_area (pid_of p) s.areas b in rw (found.0, found.1) (ne_eqb (pid_of p) pid other)

    area_same : own < length s.areas → get_or (map (forgotten pid) s.areas) own free_area ≡ area
    area_same b = forgotten_at pid s.areas own ∙ of_other pid area (not_own b)

    outcome_same : own < length s.areas → outcome s own p store ≡ outcome (anew pid s) own p store
    outcome_same b = ap (λ (a : Area). rule (state_of a.marks store (area_start own)) (packet_from p)) (sym (area_same b))

    put_same : (o : Outcome) → own < length s.areas → forget pid (left (put_back s own o store out sets)) ≡ left (put_back (anew pid s) own o store out sets)
    put_same o b =
        ap (λ (l : List Area). record { state = record { areas = l; filters = s.filters; choices = s.choices; next = s.next }; store = put store (area_start own) o.next.held })
        (sym (set-map (forgotten pid) s.areas own (with_marks area o))
        ∙ ap (set (map (forgotten pid) s.areas) own) (of_other pid (with_marks area o) (not_own b) ∙ ap (λ (a : Area). with_marks a o) (sym (area_same b))))

    taken_same : own < length s.areas → Same (put_back s own (outcome s own p store) store out sets) (put_back (anew pid s) own (outcome (anew pid s) own p store) store out sets)
    taken_same b = (
      ap (λ (o : Outcome). told p lent (put_back s own o store out sets)) (outcome_same b),
      put_same (outcome s own p store) b ∙ ap (λ (o : Outcome). left (put_back (anew pid s) own o store out sets)) (outcome_same b),
    )

    pub other_packet : Same (packet_of s p store out sets) (packet_of (anew pid s) p store out sets)
    other_packet =
        packet_two s (anew pid s) p store store out sets (anew_sound pid s fine) refl (sym (long pid s.areas)) (sym (area_stays pid (pid_of p) s.areas))
        (λ b. ap (λ (a : Area). contradicts_of (held_of a.marks) store (area_start own)) (sym (area_same b)) ∙ sym (at_own (λ i. contradicts_of (held_in i (anew pid s)) store (area_start i)))) Same
        (λ n. (refl, refl)) (refl, refl)
        (λ h h₂. subst (λ (i : ℕ). Same (put_back s own (outcome s own p store) store out sets) (put_back (anew pid s) i (outcome (anew pid s) i p store) store out sets)) (sym (area_stays pid (pid_of p) s.areas)) (taken_same h.area))
      where
        at_own : (f : ℕ → Bool) → f (area_of (pid_of p) (map (forgotten pid) s.areas)) ≡ f (area_of (pid_of p) s.areas)
        at_own f = ap f (area_stays pid (pid_of p) s.areas)

  -- ---- of the PID itself
  abbrev forgets : Area → Area
  forgets = forgotten (pid_of p)

  own_has : own < length s.areas → has_pid (pid_of p) area ≡ true
  own_has b = let found = found_area (pid_of p) s.areas b in has_pid_lem (pid_of p) area found.0 found.1

  own_seen : own < length s.areas → get_or (map forgets s.areas) own free_area ≡ record { pid = area.pid; users = area.users; marks = no_marks }
  own_seen b = forgotten_at (pid_of p) s.areas own ∙ of_own (pid_of p) area (own_has b)

  -- what its area has seen is all that it changes
  pub own_packet : length s.areas ≡ 8 → SameHeld (forget (pid_of p) (left (packet_of s p store out sets))) (record { state = anew (pid_of p) s; store = store })
  own_packet eight =
      packet_ind s p store out sets (λ o. SameHeld (forget (pid_of p) (left o)) (record { state = anew (pid_of p) s; store = store })) (λ n a b. alike) (λ b. alike)
      (λ h. record {
        state = ap as_state (areas_same h);
        size = length-put store (area_start own) o.next.held (inside h);
        held = subst (λ (x : State). HoldsSame x (put store (area_start own) o.next.held) store) (ap as_state (sym (areas_same h))) (held h);
      })
    where
      o : Outcome
      o = outcome s own p store

      alike : SameHeld (record { state = anew (pid_of p) s; store = store }) (record { state = anew (pid_of p) s; store = store })
      alike = record { state = refl; size = refl; held = λ i b u. refl }

      as_state : List Area → State
      as_state l = record { areas = l; filters = s.filters; choices = s.choices; next = s.next }

      areas_same : Handles s p store out sets → map forgets (set s.areas own (with_marks area o)) ≡ map forgets s.areas
      areas_same h =
          sym (set-map forgets s.areas own (with_marks area o))
          ∙ ap (set (map forgets s.areas) own) (of_own (pid_of p) (with_marks area o) (own_has h.area) ∙ sym (own_seen h.area))
          ∙ set-get_or (map forgets s.areas) own free_area

      inside : Handles s p store out sets → area_start own + length o.next.held ≤ length store
      inside h = held_inside s p store out sets eight h

      held : Handles s p store out sets → HoldsSame (anew (pid_of p) s) (put store (area_start own) o.next.held) store
      held h i b u = go (ℕ_discrete i own)
        where
          go : Dec (i ≡ own) → stretch (held_in i (anew (pid_of p) s)) (put store (area_start own) o.next.held) (area_start i) ≡ stretch (held_in i (anew (pid_of p) s)) store (area_start i)
          go (yes e) = rw (e, own_seen h.area)
          go (no n) =
              let few = (sound_says (get_or (map forgets s.areas) i free_area).marks (area_marks (anew (pid_of p) s) (anew_clauses (pid_of p) s (sound_tells s h.fine)) i b)).held in
              other_area store own o.next.held (held_fits s p store out sets eight h) (inside h) i (held_in i (anew (pid_of p) s)) few n

  -- ---- where the rule forgets
  module _ (fine : sound s ≡ true) (agrees : area_of (pid_of p) s.areas < length s.areas → contradicts_of (held_in (area_of (pid_of p) s.areas) s) store (area_start (area_of (pid_of p) s.areas)) ≡ false) where
    -- the rule goes on from a blank area
    from_blank : own < length s.areas → outcome (anew (pid_of p) s) own p store ≡ rule blank (packet_from p)
    from_blank b = ap (λ (a : Area). rule (state_of a.marks store (area_start own)) (packet_from p)) (own_seen b)

    -- what leaves the same remembered leaves the same world
    landed : own < length s.areas → (x y : Outcome) → x.next ≡ y.next → left (put_back s own x store out sets) ≡ left (put_back (anew (pid_of p) s) own y store out sets)
    landed b x y e =
        ap₂ (λ (l : List Area) (held : List ℕ). record { state = record { areas = l; filters = s.filters; choices = s.choices; next = s.next }; store = put store (area_start own) held })
        (sym (one_forgotten (pid_of p) s.areas own (with_marks area x) (λ j c n. opening.others (pid_of p) s.areas (opening.own b) (sound_tells s fine).pids j c n))
        ∙ ap (set (map forgets s.areas) own) (ap (λ (n : gathering.State). record { pid = area.pid; users = area.users; marks = marks_of n }) e ∙ ap (λ (a : Area). with_marks a y) (sym (own_seen b))))
        (ap (λ (n : gathering.State). n.held) e)

    -- so of a call both ways are one
    two_ways : (R : AfterPacket → AfterPacket → Type 0) → ((n : ℕ) → R (as_given s store out sets (refused n)) (as_given (anew (pid_of p) s) store out sets (refused n)))
        → R (as_given s store out sets (given unwanted)) (as_given (anew (pid_of p) s) store out sets (given unwanted))
        → (Handles s p store out sets → R (put_back s own (outcome s own p store) store out sets) (put_back (anew (pid_of p) s) own (rule blank (packet_from p)) store out sets))
        → R (packet_of s p store out sets) (packet_of (anew (pid_of p) s) p store out sets)
    two_ways R refuses leaves takes =
        packet_two s (anew (pid_of p) s) p store store out sets (anew_sound (pid_of p) s fine) refl (sym (long (pid_of p) s.areas)) (sym same)
        (λ b. agrees b ∙ sym (ap (λ (i : ℕ). contradicts_of (held_in i (anew (pid_of p) s)) store (area_start i)) same ∙ ap (λ (a : Area). contradicts_of (held_of a.marks) store (area_start own)) (own_seen b))) R
        refuses leaves
        (λ h h₂.
        subst (λ (i : ℕ). R (put_back s own (outcome s own p store) store out sets) (put_back (anew (pid_of p) s) i (outcome (anew (pid_of p) s) i p store) store out sets)) (sym same)
        (subst (λ (o : Outcome). R (put_back s own (outcome s own p store) store out sets) (put_back (anew (pid_of p) s) own o store out sets)) (sym (from_blank h.area)) (takes h)))
      where
        same : area_of (pid_of p) (map (forgotten (pid_of p)) s.areas) ≡ area_of (pid_of p) s.areas
        same = area_stays (pid_of p) (pid_of p) s.areas

    -- a jump
    pub record Jumped (r : Said) (after : Buffers) (o o₂ : AfterPacket) : Type 0 where
      pub said : Said
      pub answer : told p lent o₂ ≡ packet_event p lent (given said) after
      pub same : r ≡ said_of_jump (unfinished_of (held_in own s)) said
      pub never : said.jump ≡ false
      pub world : left o ≡ left o₂

    pub jump_lands : length s.areas ≡ 8 → (r : Said) (after : Buffers) → told p lent (packet_of s p store out sets) ≡ packet_event p lent (given r) after → r.jump ≡ true
        → Jumped r after (packet_of s p store out sets) (packet_of (anew (pid_of p) s) p store out sets)
    jump_lands eight r after =
        two_ways (λ o o₂. told p lent o ≡ packet_event p lent (given r) after → r.jump ≡ true → Jumped r after o o₂)
        (λ n e j. let z : ◌≡◌ {A = ℕ} 0 1 = cc in absurd (omega arith)) (λ e j. let same : unwanted ≡ r = cc in absurd (false≢true (ap (λ (x : Said). x.jump) same ∙ j))) takes
      where
        x : Outcome
        x = outcome s own p store

        y : Outcome
        y = rule blank (packet_from p)

        held : List ℕ
        held = stretch (held_in own s) store (area_start own)

        takes : Handles s p store out sets → told p lent (put_back s own x store out sets) ≡ packet_event p lent (given r) after → r.jump ≡ true
            → Jumped r after (put_back s own x store out sets) (put_back (anew (pid_of p) s) own y store out sets)
        takes h e j =
            let said : report x ≡ r = cc in
            let buffers : record { out = put out 0 (join x.sections); sets = put sets 0 (sets_for own (places_of s) x.sections) } ≡ after = cc in
            let is : x ≡ jumped held y = as_new.jump.call (state_of area.marks store (area_start own)) (packet_from p) (ap (λ (q : Said). q.jump) said ∙ j) in
            let few = (sound_says area.marks (area_marks s (sound_tells s fine) own h.area)).held in
            let whole = h.whole in
            let inside = h.area in
            let many : length held ≡ held_in own s = length_part (held_in own s) store (area_start own) (omega (arith, few, whole, inside, eight)) in
            record {
              said = report y;
              answer = ap (packet_event p lent (given (report y))) (sym (ap (λ (o : Outcome). record { out = put out 0 (join o.sections); sets = put sets 0 (sets_for own (places_of s) o.sections) }) is) ∙ buffers);
              same = sym said ∙ ap report is ∙ ap (λ (n : ℕ). said_of_jump (unfinished_of n) (report y)) many;
              never = (as_new.jump.fresh (packet_from p)).0;
              world = landed h.area x y (ap (λ (o : Outcome). o.next) is);
            }

    -- a start
    pub start_lands : (contents p).unit_start ≡ true → (payload_of p ≡ [] → ⊥) → (r : Said) (after : Buffers) → told p lent (packet_of s p store out sets) ≡ packet_event p lent (given r) after → r.wanted ≡ true → r.repeat ≡ false
        → left (packet_of s p store out sets) ≡ left (packet_of (anew (pid_of p) s) p store out sets)
    start_lands starts some r after =
        two_ways (λ o o₂. told p lent o ≡ packet_event p lent (given r) after → r.wanted ≡ true → r.repeat ≡ false → left o ≡ left o₂)
        (λ n e w d. let z : ◌≡◌ {A = ℕ} 0 1 = cc in absurd (omega arith)) (λ e w d. let same : unwanted ≡ r = cc in absurd (false≢true (ap (λ (x : Said). x.wanted) same ∙ w)))
        (λ h e w d.
        let said : report (outcome s own p store) ≡ r = cc in
        landed h.area (outcome s own p store) (rule blank (packet_from p))
        (as_new.start.next (state_of area.marks store (area_start own)) blank (packet_from p)
        (record { start = starts; payload = has (payload_of p) some; original = ap (λ (q : Said). q.repeat) said ∙ d })
        (record { start = starts; payload = has (payload_of p) some; original = (as_new.jump.fresh (packet_from p)).1 })))
      where
        has : (payload : List ℕ) → (payload ≡ [] → ⊥) → not (eqb (length payload) 0) ≡ true
        has [] n = absurd (n refl)
        has (b ∷ payload) n = ap not (ne_eqb (length (b ∷ payload)) 0 (omega arith))
