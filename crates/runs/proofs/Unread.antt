-- No call reads a byte of the store that is not held: by the held bytes alone a packet passes the same tests and has the same outcome, and what it leaves held is the same.
-- Assumes nothing.
use mathlib.Core.Path.{◌≡◌, refl, sym, ◌∙◌, ap, ap₂, subst}
use mathlib.Core.Bool.{Bool, true, false, cond, not}
use mathlib.Core.List.{List, [], ◌∷◌}
use mathlib.Core.Logic.{◌⊎◌, inl, inr, ⊎_elim}
use Prim.Native.Nat.{ℕ, ◌+◌, ◌-◌, ◌≤◌, ◌<◌}
use native.Mathlib.Decide.{ℕ_discrete}
use native.Mathlib.Omega.{arith}
use borrow.Author.Tests.{eqb-false, ne_eqb, not-true}
use lib.Dec.{eqb}
use lib.ListN.{length, get_or, set, length-set}
use lib.Seq.{get_or-set_same, get_or-set_other}
use Rattle.ground.specs.Answer.{Answer}
use Rattle.ground.specs.Write.{put}
use Rattle.ground.proofs.Walk.{all_at, find_passes}
use Rattle.ground.proofs.Write.{length-put}
use Rattle.gather.specs.Rule as gathering
use Rattle.gather.specs.Rule.{Outcome, rule}
use Rattle.gather.specs.Kind.{contradicting}
use Rattle.gather.specs.Memory.{held_of, last_of, stretch}
use Rattle.gather.proofs.RuleOnMemory.{sound_says}
use Rattle.gather.proofs.Stored.{state_again}
use Rattle.state.specs.State.{is_used, area_of, area_start, free_area_of, free_area, place_of}
use Rattle.state.specs.declared.Area.{Area}
use Rattle.state.specs.declared.Choice.{Choice}
use Rattle.state.specs.declared.State.{State}
use Rattle.state.proofs.Found.{found_area}
use Rattle.sound.specs.Sound.{sound_area}
use Rattle.sound.proofs.Clauses.{sound_tells, area_marks, free_marks}
use Rattle.open_call.specs.Open.{area_for, with_user, open_of}
use Rattle.open_call.proofs.OpenStaysSound as opening
use Rattle.close_call.specs.Close.{without_user, area_at, close_of}
use Rattle.packet_call.specs.Packet.{Said, AfterPacket, as_given, pid_of, held_in, packet_from, outcome, with_marks, put_back, packet_of}
use Rattle.driver.proofs.Cases.{Opens, Handles, open_ind, close_ind, packet_ind}
use Rattle.driver.proofs.StaysSound.{held_fits, held_inside}
use Rattle.runs.specs.Run.{Call, open_call, close_call, packet_call, World, Event, after, event, run_from, log_from, heard_from, ours}
use Rattle.runs.specs.AsNew.{Onward, SameHeld, Unread}
use Rattle.runs.proofs.Apart.{other_area}
use Rattle.runs.proofs.TwoStates.{told, left, packet_two}

-- every call leaves as many areas as there were
pub areas_stay : (w : World) (c : Call) → length (after ours w c).state.areas ≡ length w.state.areas
areas_stay w (open_call pid choice) = open_ind w.state pid choice (λ o. length o.state.areas ≡ length w.state.areas) (λ n a b. refl) (λ o. length-set w.state.areas _ _)
areas_stay w (close_call number) = close_ind w.state number (λ o. length o.state.areas ≡ length w.state.areas) (λ n a b. refl) (λ o. length-set w.state.areas _ _)
areas_stay w (packet_call p lent) =
    packet_ind w.state p w.store lent.out lent.sets (λ o. length o.state.areas ≡ length w.state.areas) (λ n a b. refl) (λ b. refl) (λ h. length-set w.state.areas _ _)

-- ---- one state and two stores
module _ (s : State) (store store₂ : List ℕ) (eight : length s.areas ≡ 8) (same : SameHeld (record { state = s; store = store }) (record { state = s; store = store₂ })) (p out sets : List ℕ) where
  abbrev own : ℕ
  own = area_of (pid_of p) s.areas

  abbrev area : Area
  area = get_or s.areas own free_area

  abbrev Same : AfterPacket → AfterPacket → Type 0
  Same o o₂ = (told p (record { out = out; sets = sets }) o ≡ told p (record { out = out; sets = sets }) o₂) × SameHeld (left o) (left o₂)

  given_same : (a : Answer Said) → Same (as_given s store out sets a) (as_given s store₂ out sets a)
  given_same a = (refl, same)

  held_same : own < length s.areas → stretch (held_in own s) store (area_start own) ≡ stretch (held_in own s) store₂ (area_start own)
  held_same b = same.held own b (found_area (pid_of p) s.areas b).0

  outcome_same : own < length s.areas → outcome s own p store ≡ outcome s own p store₂
  outcome_same b = ap (λ (l : List ℕ). rule (record { held = l; last = last_of area.marks }) (packet_from p)) (held_same b)

  -- what an outcome leaves held is the same in both
  module _ (h : Handles s p store out sets) (h₂ : Handles s p store₂ out sets) where
    abbrev o : Outcome
    o = outcome s own p store

    is : outcome s own p store ≡ outcome s own p store₂
    is = outcome_same h.area

    fits : length o.next.held ≤ 4095
    fits = held_fits s p store out sets eight h

    inside : area_start own + length o.next.held ≤ length store
    inside = held_inside s p store out sets eight h

    inside₂ : area_start own + length o.next.held ≤ length store₂
    inside₂ = rw (← same.size) inside

    held_after : (j : ℕ) → j < length (set s.areas own (with_marks area o)) → is_used (get_or (set s.areas own (with_marks area o)) j free_area) ≡ true
        → let n = held_of (get_or (set s.areas own (with_marks area o)) j free_area).marks in
        stretch n (put store (area_start own) o.next.held) (area_start j) ≡ stretch n (put store₂ (area_start own) o.next.held) (area_start j)
    held_after j b u = go (ℕ_discrete j own)
      where
        go : Dec (j ≡ own)
            → let n = held_of (get_or (set s.areas own (with_marks area o)) j free_area).marks in
            stretch n (put store (area_start own) o.next.held) (area_start j) ≡ stretch n (put store₂ (area_start own) o.next.held) (area_start j)
        go (yes e) =
            rw (e, get_or-set_same s.areas own (with_marks area o) free_area h.area)
            (ap (λ (x : gathering.State). x.held) (state_again o.next store (area_start own) inside) ∙ sym (ap (λ (x : gathering.State). x.held) (state_again o.next store₂ (area_start own) inside₂)))
        go (no n) =
            let was = get_or-set_other s.areas own j (with_marks area o) free_area n in
            let within : j < length s.areas = rw length-set at b in
            let few = (sound_says (get_or s.areas j free_area).marks (area_marks s (sound_tells s h.fine) j within)).held in
            rw was
            (other_area store own o.next.held fits inside j (held_in j s) few n
            ∙ same.held j within (ap is_used (sym was) ∙ u)
            ∙ sym (other_area store₂ own o.next.held fits inside₂ j (held_in j s) few n))

    taken_held : SameHeld (left (put_back s own o store out sets)) (left (put_back s own o store₂ out sets))
    taken_held =
        record {
          state = refl;
          size = length-put store (area_start own) o.next.held inside ∙ same.size ∙ sym (length-put store₂ (area_start own) o.next.held inside₂);
          held = held_after;
        }

    taken_same : Same (put_back s own (outcome s own p store) store out sets) (put_back s own (outcome s own p store₂) store₂ out sets)
    taken_same = (
      ap (λ (x : Outcome). told p (record { out = out; sets = sets }) (put_back s own x store₂ out sets)) is,
      subst (λ (x : Outcome). SameHeld (left (put_back s own o store out sets)) (left (put_back s own x store₂ out sets))) is taken_held,
    )

  packet_same : Same (packet_of s p store out sets) (packet_of s p store₂ out sets)
  packet_same =
      packet_two s s p store store₂ out sets refl same.size refl refl (λ b. ap contradicting (held_same b)) Same
      (λ n. given_same _) (given_same _) taken_same

-- ---- one area more, or one user less
module _ (s : State) (store store₂ : List ℕ) (same : SameHeld (record { state = s; store = store }) (record { state = s; store = store₂ })) where
  -- an area that is put back, where it was used and holds what it held, or holds nothing
  set_held : (i : ℕ) (a : Area)
      → (is_used a ≡ true → ((is_used (get_or s.areas i free_area) ≡ true) × (held_of a.marks ≡ held_in i s)) ⊎ (held_of a.marks ≡ 0))
      → (j : ℕ) → j < length (set s.areas i a) → is_used (get_or (set s.areas i a) j free_area) ≡ true
      → let n = held_of (get_or (set s.areas i a) j free_area).marks in
      stretch n store (area_start j) ≡ stretch n store₂ (area_start j)
  set_held i a holds j b u = go (ℕ_discrete j i)
    where
      within : j < length s.areas
      within = rw length-set at b

      go : Dec (j ≡ i)
          → let n = held_of (get_or (set s.areas i a) j free_area).marks in
          stretch n store (area_start j) ≡ stretch n store₂ (area_start j)
      go (no n) =
          let was = get_or-set_other s.areas i j a free_area n in
          rw was (same.held j within (ap is_used (sym was) ∙ u))
      go (yes e) =
          let b = rw e at within in
          let is = get_or-set_same s.areas i a free_area b in
          rw (e, is) (⊎_elim (λ k. rw k.1 (same.held i b k.0)) (λ z. rw z) (holds (ap is_used (sym is) ∙ ap (λ (k : ℕ). is_used (get_or (set s.areas i a) k free_area)) (sym e) ∙ u)))

  open_held : (pid : ℕ) (choice : Choice) → SameHeld (record { state = (open_of s pid choice).state; store = store }) (record { state = (open_of s pid choice).state; store = store₂ })
  open_held pid choice =
      open_ind s pid choice (λ o. SameHeld (record { state = o.state; store = store }) (record { state = o.state; store = store₂ })) (λ n a b. same)
      (λ o. record { state = refl; size = same.size; held = set_held (area_for pid s.areas) (with_user pid (get_or s.areas (area_for pid s.areas) free_area)) (λ u. holds o (opening.for_pid pid s.areas) o.area) })
    where
      holds : Opens s pid choice → {i : ℕ} → opening.ForPid pid s.areas i → i < length s.areas → ((is_used (get_or s.areas i free_area) ≡ true) × (held_in i s ≡ held_in i s)) ⊎ (held_in i s ≡ 0)
      holds o (opening.own b) h = inl ((found_area pid s.areas b).0, refl)
      holds o (opening.new b) h =
          let i = free_area_of s.areas in
          let free = ap not (find_passes (λ (a : Area). eqb a.users 0) s.areas free_area h) in
          inr (ap held_of (free_marks (get_or s.areas i free_area) (all_at sound_area s.areas free_area (sound_tells s o.fine).areas i h) free))

  close_held : (number : ℕ) → SameHeld (record { state = (close_of s number).state; store = store }) (record { state = (close_of s number).state; store = store₂ })
  close_held number =
      close_ind s number (λ o. SameHeld (record { state = o.state; store = store }) (record { state = o.state; store = store₂ })) (λ n a b. same)
      (λ o.
      let i = area_at s (place_of number s.filters) in
      let a = get_or s.areas i free_area in
      record { state = refl; size = same.size; held = set_held i (without_user a) (holds a (eqb a.users 1) refl) })
    where
      holds : (a : Area) (b : Bool) → eqb a.users 1 ≡ b → let x = cond b free_area (record { pid = a.pid; users = a.users - 1; marks = a.marks }) in
          is_used x ≡ true → ((is_used a ≡ true) × (held_of x.marks ≡ held_of a.marks)) ⊎ (held_of x.marks ≡ 0)
      holds a true e u = inr refl
      holds a false e u =
          let some = eqb-false (a.users - 1) 0 (not-true (eqb (a.users - 1) 0) u) in
          inl (ap not (ne_eqb a.users 0 (omega arith)), refl)

-- ---- two worlds
-- with one state
one_state : (w : World) (store : List ℕ) → length w.state.areas ≡ 8 → SameHeld w (record { state = w.state; store = store })
    → (c : Call) → (event ours w c ≡ event ours (record { state = w.state; store = store }) c) × SameHeld (after ours w c) (after ours (record { state = w.state; store = store }) c)
one_state w store eight same (open_call pid choice) = (refl, open_held w.state w.store store same pid choice)
one_state w store eight same (close_call number) = (refl, close_held w.state w.store store same number)
one_state w store eight same (packet_call p lent) = packet_same w.state w.store store eight same p lent.out lent.sets

pub unread : Unread ours
unread w v eight same c =
    subst (λ (x : World). (event ours w c ≡ event ours x c) × SameHeld (after ours w c) (after ours x c)) (ap (λ (s : State). record { state = s; store = v.store }) same.state)
    (one_state w v.store eight (record { state = refl; size = same.size; held = same.held }) c)

-- ---- from there on
pub same_later : (w v : World) → length w.state.areas ≡ 8 → SameHeld w v → (cs : List Call) → (length (run_from ours w cs).state.areas ≡ 8) × SameHeld (run_from ours w cs) (run_from ours v cs)
same_later w v eight same [] = (eight, same)
same_later w v eight same (c ∷ cs) =
    let r = same_later w v eight same cs in
    (areas_stay (run_from ours w cs) c ∙ r.0, (unread (run_from ours w cs) (run_from ours v cs) r.0 r.1 c).1)

pub onward : (w v : World) → length w.state.areas ≡ 8 → SameHeld w v → Onward ours w v
onward w v eight same = record { log = log; heard = heard w v eight same; state = λ cs. (same_later w v eight same cs).1.state }
  where
    log : (cs : List Call) → log_from ours w cs ≡ log_from ours v cs
    log [] = refl
    log (c ∷ cs) =
        let r = same_later w v eight same cs in
        ap₂ (λ (e : Event) (l : List Event). e ∷ l) (unread (run_from ours w cs) (run_from ours v cs) r.0 r.1 c).0 (log cs)

    heard : (w v : World) → length w.state.areas ≡ 8 → SameHeld w v → (cs : List Call) → heard_from ours w cs ≡ heard_from ours v cs
    heard w v eight same [] = refl
    heard w v eight same (c ∷ cs) =
        let r = unread w v eight same c in
        ap₂ (λ (e : Event) (l : List Event). e ∷ l) r.0 (heard (after ours w c) (after ours v c) (areas_stay w c ∙ eight) r.1 cs)
