-- An accepted packet keeps the ledger: its area remembers one packet more, and a filter is handed what the rule completes of it where its place is in the section's set.
-- Assumes nothing.
use mathlib.Core.Path.{◌≡◌, refl, sym, ◌∙◌, ap, ap₂, subst}
use mathlib.Core.Bool.{Bool, true, false, cond, ◌&&◌}
use mathlib.Core.List.{List, [], ◌∷◌, ◌++◌, append-nil}
use Prim.Native.Nat.{ℕ, ◌+◌, ◌≤◌, ◌<◌}
use native.Mathlib.Decide.{ℕ_discrete}
use native.Mathlib.Omega.{arith}
use borrow.Author.Tests.{eq-eqb, ne_eqb}
use lib.Dec.{eqb}
use lib.ListN.{length, get_or, set, length-set}
use lib.Seq.{get_or-set_same, get_or-set_other}
use Rattle.std.specs.Prelude.{Some, None}
use Rattle.ground.specs.Set.{is_in}
use Rattle.ground.specs.Walk.{total, count, keep}
use Rattle.ground.specs.Write.{put}
use Rattle.ground.proofs.Walk.{total-set, all_at, keep_append, keep_none}
use Rattle.ground.proofs.Write.{length-put}
use Rattle.gather.specs.Rule.{Outcome, rule}
use Rattle.gather.specs.Kind.{join}
use Rattle.gather.specs.Memory.{held_of, state_of, stretch, last_of}
use Rattle.gather.proofs.RuleKeeps.{rule_keeps}
use Rattle.gather.proofs.RuleOnMemory.{sound_says}
use Rattle.gather.proofs.Stored.{state_again, output_cut}
use Rattle.section.specs.Section.{table_of}
use Rattle.state.specs.State.{is_used, is_open, area_of, area_start, free_area}
use Rattle.state.specs.Choice.{lets, through, choice_of, places_of, places_for}
use Rattle.state.specs.declared.Choice.{Choice}
use Rattle.sound.specs.Sound.{sound_area}
use Rattle.packet_call.specs.Packet.{Said, pid_of, packet_from, outcome, with_marks, report, sets_for, put_back}
use Rattle.state.specs.declared.Area.{Area}
use Rattle.state.specs.declared.State.{State}
use Rattle.sound.proofs.Pids.{only_one}
use Rattle.sound.proofs.Clauses.{marks_sound}
use Rattle.ground.proofs.Frame.{unseen}
use Rattle.driver.proofs.Cases.{Handles}
use Rattle.state.proofs.Found.{has_pid_lem, found_area}
use Rattle.driver.proofs.StaysSound.{held_fits, held_inside, handles_clauses}
use Rattle.runs.specs.Run.{Buffers, World}
use Rattle.runs.specs.History.{OpenedFilter, AcceptedCall, packet, opens, closes, opening_of, is_closed, standing, areas_taken, packets, since, sections_of, picked, handed_by, handed, remembered, completed}
use Rattle.runs.proofs.Apart.{other_area}
use Rattle.runs.proofs.AsRun.{remembered_one, completed_one}
use Rattle.runs.proofs.Picked.{picked_told, in_places, keep_same}
use Rattle.runs.proofs.Ledger.{users_of, area_at, filter_at, code_at, opening_at, seat_at, IsOpen, Handed, Ledger, Stands, open_handed, handed_open, after_packet, stood}

module _ (w : World) (h : List AcceptedCall) (l : Ledger w h) (p : List ℕ) (lent : Buffers) (k : Handles w.state p w.store lent.out lent.sets) where
  abbrev s : State
  s = w.state

  abbrev own : ℕ
  own = area_of (pid_of p) s.areas

  abbrev result : Outcome
  result = outcome s own p w.store

  abbrev area : Area
  area = with_marks (area_at s own) result

  abbrev said : Said
  said = report result

  abbrev written : Buffers
  written = record { out = put lent.out 0 (join result.sections); sets = put lent.sets 0 (sets_for own (places_of s) result.sections) }

  abbrev after : World
  after = record { state = (put_back s own result w.store lent.out lent.sets).state; store = put w.store (area_start own) result.next.held }

  mine : (is_used (area_at s own) ≡ true) × ((area_at s own).pid.0 ≡ pid_of p)
  mine = found_area (pid_of p) s.areas k.area

  fits : length result.next.held ≤ 4095
  fits = held_fits s p w.store lent.out lent.sets l.eight k

  inside : area_start own + length result.next.held ≤ length w.store
  inside = held_inside s p w.store lent.out lent.sets l.eight k

  -- what the rule went on from
  from : state_of (area_at s own).marks w.store (area_start own) ≡ remembered (packets (pid_of p) h)
  from = l.remembers own k.area mine.0 ∙ ap (λ (q : ℕ). remembered (packets q h)) mine.1

  outcome_is : result ≡ rule (remembered (packets (pid_of p) h)) (packet_from p)
  outcome_is = ap (λ st. rule st (packet_from p)) from

  balance : (q : ℕ) → total (users_of q) (set s.areas own area) + closes q h ≡ opens q h
  balance q =
      let e = total-set (users_of q) s.areas own area free_area k.area in
      let b = l.balance q in
      omega arith

  -- who stands where is as before
  same_opening : (j : ℕ) → opening_at after.state j ≡ opening_at s j
  same_opening j =
      ap (λ (q : ℕ). record { number = (filter_at s j).number; pid = q; choice = choice_of (code_at s j); place = j }) (unseen (λ (a : Area). a.pid.0) s.areas own area free_area k.area refl (filter_at s j).area)

  known : (j : ℕ) → j < length s.filters → is_open (filter_at s j) ≡ true → IsOpen (opening_at after.state j) (packet p lent said written ∷ h)
  known j b i = let was = l.known j b i in rw (same_opening j) (record { opened = was.opened; kept = was.kept })

  seats : (j : ℕ) → get_or (standing h) j None ≡ seat_at after.state j
  seats j = l.seats j ∙ ap (λ (f : OpenedFilter). cond (is_open (filter_at s j)) (Some f) None) (sym (same_opening j))

  busy_areas : count is_used (set s.areas own area) ≡ areas_taken h
  busy_areas =
      let sum = total-set (λ (x : Area). cond (is_used x) 1 0) s.areas own area free_area k.area in
      let same = l.busy_areas in
      omega arith

  -- a used area with the packet's PID is the packet's
  own_only : (i : ℕ) → i < length s.areas → is_used (area_at s i) ≡ true → pid_of p ≡ (area_at s i).pid.0 → i ≡ own
  own_only i b u e =
      only_one (pid_of p) s.areas l.clauses.pids i own b k.area
      (has_pid_lem (pid_of p) (area_at s i) u (sym e)) (has_pid_lem (pid_of p) (area_at s own) mine.0 mine.1)

  -- the held bytes of another area are as before
  elsewhere : (i n : ℕ) → n ≤ 4095 → (i ≡ own → ⊥) → stretch n after.store (area_start i) ≡ stretch n w.store (area_start i)
  elsewhere i n few other = other_area w.store own result.next.held fits inside i n few other

  remembers : (i : ℕ) → i < length (set s.areas own area) → is_used (get_or (set s.areas own area) i free_area) ≡ true
      → state_of (get_or (set s.areas own area) i free_area).marks after.store (area_start i) ≡ remembered (packets (get_or (set s.areas own area) i free_area).pid.0 (packet p lent said written ∷ h))
  remembers i b u = go (ℕ_discrete i own)
    where
      go : Dec (i ≡ own) → state_of (get_or (set s.areas own area) i free_area).marks after.store (area_start i) ≡ remembered (packets (get_or (set s.areas own area) i free_area).pid.0 (packet p lent said written ∷ h))
      go (yes e) =
          let at : get_or (set s.areas own area) i free_area ≡ area = ap (λ (j : ℕ). get_or (set s.areas own area) j free_area) e ∙ get_or-set_same s.areas own area free_area k.area in
          let taken : packets area.pid.0 (packet p lent said written ∷ h) ≡ packet_from p ∷ packets (pid_of p) h =
          ap (λ (q : ℕ). packets q (packet p lent said written ∷ h)) mine.1
          ∙ ap (λ (b : Bool). cond b (packet_from p ∷ packets (pid_of p) h) (packets (pid_of p) h)) (eq-eqb (pid_of p) (pid_of p) refl) in
          let own_is : state_of area.marks after.store (area_start own) ≡ remembered (packets area.pid.0 (packet p lent said written ∷ h)) =
          state_again result.next w.store (area_start own) inside
          ∙ ap (λ (x : Outcome). x.next) outcome_is
          ∙ sym (remembered_one (packet_from p) (packets (pid_of p) h))
          ∙ ap remembered (sym taken) in
          subst (λ (x : Area). state_of x.marks after.store (area_start i) ≡ remembered (packets x.pid.0 (packet p lent said written ∷ h))) (sym at)
          (subst (λ (j : ℕ). state_of area.marks after.store (area_start j) ≡ remembered (packets area.pid.0 (packet p lent said written ∷ h))) (sym e) own_is)
      go (no n) =
          let same = get_or-set_other s.areas own i area free_area n in
          let was : is_used (area_at s i) ≡ true = ap is_used (sym same) ∙ u in
          let within : i < length s.areas = rw length-set at b in
          let few = (sound_says (area_at s i).marks (marks_sound (area_at s i) (all_at sound_area s.areas free_area l.clauses.areas i within))).held in
          let apart : packets (area_at s i).pid.0 (packet p lent said written ∷ h) ≡ packets (area_at s i).pid.0 h =
          ap (λ (b : Bool). cond b (packet_from p ∷ packets (area_at s i).pid.0 h) (packets (area_at s i).pid.0 h)) (ne_eqb (pid_of p) (area_at s i).pid.0 (λ e. n (own_only i within was e))) in
          subst (λ (x : Area). state_of x.marks after.store (area_start i) ≡ remembered (packets x.pid.0 (packet p lent said written ∷ h))) (sym same)
          (ap (λ (held : List ℕ). record { held = held; last = last_of (area_at s i).marks }) (elsewhere i (held_of (area_at s i).marks) few n)
          ∙ l.remembers i within was
          ∙ ap remembered (sym apart))

  -- the sections in the output are those that the rule completes
  sections : sections_of said written ≡ result.sections
  sections =
      let keeps = rule_keeps (state_of (area_at s own).marks w.store (area_start own)) (packet_from p) k.agrees in
      let room = k.room in
      let most = keeps.bytes k.short in
      output_cut result.sections lent.out keeps.whole (omega arith)

  -- of them a filter is handed those in whose sets its place is
  handed_by_lem : (f : OpenedFilter) → handed_by f said written ≡ keep (λ x. is_in f.place (places_for own (table_of x) (places_of s))) result.sections
  handed_by_lem f = ap (picked f.place written.sets) sections ∙ picked_told f.place (λ x. places_for own (table_of x) (places_of s)) result.sections lent.sets

  handed_more : (f : OpenedFilter) → IsOpen f h → handed f (packet p lent said written ∷ h) ≡ through f.choice (completed (since f (packet p lent said written ∷ h)) (packets f.pid (packet p lent said written ∷ h)))
  handed_more f i = go (ℕ_discrete (filter_at s f.place).area own)
    where
      st : Stands s f
      st = stood w h l f i

      -- its place is in a section's set exactly if it stands on the packet's area and lets the section through
      bit : (b : Bool) → eqb (filter_at s f.place).area own ≡ b → (x : List ℕ) → is_in f.place (places_for own (table_of x) (places_of s)) ≡ (b && lets f.choice (table_of x))
      bit b e x =
          in_places s own (table_of x) f.place st.inside
          ∙ ap₂ (λ (c : Bool) (y : Choice). (c && eqb (filter_at s f.place).area own) && lets y (table_of x)) st.isopen st.choice
          ∙ ap (λ (c : Bool). c && lets f.choice (table_of x)) e

      before : handed f h ≡ through f.choice (completed (since f h) (packets f.pid h))
      before = handed_open f h i.kept (l.hands f i.opened)

      go : Dec ((filter_at s f.place).area ≡ own)
          → handed f (packet p lent said written ∷ h) ≡ through f.choice (completed (since f (packet p lent said written ∷ h)) (packets f.pid (packet p lent said written ∷ h)))
      go (yes e) =
          let same : pid_of p ≡ f.pid = sym mine.1 ∙ ap (λ (j : ℕ). (area_at s j).pid.0) (sym e) ∙ st.pid in
          let done = ap (λ (x : Outcome). x.sections) outcome_is ∙ ap (λ (q : ℕ). (rule (remembered (packets q h)) (packet_from p)).sections) same in
          rw (i.kept, eq-eqb (pid_of p) f.pid same)
          (ap₂ (λ (x y : List (List ℕ)). x ++ y) before (handed_by_lem f ∙ keep_same (bit true (eq-eqb (filter_at s f.place).area own e)) result.sections ∙ ap (through f.choice) done)
          ∙ sym (keep_append (λ x. lets f.choice (table_of x)) (completed (since f h) (packets f.pid h)) _)
          ∙ ap (through f.choice) (sym (completed_one (since f h) (packet_from p) (packets f.pid h))))
      go (no n) =
          let other : pid_of p ≡ f.pid → ⊥ = λ e. n (own_only (filter_at s f.place).area st.area st.used (e ∙ sym st.pid)) in
          let none : handed_by f said written ≡ [] = handed_by_lem f ∙ keep_same (bit false (ne_eqb (filter_at s f.place).area own n)) result.sections ∙ keep_none result.sections in
          rw (i.kept, ne_eqb (pid_of p) f.pid other) (ap (λ (x : List (List ℕ)). handed f h ++ x) none ∙ append-nil (handed f h) ∙ before)

  hands : (f : OpenedFilter) → opening_of f.number h ≡ Some f → Handed f (packet p lent said written ∷ h)
  hands f i = go (is_closed f.number h) refl
    where
      go : (b : Bool) → is_closed f.number h ≡ b → Handed f (packet p lent said written ∷ h)
      go true e = after_packet f h e (l.hands f i) p lent said written
      go false e = open_handed f (packet p lent said written ∷ h) e (handed_more f (record { opened = i; kept = e }))

  pub packet_ledger : Ledger after (packet p lent said written ∷ h)
  packet_ledger =
      record {
        whole = length-put w.store (area_start own) result.next.held inside ∙ l.whole;
        eight = length-set s.areas own area ∙ l.eight;
        places = l.places;
        clauses = handles_clauses s p w.store lent.out lent.sets l.eight k;
        codes = l.codes;
        balance = balance;
        numbers = l.numbers;
        given = l.given;
        ended = l.ended;
        stands = λ f i. l.stands f (before f i);
        known = known;
        seats = seats;
        busy_areas = busy_areas;
        remembers = remembers;
        counts = (ap length (sym sections), l.counts);
        hands = hands;
      }
    where
      before : (f : OpenedFilter) → IsOpen f (packet p lent said written ∷ h) → IsOpen f h
      before f i = record { opened = i.opened; kept = i.kept }
