-- Every call is answered by what was accepted before it: each test of the state is one of the history, by the ledger.
-- Assumes nothing.
use mathlib.Core.Path.{◌≡◌, refl, sym, ◌∙◌, ap, ap₂, fun_ext}
use mathlib.Core.Bool.{Bool, true, false, cond, not, ◌&&◌, ◌||◌, false≢true}
use mathlib.Core.List.{List, [], ◌∷◌, ◌++◌, map}
use Prim.Native.Nat.{ℕ, ◌+◌, ◌≤◌, ◌<◌}
use native.Mathlib.Nat.{zero-add}
use native.Mathlib.Decide.{ℕ_discrete, dec_lt, dec_le}
use native.Mathlib.Omega.{arith}
use borrow.Author.Tests.{eqb-true, eq-eqb, ne_eqb, lt-ltb, le-ltb, le-leb, lt-leb, ltb-true}
use lib.Dec.{eqb, ltb, leb}
use lib.ListN.{length, drop, get_or, length-map}
use Rattle.ground.specs.Answer.{refused, given}
use Rattle.std.specs.declared.option.Option.{Option}
use Rattle.std.specs.Prelude.{Some, None}
use Rattle.ground.specs.Refusal.{judge}
use Rattle.ground.specs.Set.{set_of}
use Rattle.ground.specs.Walk.{find}
use Rattle.ground.specs.Write.{put}
use Rattle.ground.proofs.Judged.{judge_seen}
use Rattle.ground.proofs.Test.{true_both}
use Rattle.ground.proofs.Set.{set_tests}
use Rattle.ground.proofs.Walk.{tests_same, find_tests, find_full, find_first, passes_inside}
use Rattle.packet.specs.Packet.{packet_refusals}
use Rattle.gather.specs.Rule.{Outcome, rule}
use Rattle.gather.specs.Kind.{join}
use Rattle.gather.specs.Memory.{state_of}
use Rattle.section.specs.Section.{table_of}
use Rattle.state.specs.State.{is_used, is_open, is_free, stands_on, area_of, place_of, area_start, free_place_of, free_filter}
use Rattle.state.specs.Choice.{lets, choice_of, places_of, free_place, is_for, places_for}
use Rattle.state.specs.declared.Choice.{Choice}
use Rattle.open_call.specs.Open.{AfterOpen, has_area, area_for, open_refusals, opened as opened_state, open_of}
use Rattle.close_call.specs.Close as close
use Rattle.close_call.specs.Close.{close_of}
use Rattle.packet_call.specs.Packet.{AfterPacket, unwanted, as_given, pid_of, packet_from, report, outcome, sets_for, put_back, first_refusals, last_refusals, after_reading, after_tests, packet_of}
use Rattle.state.specs.declared.Area.{Area}
use Rattle.state.specs.declared.Filter.{Filter}
use Rattle.state.specs.declared.State.{State}
use Rattle.sound.proofs.Clauses.{open_stands, used_inside}
use Rattle.state.proofs.Chosen.{placed_length, placed_at}
use Rattle.state.proofs.Found.{has_pid_lem, found_area, found_place}
use Rattle.runs.specs.Run.{Buffers, Call, open_call, close_call, packet_call, World, Event, open_event, close_event, packet_event, event, ours}
use Rattle.runs.specs.History.{OpenedFilter, AcceptedCall, opened, closed, packet, numbers_given, opening_of, is_on_for, is_closed, more_opens, standing, areas_taken, packets, remembered}
use Rattle.runs.specs.Answers.{is_absent, lowest_free, open_answer, is_given, close_answer, early_rows, late_rows, outcome_after, places_after, written, listed, filled, packet_answer, answer_to}
use Rattle.runs.proofs.Ledger.{area_at, filter_at, code_at, opening_at, seat_at, Ledger, stood, held_area, single, standing_long}
use Rattle.runs.proofs.Steps.{fine, agrees}

-- two maps that are the same map the same
pub map_same : {f g : List ℕ → ℕ} → ((x : List ℕ) → f x ≡ g x) → (l : List (List ℕ)) → map f l ≡ map g l
map_same each l = ap (λ (f : List ℕ → ℕ). map f l) (fun_ext each)

-- ---- tests of numbers
above_next : (a n : ℕ) → ltb a (n + 1) ≡ leb a n
above_next a n = go (dec_le a n)
  where
    go : Dec (a ≤ n) → ltb a (n + 1) ≡ leb a n
    go (yes b) = lt-ltb a (n + 1) (omega arith) ∙ sym (le-leb a n b)
    go (no m) = le-ltb a (n + 1) (omega arith) ∙ sym (lt-leb a n (omega arith))

-- the open that gave a number has it
own_number : (n : ℕ) (h : List AcceptedCall) (f : OpenedFilter) → opening_of n h ≡ Some f → f.number ≡ n
own_number n [] f e = let z : ◌≡◌ {A = ℕ} 0 1 = cc in absurd (omega arith)
own_number n (opened g ∷ h) f e = go (eqb g.number n) refl e (own_number n h f)
  where
    go : (b : Bool) → eqb g.number n ≡ b → cond b (Some g) (opening_of n h) ≡ Some f → (opening_of n h ≡ Some f → f.number ≡ n) → f.number ≡ n
    go true q s rest = let same : g ≡ f = cc in ap (λ (x : OpenedFilter). x.number) (sym same) ∙ eqb-true g.number n q
    go false q s rest = rest s
own_number n (closed m ∷ h) f e = own_number n h f e
own_number n (packet p lent r out ∷ h) f e = own_number n h f e

module _ (w : World) (h : List AcceptedCall) (l : Ledger w h) where
  abbrev s : State
  s = w.state

  -- ---- open
  -- a place is free exactly where nobody stands
  free_seat : (j : ℕ) → is_free (filter_at w.state j) ≡ is_absent (get_or (standing h) j None)
  free_seat j = go (eqb (filter_at s j).number 0) ∙ ap is_absent (sym (l.seats j))
    where
      go : (b : Bool) → b ≡ is_absent (cond (not b) (Some (opening_at w.state j)) None)
      go true = refl
      go false = refl

  lowest : free_place_of w.state.filters ≡ lowest_free h
  lowest =
      find_tests is_free s.filters
      ∙ ap (find (λ (b : Bool). b)) (tests_same is_free is_absent s.filters (standing h) free_filter None (l.places ∙ sym (standing_long h)) (λ j b. free_seat j))
      ∙ sym (find_tests is_absent (standing h))

  no_area : (pid : ℕ) → leb (length w.state.areas) (area_for pid w.state.areas) ≡ (not (more_opens pid h) && leb 8 (areas_taken h))
  no_area pid = go (has_area pid s.areas) refl ∙ ap (λ (b : Bool). not b && leb 8 (areas_taken h)) (held_area w h l pid)
    where
      go : (b : Bool) → has_area pid s.areas ≡ b → leb (length s.areas) (area_for pid s.areas) ≡ (not (has_area pid s.areas) && leb 8 (areas_taken h))
      go true e = rw e (lt-leb (length s.areas) (area_of pid s.areas) (ltb-true (area_of pid s.areas) (length s.areas) e))
      go false e = rw e (find_full (λ (a : Area). eqb a.users 0) s.areas ∙ ap₂ leb l.eight l.busy_areas)

  open_is : (pid : ℕ) (choice : Choice) → (open_of w.state pid choice).answer ≡ open_answer h pid choice
  unfolding open_of
  open_is pid choice =
      judge_seen (λ (o : AfterOpen). o.answer) (λ n. record { answer = refused n; state = s }) (open_refusals s pid choice)
      (record { answer = given (record { number = s.next; place = free_place_of s.filters }); state = opened_state s pid choice })
      ∙ rw (fine w h l, l.numbers, above_next 65535 (numbers_given h), l.places, lowest, no_area pid)

  -- ---- close
  not_given : (number : ℕ) → leb (length w.state.filters) (place_of number w.state.filters) ≡ not (is_given h number)
  not_given number = go (dec_lt (place_of number s.filters) (length s.filters))
    where
      given_one : (f : OpenedFilter) → opening_of number h ≡ Some f → is_closed number h ≡ false → is_given h number ≡ true
      given_one f e k = rw (e, k)

      none_given : (place_of number s.filters < length s.filters → ⊥) → (x : Option OpenedFilter) → opening_of number h ≡ x → (b : Bool) → is_closed number h ≡ b → (not (is_absent x) && not b) ≡ false
      none_given n None e b k = refl
      none_given n (Some f) e true k = refl
      none_given n (Some f) e false k =
          let is = own_number number h f e in
          let st = stood w h l f (record { opened = ap (λ (m : ℕ). opening_of m h) is ∙ e; kept = ap (λ (m : ℕ). is_closed m h) is ∙ k }) in
          let here = st.inside in
          absurd
          (false≢true
          (sym (find_first (λ (g : Filter). is_open g && eqb g.number number) s.filters free_filter f.place (omega arith))
          ∙ true_both (is_open (filter_at s f.place)) (eqb (filter_at s f.place).number number) st.isopen (eq-eqb (filter_at s f.place).number number (st.number ∙ is))))

      go : Dec (place_of number s.filters < length s.filters) → leb (length s.filters) (place_of number s.filters) ≡ not (is_given h number)
      go (yes b) =
          let f = found_place number s.filters b in
          let was = l.known (place_of number s.filters) b f.0 in
          lt-leb (length s.filters) (place_of number s.filters) b
          ∙ ap not (sym (given_one (opening_at s (place_of number s.filters)) (ap (λ (m : ℕ). opening_of m h) (sym f.1) ∙ was.opened) (ap (λ (m : ℕ). is_closed m h) (sym f.1) ∙ was.kept)))
      go (no n) =
          le-leb (length s.filters) (place_of number s.filters) (omega arith)
          ∙ ap not (sym (none_given n (opening_of number h) refl (is_closed number h) refl))

  close_is : (number : ℕ) → (close_of w.state number).answer ≡ close_answer h number
  unfolding close_of
  close_is number =
      judge_seen (λ (o : close.AfterClose). o.answer) (λ n. record { answer = refused n; state = s }) (close.close_refusals s number)
      (record { answer = given tt; state = close.without_filter s (place_of number s.filters) })
      ∙ rw (fine w h l, not_given number)

  -- ---- packet
  module _ (pid : ℕ) (b : area_of pid w.state.areas < length w.state.areas) where
    abbrev own : ℕ
    own = area_of pid s.areas

    mine : (is_used (area_at w.state (area_of pid w.state.areas)) ≡ true) × ((area_at w.state (area_of pid w.state.areas)).pid.0 ≡ pid)
    mine = found_area pid s.areas b

    -- a filter stands on the PID's area and lets a table_id through exactly where the open that it came of was of the PID and of such a choice
    stands_seat : (table j : ℕ) → (stands_on (area_of pid w.state.areas) (filter_at w.state j) && lets (choice_of (code_at w.state j)) table) ≡ is_on_for pid table (seat_at w.state j)
    stands_seat table j = go (is_open (filter_at s j)) refl
      where
        same : is_open (filter_at s j) ≡ true → Dec ((filter_at s j).area ≡ own) → eqb (filter_at s j).area own ≡ eqb (area_at s (filter_at s j).area).pid.0 pid
        same i (yes e) =
            eq-eqb (filter_at s j).area own e
            ∙ sym (eq-eqb (area_at s (filter_at s j).area).pid.0 pid (ap (λ (k : ℕ). (area_at s k).pid.0) e ∙ mine.1))
        same i (no n) =
            let used = open_stands s l.clauses j (passes_inside is_open s.filters j free_filter refl i) i in
            let inside = used_inside s.areas (filter_at s j).area used in
            ne_eqb (filter_at s j).area own n
            ∙ sym (ne_eqb (area_at s (filter_at s j).area).pid.0 pid (λ e. n (single w h l pid (filter_at s j).area own inside b (has_pid_lem pid (area_at s (filter_at s j).area) used e) (has_pid_lem pid (area_at s own) mine.0 mine.1))))

        go : (c : Bool) → is_open (filter_at s j) ≡ c → ((c && eqb (filter_at s j).area own) && lets (choice_of (code_at s j)) table) ≡ is_on_for pid table (cond c (Some (opening_at s j)) None)
        go true i = ap (λ (b : Bool). b && lets (choice_of (code_at s j)) table) (same i (ℕ_discrete (filter_at s j).area own))
        go false i = refl

    seat_for : (table j : ℕ) → j < length (places_of w.state) → is_for (area_of pid w.state.areas) table (get_or (places_of w.state) j free_place) ≡ is_on_for pid table (get_or (standing h) j None)
    seat_for table j b =
        ap (is_for own table) (placed_at s.filters s.choices j (rw (placed_length s.filters s.choices) at b))
        ∙ stands_seat table j
        ∙ ap (is_on_for pid table) (sym (l.seats j))

    pub places_are : (table : ℕ) → places_for (area_of pid w.state.areas) table (places_of w.state) ≡ places_after h pid table
    places_are table =
        set_tests (is_for own table) (places_of s)
        ∙ ap (set_of (λ (c : Bool). c))
        (tests_same (is_for own table) (is_on_for pid table) (places_of s) (standing h) free_place None (placed_length s.filters s.choices ∙ l.places ∙ sym (standing_long h)) (seat_for table))
        ∙ sym (set_tests (is_on_for pid table) (standing h))

    -- what the area remembers
    from : state_of (area_at w.state (area_of pid w.state.areas)).marks w.store (area_start (area_of pid w.state.areas)) ≡ remembered (packets pid h)
    from = l.remembers own b mine.0 ∙ ap (λ (q : ℕ). remembered (packets q h)) mine.1

  -- the sections joined, and then what was lent
  pub written_is : (o : Outcome) (lent : List ℕ) → put lent 0 (join o.sections) ≡ written o lent
  unfolding put
  written_is o lent = ap (λ (n : ℕ). join o.sections ++ drop n lent) (zero-add (length (join o.sections)))

  -- the sets of the sections, and then what was lent
  pub listed_is : (pid : ℕ) → area_of pid w.state.areas < length w.state.areas → (o : Outcome) (lent : List ℕ)
      → put lent 0 (sets_for (area_of pid w.state.areas) (places_of w.state) o.sections) ≡ listed h pid o lent
  unfolding put
  listed_is pid b o lent =
      ap₂ (λ (l : List ℕ) (n : ℕ). l ++ drop n lent) (map_same (λ x. places_are pid b (table_of x)) o.sections)
      (zero-add (length (sets_for (area_of pid s.areas) (places_of s) o.sections)) ∙ length-map o.sections _)

  module _ (p : List ℕ) (lent : Buffers) where
    abbrev home : ℕ
    home = area_of (pid_of p) s.areas

    abbrev see : AfterPacket → Event
    see o = packet_event p lent o.answer (record { out = o.out; sets = o.sets })

    abbrev refuse : ℕ → Event
    refuse n = packet_event p lent (refused n) lent

    abbrev takes : Event
    takes = packet_event p lent (given (report (outcome_after h p))) (filled h p lent)

    pub outcome_is : area_of (pid_of p) w.state.areas < length w.state.areas → outcome w.state (area_of (pid_of p) w.state.areas) p w.store ≡ outcome_after h p
    outcome_is b = ap (λ st. rule st (packet_from p)) (from (pid_of p) b)

    taken_is : home < length s.areas → see (put_back s home (outcome s home p w.store) w.store lent.out lent.sets) ≡ takes
    taken_is b =
        ap (λ (o : Outcome). packet_event p lent (given (report o)) (record { out = put lent.out 0 (join o.sections); sets = put lent.sets 0 (sets_for home (places_of s) o.sections) })) (outcome_is b)
        ∙ ap₂ (λ (x y : List ℕ). packet_event p lent (given (report (outcome_after h p))) (record { out = x; sets = y })) (written_is (outcome_after h p) lent.out) (listed_is (pid_of p) b (outcome_after h p) lent.sets)

    reading_is : see (after_reading s home p w.store lent.out lent.sets) ≡ cond (more_opens (pid_of p) h) (judge refuse (late_rows p) takes) (packet_event p lent (given unwanted) lent)
    reading_is = go (dec_lt home (length s.areas))
      where
        go : Dec (home < length s.areas) → see (after_reading s home p w.store lent.out lent.sets) ≡ cond (more_opens (pid_of p) h) (judge refuse (late_rows p) takes) (packet_event p lent (given unwanted) lent)
        go (yes b) =
            ap (λ (c : Bool). see (cond c (as_given s w.store lent.out lent.sets (given unwanted)) (after_tests s home p w.store lent.out lent.sets))) (lt-leb (length s.areas) home b)
            ∙ judge_seen see (λ n. as_given s w.store lent.out lent.sets (refused n)) (last_refusals s home p w.store) (put_back s home (outcome s home p w.store) w.store lent.out lent.sets)
            ∙ ap (λ (c : Bool). cond c (refuse 9) (judge refuse (late_rows p) (see (put_back s home (outcome s home p w.store) w.store lent.out lent.sets)))) (agrees w h l (pid_of p) b)
            ∙ ap (judge refuse (late_rows p)) (taken_is b)
            ∙ ap (λ (c : Bool). cond c (judge refuse (late_rows p) takes) (packet_event p lent (given unwanted) lent)) (sym (sym (held_area w h l (pid_of p)) ∙ lt-ltb home (length s.areas) b))
        go (no n) =
            ap (λ (c : Bool). see (cond c (as_given s w.store lent.out lent.sets (given unwanted)) (after_tests s home p w.store lent.out lent.sets))) (le-leb (length s.areas) home (omega arith))
            ∙ ap (λ (c : Bool). cond c (judge refuse (late_rows p) takes) (packet_event p lent (given unwanted) lent))
            (sym (sym (held_area w h l (pid_of p)) ∙ le-ltb home (length s.areas) (omega arith)))

    packet_is : event ours w (packet_call p lent) ≡ packet_answer h p lent
    unfolding packet_of
    packet_is =
        judge_seen see (λ n. as_given s w.store lent.out lent.sets (refused n)) (first_refusals s p w.store lent.out lent.sets) (after_reading s home p w.store lent.out lent.sets)
        ∙ ap₂ (λ (b c : Bool). cond (not b) (refuse 1) (cond (not c || ltb (length lent.out) 4278 || ltb (length lent.sets) 61) (refuse 3) (judge refuse (packet_refusals p) (see (after_reading s home p w.store lent.out lent.sets)))))
        (fine w h l) (eq-eqb (length w.store) 32768 l.whole)
        ∙ ap (judge refuse (early_rows p lent)) reading_is

  -- ---- any call
  pub answers : (c : Call) → event ours w c ≡ answer_to h c
  answers (open_call pid choice) = ap (open_event pid choice) (open_is pid choice)
  answers (close_call number) = ap (close_event number) (close_is number)
  answers (packet_call p lent) = packet_is p lent
