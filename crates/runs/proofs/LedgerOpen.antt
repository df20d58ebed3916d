-- An accepted open keeps the ledger: one user more on the PID's area, which is blank where it was free, and a number that none had.
-- Assumes nothing.
use mathlib.Core.Path.{◌≡◌, refl, sym, ◌∙◌, ap, ap₂, subst}
use mathlib.Core.Bool.{Bool, true, false, cond, not, ◌&&◌, false≢true}
use mathlib.Core.List.{List, [], ◌∷◌}
use Prim.Native.Nat.{ℕ, ◌+◌, ◌≤◌, ◌<◌}
use native.Mathlib.Decide.{ℕ_discrete}
use native.Mathlib.Omega.{arith}
use borrow.Author.Tests.{eqb-true, eq-eqb, ne_eqb, lt-ltb, le-ltb, not-false}
use lib.Dec.{eqb}
use lib.ListN.{length, get_or, set, length-set}
use lib.Seq.{get_or-set_same, get_or-set_other}
use Rattle.ground.specs.Walk.{total, count}
use Rattle.ground.proofs.Walk.{total-set, total_none, find_passes, passes_inside, all_at}
use Rattle.std.specs.Prelude.{Some, None}
use Rattle.gather.specs.Rule.{blank}
use Rattle.gather.specs.Memory.{state_of}
use Rattle.gather.specs.declared.Marks.{Marks}
use Rattle.state.specs.State.{is_used, is_open, is_free, area_start, free_place_of, free_area, free_filter}
use Rattle.sound.specs.Sound.{sound_area}
use Rattle.open_call.specs.Open.{area_for, with_user, opened as opened_state}
use Rattle.state.specs.Choice.{through, code_of, choice_of}
use Rattle.state.specs.declared.Area.{Area}
use Rattle.state.specs.declared.Choice.{Choice}
use Rattle.state.specs.declared.Filter.{Filter}
use Rattle.state.specs.declared.State.{State}
use Rattle.sound.proofs.Clauses.{free_marks, open_stands}
use Rattle.open_call.proofs.OpenStaysSound.{ForPid, own, new, for_pid, others}
use Rattle.state.proofs.Chosen.{choice_back}
use Rattle.state.proofs.Found.{found_area}
use Rattle.driver.proofs.Cases.{Opens}
use Rattle.driver.proofs.StaysSound.{opens_clauses}
use Rattle.runs.specs.Run.{World}
use Rattle.runs.specs.History.{OpenedFilter, AcceptedCall, opened, opens, closes, opening_of, is_closed, more_opens, standing, areas_taken, packets, since, remembered, completed}
use Rattle.runs.proofs.AsRun.{remembered_none, completed_none}
use Rattle.runs.proofs.Ledger.{users_of, area_at, filter_at, code_at, opening_at, seat_at, IsOpen, Handed, Ledger, open_handed, handed_open, after_open, stood, busy, not_taken, still_taken, standing_long}

-- ---- the area that is taken
-- where it is used it has the PID
owned : (pid : ℕ) (areas : List Area) {i : ℕ} → ForPid pid areas i → i < length areas → is_used (get_or areas i free_area) ≡ true → (get_or areas i free_area).pid.0 ≡ pid
owned pid areas (own b) h u = (found_area pid areas b).1
owned pid areas (new b) h u =
    absurd (false≢true (sym (ap not (find_passes (λ a. eqb a.users 0) areas free_area h)) ∙ u))

-- it has one user more
with_user_users : (pid q : ℕ) (a : Area) → (is_used a ≡ true → a.pid.0 ≡ pid) → users_of q (with_user pid a) ≡ users_of q a + cond (eqb pid q) 1 0
with_user_users pid q a owns = go (is_used a) refl
  where
    used : is_used (with_user pid a) ≡ true
    used = ap not (ne_eqb (a.users + 1) 0 (omega arith))

    both : (b : Bool) → cond b (a.users + 1) 0 ≡ cond b a.users 0 + cond b 1 0
    both true = refl
    both false = refl

    one : (b : Bool) → a.users ≡ 0 → cond b (a.users + 1) 0 ≡ 0 + cond b 1 0
    one true z = omega arith
    one false z = refl

    go : (u : Bool) → is_used a ≡ u → users_of q (with_user pid a) ≡ users_of q a + cond (eqb pid q) 1 0
    go true u = rw (used, u, owns u) (both (eqb pid q))
    go false u = rw (used, u) (one (eqb pid q) (eqb-true a.users 0 (not-false (eqb a.users 0) u)))

-- a sound area without users is blank
free_blank : (a : Area) (store : List ℕ) (base : ℕ) → sound_area a ≡ true → is_used a ≡ false → state_of a.marks store base ≡ blank
free_blank a store base e u = ap (λ (m : Marks). state_of m store base) (free_marks a e u)

-- ---- the ledger
module _ (w : World) (h : List AcceptedCall) (l : Ledger w h) (pid : ℕ) (choice : Choice) (o : Opens w.state pid choice) where
  abbrev s : State
  s = w.state

  abbrev a : ℕ
  a = area_for pid s.areas

  abbrev p : ℕ
  p = free_place_of s.filters

  abbrev fresh : OpenedFilter
  fresh = record { number = s.next; pid = pid; choice = choice; place = p }

  abbrev area : Area
  area = with_user pid (area_at s a)

  abbrev filter : Filter
  filter = record { number = s.next; area = a }

  abbrev after : World
  after = record { state = opened_state s pid choice; store = w.store }

  owns : is_used (area_at s a) ≡ true → (area_at s a).pid.0 ≡ pid
  owns = owned pid s.areas (for_pid pid s.areas) o.area

  free : (filter_at s p).number ≡ 0
  free = eqb-true (filter_at s p).number 0 (find_passes is_free s.filters free_filter o.place)

  balance : (q : ℕ) → total (users_of q) (set s.areas a area) + closes q h ≡ cond (eqb pid q) 1 0 + opens q h
  balance q =
      let e = total-set (users_of q) s.areas a area free_area o.area in
      let j = with_user_users pid q (area_at s a) owns in
      let b = l.balance q in
      omega arith

  given : (number : ℕ) (f : OpenedFilter) → opening_of number (opened fresh ∷ h) ≡ Some f → (1 ≤ number) × (number < s.next + 1)
  given number f e = go (ℕ_discrete s.next number)
    where
      go : Dec (s.next ≡ number) → (1 ≤ number) × (number < s.next + 1)
      go (yes r) = let one = l.clauses.from in (omega arith, omega arith)
      go (no n) = let b = l.given number f (rw (ne_eqb s.next number n) at e) in (b.0, let c = b.1 in omega arith)

  -- who was open before
  before : (f : OpenedFilter) → IsOpen f (opened fresh ∷ h) → (s.next ≡ f.number → ⊥) → IsOpen f h
  before f i n = record { opened = rw (ne_eqb s.next f.number n) at i.opened; kept = i.kept }

  stands : (f : OpenedFilter) → IsOpen f (opened fresh ∷ h) → (f.place < length (set s.filters p filter)) × ((get_or (set s.filters p filter) f.place free_filter).number ≡ f.number)
  stands f i = go (ℕ_discrete s.next f.number)
    where
      go : Dec (s.next ≡ f.number) → (f.place < length (set s.filters p filter)) × ((get_or (set s.filters p filter) f.place free_filter).number ≡ f.number)
      go (yes r) =
          let e : Some fresh ≡ Some f = rw (eq-eqb s.next f.number r) at i.opened in
          let place : p ≡ f.place = cc in
          rw (← place)
          (rw length-set o.place, ap (λ (g : Filter). g.number) (get_or-set_same s.filters p filter free_filter o.place) ∙ r)
      go (no n) =
          let st = stood w h l f (before f i n) in
          let range = l.given f.number f (before f i n).opened in
          let else : f.place ≡ p → ⊥ = λ e. other (ap (λ (j : ℕ). (filter_at s j).number) e ∙ free) st.number range.0 in
          (rw length-set st.inside, ap (λ (g : Filter). g.number) (get_or-set_other s.filters p f.place filter free_filter else) ∙ st.number)
        where
          other : {m n : ℕ} → m ≡ 0 → m ≡ n → 1 ≤ n → ⊥
          other z e b = omega arith

  -- a number above all others was not closed
  unclosed : is_closed s.next h ≡ false
  unclosed = go (is_closed s.next h) refl
    where
      go : (b : Bool) → is_closed s.next h ≡ b → b ≡ false
      go false e = refl
      go true e = let b = l.ended s.next e in absurd (omega arith)

  -- the PID of a used area is as before
  same_pid_lem : (i : ℕ) → is_used (area_at s i) ≡ true → (get_or (set s.areas a area) i free_area).pid.0 ≡ (area_at s i).pid.0
  same_pid_lem i u = go (ℕ_discrete i a)
    where
      go : Dec (i ≡ a) → (get_or (set s.areas a area) i free_area).pid.0 ≡ (area_at s i).pid.0
      go (yes e) =
          let u' : is_used (area_at s a) ≡ true = ap (λ (j : ℕ). is_used (area_at s j)) (sym e) ∙ u in
          ap (λ (j : ℕ). (get_or (set s.areas a area) j free_area).pid.0) e
          ∙ ap (λ (x : Area). x.pid.0) (get_or-set_same s.areas a area free_area o.area)
          ∙ sym (owns u')
          ∙ ap (λ (j : ℕ). (area_at s j).pid.0) (sym e)
      go (no n) = ap (λ (x : Area). x.pid.0) (get_or-set_other s.areas a i area free_area n)

  -- where the area was free the PID had no users
  none : is_used (area_at s a) ≡ false → opens pid h ≡ closes pid h
  none u =
      let z = total_none (users_of pid) s.areas free_area each in
      let b = l.balance pid in
      omega arith
    where
      each : (j : ℕ) → j < length s.areas → users_of pid (area_at s j) ≡ 0
      each j b = go (ℕ_discrete j a)
        where
          go : Dec (j ≡ a) → users_of pid (area_at s j) ≡ 0
          go (yes e) = rw (e, u)
          go (no n) = rw (others pid s.areas (for_pid pid s.areas) l.clauses.pids j b n)

  -- who stands at the place that was taken, and elsewhere
  new_filter : get_or (set s.filters p filter) p free_filter ≡ filter
  new_filter = get_or-set_same s.filters p filter free_filter o.place

  new_choice : choice_of (get_or (set s.choices p (code_of choice)) p 0) ≡ choice
  new_choice =
      let long = l.codes in
      let many = l.places in
      let low = o.place in
      ap choice_of (get_or-set_same s.choices p (code_of choice) 0 (omega arith)) ∙ choice_back choice

  new_opening : opening_at (opened_state s pid choice) p ≡ fresh
  new_opening =
      ap₂ (λ (g : Filter) (x : Choice). record { number = g.number; pid = (get_or (set s.areas a area) g.area free_area).pid.0; choice = x; place = p }) new_filter new_choice
      ∙ ap (λ (x : Area). record { number = s.next; pid = x.pid.0; choice = choice; place = p }) (get_or-set_same s.areas a area free_area o.area)

  old_filter : (j : ℕ) → (j ≡ p → ⊥) → get_or (set s.filters p filter) j free_filter ≡ filter_at s j
  old_filter j n = get_or-set_other s.filters p j filter free_filter n

  old_opening : (j : ℕ) → (j ≡ p → ⊥) → j < length s.filters → is_open (filter_at s j) ≡ true → opening_at (opened_state s pid choice) j ≡ opening_at s j
  old_opening j n b i =
      ap₂ (λ (g : Filter) (x : ℕ). record { number = g.number; pid = (get_or (set s.areas a area) g.area free_area).pid.0; choice = choice_of x; place = j }) (old_filter j n)
      (get_or-set_other s.choices p j (code_of choice) 0 n)
      ∙ ap (λ (q : ℕ). record { number = (filter_at s j).number; pid = q; choice = choice_of (code_at s j); place = j }) (same_pid_lem (filter_at s j).area (open_stands s l.clauses j b i))

  known : (j : ℕ) → j < length (set s.filters p filter) → is_open (get_or (set s.filters p filter) j free_filter) ≡ true → IsOpen (opening_at (opened_state s pid choice) j) (opened fresh ∷ h)
  known j b i = go (ℕ_discrete j p)
    where
      go : Dec (j ≡ p) → IsOpen (opening_at (opened_state s pid choice) j) (opened fresh ∷ h)
      go (yes e) = rw (e, new_opening) (record { opened = rw (eq-eqb s.next s.next refl); kept = unclosed })
      go (no n) =
          let inside : j < length s.filters = rw length-set at b in
          let still : is_open (filter_at s j) ≡ true = ap is_open (sym (old_filter j n)) ∙ i in
          let was : IsOpen (opening_at s j) h = l.known j inside still in
          let range = l.given (filter_at s j).number (opening_at s j) was.opened in
          rw (old_opening j n inside still)
          (record { opened = rw (ne_eqb s.next (filter_at s j).number (λ e. above e range.1)) was.opened; kept = was.kept })
        where
          above : {m k : ℕ} → m ≡ k → k < m → ⊥
          above e b = omega arith

  seats : (j : ℕ) → get_or (set (standing h) p (Some fresh)) j None ≡ seat_at (opened_state s pid choice) j
  seats j = go (ℕ_discrete j p)
    where
      open_now : is_open filter ≡ true
      open_now = let one = l.clauses.from in ap not (ne_eqb s.next 0 (λ e. omega arith))

      elsewhere : (j ≡ p → ⊥) → (b : Bool) → is_open (filter_at s j) ≡ b → cond b (Some (opening_at s j)) None ≡ cond b (Some (opening_at (opened_state s pid choice) j)) None
      elsewhere n true i = ap (λ (f : OpenedFilter). Some f) (sym (old_opening j n (passes_inside is_open s.filters j free_filter refl i) i))
      elsewhere n false i = refl

      go : Dec (j ≡ p) → get_or (set (standing h) p (Some fresh)) j None ≡ seat_at (opened_state s pid choice) j
      go (yes e) =
          let long = standing_long h in
          let many = l.places in
          let low = o.place in
          ap (λ (k : ℕ). get_or (set (standing h) p (Some fresh)) k None) e
          ∙ get_or-set_same (standing h) p (Some fresh) None (omega arith)
          ∙ ap (λ (f : OpenedFilter). Some f) (sym new_opening)
          ∙ ap (λ (b : Bool). cond b (Some (opening_at (opened_state s pid choice) p)) None) (sym (ap is_open new_filter ∙ open_now))
          ∙ ap (seat_at (opened_state s pid choice)) (sym e)
      go (no n) =
          get_or-set_other (standing h) p j (Some fresh) None n
          ∙ l.seats j
          ∙ elsewhere n (is_open (filter_at s j)) refl
          ∙ ap (λ (g : Filter). cond (is_open g) (Some (opening_at (opened_state s pid choice) j)) None) (sym (old_filter j n))

  -- an area more is used exactly where the PID had none
  busy_areas : count is_used (set s.areas a area) ≡ areas_taken h + cond (more_opens pid h) 0 1
  busy_areas = go (is_used (area_at s a)) refl
    where
      sum : count is_used (set s.areas a area) + cond (is_used (area_at s a)) 1 0 ≡ count is_used s.areas + cond (is_used area) 1 0
      sum = total-set (λ (x : Area). cond (is_used x) 1 0) s.areas a area free_area o.area

      one : ◌≡◌ {A = ℕ} (cond (is_used area) 1 0) 1
      one = ap (λ (b : Bool). cond b 1 0) (ap not (ne_eqb ((area_at s a).users + 1) 0 (omega arith)))

      go : (u : Bool) → is_used (area_at s a) ≡ u → count is_used (set s.areas a area) ≡ areas_taken h + cond (more_opens pid h) 0 1
      go true u =
          let some = busy w h l a pid o.area u (owns u) in
          let even = l.balance pid in
          let was : ◌≡◌ {A = ℕ} (cond (is_used (area_at s a)) 1 0) 1 = ap (λ (b : Bool). cond b 1 0) u in
          let has : ◌≡◌ {A = ℕ} (cond (more_opens pid h) 0 1) 0 = ap (λ (b : Bool). cond b 0 1) (lt-ltb (closes pid h) (opens pid h) (omega arith)) in
          let same = l.busy_areas in
          omega (arith, sum, one)
      go false u =
          let even = none u in
          let was : ◌≡◌ {A = ℕ} (cond (is_used (area_at s a)) 1 0) 0 = ap (λ (b : Bool). cond b 1 0) u in
          let has : ◌≡◌ {A = ℕ} (cond (more_opens pid h) 0 1) 1 = ap (λ (b : Bool). cond b 0 1) (le-ltb (closes pid h) (opens pid h) (omega arith)) in
          let same = l.busy_areas in
          omega (arith, sum, one)

  remembers : (i : ℕ) → i < length (set s.areas a area) → is_used (get_or (set s.areas a area) i free_area) ≡ true
      → state_of (get_or (set s.areas a area) i free_area).marks w.store (area_start i) ≡ remembered (packets (get_or (set s.areas a area) i free_area).pid.0 (opened fresh ∷ h))
  remembers i b u = go (ℕ_discrete i a)
    where
      here : (v : Bool) → is_used (area_at s a) ≡ v → state_of (area_at s a).marks w.store (area_start a) ≡ remembered (packets pid (opened fresh ∷ h))
      here true v =
          l.remembers a o.area v
          ∙ ap remembered (ap (λ (q : ℕ). packets q h) (owns v) ∙ sym (not_taken w h l pid fresh (busy w h l a pid o.area v (owns v))))
      here false v =
          free_blank (area_at s a) w.store (area_start a) (all_at sound_area s.areas free_area l.clauses.areas a o.area) v
          ∙ sym remembered_none
          ∙ sym (ap remembered (ap₂ (λ (c d : Bool). cond (c && d) [] (packets pid h)) (eq-eqb pid pid refl) (eq-eqb (opens pid h) (closes pid h) (none v))))

      go : Dec (i ≡ a) → state_of (get_or (set s.areas a area) i free_area).marks w.store (area_start i) ≡ remembered (packets (get_or (set s.areas a area) i free_area).pid.0 (opened fresh ∷ h))
      go (yes e) =
          let at : get_or (set s.areas a area) i free_area ≡ area = ap (λ (j : ℕ). get_or (set s.areas a area) j free_area) e ∙ get_or-set_same s.areas a area free_area o.area in
          subst (λ (x : Area). state_of x.marks w.store (area_start i) ≡ remembered (packets x.pid.0 (opened fresh ∷ h))) (sym at)
          (subst (λ (j : ℕ). state_of area.marks w.store (area_start j) ≡ remembered (packets area.pid.0 (opened fresh ∷ h))) (sym e) (here (is_used (area_at s a)) refl))
      go (no n) =
          let same = get_or-set_other s.areas a i area free_area n in
          let was : is_used (area_at s i) ≡ true = ap is_used (sym same) ∙ u in
          let inside : i < length s.areas = rw length-set at b in
          subst (λ (x : Area). state_of x.marks w.store (area_start i) ≡ remembered (packets x.pid.0 (opened fresh ∷ h))) (sym same)
          (l.remembers i inside was ∙ ap remembered (sym (not_taken w h l (area_at s i).pid.0 fresh (busy w h l i (area_at s i).pid.0 inside was refl))))

  hands : (f : OpenedFilter) → opening_of f.number (opened fresh ∷ h) ≡ Some f → Handed f (opened fresh ∷ h)
  hands f i = go (ℕ_discrete s.next f.number)
    where
      -- a filter that was there before
      old : (s.next ≡ f.number → ⊥) → (b : Bool) → is_closed f.number h ≡ b → Handed f (opened fresh ∷ h)
      old n true k = after_open f h k (l.hands f (rw (ne_eqb s.next f.number n) at i)) fresh n
      old n false k =
          let was : IsOpen f h = before f (record { opened = i; kept = k }) n in
          open_handed f (opened fresh ∷ h) k
          (rw (ne_eqb s.next f.number n)
          (handed_open f h k (l.hands f was.opened) ∙ ap (λ ps. through f.choice (completed (since f h) ps)) (sym (still_taken w h l f fresh was))))

      go : Dec (s.next ≡ f.number) → Handed f (opened fresh ∷ h)
      go (yes r) =
          open_handed f (opened fresh ∷ h) (ap (λ (n : ℕ). is_closed n h) (sym r) ∙ unclosed)
          (rw (eq-eqb s.next f.number r) (ap (through f.choice) (sym (completed_none (packets f.pid (opened fresh ∷ h))))))
      go (no n) = old n (is_closed f.number h) refl

  pub open_ledger : Ledger after (opened fresh ∷ h)
  open_ledger =
      record {
        whole = l.whole;
        eight = length-set s.areas a area ∙ l.eight;
        places = length-set s.filters p filter ∙ l.places;
        codes = length-set s.choices p (code_of choice) ∙ l.codes;
        clauses = opens_clauses s pid choice o;
        balance = balance;
        numbers = ap (λ (n : ℕ). n + 1) l.numbers;
        given = given;
        ended = λ number e. let b = l.ended number e in omega arith;
        stands = stands;
        known = known;
        seats = seats;
        busy_areas = busy_areas;
        remembers = remembers;
        counts = (tt, l.counts);
        hands = hands;
      }
