-- An accepted close keeps the ledger: one user less on the filter's area, which is forgotten with its last user and no sooner.
-- Assumes nothing.
use mathlib.Core.Path.{◌≡◌, refl, sym, ◌∙◌, ap, ap₂}
use mathlib.Core.Bool.{Bool, true, false, cond, ◌||◌, false≢true}
use mathlib.Core.List.{List, ◌∷◌}
use Prim.Native.Nat.{ℕ, ◌+◌, ◌-◌, ◌<◌}
use native.Mathlib.Decide.{ℕ_discrete}
use native.Mathlib.Omega.{arith}
use borrow.Author.Tests.{eqb-false, eq-eqb, ne_eqb, lt-ltb, le-ltb}
use lib.Dec.{eqb, ltb}
use lib.ListN.{length, get_or, set, length-set, get_or-map}
use lib.Seq.{get_or-set_same, get_or-set_other}
use Rattle.ground.specs.Walk.{total, count}
use Rattle.ground.proofs.Walk.{total-set, passes_inside}
use Rattle.std.specs.declared.option.Option.{Option}
use Rattle.std.specs.Prelude.{Some, None}
use Rattle.gather.specs.Memory.{state_of}
use Rattle.state.specs.State.{is_used, is_open, area_start, place_of, free_area, free_filter}
use Rattle.close_call.specs.Close.{without_user, without_filter}
use Rattle.state.specs.Choice.{choice_of}
use Rattle.state.specs.declared.Area.{Area}
use Rattle.state.specs.declared.Filter.{Filter}
use Rattle.state.specs.declared.State.{State}
use Rattle.sound.proofs.Clauses.{open_stands, used_inside, used_some}
use Rattle.state.proofs.Found.{found_place}
use Rattle.driver.proofs.Cases.{Closes}
use Rattle.ground.proofs.Test.{neither}
use Rattle.driver.proofs.StaysSound.{closes_clauses}
use Rattle.runs.specs.Run.{World}
use Rattle.runs.specs.History.{OpenedFilter, AcceptedCall, closed, opens, closes, is_on, is_last, opening_of, is_closed, more_opens, unless, standing, areas_taken, packets, remembered}
use Rattle.runs.proofs.Ledger.{users_of, area_at, filter_at, code_at, opening_at, seat_at, same_there, IsOpen, Handed, Ledger, open_handed, handed_open, after_close, stood, users}

-- the area has one user less
without_user_users : (q : ℕ) (a : Area) → is_used a ≡ true → users_of q (without_user a) + cond (eqb a.pid.0 q) 1 0 ≡ users_of q a
without_user_users q a u = go (ℕ_discrete a.users 1) (used_some a u)
  where
    last : (b : Bool) → a.users ≡ 1 → 0 + cond b 1 0 ≡ cond b a.users 0
    last true e = omega arith
    last false e = refl

    more : (b : Bool) → 0 < a.users → cond b (a.users - 1) 0 + cond b 1 0 ≡ cond b a.users 0
    more true e = omega arith
    more false e = refl

    go : Dec (a.users ≡ 1) → 0 < a.users → users_of q (without_user a) + cond (eqb a.pid.0 q) 1 0 ≡ users_of q a
    go (yes e) some = rw (eq-eqb a.users 1 e, u) (last (eqb a.pid.0 q) e)
    go (no n) some = rw (ne_eqb a.users 1 n, ne_eqb (a.users - 1) 0 (omega arith), u) (more (eqb a.pid.0 q) some)

-- where it is used still, it is the same but for its users
without_user_keeps : (a : Area) → is_used (without_user a) ≡ true → without_user a ≡ record { pid = a.pid; users = a.users - 1; marks = a.marks }
without_user_keeps a u = go (ℕ_discrete a.users 1)
  where
    go : Dec (a.users ≡ 1) → without_user a ≡ record { pid = a.pid; users = a.users - 1; marks = a.marks }
    go (yes e) = absurd (false≢true (rw (eq-eqb a.users 1 e) at u))
    go (no n) = rw (ne_eqb a.users 1 n)

module _ (w : World) (h : List AcceptedCall) (l : Ledger w h) (number : ℕ) (c : Closes w.state number) where
  abbrev s : State
  s = w.state

  abbrev p : ℕ
  p = place_of number s.filters

  abbrev a : ℕ
  a = (filter_at s p).area

  abbrev area : Area
  area = without_user (area_at s a)

  abbrev after : World
  after = record { state = without_filter s p; store = w.store }

  isopen : is_open (filter_at s p) ≡ true
  isopen = (found_place number s.filters c.place).0

  used : is_used (area_at s a) ≡ true
  used = open_stands s l.clauses p c.place isopen

  inside : a < length s.areas
  inside = used_inside s.areas a used

  -- the open that gave the number
  came : opening_of number h ≡ Some (opening_at s p)
  came = ap (λ (n : ℕ). opening_of n h) (sym (found_place number s.filters c.place).1) ∙ (l.known p c.place isopen).opened

  balance : (q : ℕ) → total (users_of q) (set s.areas a area) + (cond (is_on q (opening_of number h)) 1 0 + closes q h) ≡ opens q h
  balance q =
      let e = total-set (users_of q) s.areas a area free_area inside in
      let less = without_user_users q (area_at s a) used in
      let b = l.balance q in
      let on : ◌≡◌ {A = ℕ} (cond (is_on q (opening_of number h)) 1 0) (cond (eqb (area_at s a).pid.0 q) 1 0) = ap (λ x. cond (is_on q x) 1 0) came in
      omega arith

  ended : (n : ℕ) → (eqb number n || is_closed n h) ≡ true → n < s.next
  ended n e = go (ℕ_discrete number n)
    where
      go : Dec (number ≡ n) → n < s.next
      go (yes r) = rw (← r) (l.given number (opening_at s p) came).1
      go (no m) = l.ended n (rw (ne_eqb number n m) at e)

  -- who is open still was open before and is another
  before : (f : OpenedFilter) → IsOpen f (closed number ∷ h) → IsOpen f h × (number ≡ f.number → ⊥)
  before f i =
      let parts = neither (eqb number f.number) (is_closed f.number h) i.kept in
      (record { opened = i.opened; kept = parts.1 }, eqb-false number f.number parts.0)

  stands : (f : OpenedFilter) → IsOpen f (closed number ∷ h) → (f.place < length (set s.filters p free_filter)) × ((get_or (set s.filters p free_filter) f.place free_filter).number ≡ f.number)
  stands f i =
      let b = before f i in
      let st = stood w h l f b.0 in
      let else : f.place ≡ p → ⊥ = λ e. b.1 (sym (found_place number s.filters c.place).1 ∙ ap (λ (j : ℕ). (filter_at s j).number) (sym e) ∙ st.number) in
      (rw length-set st.inside, ap (λ (g : Filter). g.number) (get_or-set_other s.filters p f.place free_filter free_filter else) ∙ st.number)

  -- an area that is used still has its PID and marks
  same_area : (i : ℕ) → is_used (get_or (set s.areas a area) i free_area) ≡ true
      → ((get_or (set s.areas a area) i free_area).pid ≡ (area_at s i).pid) × ((get_or (set s.areas a area) i free_area).marks ≡ (area_at s i).marks) × (is_used (area_at s i) ≡ true)
  same_area i u = go (ℕ_discrete i a)
    where
      go : Dec (i ≡ a) → ((get_or (set s.areas a area) i free_area).pid ≡ (area_at s i).pid) × ((get_or (set s.areas a area) i free_area).marks ≡ (area_at s i).marks) × (is_used (area_at s i) ≡ true)
      go (yes e) =
          let at = get_or-set_same s.areas a area free_area inside in
          let u' : is_used area ≡ true = ap is_used (sym at) ∙ ap (λ (j : ℕ). is_used (get_or (set s.areas a area) j free_area)) (sym e) ∙ u in
          let same = at ∙ without_user_keeps (area_at s a) u' in
          rw e (ap (λ (x : Area). x.pid) same, ap (λ (x : Area). x.marks) same, used)
      go (no n) =
          let same = get_or-set_other s.areas a i area free_area n in
          (ap (λ (x : Area). x.pid) same, ap (λ (x : Area). x.marks) same, ap is_used (sym same) ∙ u)

  -- who stands at another place
  old_filter : (j : ℕ) → (j ≡ p → ⊥) → get_or (set s.filters p free_filter) j free_filter ≡ filter_at s j
  old_filter j n = get_or-set_other s.filters p j free_filter free_filter n

  old_opening : (j : ℕ) → (j ≡ p → ⊥) → j < length s.filters → is_open (filter_at s j) ≡ true → opening_at (without_filter s p) j ≡ opening_at s j
  old_opening j n b i =
      ap₂ (λ (g : Filter) (x : ℕ). record { number = g.number; pid = (get_or (set s.areas a area) g.area free_area).pid.0; choice = choice_of x; place = j }) (old_filter j n)
      (get_or-set_other s.choices p j 0 0 n)
      ∙ ap (λ q. record { number = (filter_at s j).number; pid = q.0; choice = choice_of (code_at s j); place = j }) (same_area (filter_at s j).area used_still).0
    where
      used_still : is_used (get_or (set s.areas a area) (filter_at s j).area free_area) ≡ true
      used_still =
          rw (old_filter j n) at
          (open_stands (without_filter s p) (closes_clauses s number c) j (rw length-set b) (ap is_open (old_filter j n) ∙ i))

  -- and it has another number
  other_number : (j : ℕ) → (j ≡ p → ⊥) → j < length s.filters → is_open (filter_at s j) ≡ true → number ≡ (filter_at s j).number → ⊥
  other_number j n b i e = n (same_place (sym (l.known j b i).opened ∙ ap (λ (k : ℕ). opening_of k h) (sym e) ∙ came))
    where
      same_place : Some (opening_at s j) ≡ Some (opening_at s p) → j ≡ p
      same_place q = ap (λ (f : OpenedFilter). f.place) (same_there q)

  freed : get_or (set s.filters p free_filter) p free_filter ≡ free_filter
  freed = get_or-set_same s.filters p free_filter free_filter c.place

  known : (j : ℕ) → j < length (set s.filters p free_filter) → is_open (get_or (set s.filters p free_filter) j free_filter) ≡ true → IsOpen (opening_at (without_filter s p) j) (closed number ∷ h)
  known j b i = go (ℕ_discrete j p)
    where
      go : Dec (j ≡ p) → IsOpen (opening_at (without_filter s p) j) (closed number ∷ h)
      go (yes e) = absurd (false≢true (ap is_open (sym freed) ∙ ap (λ (k : ℕ). is_open (get_or (set s.filters p free_filter) k free_filter)) (sym e) ∙ i))
      go (no n) =
          let within : j < length s.filters = rw length-set at b in
          let open_there : is_open (filter_at s j) ≡ true = ap is_open (sym (old_filter j n)) ∙ i in
          let was : IsOpen (opening_at s j) h = l.known j within open_there in
          rw (old_opening j n within open_there)
          (record { opened = was.opened; kept = rw (ne_eqb number (filter_at s j).number (other_number j n within open_there)) was.kept })

  seats : (j : ℕ) → get_or (standing (closed number ∷ h)) j None ≡ seat_at (without_filter s p) j
  seats j = get_or-map (unless number) (standing h) j None ∙ ap (unless number) (l.seats j) ∙ go (ℕ_discrete j p)
    where
      elsewhere : (j ≡ p → ⊥) → (b : Bool) → is_open (filter_at s j) ≡ b
          → unless number (cond b (Some (opening_at s j)) None) ≡ cond b (Some (opening_at (without_filter s p) j)) None
      elsewhere n true i =
          let within = passes_inside is_open s.filters j free_filter refl i in
          rw (ne_eqb (filter_at s j).number number (λ e. other_number j n within i (sym e))) (ap (λ (f : OpenedFilter). Some f) (sym (old_opening j n within i)))
      elsewhere n false i = refl

      go : Dec (j ≡ p) → unless number (seat_at s j) ≡ seat_at (without_filter s p) j
      go (yes e) = rw (e, isopen, freed, eq-eqb (filter_at s p).number number (found_place number s.filters c.place).1)
      go (no n) =
          elsewhere n (is_open (filter_at s j)) refl
          ∙ ap (λ (g : Filter). cond (is_open g) (Some (opening_at (without_filter s p) j)) None) (sym (old_filter j n))

  -- an area less is used exactly where the PID has none left
  busy_areas : count is_used (set s.areas a area) ≡ areas_taken (closed number ∷ h)
  busy_areas = rw came (go (ℕ_discrete (area_at s a).users 1))
    where
      sum : count is_used (set s.areas a area) + cond (is_used (area_at s a)) 1 0 ≡ count is_used s.areas + cond (is_used area) 1 0
      sum = total-set (λ (x : Area). cond (is_used x) 1 0) s.areas a area free_area inside

      was : ◌≡◌ {A = ℕ} (cond (is_used (area_at s a)) 1 0) 1
      was = ap (λ (b : Bool). cond b 1 0) used

      -- one more close of its PID
      left_over : more_opens (area_at s a).pid.0 (closed number ∷ h) ≡ ltb (1 + closes (area_at s a).pid.0 h) (opens (area_at s a).pid.0 h)
      left_over =
          ap (λ (x : Option OpenedFilter). ltb (cond (is_on (area_at s a).pid.0 x) 1 0 + closes (area_at s a).pid.0 h) (opens (area_at s a).pid.0 h)) came
          ∙ ap (λ (b : Bool). ltb (cond b 1 0 + closes (area_at s a).pid.0 h) (opens (area_at s a).pid.0 h)) (eq-eqb (area_at s a).pid.0 (area_at s a).pid.0 refl)

      go : Dec ((area_at s a).users ≡ 1) → count is_used (set s.areas a area) ≡ areas_taken h - cond (is_last (Some (opening_at s p)) (closed number ∷ h)) 1 0
      go (yes e) =
          let even = users w h l a inside used in
          let none : more_opens (area_at s a).pid.0 (closed number ∷ h) ≡ false = left_over ∙ le-ltb (1 + closes (area_at s a).pid.0 h) (opens (area_at s a).pid.0 h) (omega arith) in
          let free : ◌≡◌ {A = ℕ} (cond (is_used area) 1 0) 0 = rw (eq-eqb (area_at s a).users 1 e) in
          let same = l.busy_areas in
          rw none (omega (arith, sum, was))
      go (no n) =
          let even = users w h l a inside used in
          let some = used_some (area_at s a) used in
          let more : more_opens (area_at s a).pid.0 (closed number ∷ h) ≡ true = left_over ∙ lt-ltb (1 + closes (area_at s a).pid.0 h) (opens (area_at s a).pid.0 h) (omega arith) in
          let kept : ◌≡◌ {A = ℕ} (cond (is_used area) 1 0) 1 = rw (ne_eqb (area_at s a).users 1 n, ne_eqb ((area_at s a).users - 1) 0 (omega arith)) in
          let same = l.busy_areas in
          rw more (omega (arith, sum, was))

  remembers : (i : ℕ) → i < length (set s.areas a area) → is_used (get_or (set s.areas a area) i free_area) ≡ true
      → state_of (get_or (set s.areas a area) i free_area).marks w.store (area_start i) ≡ remembered (packets (get_or (set s.areas a area) i free_area).pid.0 h)
  remembers i b u =
      let same = same_area i u in
      rw (same.0, same.1) (l.remembers i (rw length-set at b) same.2)

  -- what a filter is handed ends with its close
  hands : (f : OpenedFilter) → opening_of f.number h ≡ Some f → Handed f (closed number ∷ h)
  hands f i = go (is_closed f.number h) refl (ℕ_discrete number f.number)
    where
      go : (b : Bool) → is_closed f.number h ≡ b → Dec (number ≡ f.number) → Handed f (closed number ∷ h)
      go true k e = after_close f h k (l.hands f i) number
      go false k (yes e) = rw (k, eq-eqb number f.number e) (handed_open f h k (l.hands f i))
      go false k (no n) = open_handed f (closed number ∷ h) (rw (ne_eqb number f.number n) k) (handed_open f h k (l.hands f i))

  pub close_ledger : Ledger after (closed number ∷ h)
  close_ledger =
      record {
        whole = l.whole;
        eight = length-set s.areas a area ∙ l.eight;
        places = length-set s.filters p free_filter ∙ l.places;
        codes = length-set s.choices p 0 ∙ l.codes;
        clauses = closes_clauses s number c;
        balance = balance;
        numbers = l.numbers;
        given = l.given;
        ended = ended;
        stands = stands;
        known = known;
        seats = seats;
        busy_areas = busy_areas;
        remembers = remembers;
        counts = (tt, l.counts);
        hands = hands;
      }
