-- The ledger: what every call keeps true between a world and what was accepted before it, so that each sentence of the demand is read off it.
-- Assumes nothing.
use mathlib.Core.Path.{◌≡◌, refl, sym, ◌∙◌, ap}
use mathlib.Core.Bool.{Bool, true, false, cond, not}
use mathlib.Core.List.{List, [], ◌∷◌, append-nil}
use Prim.Native.Nat.{ℕ, ◌+◌, ◌≤◌, ◌<◌}
use native.Mathlib.Omega.{arith}
use native.Mathlib.Decide.{dec_lt}
use borrow.Author.Tests.{ne_eqb, lt-ltb, le-ltb}
use lib.Dec.{eqb}
use lib.ListN.{length, get_or, length-set, length-map, length-replicate}
use Rattle.ground.specs.Walk.{total, count, Every}
use Rattle.ground.proofs.Test.{neither, and_false}
use Rattle.ground.proofs.Walk.{total_at, total_none, total_one, find_first}
use Rattle.std.specs.declared.option.Option.{Option}
use Rattle.std.specs.Prelude.{Some, None}
use Rattle.gather.specs.Rule
use Rattle.gather.specs.Rule.{Packet}
use Rattle.gather.specs.Kind.{contradicting}
use Rattle.gather.specs.Memory.{state_of}
use Rattle.gather.proofs.RuleKeeps.{rule_keeps}
use Rattle.state.specs.State.{is_used, is_open, has_pid, area_of, area_start, free_area, free_filter}
use Rattle.open_call.specs.Open.{has_area}
use Rattle.packet_call.specs.Packet.{Said}
use Rattle.state.specs.Choice.{through, choice_of}
use Rattle.state.specs.declared.Area.{Area}
use Rattle.state.specs.declared.Filter.{Filter}
use Rattle.state.specs.declared.State.{State}
use Rattle.sound.proofs.Clauses.{Clauses, open_stands, used_inside, used_some}
use Rattle.sound.proofs.Pids.{only_one}
use Rattle.state.proofs.Found.{has_pid_lem, found_area}
use Rattle.runs.specs.Run.{Buffers, World}
use Rattle.runs.specs.History.{OpenedFilter, AcceptedCall, opened, closed, packet, numbers_given, opens, closes, opening_of, is_closed, more_opens, standing, areas_taken, packets, since, up_to_close, handed, remembered, completed}
use Rattle.runs.specs.Demand.{IsCounted}
use Rattle.runs.proofs.AsRun.{remembered_none, remembered_one}

-- the users of an area that has the PID
abbrev pub users_of : ℕ → Area → ℕ
users_of pid a = cond (has_pid pid a) a.users 0

abbrev pub area_at : State → ℕ → Area
area_at s i = get_or s.areas i free_area

abbrev pub filter_at : State → ℕ → Filter
filter_at s j = get_or s.filters j free_filter

-- a filter is open: an accepted open gave its number, and no close of it was accepted
pub record IsOpen (f : OpenedFilter) (h : List AcceptedCall) : Type 0 where
  pub opened : opening_of f.number h ≡ Some f
  pub kept : is_closed f.number h ≡ false

-- what a filter was handed is what its choice lets through of what the rule completes up to its close
abbrev pub Handed : OpenedFilter → List AcceptedCall → Type 0
Handed f h = handed f h ≡ through f.choice (completed (since f (up_to_close f.number h)) (packets f.pid (up_to_close f.number h)))

abbrev pub code_at : State → ℕ → ℕ
code_at s j = get_or s.choices j 0

-- the open that the filter at a place came of
abbrev pub opening_at : State → ℕ → OpenedFilter
opening_at s j = record { number = (filter_at s j).number; pid = (area_at s (filter_at s j).area).pid.0; choice = choice_of (code_at s j); place = j }

-- who stands at a place, by the state
abbrev pub seat_at : State → ℕ → Option OpenedFilter
seat_at s j = cond (is_open (filter_at s j)) (Some (opening_at s j)) None

pub record Ledger (w : World) (h : List AcceptedCall) : Type 0 where
  pub whole : length w.store ≡ 32768
  pub eight : length w.state.areas ≡ 8
  pub places : length w.state.filters ≡ 32
  pub codes : length w.state.choices ≡ 32
  pub clauses : Clauses w.state
  -- a PID's users are its opens less its closes
  pub balance : (pid : ℕ) → total (users_of pid) w.state.areas + closes pid h ≡ opens pid h
  -- the next number is one above all that were given, and numbers given and closed are below it
  pub numbers : w.state.next ≡ numbers_given h + 1
  pub given : (number : ℕ) (f : OpenedFilter) → opening_of number h ≡ Some f → (1 ≤ number) × (number < w.state.next)
  pub ended : (number : ℕ) → is_closed number h ≡ true → number < w.state.next
  -- an open filter stands at its place, and who stands at a place is open
  pub stands : (f : OpenedFilter) → IsOpen f h → (f.place < length w.state.filters) × ((filter_at w.state f.place).number ≡ f.number)
  pub known : (j : ℕ) → j < length w.state.filters → is_open (filter_at w.state j) ≡ true → IsOpen (opening_at w.state j) h
  pub seats : (j : ℕ) → get_or (standing h) j None ≡ seat_at w.state j
  -- as many areas are used as were taken
  pub busy_areas : count is_used w.state.areas ≡ areas_taken h
  -- a used area remembers what the rule makes of the packets since it was taken
  pub remembers : (i : ℕ) → i < length w.state.areas → is_used (area_at w.state i) ≡ true
      → state_of (area_at w.state i).marks w.store (area_start i) ≡ remembered (packets (area_at w.state i).pid.0 h)
  -- every answer counts the sections in the output
  pub counts : Every IsCounted h
  -- a filter was handed what its choice lets through of what the rule completes
  pub hands : (f : OpenedFilter) → opening_of f.number h ≡ Some f → Handed f h

-- ---- up to a close
-- before its close a number's history is the whole
pub all_before : (n : ℕ) (h : List AcceptedCall) → is_closed n h ≡ false → up_to_close n h ≡ h
all_before n [] e = refl
all_before n (opened f ∷ h) e = rw e
all_before n (closed m ∷ h) e = let k = neither (eqb m n) (is_closed n h) e in rw (k.1, k.0)
all_before n (packet p lent r out ∷ h) e = rw e

-- what is handed to an open filter
pub open_handed : (f : OpenedFilter) (h : List AcceptedCall) → is_closed f.number h ≡ false → handed f h ≡ through f.choice (completed (since f h) (packets f.pid h)) → Handed f h
open_handed f h e q = rw (all_before f.number h e) q

pub handed_open : (f : OpenedFilter) (h : List AcceptedCall) → is_closed f.number h ≡ false → Handed f h → handed f h ≡ through f.choice (completed (since f h) (packets f.pid h))
handed_open f h e q = rw (all_before f.number h e) at q

-- after its close nothing more is handed to a filter
module _ (f : OpenedFilter) (h : List AcceptedCall) (e : is_closed f.number h ≡ true) (q : Handed f h) where
  pub after_open : (g : OpenedFilter) → (g.number ≡ f.number → ⊥) → Handed f (opened g ∷ h)
  after_open g n = rw (e, ne_eqb g.number f.number n) q

  pub after_close : (number : ℕ) → Handed f (closed number ∷ h)
  after_close number = rw e q

  pub after_packet : (p : List ℕ) (lent : Buffers) (r : Said) (out : Buffers) → Handed f (packet p lent r out ∷ h)
  after_packet p lent r out = rw (e, append-nil) q

-- what is remembered never contradicts itself
pub remembered_fine : (ps : List Packet) → contradicting (remembered ps).held ≡ false
remembered_fine [] = ap (λ (s : Rule.State). contradicting s.held) remembered_none
remembered_fine (p ∷ ps) = ap (λ (s : Rule.State). contradicting s.held) (remembered_one p ps) ∙ (rule_keeps (remembered ps) p (remembered_fine ps)).part

-- an open filter stands on a used area that has its PID, and its choice is there
pub record Stands (s : State) (f : OpenedFilter) : Type 0 where
  pub inside : f.place < length s.filters
  pub number : (filter_at s f.place).number ≡ f.number
  pub isopen : is_open (filter_at s f.place) ≡ true
  pub used : is_used (area_at s (filter_at s f.place).area) ≡ true
  pub area : (filter_at s f.place).area < length s.areas
  pub pid : (area_at s (filter_at s f.place).area).pid.0 ≡ f.pid
  pub choice : choice_of (code_at s f.place) ≡ f.choice

pub same_there : {x y : OpenedFilter} → Some x ≡ Some y → x ≡ y
same_there e = cc

module _ (w : World) (h : List AcceptedCall) (l : Ledger w h) where
  abbrev s : State
  s = w.state

  pub stood : (f : OpenedFilter) → IsOpen f h → Stands w.state f
  stood f o =
      let at = l.stands f o in
      let range = l.given f.number f o.opened in
      let open_there : is_open (filter_at s f.place) ≡ true = ap not (ne_eqb (filter_at s f.place).number 0 (nonzero at.1 range.0)) in
      let is : opening_at s f.place ≡ f = same_there (sym (l.known f.place at.0 open_there).opened ∙ ap (λ (n : ℕ). opening_of n h) at.1 ∙ o.opened) in
      let used = open_stands s l.clauses f.place at.0 open_there in
      record {
        inside = at.0;
        number = at.1;
        isopen = open_there;
        used = used;
        area = used_inside s.areas (filter_at s f.place).area used;
        pid = ap (λ (g : OpenedFilter). g.pid) is;
        choice = ap (λ (g : OpenedFilter). g.choice) is;
      }
    where
      nonzero : {n m : ℕ} → n ≡ m → 1 ≤ m → n ≡ 0 → ⊥
      nonzero e b z = omega arith

  -- a PID with a used area has users
  pub busy : (i pid : ℕ) → i < length w.state.areas → is_used (area_at w.state i) ≡ true → (area_at w.state i).pid.0 ≡ pid → 0 < total (users_of pid) w.state.areas
  busy i pid b u e =
      let has : has_pid pid (area_at s i) ≡ true = has_pid_lem pid (area_at s i) u e in
      let most = total_at (users_of pid) s.areas i free_area b in
      let is : users_of pid (area_at s i) ≡ (area_at s i).users = ap (λ (c : Bool). cond c (area_at s i).users 0) has in
      let some = used_some (area_at s i) u in
      omega arith

  -- an open of a PID that has users does not take its area anew
  pub not_taken : (pid : ℕ) (f : OpenedFilter) → 0 < total (users_of pid) w.state.areas → packets pid (opened f ∷ h) ≡ packets pid h
  not_taken pid f some =
      let even = l.balance pid in
      rw (ne_eqb (opens pid h) (closes pid h) (λ e. omega arith), and_false (eqb f.pid pid))

  -- nor where a filter of the PID is open
  pub still_taken : (f g : OpenedFilter) → IsOpen f h → packets f.pid (opened g ∷ h) ≡ packets f.pid h
  still_taken f g i =
      let st = stood f i in
      not_taken f.pid g (busy (filter_at s f.place).area f.pid st.area st.used st.pid)

  -- the area with a PID
  pub held_area : (pid : ℕ) → has_area pid w.state.areas ≡ more_opens pid h
  held_area pid = go (dec_lt (area_of pid s.areas) (length s.areas))
    where
      go : Dec (area_of pid s.areas < length s.areas) → has_area pid s.areas ≡ more_opens pid h
      go (yes b) =
          let even = l.balance pid in
          let p = found_area pid s.areas b in
          let some = busy (area_of pid s.areas) pid b p.0 p.1 in
          lt-ltb (area_of pid s.areas) (length s.areas) b ∙ sym (lt-ltb (closes pid h) (opens pid h) (omega arith))
      go (no n) =
          let even = l.balance pid in
          let none = total_none (users_of pid) s.areas free_area (λ j b. ap (λ (c : Bool). cond c (area_at s j).users 0) (find_first (has_pid pid) s.areas free_area j (omega arith))) in
          le-ltb (area_of pid s.areas) (length s.areas) (omega arith) ∙ sym (le-ltb (closes pid h) (opens pid h) (omega arith))

  pub single : (pid i j : ℕ) → i < length w.state.areas → j < length w.state.areas → has_pid pid (area_at w.state i) ≡ true → has_pid pid (area_at w.state j) ≡ true → i ≡ j
  single pid i j a b = only_one pid s.areas l.clauses.pids i j a b

  -- an area's users are the opens of its PID less the closes
  pub users : (i : ℕ) → i < length w.state.areas → is_used (area_at w.state i) ≡ true
      → (area_at w.state i).users + closes (area_at w.state i).pid.0 h ≡ opens (area_at w.state i).pid.0 h
  users i b u =
      let even = l.balance (area_at s i).pid.0 in
      let sum = total_one (users_of (area_at s i).pid.0) s.areas free_area i b refl (λ j c n. other j c n (has_pid (area_at s i).pid.0 (area_at s j)) refl) in
      let own : users_of (area_at s i).pid.0 (area_at s i) ≡ (area_at s i).users = ap (λ (c : Bool). cond c (area_at s i).users 0) mine in
      omega arith
    where
      mine : has_pid (area_at w.state i).pid.0 (area_at w.state i) ≡ true
      mine = has_pid_lem (area_at s i).pid.0 (area_at s i) u refl

      other : (j : ℕ) → j < length w.state.areas → (j ≡ i → ⊥) → (c : Bool) → has_pid (area_at w.state i).pid.0 (area_at w.state j) ≡ c → cond c (area_at w.state j).users 0 ≡ 0
      other j c n true q = absurd (n (single (area_at s i).pid.0 j i c b q mine))
      other j c n false q = refl

-- there are 32 places
pub standing_long : (h : List AcceptedCall) → length (standing h) ≡ 32
standing_long [] = length-replicate {A = Option OpenedFilter} 32 None
standing_long (opened f ∷ h) = length-set (standing h) f.place (Some f) ∙ standing_long h
standing_long (closed n ∷ h) = length-map (standing h) _ ∙ standing_long h
standing_long (packet p lent r out ∷ h) = standing_long h
