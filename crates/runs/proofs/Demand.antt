-- The third demand holds of every run: each sentence is read off the ledger, or follows from what every call has to answer.
-- Assumes nothing.
use mathlib.Core.Path.{◌≡◌, refl, sym, ◌∙◌, ap, ap₂}
use mathlib.Core.Bool.{true, not, false≢true}
use mathlib.Core.List.{List, [], map}
use Prim.Native.Nat.{ℕ, ◌≤◌, ◌<◌}
use native.Mathlib.Omega.{arith}
use borrow.Author.Tests.{ltb-true}
use lib.ListN.{length, get_or, length-map}
use Rattle.ground.specs.Answer.{refused, given}
use Rattle.ground.specs.Set.{is_in}
use Rattle.std.specs.Prelude.{None}
use Rattle.ground.specs.Write.{put, Rest}
use Rattle.ground.proofs.Set.{in_set}
use Rattle.ground.proofs.Test.{and_false}
use Rattle.ground.proofs.Walk.{map_at}
use Rattle.ground.proofs.Write.{put_item, put_rest}
use Rattle.gather.specs.Rule.{Outcome}
use Rattle.gather.specs.Kind.{join}
use Rattle.gather.specs.Memory.{state_of}
use Rattle.gather.proofs.RuleKeeps.{rule_keeps}
use Rattle.gather.proofs.Stored.{output_cut}
use Rattle.section.specs.Section.{table_of}
use Rattle.state.specs.State.{area_of, area_start}
use Rattle.state.specs.Choice.{places_of}
use Rattle.state.specs.declared.Choice.{Choice}
use Rattle.open_call.specs.Open.{Place, has_area}
use Rattle.packet_call.specs.Packet.{Said, unwanted, pid_of, packet_from, report, outcome, sets_for}
use Rattle.state.specs.declared.State.{State}
use Rattle.state.proofs.Found.{found_area}
use Rattle.driver.proofs.Cases.{Handles, open_ind, packet_ind}
use Rattle.runs.specs.Run.{Buffers, open_call, close_call, packet_call, World, open_event, close_event, packet_event, after, event, start, ours}
use Rattle.runs.specs.History.{AcceptedCall, is_accepted, opening_of, is_on_for, is_closed, standing, sections_of}
use Rattle.runs.specs.Answers.{is_absent, outcome_after, places_after, written}
use Rattle.runs.specs.Demand.{world_after, history, is_open_for, Statement}
use Rattle.runs.proofs.Ledger.{area_at, Ledger, held_area, single, users}
use Rattle.runs.proofs.Steps.{ledger, quiet}
use Rattle.runs.proofs.Answers.{answers, map_same, places_are, outcome_is, written_is}
use Rattle.runs.proofs.Others.{others}
use Rattle.runs.proofs.Alone.{alone}
use Rattle.runs.proofs.Idle.{still, idle_world, idle_log}

module _ (w : World) (h : List AcceptedCall) (l : Ledger w h) where
  abbrev s : State
  s = w.state

  apart : (pid other : ℕ) → has_area pid w.state.areas ≡ true → area_of pid w.state.areas ≡ area_of other w.state.areas → pid ≡ other
  apart pid other e same =
      let b = ltb-true (area_of pid s.areas) (length s.areas) e in
      sym (found_area pid s.areas b).1 ∙ ap (λ (i : ℕ). (area_at s i).pid.0) same ∙ (found_area other s.areas (rw same at b)).1

  gone : (number : ℕ) → is_closed number h ≡ true → event ours w (close_call number) ≡ close_event number (refused 16)
  gone number e = answers w h l (close_call number) ∙ rw (e, and_false (not (is_absent (opening_of number h))))

  -- an open gives the next number
  gives : (pid : ℕ) (choice : Choice) (a : Place) → event ours w (open_call pid choice) ≡ open_event pid choice (given a) → a.number ≡ w.state.next
  gives pid choice a =
      open_ind s pid choice (λ o. open_event pid choice o.answer ≡ open_event pid choice (given a) → a.number ≡ s.next)
      (λ n x y e. let z : ◌≡◌ {A = ℕ} 0 1 = cc in absurd (omega arith)) (λ o e. let same : s.next ≡ a.number = cc in sym same)

  -- what is said of an accepted packet, and left in the buffers
  pub record Told (p : List ℕ) (lent after : Buffers) (r : Said) : Type 0 where
    pub is : r ≡ report (outcome_after h p)
    pub out : after.out ≡ written (outcome_after h p) lent.out
    pub sets : after.sets ≡ put lent.sets 0 (map (λ x. places_after h (pid_of p) (table_of x)) (outcome_after h p).sections)
    pub room : length (outcome_after h p).sections ≤ length lent.sets
    pub sections : sections_of r after ≡ (outcome_after h p).sections

  told : (p : List ℕ) (lent after : Buffers) (r : Said) → event ours w (packet_call p lent) ≡ packet_event p lent (given r) after → r.wanted ≡ true → Told p lent after r
  told p lent after r =
      packet_ind s p w.store lent.out lent.sets
      (λ o. packet_event p lent o.answer (record { out = o.out; sets = o.sets }) ≡ packet_event p lent (given r) after → r.wanted ≡ true → Told p lent after r)
      (λ n a b e k. let z : ◌≡◌ {A = ℕ} 0 1 = cc in absurd (omega arith))
      (λ b e k. let same : unwanted ≡ r = cc in absurd (false≢true (ap (λ (x : Said). x.wanted) same ∙ k))) on
    where
      own : ℕ
      own = area_of (pid_of p) w.state.areas

      o : Outcome
      o = outcome s own p w.store

      left : Buffers
      left = record { out = put lent.out 0 (join o.sections); sets = put lent.sets 0 (sets_for own (places_of s) o.sections) }

      on : Handles s p w.store lent.out lent.sets → packet_event p lent (given (report o)) left ≡ packet_event p lent (given r) after → r.wanted ≡ true → Told p lent after r
      on k e q =
          let same : report o ≡ r = cc in
          let buffers : left ≡ after = cc in
          let is = outcome_is w h l p lent k.area in
          let keeps = rule_keeps (state_of (area_at s own).marks w.store (area_start own)) (packet_from p) k.agrees in
          let few = keeps.count k.short in
          let most = keeps.bytes k.short in
          let many = ap (λ (x : Outcome). length x.sections) is in
          record {
            is = sym same ∙ ap report is;
            out = ap (λ (b : Buffers). b.out) (sym buffers) ∙ ap (λ (x : Outcome). put lent.out 0 (join x.sections)) is ∙ written_is w h l (outcome_after h p) lent.out;
            sets =
                ap (λ (b : Buffers). b.sets) (sym buffers)
                ∙ ap (λ (x : Outcome). put lent.sets 0 (sets_for own (places_of s) x.sections)) is
                ∙ ap (put lent.sets 0) (map_same (λ x. places_are w h l (pid_of p) k.area (table_of x)) (outcome_after h p).sections);
            room = omega (arith, few, many, k.listed);
            sections = ap₂ sections_of (sym same) (sym buffers) ∙ output_cut o.sections lent.out keeps.whole (omega (arith, most, k.room)) ∙ ap (λ (x : Outcome). x.sections) is;
          }

  set : (p : List ℕ) (lent after : Buffers) (r : Said) → Told p lent after r
      → ((k : ℕ) → k < length (sections_of r after) → (place : ℕ) → is_in place (get_or after.sets k 0) ≡ is_open_for (pid_of p) (table_of (get_or (sections_of r after) k [])) place h)
      × Rest (length (sections_of r after)) lent.sets after.sets
  set p lent after r t = rw (t.sections, t.sets) (each, rest)
    where
      ss : List (List ℕ)
      ss = (outcome_after h p).sections

      set_of_lem : List ℕ → ℕ
      set_of_lem x = places_after h (pid_of p) (table_of x)

      long : length (map set_of_lem ss) ≡ length ss
      long = length-map ss set_of_lem

      room : length (map set_of_lem ss) ≤ length lent.sets
      room = let b = t.room in omega (arith, b, long)

      each : (k : ℕ) → k < length ss → (place : ℕ) → is_in place (get_or (put lent.sets 0 (map set_of_lem ss)) k 0) ≡ is_open_for (pid_of p) (table_of (get_or ss k [])) place h
      each k b place =
          ap (is_in place) (put_item lent.sets (map set_of_lem ss) room k 0 (rw long b) ∙ map_at set_of_lem ss k [] 0 b)
          ∙ in_set (is_on_for (pid_of p) (table_of (get_or ss k []))) (standing h) place None refl

      rest : Rest (length ss) lent.sets (put lent.sets 0 (map set_of_lem ss))
      rest = rw long at (put_rest lent.sets (map set_of_lem ss) room)

  writes : (p : List ℕ) (lent : Buffers) → is_accepted (event ours w (packet_call p lent)) ≡ true
      → (after ours w (packet_call p lent)).store ≡ put w.store (area_start (area_of (pid_of p) w.state.areas)) (outcome_after h p).next.held
  writes p lent =
      packet_ind s p w.store lent.out lent.sets
      (λ o.
      is_accepted (packet_event p lent o.answer (record { out = o.out; sets = o.sets })) ≡ true
      → o.store ≡ put w.store (area_start (area_of (pid_of p) s.areas)) (outcome_after h p).next.held)
      (λ n a b e. absurd (false≢true e)) (λ b e. absurd (false≢true e))
      (λ k e. ap (λ (o : Outcome). put w.store (area_start (area_of (pid_of p) s.areas)) o.next.held) (outcome_is w h l p lent k.area))

pub statement : Statement ours
statement store calls e =
    let w = world_after ours store calls in
    let h = history ours store calls in
    let l = ledger store e calls in
    record {
      area = held_area w h l;
      apart = apart w h l;
      single = λ pid i j a b. let long = l.eight in single w h l pid i j (omega arith) (omega arith);
      users = λ i b. let long = l.eight in users w h l i (omega arith);
      holds = λ i b. let long = l.eight in l.remembers i (omega arith);
      gone = gone w h l;
      never = λ number pid choice a k g is.
          let b = l.ended number k in
          let n = gives w h l pid choice a g in
          omega arith;
      once = λ number pid choice a f k g is.
          let b = (l.given number f k).1 in
          let n = gives w h l pid choice a g in
          omega arith;
      answers = answers w h l;
      refusals = quiet store e calls;
      set = λ p lent after r q k. set w h l p lent after r (told w h l p lent after r q k);
      whole = λ p lent after r q k. let t = told w h l p lent after r q k in (t.is, t.out);
      writes = writes w h l;
      counts = l.counts;
      hands = l.hands;
      others = λ pid. others store e pid calls;
      alone = λ f later before is came. rw is (alone store e f before came later);
      still = still w;
      idle = (idle_world (start store) calls, idle_log (start store) calls);
    }
