-- Sections begun are accounted for over a run: with each packet what was said adds up with what the rule remembers, and that is what the area holds.
-- Assumes nothing.
use mathlib.Core.Path.{◌≡◌, refl, sym, ◌∙◌, ap}
use mathlib.Core.Bool.{Bool, true, false, cond, ◌&&◌}
use mathlib.Core.List.{List, [], ◌∷◌, ◌++◌}
use Prim.Native.Nat.{ℕ}
use native.Mathlib.Omega.{arith}
use borrow.Author.Tests.{ltb-true, eqb-true}
use lib.Dec.{eqb}
use lib.ListN.{length}
use Rattle.ground.proofs.Part.{length_part}
use Rattle.gather.specs.Rule as gathering
use Rattle.gather.proofs.AddsUp.{rule_adds}
use Rattle.gather.proofs.RuleOnMemory.{sound_says}
use Rattle.state.specs.State.{area_of, area_start, free_place_of}
use Rattle.state.proofs.Found.{found_area}
use Rattle.sound.proofs.Clauses.{area_marks}
use Rattle.packet_call.specs.Packet.{pid_of, held_in, packet_from, report}
use Rattle.driver.proofs.Cases.{open_ind, close_ind, packet_ind}
use Rattle.runs.specs.Run.{Buffers, Call, open_call, close_call, packet_call, World, open_event, close_event, packet_event, event, ours}
use Rattle.runs.specs.History.{OpenedFilter, AcceptedCall, opened, packet, accepted_by, opens, closes, packets, reports, remembered}
use Rattle.runs.specs.Answers.{outcome_after}
use Rattle.runs.specs.Demand.{world_after, history}
use Rattle.runs.specs.Accounts.{TotalsAddUp, Accounts}
use Rattle.runs.proofs.AsRun.{remembered_none, remembered_one}
use Rattle.runs.proofs.Ledger.{area_at, Ledger, remembered_fine}
use Rattle.runs.proofs.Steps.{ledger}
use Rattle.runs.proofs.Answers.{outcome_is}

-- what was said of a PID's packets adds up with what the rule remembers of them
abbrev AddUpOn : ℕ → List AcceptedCall → Type 0
AddUpOn pid h = TotalsAddUp (reports pid h) (length (remembered (packets pid h)).held)

none_said : TotalsAddUp [] (length (remembered []).held)
none_said = rw remembered_none

after_open : (pid : ℕ) (f : OpenedFilter) (h : List AcceptedCall) → AddUpOn pid h → AddUpOn pid (opened f ∷ h)
after_open pid f h a = go (eqb f.pid pid && eqb (opens pid h) (closes pid h))
  where
    go : (b : Bool) → TotalsAddUp (cond b [] (reports pid h)) (length (remembered (cond b [] (packets pid h))).held)
    go true = none_said
    go false = a

-- one packet more, of which the rule's counts are told
after_packet : (pid : ℕ) (p : List ℕ) (lent out : Buffers) (h : List AcceptedCall) → AddUpOn pid h
    → AddUpOn pid (packet p lent (report (outcome_after h p)) out ∷ h)
after_packet pid p lent out h a = go (eqb (pid_of p) pid) refl
  where
    go : (b : Bool) → eqb (pid_of p) pid ≡ b
        → TotalsAddUp (cond b (report (outcome_after h p) ∷ reports pid h) (reports pid h)) (length (remembered (cond b (packet_from p ∷ packets pid h) (packets pid h))).held)
    go true e =
        let own = eqb-true (pid_of p) pid e in
        let o = rule_adds (remembered (packets pid h)) (packet_from p) (remembered_fine (packets pid h)) in
        rw (remembered_one (packet_from p) (packets pid h), own) (omega arith)
    go false e = a

module _ (w : World) (h : List AcceptedCall) (l : Ledger w h) (pid : ℕ) (a : AddUpOn pid h) where
  step : (c : Call) → AddUpOn pid (accepted_by (event ours w c) ++ h)
  step (open_call q choice) =
      open_ind w.state q choice (λ o. AddUpOn pid (accepted_by (open_event q choice o.answer) ++ h)) (λ n x y. a)
      (λ o. after_open pid (record { number = w.state.next; pid = q; choice = choice; place = free_place_of w.state.filters }) h a)
  step (close_call number) =
      close_ind w.state number (λ o. AddUpOn pid (accepted_by (close_event number o.answer) ++ h)) (λ n x y. a) (λ c. a)
  step (packet_call p lent) =
      packet_ind w.state p w.store lent.out lent.sets (λ o. AddUpOn pid (accepted_by (packet_event p lent o.answer (record { out = o.out; sets = o.sets })) ++ h)) (λ n x y. a) (λ b. a)
      (λ k. rw (outcome_is w h l p lent k.area) (after_packet pid p lent lent h a))

add_up : (store : List ℕ) → length store ≡ 32768 → (pid : ℕ) (calls : List Call) → AddUpOn pid (history ours store calls)
add_up store e pid [] = none_said
add_up store e pid (c ∷ cs) = step (world_after ours store cs) (history ours store cs) (ledger store e cs) pid (add_up store e pid cs) c

pub accounts : Accounts ours
accounts store calls e pid has =
    let w = world_after ours store calls in
    let h = history ours store calls in
    let l = ledger store e calls in
    let i = area_of pid w.state.areas in
    let inside = ltb-true i (length w.state.areas) has in
    let found = found_area pid w.state.areas inside in
    let marks = sound_says (area_at w.state i).marks (area_marks w.state l.clauses i inside) in
    let size = length_part (held_in i w.state) w.store (area_start i) (omega (arith, marks.held, inside, l.whole, l.eight)) in
    let same : length (remembered (packets pid h)).held ≡ held_in i w.state =
    ap (λ (q : ℕ). length (remembered (packets q h)).held) (sym found.1)
    ∙ ap (λ (s : gathering.State). length s.held) (sym (l.remembers i inside found.0))
    ∙ size in
    rw same at (add_up store e pid calls)
