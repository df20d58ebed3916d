-- What an answer tells leaves nothing of it untold, the two tables are one, and that is exact as every table is.
-- Assumes nothing.
use mathlib.Core.Path.{◌≡◌, refl, sym, ◌∙◌, ap}
use mathlib.Core.Bool.{Bool, true, false, cond}
use mathlib.Core.List.{List, [], ◌++◌}
use mathlib.Core.Logic.{◌↔◌}
use Prim.Native.Nat.{ℕ}
use Rattle.std.specs.Prelude.{Option, Some, None}
use Rattle.std.specs.declared.result.Result.{Result}
use Rattle.ground.specs.declared.Refusal.{Refusal}
use Rattle.state.specs.declared.After.{After}
use Rattle.ground.specs.Answer.{refused, given}
use Rattle.ground.proofs.Told.{made}
use Rattle.ground.proofs.Told as names
use Rattle.ground.specs.Outcome.{Determined}
use Rattle.ground.specs.Refusal.{Row, Silent, ExactCall, judge}
use Rattle.ground.proofs.Answer.{given_same}
use Rattle.ground.proofs.Judged.{exact_call, judge_append}
use Rattle.ground.proofs.Outcome.{determined, determined_told}
use Rattle.ground.proofs.Refused as table
use Rattle.state.specs.State.{area_of}
use Rattle.state.specs.declared.State.{State}
use Rattle.packet_call.specs.Packet.{Said, AfterPacket, told_wanted, told_handled, report_of, pid_of, first_refusals, last_refusals, outcome, put_back, report, as_given, unwanted, after_reading, packet_of}
use Rattle.packet_call.specs.Promises.{HandlesPacket}
use Rattle.packet_call.specs.Claims.{has_no_area, handling_refusals, Claims}
use Rattle.packet_call.specs.declared.Report.{Report}

-- ---- its outcome is its answer with the state, the store and the output
abbrev wanted_made : Said → Option Report
wanted_made r =
    cond r.wanted
    (Some (record {
      sections = r.sections;
      bytes = r.bytes;
      jump = r.jump;
      repeat = r.repeat;
      given_up = r.given_up;
      begun = r.begun;
    }))
    None

wanted_back : (o : Option Report) → wanted_made (told_wanted o) ≡ o
wanted_back (Some r) = refl
wanted_back None = refl

abbrev Whole : Type 0
Whole = After (Result (Option Report) Refusal) × List ℕ × List ℕ × List ℕ

abbrev whole_told : Whole → AfterPacket
whole_told w = told_handled w.0 w.1 w.2 w.3

abbrev whole_made : AfterPacket → Whole
whole_made a = (record { state = a.state; answer = made wanted_made a.answer }, a.store, a.out, a.sets)

whole_back : (w : Whole) → whole_made (whole_told w) ≡ w
whole_back w = ap (λ (a : Result (Option Report) Refusal). (record { state = w.0.state; answer = a }, w.1, w.2, w.3)) (names.back told_wanted wanted_made wanted_back w.0.answer)

handles_packet : (s : State) (p store out sets : List ℕ) → Determined (HandlesPacket s p store out sets)
handles_packet s p store out sets = determined_told whole_told whole_made whole_back (packet_of s p store out sets)

-- ---- the tables
module _ (s : State) (p store out sets : List ℕ) where
  abbrev own : ℕ
  own = area_of (pid_of p) s.areas

  abbrev refuse : ℕ → AfterPacket
  refuse n = as_given s store out sets (refused n)

  abbrev done : AfterPacket
  done = put_back s own (outcome s own p store) store out sets

  -- what is answered, and by which rows, past the first table
  abbrev past : Bool → AfterPacket
  past b = cond b (as_given s store out sets (given unwanted)) done

  abbrev rows : Bool → List Row
  rows b = cond b [] (last_refusals s own p store)

  -- the call by the two tables as one
  one_table : packet_of s p store out sets ≡ judge refuse (first_refusals s p store out sets ++ rows (has_no_area s p)) (past (has_no_area s p))
  unfolding packet_of
  one_table =
      ap (judge refuse (first_refusals s p store out sets)) (go (has_no_area s p))
      ∙ sym (judge_append refuse (first_refusals s p store out sets) (rows (has_no_area s p)) (past (has_no_area s p)))
    where
      go : (b : Bool) → cond b (as_given s store out sets (given unwanted)) (judge refuse (last_refusals s own p store) done) ≡ judge refuse (rows b) (past b)
      go true = refl
      go false = refl

  exact_packet : ExactCall (handling_refusals s p store out sets) (λ (x : AfterPacket). x.answer) (λ n. as_given s store out sets (refused n)) (packet_of s p store out sets)
  exact_packet = rw one_table (exact_call (λ (x : AfterPacket). x.answer) refuse (λ n. refl) (handling_refusals s p store out sets) (past (has_no_area s p)) _ (go (has_no_area s p)))
    where
      go : (b : Bool) → (past b).answer ≡ given (cond b unwanted (report (outcome s own p store)))
      go true = refl
      go false = refl

  unwanted_exactly : (packet_of s p store out sets ≡ as_given s store out sets (given unwanted)) ↔ (Silent (first_refusals s p store out sets) × (has_no_area s p ≡ true))
  unfolding packet_of
  unwanted_exactly = (forth, back)
    where
      -- a wanted packet is not told as one that is not
      told_apart : (b : Bool) → past b ≡ as_given s store out sets (given unwanted) → b ≡ true
      told_apart true e = refl
      told_apart false e = sym (ap (λ (r : Said). r.wanted) (given_same (ap (λ (x : AfterPacket). x.answer) e)))

      forth : packet_of s p store out sets ≡ as_given s store out sets (given unwanted) → Silent (first_refusals s p store out sets) × (has_no_area s p ≡ true)
      forth q =
          let none = exact_packet.table.none.0 (unwanted, ap (λ (x : AfterPacket). x.answer) q) in
          let same = sym (table.accepted refuse (past (has_no_area s p)) (handling_refusals s p store out sets) none) ∙ sym one_table ∙ q in
          ((table.silent_both (first_refusals s p store out sets) (rows (has_no_area s p)) none).0, told_apart (has_no_area s p) same)

      back : Silent (first_refusals s p store out sets) × (has_no_area s p ≡ true) → packet_of s p store out sets ≡ as_given s store out sets (given unwanted)
      back q = table.accepted refuse (after_reading s own p store out sets) (first_refusals s p store out sets) q.0 ∙ rw q.1

pub claims : Claims
claims = record { handles_packet = handles_packet; gives_report = λ g. determined (report_of g); exact_packet = exact_packet; unwanted = unwanted_exactly }
