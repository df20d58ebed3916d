-- What gathering answers is what the packet call hands on: the area's marks, the held bytes, the sections and their counts.
-- Assumes nothing.
use mathlib.Core.Path.{◌≡◌, sym, ◌∙◌, ap, ap₂}
use mathlib.Core.Bool.{Bool, true, false}
use mathlib.Core.List.{List}
use Prim.Native.Nat.{ℕ, ◌≤◌, ◌<◌}
use native.Mathlib.Omega.{arith}
use lib.ListN.{length, get_or, set}
use Rattle.ground.specs.Answer.{refused, given}
use Rattle.ground.specs.Write.{put}
use Rattle.ground.proofs.Answer.{given_apart, given_same}
use Rattle.gather.specs.Rule.{Outcome, rule}
use Rattle.gather.specs.Kind.{join}
use Rattle.gather.specs.Claims.{Keeps}
use Rattle.gather.specs.Memory.{contradicts_of, sound_marks, state_of, Result, told_gathered, told_gathering, Leaves, leaves, result_of, on_memory, gather_of}
use Rattle.gather.specs.declared.Gathered.{Gathered}
use Rattle.std.specs.declared.result.Result as by_name
use Rattle.ground.specs.declared.Refusal.{Refusal}
use Rattle.gather.proofs.RuleKeeps.{rule_keeps}
use Rattle.gather.proofs.Stored.{serves, house}
use Rattle.state.specs.State.{area_start, free_area}
use Rattle.state.specs.Choice.{places_of}
use Rattle.state.specs.declared.State.{State}
use Rattle.sound.proofs.Clauses.{sound_tells, area_marks}
use Rattle.packet_call.specs.Packet.{AfterPacket, held_in, sets_for, put_back}
use Rattle.packet_call.specs.Steps.{Ready, sets_in}
use Rattle.packet_call.proofs.Sets.{sets_written}

-- where the first tests are passed gathering is not refused: the sizes serve, and the marks of a sound state are sound; so what it answers, g, and what it leaves are the rule's
pub gathering_serves : (s : State) (i counter : ℕ) (start : Bool) (payload store out sets : List ℕ) → length s.areas ≡ 8 → Ready s store out sets → i < 8 → length payload ≤ 184 → counter ≤ 15
    → {store' out' : List ℕ} {answer g : by_name.Result Gathered Refusal} → g ≡ answer → leaves (told_gathering answer) store' out' ≡ gather_of (get_or s.areas i free_area).marks counter start payload store (area_start i) out
    → leaves (told_gathering g) store' out'
    ≡ on_memory (rule (state_of (get_or s.areas i free_area).marks store (area_start i)) (record { counter = counter; start = start; payload = payload })) store (area_start i) out
gathering_serves s i counter start payload store out sets eight ready inside short few {store'} {out'} known e =
    let m = (get_or s.areas i free_area).marks in
    let fine : sound_marks m ≡ true = area_marks s (sound_tells s ready.fine) i (omega arith) in
    ap (λ (r : by_name.Result Gathered Refusal). leaves (told_gathering r) store' out') known
    ∙ e
    ∙ serves m counter start payload store (area_start i) out (house m payload store i out fine ready.whole inside short ready.room) fine few

-- gathering that is done is no refusal
pub done_apart : (o : Outcome) (store out store' out' : List ℕ) (i n : ℕ) → leaves (refused n) store' out' ≡ on_memory o store (area_start i) out → ⊥
done_apart o store out store' out' i n e = given_apart (sym (ap (λ (l : Leaves). l.answer) e))

-- what the call leaves, by the numbers of gathering
abbrev handed_on : State → ℕ → Result → List ℕ → List ℕ → List ℕ → AfterPacket
handed_on s i g store out sets =
    record {
      answer =
          given (record {
            wanted = true;
            sections = g.sections;
            bytes = g.bytes;
            jump = g.jump;
            repeat = g.repeat;
            given_up = g.given_up;
            begun = g.begun;
          });
      state =
          record {
            areas = set s.areas i (record { pid = (get_or s.areas i free_area).pid; users = (get_or s.areas i free_area).users; marks = g.marks });
            filters = s.filters;
            choices = s.choices;
            next = s.next;
          };
      store = store;
      out = out;
      sets = sets;
    }

-- what the rule completes of a packet: at most 61 sections, whose sets the output tells
module _ (s : State) (i counter : ℕ) (start : Bool) (payload store : List ℕ) (short : length payload ≤ 184) (agrees : contradicts_of (held_in i s) store (area_start i) ≡ false) where
  abbrev completes : Outcome
  completes = rule (state_of (get_or s.areas i free_area).marks store (area_start i)) (record { counter = counter; start = start; payload = payload })

  keeps : Keeps (state_of (get_or s.areas i free_area).marks store (area_start i)) (record { counter = counter; start = start; payload = payload }) completes
  keeps = rule_keeps (state_of (get_or s.areas i free_area).marks store (area_start i)) (record { counter = counter; start = start; payload = payload }) agrees

  pub sections_few : length completes.sections ≤ 61
  sections_few = keeps.count short

  pub sets_told : (out : List ℕ) → sets_in i (places_of s) (length completes.sections) (put out 0 (join completes.sections)) ≡ sets_for i (places_of s) completes.sections
  sets_told out = sets_written i (places_of s) completes.sections out keeps.whole

-- it counts as many sections as the rule completes
pub counted_is : (o : Outcome) (store out store' out' : List ℕ) (i : ℕ) (g : Gathered) → leaves (given (told_gathered g)) store' out' ≡ on_memory o store (area_start i) out → g.sections ≡ length o.sections
counted_is o store out store' out' i g e = ap (λ (r : Result). r.sections) (given_same (ap (λ (l : Leaves). l.answer) e))

pub taken_is : (s : State) (i : ℕ) (o : Outcome) (store out sets store' out' sets' : List ℕ) (g : Gathered) → leaves (given (told_gathered g)) store' out' ≡ on_memory o store (area_start i) out
    → sets' ≡ put sets 0 (sets_for i (places_of s) o.sections)
    → handed_on s i (told_gathered g) store' out' sets' ≡ put_back s i o store out sets
taken_is s i o store out sets store' out' sets' g e q =
    let same : told_gathered g ≡ result_of o = given_same (ap (λ (l : Leaves). l.answer) e) in
    ap₂ (λ (r : Result) (l : List ℕ). handed_on s i r store' out' l) same q
    ∙ ap₂ (λ (x y : List ℕ). handed_on s i (result_of o) x y (put sets 0 (sets_for i (places_of s) o.sections))) (ap (λ (l : Leaves). l.store) e) (ap (λ (l : Leaves). l.out) e)
