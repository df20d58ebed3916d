-- What is claimed holds: a promise that is an equation admits one outcome, a table is exact as every table is, and the rest are laws of the rule.
-- Assumes nothing.
use mathlib.Core.Path.{◌≡◌, refl, ap}
use Rattle.std.specs.declared.result.Result as by_name
use Rattle.ground.specs.declared.Refusal.{Refusal}
use Rattle.ground.proofs.Told.{made, back}
use mathlib.Core.Bool.{Bool}
use mathlib.Core.List.{List}
use Prim.Native.Nat.{ℕ}
use Rattle.ground.specs.Answer.{refused}
use Rattle.ground.specs.Outcome.{Determined}
use Rattle.ground.specs.Refusal.{ExactCall}
use Rattle.ground.proofs.Judged.{exact_call}
use Rattle.ground.proofs.Outcome.{determined, determined_told}
use Rattle.gather.specs.Rule.{leaves_none, rule}
use Rattle.gather.specs.Memory.{held_of, sound_marks, state_of, contradicts_of, Result, told_gathered, told_gathering, Leaves, leaves, result_of, on_memory, gather_refusals, gather_of}
use Rattle.gather.specs.Promises.{Gathers}
use Rattle.gather.specs.Claims.{Claims}
use Rattle.gather.specs.declared.Marks.{Marks}
use Rattle.gather.specs.declared.Gathered.{Gathered}
use Rattle.gather.specs.declared.kind.Kind.TheVariants as kind
use Rattle.gather.proofs.Walk.{walk_kind}
use Rattle.gather.proofs.RuleKeeps.{rule_keeps, never_starts}
use Rattle.gather.proofs.WholeSections.{rule_exact}
use Rattle.gather.proofs.Spread.{gathers_whole}
use Rattle.gather.proofs.OneRepeat.{one_repeat}
use Rattle.gather.proofs.AddsUp.{begun_holds}
use Rattle.gather.proofs.AsNew.{as_new}
use Rattle.gather.proofs.Cutting.{rule_cut}
use Rattle.gather.proofs.Stored.{state_again}
use Rattle.gather.proofs.Examples.{longest_is, stuck_is}

-- ---- nothing of an outcome of `gather` is left untold
abbrev Whole : Type 0
Whole = by_name.Result Gathered Refusal × List ℕ × List ℕ

abbrev whole_told : Whole → Leaves
whole_told o = leaves (told_gathering o.0) o.1 o.2

abbrev gathered_made : Result → Gathered
gathered_made r =
    record { marks = r.marks; sections = r.sections; bytes = r.bytes; jump = r.jump; repeat = r.repeat; given_up = r.given_up; begun = r.begun }

abbrev whole_made : Leaves → Whole
whole_made l = (made gathered_made l.answer, l.store, l.out)

whole_back : (o : Whole) → whole_made (whole_told o) ≡ o
whole_back o = ap (λ (r : by_name.Result Gathered Refusal). (r, o.1, o.2)) (back told_gathered gathered_made (λ g. refl) o.0)

module _ (marks : Marks) (counter : ℕ) (start : Bool) (payload store : List ℕ) (base : ℕ) (out : List ℕ) where
  gathers : Determined (Gathers marks counter start payload store base out)
  gathers = determined_told whole_told whole_made whole_back (gather_of marks counter start payload store base out)

  exact : ExactCall (gather_refusals marks counter payload store base out) (λ (l : Leaves). l.answer) (λ n. leaves (refused n) store out)
      (gather_of marks counter start payload store base out)
  unfolding gather_of
  exact =
      let o = rule (state_of marks store base) (record { counter = counter; start = start; payload = payload }) in
      exact_call (λ (l : Leaves). l.answer) (λ n. leaves (refused n) store out) (λ n. refl) (gather_refusals marks counter payload store base out)
      (on_memory o store base out) (result_of o) refl

pub claims : Claims
claims =
    record {
      tells_sound = λ marks. determined (sound_marks marks);
      tells_held = λ marks. determined (held_of marks);
      tells_contradiction = λ held store base. determined (contradicts_of held store base);
      tells_none_left = λ start payload. determined (leaves_none start payload);
      gathers = gathers;
      exact = exact;
      keeps = rule_keeps;
      follows = λ s n e. walk_kind s (kind.Whole n) e;
      stops = λ s e. walk_kind s kind.Nothing e;
      never_starts = never_starts;
      exactly = rule_exact;
      spread = gathers_whole;
      one_repeat = one_repeat;
      begun = begun_holds;
      as_new = as_new;
      cuts = rule_cut;
      again = state_again;
      longest = longest_is;
      stuck = stuck_is;
    }
