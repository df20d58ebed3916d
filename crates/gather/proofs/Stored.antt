-- The rule on memory, for those who call it: it is not refused where the sizes serve, and what stands in the store after it is what the rule remembers.
-- Assumes nothing.
use mathlib.Core.Path.{◌≡◌, refl, ◌∙◌, ap, ap₂}
use mathlib.Core.Bool.{Bool, true, false, not}
use mathlib.Core.List.{List}
use Prim.Native.Nat.{ℕ, ◌+◌, ◌-◌, ◌*◌, ◌≤◌, ◌<◌}
use native.Mathlib.Omega.{arith}
use lib.ListN.{length, take}
use borrow.Author.Tests.{le-ltb}
use Rattle.ground.proofs.Refused.{accepted}
use Rattle.ground.specs.Write.{put}
use Rattle.ground.proofs.Write.{written}
use Rattle.gather.specs.declared.Marks.{Marks}
use Rattle.ground.specs.Answer.{refused}
use Rattle.ground.specs.Walk.{Every}
use Rattle.gather.specs.Kind.{join, cut}
use Rattle.gather.specs.Rule.{Last, unseen, seen, State, Packet, rule}
use Rattle.gather.specs.Memory.{held_of, sound_marks, last_of, marks_of, state_of, contradicts_of, gather_refusals, gather_of, on_memory, leaves}
use Rattle.gather.specs.Steps.{Room}
use Rattle.gather.proofs.RuleOnMemory.{sound_says, number_again, marks_again}
use Rattle.gather.specs.Claims.{IsWhole}
use Rattle.gather.proofs.RuleKeeps.{rule_keeps}
use Rattle.gather.proofs.Cutting.{cut_join}

-- where the sizes serve and the marks are sound, the answer is the rule's
pub serves : (m : Marks) (counter : ℕ) (start : Bool) (payload store : List ℕ) (base : ℕ) (out : List ℕ)
    → Room (held_of m) payload store base out → sound_marks m ≡ true → counter ≤ 15
    → gather_of m counter start payload store base out
    ≡ on_memory (rule (state_of m store base) (record { counter = counter; start = start; payload = payload })) store base out
unfolding gather_of
serves m counter start payload store base out r s few =
    accepted (λ n. leaves (refused n) store out)
    (on_memory (rule (state_of m store base) (record { counter = counter; start = start; payload = payload })) store base out)
    (gather_refusals m counter payload store base out) (
      ap not s,
      (
        le-ltb 15 counter few,
        (
          le-ltb (length store) 4096 (omega (arith, r)),
          (le-ltb (length store - 4096) base (omega (arith, r)), (le-ltb (length out) 4278 r.output, (le-ltb 184 (length payload) r.short, tt))),
        ),
      ),
    )

-- the house's sizes serve: a store of 32,768 bytes, area i of 8, a payload of a packet and an output of at least 4,278 bytes
pub house : (m : Marks) (payload store : List ℕ) (i : ℕ) (out : List ℕ) → sound_marks m ≡ true → length store ≡ 32768 → i < 8 → length payload ≤ 184 → 4278 ≤ length out
    → Room (held_of m) payload store (4096 * i) out
house m payload store i out s l h p o = record { bound = (sound_says m s).held; short = p; area = omega arith; output = o }

-- a last counter is read back from its marks
last_again : (held : List ℕ) (l : Last) → last_of (marks_of (record { held = held; last = l })) ≡ l
last_again held unseen = refl
last_again held (seen l true) = refl
last_again held (seen l false) = refl

-- what the rule remembers is read back from its marks and from the store
pub state_again : (n : State) (store : List ℕ) (base : ℕ) → base + length n.held ≤ length store
    → state_of (marks_of n) (put store base n.held) base ≡ n
state_again n store base h =
    rw (number_again (length n.held))
    (ap₂ (λ (held : List ℕ) (last : Last). record { held = held; last = last }) (written store base n.held h) (last_again n.held n.last))

-- after a call refusal 9 cannot follow, and the marks are sound
module _ (m : Marks) (counter : ℕ) (start : Bool) (payload store : List ℕ) (base : ℕ) (out : List ℕ) (r : Room (held_of m) payload store base out)
    (s : sound_marks m ≡ true) (h : contradicts_of (held_of m) store base ≡ false) where
  pub never_contradicts :
      let n = (rule (state_of m store base) (record { counter = counter; start = start; payload = payload })).next in
      contradicts_of (held_of (marks_of n)) (put store base n.held) base ≡ false
  never_contradicts =
      let p : Packet = record { counter = counter; start = start; payload = payload } in
      let k = rule_keeps (state_of m store base) p h in
      rw (number_again (length (rule (state_of m store base) p).next.held), written store base (rule (state_of m store base) p).next.held (omega (arith, k.held, r))) k.part

  pub stays_sound : counter ≤ 15 → sound_marks (marks_of (rule (state_of m store base) (record { counter = counter; start = start; payload = payload })).next) ≡ true
  stays_sound c =
      (rule_keeps (state_of m store base) (record { counter = counter; start = start; payload = payload }) h).sound
      (ap sound_marks (marks_again m store base s r.area) ∙ s) c

-- whole sections joined at the start of the output are cut from its first bytes again
pub output_cut : (ss : List (List ℕ)) (out : List ℕ) → Every IsWhole ss → length (join ss) ≤ length out → cut (take (length (join ss)) (put out 0 (join ss))) ≡ ss
output_cut ss out w h = rw (written out 0 (join ss) (omega arith)) (cut_join ss w)
