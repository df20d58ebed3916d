-- The rule on memory: what a packet that is not gathered answers, and what one that is taken does.
-- Assumes nothing.
use mathlib.Core.Path.{◌≡◌, refl, sym, ◌∙◌, ap}
use mathlib.Core.Bool.{Bool, true, false, cond, ◌&&◌, ◌||◌, not, false≢true}
use mathlib.Core.List.{List}
use Prim.Native.Nat.{ℕ, zero, suc, ◌+◌, ◌-◌, ◌*◌, ◌/◌, ◌%◌, ◌≤◌, min}
use native.Mathlib.Omega.{arith}
use lib.Dec.{eqb, leb}
use lib.ListN.{length, length-drop}
use borrow.Author.Tests.{leb-true, leb-false, le-leb, lt-leb, eqb-true, eqb-false, eq-eqb, ne_eqb}
use Rattle.ground.proofs.Write.{put_nil, put_same}
use Rattle.ground.proofs.Test.{both_true}
use Rattle.ground.proofs.Part.{length_part, part_least}
use Rattle.gather.specs.declared.kind.Kind.{Kind}
use Rattle.gather.specs.declared.Marks.{Marks}
use Rattle.ground.specs.Answer.{given}
use Rattle.gather.specs.declared.measure.Sizes.{Sizes}
use Rattle.gather.specs.Kind.{classify}
use Rattle.gather.specs.Rule.{Last, unseen, seen, Yield, State, Packet, unfinished_of, started, yield, front, back, begun_by, is_same, skips, is_repeated, repeats, jumps, unchanged, marked, dropped, kept, lost, taken, rule}
use Rattle.gather.specs.Memory.{held_of, sound_marks, last_of, seen_of, counter_of, repeated_of, marks_of, state_of, stretch, told_gathered, leaves, on_memory, contradicts_of}
use Rattle.gather.specs.Steps.{is_part, Carried, carried, carried_as, original_of, ungathered_of, taken_of, Room}
use Rattle.gather.proofs.Classes.{contradicting_kind}
use Rattle.gather.proofs.Walk.{walk_fine, walk_split}
use Rattle.gather.proofs.Adding.{add_fine, add_split}
use Rattle.gather.proofs.OnMemory.{unfinished_le}

-- what sound marks say
pub record SoundMarks (m : Marks) : Type 0 where
  pub byte : m.held_low ≤ 255
  pub held : held_of m ≤ 4095
  pub counter : m.counter ≤ 15
  pub mark : m.seen ≤ 1
  pub repeat : m.repeated ≤ 1
  pub fresh : m.seen ≡ 0 → m.counter ≡ 0
  pub empty : m.seen ≡ 0 → held_of m ≡ 0
  pub unrepeated : m.seen ≡ 0 → m.repeated ≡ 0

pub sound_says : (m : Marks) → sound_marks m ≡ true → SoundMarks m
sound_says m e = let p = both_true (leb m.held_low 255) _ e in go (leb-true m.held_low 255 p.0) (eqb m.seen 0) refl p.1
  where
    go : m.held_low ≤ 255 → (b : Bool) → eqb m.seen 0 ≡ b
        → cond b (eqb (held_of m) 0 && eqb m.counter 0 && eqb m.repeated 0) (eqb m.seen 1 && leb (held_of m) 4095 && leb m.counter 15 && leb m.repeated 1) ≡ true
        → SoundMarks m
    go byte true s e =
        let p = both_true (eqb (held_of m) 0 && eqb m.counter 0) (eqb m.repeated 0) e in
        let q = both_true (eqb (held_of m) 0) (eqb m.counter 0) p.0 in
        let z = eqb-true m.seen 0 s in
        let h = eqb-true (held_of m) 0 q.0 in
        let k = eqb-true m.counter 0 q.1 in
        let r = eqb-true m.repeated 0 p.1 in
        record { byte = byte; held = omega arith; counter = omega arith; mark = omega arith; repeat = omega arith; fresh = λ f. k; empty = λ f. h; unrepeated = λ f. r }
    go byte false s e =
        let p = both_true (eqb m.seen 1 && leb (held_of m) 4095 && leb m.counter 15) (leb m.repeated 1) e in
        let q = both_true (eqb m.seen 1 && leb (held_of m) 4095) (leb m.counter 15) p.0 in
        let r = both_true (eqb m.seen 1) (leb (held_of m) 4095) q.0 in
        let one = eqb-true m.seen 1 r.0 in
        let never = eqb-false m.seen 0 s in
        record {
          byte = byte;
          held = leb-true (held_of m) 4095 r.1;
          counter = leb-true m.counter 15 q.1;
          mark = omega arith;
          repeat = leb-true m.repeated 1 p.1;
          fresh = λ f. absurd (never f);
          empty = λ f. absurd (never f);
          unrepeated = λ f. absurd (never f);
        }

-- ---- what is held, by its two bytes
-- a number's two bytes are read back
pub bytes_again : (low high : ℕ) → low ≤ 255 → ((low + 256 * high) % 256 ≡ low) × ((low + 256 * high) / 256 ≡ high)
bytes_again low high h = (omega arith, omega arith)

-- and it is what they say, of which the low one is a byte
pub number_again : (n : ℕ) → n % 256 + 256 * (n / 256) ≡ n
number_again n = omega arith

pub low_byte : (n : ℕ) → leb (n % 256) 255 ≡ true
low_byte n = le-leb (n % 256) 255 (omega arith)

-- nothing is held where both are 0
pub none_held : (low high : ℕ) → (eqb low 0 && eqb high 0) ≡ eqb (low + 256 * high) 0
none_held low high = go (eqb low 0) (eqb high 0) refl refl
  where
    go : (a b : Bool) → eqb low 0 ≡ a → eqb high 0 ≡ b → (a && b) ≡ eqb (low + 256 * high) 0
    go true true p q = let l = eqb-true low 0 p in let h = eqb-true high 0 q in sym (eq-eqb (low + 256 * high) 0 (omega arith))
    go true false p q = let h = eqb-false high 0 q in sym (ne_eqb (low + 256 * high) 0 (λ e. h (omega arith)))
    go false b p q = let l = eqb-false low 0 p in sym (ne_eqb (low + 256 * high) 0 (λ e. l (omega arith)))

-- and no more than an area has room for, where the high one is at most 15
pub few_held : (low high : ℕ) → low ≤ 255 → leb high 15 ≡ leb (low + 256 * high) 4095
few_held low high h = go (leb high 15) refl
  where
    go : (b : Bool) → leb high 15 ≡ b → b ≡ leb (low + 256 * high) 4095
    go true e = let k = leb-true high 15 e in sym (le-leb (low + 256 * high) 4095 (omega arith))
    go false e = let k = leb-false high 15 e in sym (lt-leb (low + 256 * high) 4095 (omega arith))

-- a number that is 0 or 1 says whether it is
one_or_none : (n : ℕ) → n ≤ 1 → cond (not (eqb n 0)) 1 0 ≡ n
one_or_none zero h = refl
one_or_none (suc zero) h = refl
one_or_none (suc (suc n)) h = absurd (omega arith)

-- sound marks are the marks of the last counter that they say
last_marks : (m : Marks) → SoundMarks m → (seen_of (last_of m) ≡ m.seen) × (counter_of (last_of m) ≡ m.counter) × (repeated_of (last_of m) ≡ m.repeated)
last_marks m w = go (eqb m.seen 0) refl
  where
    go : (b : Bool) → eqb m.seen 0 ≡ b
        → let l = cond b unseen (seen m.counter (not (eqb m.repeated 0))) in
        (seen_of l ≡ m.seen) × (counter_of l ≡ m.counter) × (repeated_of l ≡ m.repeated)
    go true e =
        let z = eqb-true m.seen 0 e in
        (sym z, sym (w.fresh z), sym (w.unrepeated z))
    go false e =
        let n = eqb-false m.seen 0 e in
        (omega (arith, n, w.mark), refl, one_or_none m.repeated w.repeat)

-- sound marks are the marks of what they remember
pub marks_again : (m : Marks) (store : List ℕ) (base : ℕ) → sound_marks m ≡ true → base + 4096 ≤ length store → marks_of (state_of m store base) ≡ m
marks_again m store base s f =
    let w = sound_says m s in
    let size : length (stretch (held_of m) store base) ≡ held_of m = length_part (held_of m) store base (omega (arith, w)) in
    let l = last_marks m w in
    let two = bytes_again m.held_low m.held_high w.byte in
    rw (size, two.0, two.1, l.0, l.1, l.2)

-- marks that say a repeat are those of an area that remembers it, once it is marked
marked_again : (m : Marks) (counter : ℕ) → SoundMarks m → repeats (last_of m) counter ≡ true
    → (seen_of (marked (last_of m)) ≡ m.seen) × (counter_of (marked (last_of m)) ≡ m.counter) × (repeated_of (marked (last_of m)) ≡ 1)
marked_again m counter w = go (eqb m.seen 0) refl
  where
    go : (b : Bool) → eqb m.seen 0 ≡ b
        → let l = cond b unseen (seen m.counter (not (eqb m.repeated 0))) in
        repeats l counter ≡ true → (seen_of (marked l) ≡ m.seen) × (counter_of (marked l) ≡ m.counter) × (repeated_of (marked l) ≡ 1)
    go true e r = absurd (false≢true r)
    go false e r = (omega (arith, eqb-false m.seen 0 e, w.mark), refl, refl)

module _ (m : Marks) (store : List ℕ) (base : ℕ) (out : List ℕ) (s : sound_marks m ≡ true) (area : base + 4096 ≤ length store) where
  -- a packet without payload writes nothing
  pub unchanged_on_memory : leaves (given (told_gathered (ungathered_of m m.repeated false))) store out ≡ on_memory (unchanged (state_of m store base)) store base out
  unchanged_on_memory =
      let w = sound_says m s in
      rw (marks_again m store base s area, put_same store base (held_of m) (omega (arith, w)), put_nil out 0)

  -- nor does a repeat, and of the marks it sets the last
  pub dropped_on_memory : (counter : ℕ) → repeats (last_of m) counter ≡ true
      → leaves (given (told_gathered (ungathered_of m 1 true))) store out ≡ on_memory (dropped (state_of m store base)) store base out
  dropped_on_memory counter r =
      let w = sound_says m s in
      let size : length (stretch (held_of m) store base) ≡ held_of m = length_part (held_of m) store base (omega (arith, w)) in
      let l = marked_again m counter w r in
      let two = bytes_again m.held_low m.held_high w.byte in
      rw (size, two.0, two.1, l.0, l.1, l.2, put_same store base (held_of m) (omega (arith, w)), put_nil out 0)

-- a packet that is taken answers the sizes of what it gives
pub taken_on_memory : (y : Yield) (z : Sizes) (store' out' store : List ℕ) (base : ℕ) (out : List ℕ) (jump : Bool) (p : Packet) (lost : ℕ)
    → carried_as z store' out' ≡ carried (begun_by p.start p.payload) y store base out
    → leaves (given (told_gathered (taken_of (original_of z.held p.counter) jump (lost + z.given_up) z))) store' out'
    ≡ on_memory (taken jump p lost y) store base out
taken_on_memory y z store' out' store base out jump p lost e =
    ap (λ (c : Carried). leaves (given (told_gathered (taken_of (original_of c.sizes.held p.counter) jump (lost + c.sizes.given_up) c.sizes))) c.store c.out) e

-- ---- which of them the rule takes
module _ (s : State) (p : Packet) where
  pub rule_empty : length p.payload ≡ 0 → rule s p ≡ unchanged s
  unfolding rule
  rule_empty e = rw (eq-eqb (length p.payload) 0 e)

  pub rule_repeat : (length p.payload ≡ 0 → ⊥) → repeats s.last p.counter ≡ true → rule s p ≡ dropped s
  unfolding rule
  rule_repeat e r = rw (ne_eqb (length p.payload) 0 e, r)

  pub rule_taken : (length p.payload ≡ 0 → ⊥) → repeats s.last p.counter ≡ false
      → rule s p ≡ taken (jumps s.last p.counter) p (lost (jumps s.last p.counter) s.held)
      (yield (kept (jumps s.last p.counter) s.held) p.start p.payload)
  unfolding rule
  rule_taken e r = rw (ne_eqb (length p.payload) 0 e, r)

-- a payload gives up two sections at most
pub yield_two : (held : List ℕ) (start : Bool) (payload : List ℕ) → (yield held start payload).given_up ≤ 2
unfolding started
yield_two held true payload =
    let a = (add_fine held (front payload)).one in
    let b = (walk_fine (back payload)).one in
    omega arith
yield_two held false payload = let f = (add_fine held payload).one in omega arith

-- what a payload leaves to be held is less than an area
pub yield_short : (held : List ℕ) (start : Bool) (payload : List ℕ) → length payload ≤ 184 → length (yield held start payload).held ≤ 4095
unfolding started
yield_short held true payload h =
    let w = (walk_split (back payload)).fits in
    let d : length (back payload) ≤ length payload = simp length-drop (omega arith) in
    omega arith
yield_short held false payload h = (add_split held payload).bound

-- held bytes after a jump
pub kept_part : (jump : Bool) (n : ℕ) (store : List ℕ) (base : ℕ) → stretch (cond jump 0 n) store base ≡ kept jump (stretch n store base)
kept_part true n store base = refl
kept_part false n store base = refl

pub lost_le : (jump : Bool) (n : ℕ) → cond jump (unfinished_of n) 0 ≤ 1
lost_le true n = unfinished_le n
lost_le false n = omega arith

-- ---- the tests of the counter, as the code has them
pub same_is : (m : Marks) (counter : ℕ) → (not (eqb m.seen 0) && eqb counter m.counter) ≡ is_same (last_of m) counter
same_is m counter = go (eqb m.seen 0)
  where
    go : (b : Bool) → (not b && eqb counter m.counter) ≡ is_same (cond b unseen (seen m.counter (not (eqb m.repeated 0)))) counter
    go true = refl
    go false = refl

pub skips_is : (m : Marks) (counter : ℕ)
    → (not (eqb m.seen 0) && (not (eqb counter m.counter) && not (eqb counter ((m.counter + 1) % 16)))) ≡ skips (last_of m) counter
skips_is m counter = go (eqb m.seen 0)
  where
    go : (b : Bool) → (not b && (not (eqb counter m.counter) && not (eqb counter ((m.counter + 1) % 16))))
        ≡ skips (cond b unseen (seen m.counter (not (eqb m.repeated 0)))) counter
    go true = refl
    go false = refl

-- where the counter is the last one, the mark says whether its repeat was seen
pub repeats_is : (m : Marks) (counter : ℕ) (same : Bool) → same ≡ is_same (last_of m) counter → (same && eqb m.repeated 0) ≡ repeats (last_of m) counter
repeats_is m counter same e = rw e (go (eqb m.seen 0) (eqb m.repeated 0))
  where
    go : (b r : Bool)
        → (is_same (cond b unseen (seen m.counter (not r))) counter && r) ≡ repeats (cond b unseen (seen m.counter (not r))) counter
    go true r = refl
    go false true = refl
    go false false = refl

-- and where it is no repeat, a counter that is the last one is a jump
pub jumps_is : (l : Last) (counter : ℕ) (same skip : Bool) → same ≡ is_same l counter → skip ≡ skips l counter → repeats l counter ≡ false
    → (same || skip) ≡ jumps l counter
jumps_is l counter same skip e k r = rw (e, k) (go (is_same l counter) (is_repeated l) r)
  where
    go : (b again : Bool) → (b && not again) ≡ false → (b || skips l counter) ≡ ((b && again) || skips l counter)
    go true true r = refl
    go true false r = absurd (false≢true (sym r))
    go false again r = refl

-- ---- a packet that is taken, whole
module _ (m : Marks) (counter : ℕ) (start : Bool) (payload store : List ℕ) (base : ℕ) (out : List ℕ) (room : Room (held_of m) payload store base out) where
  abbrev s : State
  s = state_of m store base

  abbrev p : Packet
  p = record { counter = counter; start = start; payload = payload }

  pub taken_whole : (length payload ≡ 0 → ⊥) → repeats (last_of m) counter ≡ false
      → (jump : Bool) (held gave : ℕ) → jump ≡ jumps (last_of m) counter → held ≡ cond jump 0 (held_of m) → gave ≡ cond jump (unfinished_of (held_of m)) 0
      → (z : Sizes) (store' out' : List ℕ) → carried_as z store' out' ≡ carried (begun_by start payload) (yield (stretch held store base) start payload) store base out
      → leaves (given (told_gathered (taken_of (original_of z.held counter) jump (gave + z.given_up) z))) store' out'
      ≡ on_memory (rule (state_of m store base) (record { counter = counter; start = start; payload = payload })) store base out
  taken_whole e r jump held gave j h g z store' out' c =
      let size : length (stretch (held_of m) store base) ≡ held_of m = length_part (held_of m) store base (omega (arith, room)) in
      let lost_is : gave ≡ lost jump (stretch (held_of m) store base) = rw size g in
      let kept_is : stretch held store base ≡ kept jump (stretch (held_of m) store base) = rw h (kept_part jump (held_of m) store base) in
      taken_on_memory (yield (stretch held store base) start payload) z store' out' store base out jump p gave c
      ∙ rw (lost_is, kept_is, j, rule_taken s p e r)

-- ---- refusal 9, as the code tests it
pub contradicts_is : (held : ℕ) (store : List ℕ) (base at n : ℕ) (k : Kind) (b : Bool) → at ≡ min base (length store) → n ≡ min held (length store - at)
    → k ≡ classify (stretch n store at) → b ≡ is_part k → (not (eqb n 0) && not b) ≡ contradicts_of held store base
contradicts_is held store base at n k b f g e i =
    let part : stretch n store at ≡ stretch held store base = rw (g, f) (part_least held store base) in
    let size : length (stretch held store base) ≡ n = ap length (sym part) ∙ length_part n store at (omega arith) in
    rw (i, e, part, ← size) (sym (contradicting_kind (stretch held store base)))
