-- What the rule keeps: how many sections it finishes and gives up, what it holds, and that what it holds never contradicts itself.
-- Assumes nothing.
use mathlib.Core.Path.{◌≡◌, refl, ap}
use mathlib.Core.Bool.{Bool, true, false}
use mathlib.Core.List.{List, [], ◌∷◌, ◌++◌, append-nil}
use mathlib.Core.Logic.{⊎_elim}
use Prim.Native.Nat.{ℕ, ◌+◌, ◌≤◌, ◌<◌}
use native.Mathlib.Nat.{not-suc-le-zero}
use native.Mathlib.Omega.{arith}
use lib.Dec.{eqb}
use lib.ListN.{length, length-append, length-take, length-drop}
use borrow.Author.Tests.{eqb-true, eqb-false, le-leb}
use Rattle.ground.specs.Walk.{Every}
use Rattle.ground.proofs.Walk.{every_append}
use Rattle.gather.specs.declared.kind.Kind.{Kind}
use Rattle.gather.specs.declared.kind.Kind.TheVariants.{Nothing, Part, Overlong, Whole}
use Rattle.gather.specs.Kind.{classify, contradicting, join}
use Rattle.gather.specs.Rule.{Last, unseen, seen, marked, State, Packet, Yield, Outcome, nothing, first, add, walk, front, back, started, yield, repeats, jumps, kept, lost, unchanged, dropped, taken, rule}
use Rattle.gather.specs.Memory.{sound_marks, counter_of, marks_of}
use Rattle.gather.specs.Claims.{IsWhole, Keeps, Never}
use Rattle.gather.proofs.Classes.{held_kind, held_fits, part_fits}
use Rattle.gather.proofs.Walk.{walk_fine, walk_split, whole_count}
use Rattle.gather.proofs.Adding.{add_none, add_kind, add_ind, add_fine, add_split}
use Rattle.gather.proofs.OnMemory.{join-append, unfinished_le}
use Rattle.gather.proofs.RuleOnMemory.{number_again, low_byte, rule_empty, rule_repeat, rule_taken, yield_two}

-- ---- the three ways of the rule
module _ (s : State) (p : Packet) where
  pub rule_ind : (P : Outcome → Type 0)
      → (length p.payload ≡ 0 → P (unchanged s))
      → ((length p.payload ≡ 0 → ⊥) → repeats s.last p.counter ≡ true → P (dropped s))
      → ((length p.payload ≡ 0 → ⊥) → repeats s.last p.counter ≡ false
      → P (taken (jumps s.last p.counter) p (lost (jumps s.last p.counter) s.held)
      (yield (kept (jumps s.last p.counter) s.held) p.start p.payload)))
      → P (rule s p)
  rule_ind P none again on = empty (eqb (length p.payload) 0) refl
    where
      repeated : (length p.payload ≡ 0 → ⊥) → (b : Bool) → repeats s.last p.counter ≡ b → P (rule s p)
      repeated e true r = rw (rule_repeat s p e r) (again e r)
      repeated e false r = rw (rule_taken s p e r) (on e r)

      empty : (b : Bool) → eqb (length p.payload) 0 ≡ b → P (rule s p)
      empty true e = let z = eqb-true (length p.payload) 0 e in rw (rule_empty s p z) (none z)
      empty false e = repeated (eqb-false (length p.payload) 0 e) (repeats s.last p.counter) refl

-- ---- what a payload gives after held bytes
-- bytes added finish one section at most
pub add_single : (held new : List ℕ) → length (add held new).sections ≤ 1
add_single = add_ind (λ held new y. length y.sections ≤ 1) (λ held new. omega arith) step
  where
    step : (held new : List ℕ) (k : Kind) → 0 < length held → classify (held ++ new) ≡ k → length (first k (held ++ new) nothing).sections ≤ 1
    step held new Nothing h e = omega arith
    step held new Part h e = omega arith
    step held new Overlong h e = omega arith
    step held new (Whole n) h e = omega arith

-- no section comes of held bytes alone that do not contradict themselves
pub add_alone : (held : List ℕ) → contradicting held ≡ false → (add held []).sections ≡ []
add_alone held h = ⊎_elim (λ z. rw (add_none held [] z)) part (held_kind held h)
  where
    part : classify held ≡ Part → (add held []).sections ≡ []
    part k = rw (add_kind held [] Part (part_fits held k).0 (rw (append-nil held) k))

pub add_few : (held new : List ℕ) → contradicting held ≡ false → length (add held new).sections ≤ length new
add_few held [] h = rw (add_alone held h) (omega arith)
add_few held (x ∷ xs) h = let o = add_single held (x ∷ xs) in omega arith

-- the pointer, the bytes that it counts and those after them are the payload
parts : (payload : List ℕ) → (length payload ≡ 0 → ⊥) → 1 + length (front payload) + length (back payload) ≤ length payload
parts payload n = simp (length-take, length-drop) (omega arith)

-- what a payload gives after held bytes that do not contradict themselves
pub record Given (held payload : List ℕ) (y : Yield) : Type 0 where
  pub whole : Every IsWhole y.sections
  pub part : contradicting y.held ≡ false
  pub two : y.given_up ≤ 2
  pub count : length payload ≤ 184 → length y.sections ≤ 61
  pub bytes : length held ≤ 4095 → length payload ≤ 184 → length (join y.sections) ≤ 4278
  pub within : length (join y.sections) ≤ length held + length payload

pub yield_given : (held : List ℕ) (start : Bool) (payload : List ℕ) → contradicting held ≡ false → (length payload ≡ 0 → ⊥) → Given held payload (yield held start payload)
unfolding started
yield_given held true payload h n =
    let a = add_fine held (front payload) in
    let b = walk_fine (back payload) in
    let one = add_single held (front payload) in
    let few = add_few held (front payload) h in
    let more = whole_count (walk (back payload)).sections b.whole in
    let within = (walk_split (back payload)).fits in
    let split = parts payload n in
    let first = (add_split held (front payload)).within in
    let size : length (join ((add held (front payload)).sections ++ (walk (back payload)).sections)) + 1 ≤ length held + length payload =
    rw (join-append (add held (front payload)).sections (walk (back payload)).sections, length-append) (omega arith) in
    record {
      whole = every_append IsWhole (add held (front payload)).sections (walk (back payload)).sections a.whole b.whole;
      part = b.part;
      two = yield_two held true payload;
      count = λ l. rw length-append (omega arith);
      bytes = λ k l. omega arith;
      within = omega arith;
    }
yield_given held false payload h n =
    let a = add_fine held payload in
    let one = add_single held payload in
    let split = add_split held payload in
    record {
      whole = a.whole;
      part = a.part;
      two = yield_two held false payload;
      count = λ l. omega arith;
      bytes = λ k l. omega (arith, split.most);
      within = split.within;
    }

-- after a jump nothing is held, and held bytes that do not contradict themselves stay so
pub kept_fine : (b : Bool) (held : List ℕ) → contradicting held ≡ false → contradicting (kept b held) ≡ false
kept_fine true held h = refl
kept_fine false held h = h

kept_short : (b : Bool) (held : List ℕ) → length (kept b held) ≤ length held
kept_short true held = omega arith
kept_short false held = omega arith

-- with nothing held a payload gives up one section at most
fresh_one : (start : Bool) (payload : List ℕ) → (yield [] start payload).given_up ≤ 1
unfolding started
fresh_one true payload =
    let w = (walk_fine (back payload)).one in
    rw (add_none [] (front payload) refl) (omega arith)
fresh_one false payload = rw (add_none [] payload refl) (omega arith)

lost_two : (b : Bool) (held : List ℕ) (start : Bool) (payload : List ℕ) → lost b held + (yield (kept b held) start payload).given_up ≤ 2
lost_two true held start payload =
    let f = fresh_one start payload in
    let u = unfinished_le (length held) in
    omega arith
lost_two false held start payload = let t = yield_two held start payload in omega arith

-- ---- what the rule keeps
-- a repeat leaves the counter, and sound marks sound
marked_counter : (l : Last) → counter_of (marked l) ≡ counter_of l
marked_counter unseen = refl
marked_counter (seen l repeated) = refl

marked_sound : (held : List ℕ) (l : Last) → sound_marks (marks_of (record { held = held; last = l })) ≡ true → sound_marks (marks_of (record { held = held; last = marked l })) ≡ true
marked_sound held unseen h = h
marked_sound held (seen l true) h = h
marked_sound held (seen l false) h = h

pub rule_keeps : (s : State) (p : Packet) → contradicting s.held ≡ false → Keeps s p (rule s p)
rule_keeps s p h = rule_ind s p (Keeps s p) (λ z. still s.last (λ k. k) (λ k. k) false) (λ e r. still (marked s.last) (λ k. rw (marked_counter s.last) k) (marked_sound s.held s.last) true) on
  where
    still : (l : Last) → (counter_of s.last ≤ 15 → counter_of l ≤ 15)
        → (sound_marks (marks_of s) ≡ true → sound_marks (marks_of (record { held = s.held; last = l })) ≡ true) → (again : Bool)
        → Keeps s p (record { next = record { held = s.held; last = l }; sections = []; jump = false; repeat = again; given_up = 0; begun = 0 })
    still l few sound again =
        record {
          whole = tt;
          part = h;
          held = held_fits s.held h;
          two = omega arith;
          count = λ l. omega arith;
          within = omega arith;
          bytes = λ l. omega arith;
          counter = λ k l. few k;
          sound = λ k l. sound k;
        }

    on : (length p.payload ≡ 0 → ⊥) → repeats s.last p.counter ≡ false
        → Keeps s p (taken (jumps s.last p.counter) p (lost (jumps s.last p.counter) s.held)
        (yield (kept (jumps s.last p.counter) s.held) p.start p.payload))
    on e r =
        let b = jumps s.last p.counter in
        let fine = kept_fine b s.held h in
        let g = yield_given (kept b s.held) p.start p.payload fine e in
        let small = held_fits (kept b s.held) fine in
        let fits = held_fits (yield (kept b s.held) p.start p.payload).held g.part in
        record {
          whole = g.whole;
          part = g.part;
          held = fits;
          two = lost_two b s.held p.start p.payload;
          count = g.count;
          within = let k = kept_short b s.held in let w = g.within in omega arith;
          bytes = g.bytes small;
          counter = λ k l. l;
          sound =
              λ k l.
              let n = length (yield (kept b s.held) p.start p.payload).held in
              rw (low_byte n, number_again n, le-leb n 4095 fits, le-leb p.counter 15 l);
        }

-- ---- unit start 0 never starts a section: nothing comes of nothing held, and after a finished section nothing is held
add_ends : (held new : List ℕ) → 0 < length (add held new).sections → length (add held new).held ≡ 0
add_ends = add_ind (λ held new y. 0 < length y.sections → length y.held ≡ 0) (λ held new l. refl) step
  where
    step : (held new : List ℕ) (k : Kind) → 0 < length held → classify (held ++ new) ≡ k
        → 0 < length (first k (held ++ new) nothing).sections → length (first k (held ++ new) nothing).held ≡ 0
    step held new Nothing h e l = refl
    step held new Part h e l = absurd (not-suc-le-zero l)
    step held new Overlong h e l = refl
    step held new (Whole n) h e l = refl

pub never_starts : (s : State) (p : Packet) → p.start ≡ false → Never s (rule s p)
never_starts s p u = rule_ind s p (Never s) (λ z. still s.last false) (λ e r. still (marked s.last) true) on
  where
    still : (l : Last) (again : Bool) → Never s (record { next = record { held = s.held; last = l }; sections = []; jump = false; repeat = again; given_up = 0; begun = 0 })
    still l again = record { none = λ z. (refl, z); ends = λ l. absurd (not-suc-le-zero l) }

    on : (length p.payload ≡ 0 → ⊥) → repeats s.last p.counter ≡ false
        → Never s (taken (jumps s.last p.counter) p (lost (jumps s.last p.counter) s.held)
        (yield (kept (jumps s.last p.counter) s.held) p.start p.payload))
    on e r =
        let held = kept (jumps s.last p.counter) s.held in
        let short = kept_short (jumps s.last p.counter) s.held in
        rw u (record {
          none = λ z. let n = add_none held p.payload (omega arith) in (ap (λ (y : Yield). y.sections) n, ap (λ (y : Yield). length y.held) n);
          ends = add_ends held p.payload;
        })
