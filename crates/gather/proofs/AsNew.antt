-- After a jump, as good as new: a packet that is taken leaves its own counter and what its payload gives after the held bytes, of which a jump keeps none and a start none behind its payload.
-- Assumes nothing.
use mathlib.Core.Path.{◌≡◌, refl, sym, ◌∙◌, ap}
use mathlib.Core.Bool.{Bool, true, false, false≢true}
use mathlib.Core.List.{List, [], ◌∷◌, ◌++◌}
use Prim.Native.Nat.{ℕ, ◌+◌, ◌%◌, ◌≤◌}
use native.Mathlib.Nat.{zero-add, add_assoc}
use native.Mathlib.Omega.{arith}
use lib.ListN.{length}
use borrow.Author.Tests.{eq-eqb, ne_eqb}
use Rattle.ground.specs.Walk.{Every}
use Rattle.gather.specs.Kind.{kind_of, classify}
use Rattle.gather.specs.Rule.{Last, seen, State, blank, Packet, Yield, Outcome, unfinished, walk, add, front, back, started, yield, begun_in, begun_by, is_repeated, repeats, jumps, kept, lost, taken, rule}
use Rattle.gather.specs.Run.{Ran, run, outcomes, starts, continues}
use Rattle.gather.specs.Claims.AsNew.{jumped, Forgets, mark_kept, held_kept, payload_dropped, jumped_first, JumpForgets, Starts, finished_first, StartForgets, counter_after, Comes, LossShows, RuleAsNew}
use Rattle.gather.proofs.RuleOnMemory.{rule_taken}
use Rattle.gather.proofs.RuleKeeps.{rule_ind, add_single}
use Rattle.gather.proofs.OneRepeat.{some}
use Rattle.gather.proofs.Spread.{go_on}

-- ---- a jump
module _ (p : Packet) where
  -- an area that was just taken takes every packet with payload
  blank_taken : (length p.payload ≡ 0 → ⊥) → rule blank p ≡ taken false p 0 (yield [] p.start p.payload)
  blank_taken some = rule_taken blank p some refl

  blank_tells : ((rule blank p).jump ≡ false) × ((rule blank p).repeat ≡ false)
  blank_tells =
      rule_ind blank p (λ (o : Outcome). (o.jump ≡ false) × (o.repeat ≡ false)) (λ z. (refl, refl)) (λ e r. absurd (false≢true r)) (λ e r. (refl, refl))

module _ (s : State) (p : Packet) where
  forgets_taken : (j : Bool) → j ≡ true → (length p.payload ≡ 0 → ⊥)
      → taken j p (lost j s.held) (yield (kept j s.held) p.start p.payload) ≡ jumped s.held (rule blank p)
  forgets_taken true j some =
      ap (jumped_by (yield [] p.start p.payload)) (sym (zero-add (yield [] p.start p.payload).given_up)) ∙ ap (jumped s.held) (sym (blank_taken p some))
    where
      jumped_by : Yield → ℕ → Outcome
      jumped_by y n =
          record { next = record { held = y.held; last = seen p.counter false }; sections = y.sections; jump = true; repeat = false; given_up = unfinished s.held + n; begun = begun_by p.start p.payload }
  forgets_taken false j some = absurd (false≢true j)

  jump_forgets : (rule s p).jump ≡ true → rule s p ≡ jumped s.held (rule blank p)
  jump_forgets =
      rule_ind s p (λ (o : Outcome). o.jump ≡ true → o ≡ jumped s.held (rule blank p)) (λ z j. absurd (false≢true j)) (λ e r j. absurd (false≢true j))
      (λ e r j. forgets_taken (jumps s.last p.counter) j e)

  altogether : (rule s p).jump ≡ true → (ps : List Packet) → run s (p ∷ ps) ≡ jumped_first s.held (run blank (p ∷ ps))
  altogether j ps =
      ap (λ (o : Outcome). go_on o ps) (jump_forgets j)
      ∙ ap (λ (n : ℕ). gives_up n) (add_assoc (unfinished s.held) (rule blank p).given_up (run (rule blank p).next ps).given_up)
    where
      gives_up : ℕ → Ran
      gives_up n =
          let r = run blank (p ∷ ps) in
          record { next = r.next; sections = r.sections; given_up = n; begun = r.begun }

-- wrong rules: an area that holds one byte jumps to counter 5, by a packet that starts a section of three bytes or goes on
wrong_rules : Every (λ (gather : State → Packet → Outcome). Forgets gather → ⊥) (mark_kept ∷ held_kept ∷ payload_dropped ∷ [])
unfolding kind_of classify walk add started begun_in rule
wrong_rules = (
  λ claim. false≢true (sym (ap (λ (o : Outcome). is_repeated o.next.last) (claim one (starts 5 whole) refl))),
  (
    λ claim. let held : ◌≡◌ {A = ℕ} 2 0 = ap (λ (o : Outcome). length o.next.held) (claim one (continues 5 (0x30 ∷ [])) refl) in omega arith,
    (λ claim. let none : ◌≡◌ {A = ℕ} 0 1 = ap (λ (o : Outcome). length o.sections) (claim one (starts 5 whole) refl) in omega arith, tt),
  ),
)
  where
    one : State
    one = record { held = 0x80 ∷ []; last = seen 0 false }

    whole : List ℕ
    whole = 0x00 ∷ 0x81 ∷ 0x30 ∷ 0x00 ∷ []

jumps_forget : JumpForgets
jumps_forget =
    record {
      call = jump_forgets;
      excluded = wrong_rules;
      fresh = blank_tells;
      later = λ s p j ps. ap (λ (o : Outcome). outcomes rule o.next ps) (jump_forgets s p j);
      altogether = altogether;
    }

-- ---- a start
module _ (s : State) (p : Packet) (b : Starts s p) where
  -- it is taken, and by its unit start the payload's sections follow the held one
  start_taken : let y = started (kept (rule s p).jump s.held) p.payload in
      ((rule s p).next ≡ record { held = y.held; last = seen p.counter false }) × ((rule s p).sections ≡ y.sections)
  start_taken =
      rule_ind s p
      (λ (o : Outcome).
      o.repeat ≡ false
      → let y = started (kept o.jump s.held) p.payload in
      (o.next ≡ record { held = y.held; last = seen p.counter false }) × (o.sections ≡ y.sections))
      (λ z n. absurd (some p b.payload z)) (λ e r n. absurd (false≢true (sym n))) (λ e r n. rw b.start (refl, refl)) b.original

starts_forget : StartForgets
unfolding started
starts_forget = record { next = next; sections = sections; most = λ s p. add_single (kept (rule s p).jump s.held) (front p.payload) }
  where
    -- what is held behind a payload with unit start hangs on the payload alone
    held_behind : (held payload : List ℕ) → (started held payload).held ≡ (walk (back payload)).held
    held_behind held payload = refl

    next : (s t : State) (p : Packet) → Starts s p → Starts t p → (rule s p).next ≡ (rule t p).next
    next s t p a b =
        (start_taken s p a).0
        ∙ ap (λ (l : List ℕ). record { held = l; last = seen p.counter false }) (held_behind (kept (rule s p).jump s.held) p.payload ∙ sym (held_behind (kept (rule t p).jump t.held) p.payload))
        ∙ sym (start_taken t p b).0

    sections : (s : State) (p : Packet) → Starts s p → (rule s p).sections ≡ finished_first s p ++ (walk (back p.payload)).sections
    sections s p b = (start_taken s p b).1

-- ---- which losses show
module _ (l lost : ℕ) (h : l ≤ 15) where
  apart_last : lost % 16 ≤ 14 → counter_after l lost ≡ l → ⊥
  apart_last b e = omega arith

  apart_next : 1 ≤ lost % 16 → counter_after l lost ≡ (l + 1) % 16 → ⊥
  apart_next b e = omega arith

  is_next : lost % 16 ≡ 0 → counter_after l lost ≡ (l + 1) % 16
  is_next e = omega arith

  is_last : lost % 16 ≡ 15 → counter_after l lost ≡ l
  is_last e = omega arith

module _ (s : State) (p : Packet) (l : ℕ) (repeated : Bool) (lost : ℕ) (c : Comes s p l repeated lost) where
  -- what is told, by what the counters say
  told : (jump repeat : Bool) → repeats (seen l repeated) (counter_after l lost) ≡ repeat → (repeat ≡ true → jump ≡ false) → (repeat ≡ false → jumps (seen l repeated) (counter_after l lost) ≡ jump)
      → ((rule s p).jump ≡ jump) × ((rule s p).repeat ≡ repeat)
  told jump repeat r dropped j =
      rule_ind s p (λ (o : Outcome). (o.jump ≡ jump) × (o.repeat ≡ repeat)) (λ z. absurd (some p c.brings.0 z))
      (λ e d. let is = sym r ∙ same repeats ∙ d in (sym (dropped is), sym is))
      (λ e d. let is = sym r ∙ same repeats ∙ d in (sym (same jumps) ∙ j is, sym is))
    where
      same : (test : Last → ℕ → Bool) → test (seen l repeated) (counter_after l lost) ≡ test s.last p.counter
      same test = rw (c.last, c.brings.1)

losses_show : LossShows
losses_show = record { jump = jump; in_step = in_step; as_repeat = as_repeat; after_repeat = after_repeat }
  where
    jump : (s : State) (p : Packet) (l : ℕ) (repeated : Bool) (lost : ℕ) → Comes s p l repeated lost → 1 ≤ lost % 16 → lost % 16 ≤ 14 → (rule s p).jump ≡ true
    jump s p l repeated lost c from to =
        let other = ne_eqb (counter_after l lost) l (apart_last l lost c.counter to) in
        let skip = ne_eqb (counter_after l lost) ((l + 1) % 16) (apart_next l lost c.counter from) in
        (told s p l repeated lost c true false (rw other) (λ e. absurd (false≢true e)) (λ e. rw (other, skip))).0

    in_step : (s : State) (p : Packet) (l : ℕ) (repeated : Bool) (lost : ℕ) → Comes s p l repeated lost → lost % 16 ≡ 0 → ((rule s p).jump ≡ false) × ((rule s p).repeat ≡ false)
    in_step s p l repeated lost c e =
        let other = ne_eqb (counter_after l lost) l (apart_last l lost c.counter (omega arith)) in
        let next = eq-eqb (counter_after l lost) ((l + 1) % 16) (is_next l lost c.counter e) in
        told s p l repeated lost c false false (rw other) (λ q. refl) (λ q. rw (other, next))

    as_repeat : (s : State) (p : Packet) (l lost : ℕ) → Comes s p l false lost → lost % 16 ≡ 15 → (rule s p).repeat ≡ true
    as_repeat s p l lost c e =
        let same = eq-eqb (counter_after l lost) l (is_last l lost c.counter e) in
        (told s p l false lost c false true (rw same) (λ q. refl) (λ q. absurd (false≢true (sym q)))).1

    after_repeat : (s : State) (p : Packet) (l lost : ℕ) → Comes s p l true lost → lost % 16 ≡ 15 → (rule s p).jump ≡ true
    after_repeat s p l lost c e =
        let same = eq-eqb (counter_after l lost) l (is_last l lost c.counter e) in
        (told s p l true lost c true false (rw same) (λ q. absurd (false≢true q)) (λ q. rw same)).0

pub as_new : RuleAsNew
as_new = record { jump = jumps_forget; start = starts_forget; loss = losses_show }
