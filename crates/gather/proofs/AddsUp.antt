-- What is counted adds up: bytes added to a part of a section leave one section finished, given up or held, what begins after them is counted with the walk, and what a jump loses was held.
-- Assumes nothing.
use mathlib.Core.Path.{◌≡◌, refl, sym, ◌∙◌, ap}
use mathlib.Core.Bool.{Bool, true, false, false≢true}
use mathlib.Core.List.{List, [], ◌∷◌, ◌++◌}
use mathlib.Core.Logic.{⊎_elim}
use Prim.Native.Nat.{ℕ, ◌+◌, ◌≤◌}
use native.Mathlib.Nat.{add-zero, zero-add}
use native.Mathlib.Omega.{arith}
use lib.ListN.{length, length-append, length-drop}
use borrow.Author.Tests.{eq-eqb}
use Rattle.gather.specs.declared.kind.Kind.{Kind}
use Rattle.gather.specs.declared.kind.Kind.TheVariants.{Nothing, Part, Overlong, Whole}
use Rattle.gather.specs.Kind.{classify, contradicting}
use Rattle.gather.specs.Rule.{Last, State, blank, Packet, Outcome, nothing, unfinished, first, add, walk, front, back, started, yield, begun_by, repeats, jumps, kept, lost, marked, taken, rule}
use Rattle.gather.specs.Run.{run}
use Rattle.gather.specs.Sum.{AddsUp}
use Rattle.gather.specs.Claims.Begun.{CountsNone, BegunHolds}
use Rattle.gather.proofs.Classes.{held_kind, said_of, part_fits, part_some}
use Rattle.gather.proofs.Adding.{add_none, add_kind}
use Rattle.gather.proofs.Begun.{sections_in, begun_is, begun_nothing, begun_part, begun_overlong, begun_whole, begun_few}
use Rattle.gather.proofs.RuleOnMemory.{rule_empty}
use Rattle.gather.proofs.RuleKeeps.{rule_ind, rule_keeps, kept_fine}
use Rattle.gather.proofs.Examples.{counted_is}

-- ---- bytes added to held ones
-- a part of a section does not become nothing: its first byte stays
part_stays : (held new : List ℕ) → classify held ≡ Part → classify (held ++ new) ≡ Nothing → ⊥
part_stays [] new p e = let some = (part_fits [] p).0 in omega arith
part_stays (x ∷ xs) new p e = ⊎_elim (λ z. omega arith) (said_of (x ∷ xs) Part p).1 (said_of (x ∷ (xs ++ new)) Nothing e)

-- one section where bytes are held, and none where they are not
add_sections : (held new : List ℕ) → contradicting held ≡ false → sections_in (add held new) ≡ unfinished held
add_sections held new h = ⊎_elim (λ z. rw (add_none held new z, eq-eqb (length held) 0 z)) part (held_kind held h)
  where
    step : (k : Kind) → classify held ≡ Part → classify (held ++ new) ≡ k → sections_in (first k (held ++ new) nothing) ≡ 1
    step Nothing p e = absurd (part_stays held new p e)
    step Part p e = rw (part_some (held ++ new) e)
    step Overlong p e = refl
    step (Whole n) p e = refl

    part : classify held ≡ Part → sections_in (add held new) ≡ unfinished held
    part p =
        rw (add_kind held new (classify (held ++ new)) (part_fits held p).0 refl, part_some held p) (step (classify (held ++ new)) p refl)

-- ---- a payload after held bytes
yield_sections : (held : List ℕ) (start : Bool) (payload : List ℕ) → contradicting held ≡ false
    → sections_in (yield held start payload) ≡ begun_by start payload + unfinished held
unfolding started
yield_sections held true payload h =
    let a = add_sections held (front payload) h in
    let b = begun_is (back payload) in
    rw (length-append (add held (front payload)).sections (walk (back payload)).sections) (omega arith)
yield_sections held false payload h = add_sections held payload h ∙ sym (zero-add (unfinished held))

-- what a jump loses, and what is kept, is what was held
lost_or_kept : (jump : Bool) (held : List ℕ) → lost jump held + unfinished (kept jump held) ≡ unfinished held
lost_or_kept true held = add-zero (unfinished held)
lost_or_kept false held = zero-add (unfinished held)

-- behind the pointer 183 bytes are left at most, and the last section may begin with one
begins : (start : Bool) (payload : List ℕ) → length payload ≤ 184 → (length payload ≡ 0 → ⊥) → begun_by start payload ≤ 61
begins true payload l e =
    let few = begun_few (back payload) in
    let size : length (back payload) + 1 ≤ length payload = simp length-drop (omega arith) in
    omega arith
begins false payload l e = omega arith

-- ---- a packet
-- where nothing is counted the held bytes stay
none_counted : (s : State) (l : Last) (again : Bool)
    → CountsNone s (record { next = record { held = s.held; last = l }; sections = []; jump = false; repeat = again; given_up = 0; begun = 0 })
none_counted s l again = record { begun = refl; sections = refl; given_up = refl; held = refl }

module _ (s : State) (p : Packet) where
  abbrev Adds : Outcome → Type 0
  Adds o = AddsUp o.begun (length s.held) (length o.sections) o.given_up (length o.next.held)

  pub rule_adds : contradicting s.held ≡ false → Adds (rule s p)
  rule_adds h = rule_ind s p Adds (λ z. omega arith) (λ e r. omega arith) on
    where
      on : (length p.payload ≡ 0 → ⊥) → repeats s.last p.counter ≡ false
          → Adds (taken (jumps s.last p.counter) p (lost (jumps s.last p.counter) s.held)
          (yield (kept (jumps s.last p.counter) s.held) p.start p.payload))
      on e r =
          let b = jumps s.last p.counter in
          let y = yield_sections (kept b s.held) p.start p.payload (kept_fine b s.held h) in
          let l = lost_or_kept b s.held in
          omega arith

  pub begun_most : length p.payload ≤ 184 → (rule s p).begun ≤ 61
  begun_most l = rule_ind s p (λ (o : Outcome). o.begun ≤ 61) (λ z. omega arith) (λ e r. omega arith) (λ e r. begins p.start p.payload l e)

  unstarted : p.start ≡ false → (rule s p).begun ≡ 0
  unstarted u = rule_ind s p (λ (o : Outcome). o.begun ≡ 0) (λ z. refl) (λ e r. refl) (λ e r. rw u)

  pub repeat_counts : (rule s p).repeat ≡ true → CountsNone s (rule s p)
  repeat_counts = rule_ind s p (λ (o : Outcome). o.repeat ≡ true → CountsNone s o) (λ z t. absurd (false≢true t)) (λ e r t. none_counted s (marked s.last) true) (λ e r t. absurd (false≢true t))

  pub without_counts : p.payload ≡ [] → CountsNone s (rule s p)
  without_counts n = rw (rule_empty s p (ap length n)) (none_counted s s.last false)

-- ---- packets one after the other
run_adds : (s : State) (ps : List Packet) → contradicting s.held ≡ false
    → let r = run s ps in
    AddsUp r.begun (length s.held) (length r.sections) r.given_up (length r.next.held)
run_adds s [] h = omega arith
run_adds s (p ∷ ps) h =
    let o = rule_adds s p h in
    let later = run_adds (rule s p).next ps (rule_keeps s p h).part in
    rw (length-append (rule s p).sections (run (rule s p).next ps).sections) (omega arith)

pub begun_holds : BegunHolds
begun_holds =
    record {
      at_nothing = begun_nothing;
      at_part = begun_part;
      at_overlong = begun_overlong;
      at_whole = begun_whole;
      each = begun_is;
      unstarted = unstarted;
      adds_up = rule_adds;
      most = begun_most;
      repeat = repeat_counts;
      without = without_counts;
      packets = run_adds;
      from_blank = λ ps. sym (add-zero (run blank ps).begun) ∙ run_adds blank ps refl;
      counted = counted_is;
    }
