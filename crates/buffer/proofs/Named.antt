-- The record that a verdict names: where it stands, and that nothing behind it matters but a tick that goes back.
-- Assumes nothing.
use mathlib.Core.Path.{◌≡◌, refl, ◌∙◌, ap}
use mathlib.Core.Bool.{Bool, true, false, cond}
use mathlib.Core.List.{List, [], ◌∷◌, ◌++◌, append_assoc}
use Prim.Native.Nat.{ℕ, suc, ◌+◌}
use native.Mathlib.Nat.{add-zero}
use native.Mathlib.Omega.{arith}
use borrow.Author.Tests.{eqb-true}
use lib.ListN.{length}
use lib.Seq.{append_snoc}
use Rattle.ground.specs.Answer.{refused, given}
use Rattle.buffer.specs.Verdict.{Finding, passes, overruns, lingers, Arrival, is_of, arrivals, goes_back, verdict_of}
use Rattle.buffer.specs.Ticks.{up_to, TooHigh, TooLate, FirstTo, Finds, Rises}
use Rattle.buffer.specs.Laws.{Names, Stands}
use Rattle.buffer.specs.declared.Record.{Record}
use Rattle.buffer.proofs.Arrivals.{arrivals-append}
use Rattle.buffer.proofs.Rising.{test_steady, steady_front, steady_rises, rises_steady}
use Rattle.buffer.proofs.Found.{told_by, given_exactly}

-- ---- where a packet's record stands
record Source (pid i : ℕ) (rs : List Record) (earlier : List Arrival) (a : Arrival) : Type 0 where
  pub front : List Record
  pub own : Record
  pub back : List Record
  pub split : rs ≡ front ++ own ∷ back
  pub place : i + length front ≡ a.index
  pub is_own : is_of pid own ≡ true
  pub tick : own.tick ≡ a.tick
  pub before : arrivals pid i front ≡ earlier

-- with one record more in front
further : (pid i : ℕ) (r : Record) (rs : List Record) (earlier before : List Arrival) (a : Arrival) → Source pid (suc i) rs earlier a
    → ((front : List Record) → arrivals pid (suc i) front ≡ earlier → arrivals pid i (r ∷ front) ≡ before) → Source pid i (r ∷ rs) before a
further pid i r rs earlier before a s on =
    let p = s.place in
    record {
      front = r ∷ s.front;
      own = s.own;
      back = s.back;
      split = ap (λ (l : List Record). r ∷ l) s.split;
      place = omega arith;
      is_own = s.is_own;
      tick = s.tick;
      before = on s.front s.before;
    }

source : (pid i : ℕ) (rs : List Record) (earlier : List Arrival) (a : Arrival) (later : List Arrival) → arrivals pid i rs ≡ earlier ++ a ∷ later
    → Source pid i rs earlier a
source pid i [] [] a later e = let z : ◌≡◌ {A = ℕ} 0 1 = cc in absurd (omega arith)
source pid i [] (x ∷ earlier) a later e = let z : ◌≡◌ {A = ℕ} 0 1 = cc in absurd (omega arith)
source pid i (r ∷ rs) earlier a later e = go (is_of pid r) refl earlier (source pid (suc i) rs) e
  where
    rest : List Arrival
    rest = arrivals pid (suc i) rs

    first : Arrival
    first = record { index = i; tick = r.tick }

    go : (own : Bool) → is_of pid r ≡ own → (earlier : List Arrival)
        → ((earlier : List Arrival) (a : Arrival) (later : List Arrival) → rest ≡ earlier ++ a ∷ later → Source pid (suc i) rs earlier a)
        → cond own (first ∷ rest) rest ≡ earlier ++ a ∷ later → Source pid i (r ∷ rs) earlier a
    go true o [] on e =
        let same : first ≡ a = cc in
        record {
          front = [];
          own = r;
          back = rs;
          split = refl;
          place = rw add-zero (ap (λ (x : Arrival). x.index) same);
          is_own = o;
          tick = ap (λ (x : Arrival). x.tick) same;
          before = refl;
        }
    go true o (x ∷ earlier) on e =
        let same : first ≡ x = cc in
        let more : rest ≡ earlier ++ a ∷ later = cc in
        further pid i r rs earlier (x ∷ earlier) a (on earlier a later more) (λ front b. rw (o, b, same))
    go false o earlier on e = further pid i r rs earlier earlier a (on earlier a later e) (λ front b. rw (o, b))

rises_front : (front back : List Arrival) → Rises (front ++ back) → Rises front
rises_front front back r = steady_rises 0 front (steady_front 0 front back (rises_steady (front ++ back) r))

-- ---- the record that is named
module _ (pid : ℕ) (rs : List Record) (i : ℕ) (Breaks : List Arrival → Arrival → Type 0) (d : FirstTo Breaks (arrivals pid 0 rs) i) where
  there : Source pid 0 rs d.earlier d.packet
  there = source pid 0 rs d.earlier d.packet d.later d.split

  -- the packets up to it
  up_to_it : arrivals pid 0 (there.front ++ there.own ∷ []) ≡ up_to d.earlier d.packet
  up_to_it = arrivals-append pid 0 there.front (there.own ∷ []) ∙ rw (there.is_own, there.before, there.place, there.tick)

  rises_before : Rises (arrivals pid 0 rs) → Rises (arrivals pid 0 there.front)
  rises_before r =
      let fine : Rises d.earlier = rises_front d.earlier (d.packet ∷ d.later) (rw d.split at r) in
      rw there.before fine

  rises_behind : Rises (arrivals pid 0 rs) → Rises (arrivals pid 0 (there.front ++ there.own ∷ []))
  rises_behind r =
      let fine : Rises (up_to d.earlier d.packet) = rises_front (up_to d.earlier d.packet) d.later (rw append_snoc (rw d.split at r)) in
      rw up_to_it fine

  first_behind : FirstTo Breaks (arrivals pid 0 (there.front ++ there.own ∷ [])) i
  first_behind =
      record { earlier = d.earlier; packet = d.packet; later = []; split = up_to_it; index = d.index; kept = d.kept; breaks = d.breaks }

  -- f is what is found of a list where its record i is the first to break a rule so
  named_by : (f : Finding) → ((packets : List Arrival) → FirstTo Breaks packets i → Finds packets f) → Rises (arrivals pid 0 rs)
      → (s : Stands pid rs i) × (verdict_of pid s.front ≡ given passes) × (verdict_of pid (s.front ++ s.own ∷ []) ≡ given f)
  named_by f finds r =
      let p = there.place in
      let k = d.index in (
        record { front = there.front; own = there.own; back = there.back; split = there.split; place = omega arith; is_own = eqb-true there.own.pid.0 pid there.is_own },
        (given_exactly pid there.front passes).1 (rises_before r, rw there.before d.kept),
        (given_exactly pid (there.front ++ there.own ∷ []) f).1 (rises_behind r, finds (arrivals pid 0 (there.front ++ there.own ∷ [])) first_behind),
      )

pub named : (pid : ℕ) (rs : List Record) (f : Finding) (i : ℕ) → Names f i → verdict_of pid rs ≡ given f
    → (s : Stands pid rs i) × (verdict_of pid s.front ≡ given passes) × (verdict_of pid (s.front ++ s.own ∷ []) ≡ given f)
named pid rs passes i n e = absurd n
named pid rs (overruns k) i n e =
    let found = (given_exactly pid rs (overruns k)).0 e in
    rw (← n) (named_by pid rs k TooHigh found.1 (overruns k) (λ packets d. d) found.0)
named pid rs (lingers k) i n e =
    let found = (given_exactly pid rs (lingers k)).0 e in
    rw (← n) (named_by pid rs k TooLate found.1 (lingers k) (λ packets d. d) found.0)

-- ---- records behind it
-- the first of some packets is the first of more
first_of_more : (Breaks : List Arrival → Arrival → Type 0) (packets more : List Arrival) (i : ℕ) → FirstTo Breaks packets i → FirstTo Breaks (packets ++ more) i
first_of_more Breaks packets more i d =
    record {
      earlier = d.earlier;
      packet = d.packet;
      later = d.later ++ more;
      split = ap (λ (l : List Arrival). l ++ more) d.split ∙ append_assoc d.earlier (d.packet ∷ d.later) more;
      index = d.index;
      kept = d.kept;
      breaks = d.breaks;
    }

found_of_more : (packets more : List Arrival) (f : Finding) (i : ℕ) → Names f i → Finds packets f → Finds (packets ++ more) f
found_of_more packets more passes i n d = absurd n
found_of_more packets more (overruns k) i n d = first_of_more TooHigh packets more k d
found_of_more packets more (lingers k) i n d = first_of_more TooLate packets more k d

pub later : (pid : ℕ) (rs more : List Record) (f : Finding) (i : ℕ) → Names f i → verdict_of pid rs ≡ given f
    → (verdict_of pid (rs ++ more) ≡ refused 70 → ⊥) → verdict_of pid (rs ++ more) ≡ given f
later pid rs more f i n e never = go (goes_back 0 (arrivals pid 0 (rs ++ more))) refl
  where
    go : (back : Bool) → goes_back 0 (arrivals pid 0 (rs ++ more)) ≡ back → verdict_of pid (rs ++ more) ≡ given f
    go true g = absurd (never (told_by pid (rs ++ more) true g))
    go false g =
        (given_exactly pid (rs ++ more) f).1 (
          steady_rises 0 (arrivals pid 0 (rs ++ more)) (test_steady 0 (arrivals pid 0 (rs ++ more)) g),
          rw (arrivals-append pid 0 rs more) (found_of_more (arrivals pid 0 rs) (arrivals pid (0 + length rs) more) f i n ((given_exactly pid rs f).0 e).1),
        )
