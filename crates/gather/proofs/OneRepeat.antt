-- One repeat, not many: the mark says which of the two a packet with the last counter is, a repeat sets it, and every packet that is taken takes it away.
-- Assumes nothing.
use mathlib.Core.Path.{◌≡◌, refl, sym, ◌∙◌, ap}
use mathlib.Core.Bool.{Bool, true, false, cond, not, ◌&&◌, ◌||◌, false≢true}
use mathlib.Core.List.{List, [], ◌∷◌, ◌++◌, map}
use Prim.Native.Nat.{ℕ}
use lib.Dec.{eqb}
use lib.ListN.{length}
use borrow.Author.Tests.{eqb-true, eqb-false, eq-eqb, not-true, not-false}
use Rattle.ground.specs.Walk.{Every, keep}
use Rattle.ground.proofs.Test.{both_true, neither, and_false}
use Rattle.gather.specs.Rule.{Last, unseen, seen, State, Packet, Outcome, unfinished, yield, is_same, skips, repeats, jumps, unchanged, marked, dropped, kept, lost, taken, rule}
use Rattle.gather.specs.Run.{outcomes}
use Rattle.gather.specs.Claims.OneRepeat.{has_payload, Brings, Alternate, StuckShows, base_dropped, base_rule, counters, starts_twice, is_thrice, unmarked, without_mark, but_the_mark, NothingElse, OneRepeatHolds}
use Rattle.gather.proofs.RuleOnMemory.{rule_empty, rule_repeat, rule_taken}
use Rattle.gather.proofs.RuleKeeps.{rule_ind}

-- ---- a payload or none
pub some : (p : Packet) → has_payload p ≡ true → length p.payload ≡ 0 → ⊥
some p h = eqb-false (length p.payload) 0 (not-true (eqb (length p.payload) 0) h)

without : (s : State) (p : Packet) → has_payload p ≡ false → rule s p ≡ unchanged s
without s p h = rule_empty s p (eqb-true (length p.payload) 0 (not-false (eqb (length p.payload) 0) h))

-- ---- the last counter once more
module _ (held : List ℕ) (counter : ℕ) (p : Packet) (b : Brings counter p) where
  the_first : rule (record { held = held; last = seen counter false }) p
      ≡ record { next = record { held = held; last = seen counter true }; sections = []; jump = false; repeat = true; given_up = 0; begun = 0 }
  the_first = rule_repeat (record { held = held; last = seen counter false }) p (some p b.0) (rw (eq-eqb p.counter counter b.1))

  the_next : rule (record { held = held; last = seen counter true }) p ≡ taken true p (unfinished held) (yield [] p.start p.payload)
  the_next =
      let same = eq-eqb p.counter counter b.1 in
      rule_taken (record { held = held; last = seen counter true }) p (some p b.0) (rw same) ∙ rw same

-- which of the two is told, by the mark
module _ (s : State) (p : Packet) (counter : ℕ) (b : Brings counter p) where
  by_mark : (repeated : Bool) → s.last ≡ seen counter repeated → ((rule s p).repeat ≡ not repeated) × ((rule s p).jump ≡ repeated)
  by_mark false e =
      let o : rule s p ≡ _ = ap (λ (l : Last). rule (record { held = s.held; last = l }) p) e ∙ the_first s.held counter p b in
      (ap (λ (o : Outcome). o.repeat) o, ap (λ (o : Outcome). o.jump) o)
  by_mark true e =
      let o : rule s p ≡ _ = ap (λ (l : Last). rule (record { held = s.held; last = l }) p) e ∙ the_next s.held counter p b in
      (ap (λ (o : Outcome). o.repeat) o, ap (λ (o : Outcome). o.jump) o)

-- ---- what an area remembers after a packet with payload: its counter, and whether it was a repeat
-- where a repeat is due the last counter is this one
repeats_last : (l : Last) (counter : ℕ) → repeats l counter ≡ true → marked l ≡ seen counter true
repeats_last unseen counter r = absurd (false≢true r)
repeats_last (seen l repeated) counter r = ap (λ (n : ℕ). seen n true) (sym (eqb-true counter l (both_true (eqb counter l) (not repeated) r).0))

module _ (s : State) (p : Packet) (counter : ℕ) (b : Brings counter p) where
  last_after : (rule s p).next.last ≡ seen counter (rule s p).repeat
  last_after =
      rule_ind s p (λ (o : Outcome). o.next.last ≡ seen counter o.repeat) (λ z. absurd (some p b.0 z))
      (λ e r. repeats_last s.last counter (ap (repeats s.last) (sym b.1) ∙ r)) (λ e r. ap (λ (n : ℕ). seen n false) b.1)

-- a repeat that was seen is none again
marked_never : (l : Last) (counter : ℕ) → repeats (marked l) counter ≡ false
marked_never unseen counter = refl
marked_never (seen l repeated) counter = and_false (eqb counter l)

-- a packet that is not due as a repeat is not told as one
not_due : (s : State) (p : Packet) → repeats s.last p.counter ≡ false → (rule s p).repeat ≡ false
not_due s p n = rule_ind s p (λ (o : Outcome). o.repeat ≡ false) (λ z. refl) (λ e r. absurd (false≢true (sym n ∙ r))) (λ e r. refl)

once : (s : State) (p q : Packet) → (rule s p).repeat ≡ true → (rule (rule s p).next q).repeat ≡ false
once s p q =
    rule_ind s p (λ (o : Outcome). o.repeat ≡ true → (rule o.next q).repeat ≡ false) (λ z t. absurd (false≢true t))
    (λ e r t. not_due (dropped s).next q (marked_never s.last q.counter)) (λ e r t. absurd (false≢true t))

either : (s : State) (p : Packet) → ((rule s p).jump && (rule s p).repeat) ≡ false
either s p = rule_ind s p (λ (o : Outcome). (o.jump && o.repeat) ≡ false) (λ z. refl) (λ e r. refl) (λ e r. and_false (jumps s.last p.counter))

-- ---- a stuck counter
alternate : (s : State) (ps : List Packet) (counter : ℕ) (repeated : Bool) → s.last ≡ seen counter repeated → Every (Brings counter) ps → Alternate repeated (outcomes rule s ps)
alternate s [] counter repeated e b = tt
alternate s (p ∷ ps) counter repeated e b =
    let told = by_mark s p counter b.0 repeated e in
    (told.0, told.1, alternate (rule s p).next ps counter (not repeated) (last_after s p counter b.0 ∙ ap (seen counter) told.0) b.1)

stuck_shows : StuckShows
stuck_shows = record { third = third; turns = turns }
  where
    -- after the first one the mark is up or not; if it is not, the second one puts it up
    one_of : (b : Bool) → (b || not b) ≡ true
    one_of true = refl
    one_of false = refl

    third : (s : State) (p q r : Packet) (counter : ℕ) → Brings counter p → Brings counter q → Brings counter r
        → ((rule (rule s p).next q).jump || (rule (rule (rule s p).next q).next r).jump) ≡ true
    third s p q r counter a b c =
        let t = alternate (rule s p).next (q ∷ r ∷ []) counter (rule s p).repeat (last_after s p counter a) (b, (c, tt)) in
        rw (t.1, t.2.1) (one_of (rule s p).repeat)

    turns : (s : State) (p : Packet) (ps : List Packet) (counter : ℕ) → Brings counter p → (rule s p).repeat ≡ false → Every (Brings counter) ps
        → Alternate false (outcomes rule (rule s p).next ps)
    turns s p ps counter a n b = alternate (rule s p).next ps counter false (last_after s p counter a ∙ ap (seen counter) n) b

-- ---- what has not changed
-- document 01's rule by its three ways, as the rule's own laws have them
module _ (s : State) (p : Packet) where
  base_empty : has_payload p ≡ false → base_rule s p ≡ unchanged s
  unfolding base_rule
  base_empty e = rw (not-false (eqb (length p.payload) 0) e)

  base_repeat : has_payload p ≡ true → is_same s.last p.counter ≡ true → base_rule s p ≡ base_dropped s
  unfolding base_rule
  base_repeat e r = rw (not-true (eqb (length p.payload) 0) e, r)

  base_taken : has_payload p ≡ true → is_same s.last p.counter ≡ false
      → base_rule s p ≡ taken (skips s.last p.counter) p (lost (skips s.last p.counter) s.held)
      (yield (kept (skips s.last p.counter) s.held) p.start p.payload)
  unfolding base_rule
  base_taken e r = rw (not-true (eqb (length p.payload) 0) e, r)

-- the counters that a last counter stands for: the original's, and its repeat's
abbrev recent : Last → List ℕ
recent unseen = []
recent (seen l false) = l ∷ []
recent (seen l true) = l ∷ l ∷ []

-- no number comes three times in a row: neither the first one, nor one of those after it
thrice_not : (n : ℕ) (l : List ℕ) → is_thrice (n ∷ l) ≡ false → (starts_twice n l ≡ false) × (is_thrice l ≡ false)
thrice_not n l h = neither (starts_twice n l) (is_thrice l) h

-- from a last counter on, the outcomes are those of document 01's rule but for the mark
abbrev Same : List ℕ → Last → List Packet → Type 0
Same held l ps = map but_the_mark (outcomes rule (record { held = held; last = l }) ps) ≡ outcomes base_rule (without_mark (record { held = held; last = l })) ps

module _ (p : Packet) (ps : List Packet) (later : (held : List ℕ) (l : Last) → is_thrice (recent l ++ counters ps) ≡ false → Same held l ps) where
  -- one outcome that is the same, and those after it
  step : (held : List ℕ) (l : Last) (o : Outcome) → rule (record { held = held; last = l }) p ≡ o → base_rule (without_mark (record { held = held; last = l })) p ≡ but_the_mark o
      → is_thrice (recent o.next.last ++ counters ps) ≡ false → Same held l (p ∷ ps)
  step held l o e b h = rw (e, b) (ap (λ (os : List Outcome). but_the_mark o ∷ os) (later o.next.held o.next.last h))

  -- a packet that both rules take
  both_take : (held : List ℕ) (l : Last) → has_payload p ≡ true → repeats l p.counter ≡ false → is_same (unmarked l) p.counter ≡ false
      → skips (unmarked l) p.counter ≡ jumps l p.counter → is_thrice (p.counter ∷ counters ps) ≡ false → Same held l (p ∷ ps)
  both_take held l e r b j h =
      step held l _ (rule_taken (record { held = held; last = l }) p (some p e) r) (base_taken (without_mark (record { held = held; last = l })) p e b ∙ rw j) h

  -- a packet with payload, by the last counter
  turn : (held : List ℕ) (l : Last) → has_payload p ≡ true → is_thrice (recent l ++ p.counter ∷ counters ps) ≡ false → Same held l (p ∷ ps)
  turn held unseen e h = both_take held unseen e refl refl refl h
  turn held (seen l repeated) e h = go repeated (eqb p.counter l) refl h
    where
      go : (repeated same : Bool) → eqb p.counter l ≡ same → is_thrice (recent (seen l repeated) ++ p.counter ∷ counters ps) ≡ false → Same held (seen l repeated) (p ∷ ps)
      go false true c h =
          let is_last = eqb-true p.counter l c in
          step held (seen l false) _ (the_first held l p (e, is_last)) (base_repeat (record { held = held; last = seen l false }) p e c) (rw is_last at h)
      go true true c h = absurd (false≢true (sym (thrice_not l (l ∷ p.counter ∷ counters ps) h).0 ∙ rw (eq-eqb l l refl, c)))
      go false false c h = both_take held (seen l false) e (rw c) c (rw c) (thrice_not l (p.counter ∷ counters ps) h).1
      go true false c h = both_take held (seen l true) e (rw c) c (rw c) (thrice_not l (p.counter ∷ counters ps) (thrice_not l (l ∷ p.counter ∷ counters ps) h).1).1

  -- a packet, with payload or without
  one_more : (held : List ℕ) (l : Last) → is_thrice (recent l ++ counters (p ∷ ps)) ≡ false → Same held l (p ∷ ps)
  one_more held l h = go (has_payload p) refl h
    where
      go : (b : Bool) → has_payload p ≡ b → is_thrice (recent l ++ map (λ (p : Packet). p.counter) (cond b (p ∷ keep has_payload ps) (keep has_payload ps))) ≡ false
          → Same held l (p ∷ ps)
      go true e h = turn held l e h
      go false e h = step held l _ (without (record { held = held; last = l }) p e) (base_empty (without_mark (record { held = held; last = l })) p e) h

same : (ps : List Packet) (held : List ℕ) (l : Last) → is_thrice (recent l ++ counters ps) ≡ false → Same held l ps
same [] held l h = refl
same (p ∷ ps) held l h = one_more p ps (same ps) held l h

nothing_else : NothingElse
nothing_else ps h = same ps [] unseen h

pub one_repeat : OneRepeatHolds
one_repeat =
    record {
      without = without;
      the_first = the_first;
      the_next = the_next;
      once = once;
      either = either;
      stuck_shows = stuck_shows;
      nothing_else = nothing_else;
    }
