-- One pass over the areas finds out what three clauses of soundness ask: each record is sound by itself, no PID has two areas, and the users are those that were counted.
-- Assumes nothing.
use mathlib.Core.Path.{◌≡◌, refl, sym, ◌∙◌, ap}
use mathlib.Core.Bool.{Bool, true, false, cond, not, ◌&&◌}
use mathlib.Core.List.{List, [], ◌∷◌}
use Prim.Native.Nat.{ℕ, suc, ◌+◌, ◌≤◌, ◌<◌, zero-le}
use native.Mathlib.Nat.{not-suc-le-zero}
use native.Mathlib.Decide.{ℕ_discrete}
use native.Mathlib.Numerals.{add-one}
use native.Mathlib.Omega.{arith}
use borrow.Author.Tests.{eqb-true, eq-eqb, leb-true}
use lib.Dec.{eqb}
use lib.ListN.{length, drop, get_or, set, replicate}
use Rattle.ground.specs.Walk.{all, apart}
use Rattle.ground.proofs.Test.{both_true, true_both, and_false}
use Rattle.ground.proofs.Walk.{all_stops, all_goes, all_weaker, apart_front}
use Rattle.ground.proofs.Kept.{Kept, kept_none, kept_one, kept_on, kept_new, kept_met}
use Rattle.state.specs.State.{is_used, free_area}
use Rattle.state.specs.declared.Area.{Area}
use Rattle.sound.specs.Sound.{is_zero_area, sound_area, same_pid}
use Rattle.sound.specs.Steps.{is_new, pid_kept, is_free_area, is_none, agree}
use Rattle.sound.proofs.Pass.{agree_turn}
use Rattle.sound.proofs.Clauses.{used_sound}

-- ---- two areas are used by one PID exactly where what is kept of them is equal
used_kept : (a : Area) → is_used a ≡ true → pid_kept a ≡ a.pid.0
used_kept a u = ap (λ (b : Bool). cond b a.pid.0 0xFFFF) u

free_kept : (a : Area) → is_used a ≡ false → pid_kept a ≡ 0xFFFF
free_kept a u = ap (λ (b : Bool). cond b a.pid.0 0xFFFF) u

same_kept : (a b : Area) → same_pid a b ≡ true → pid_kept a ≡ pid_kept b
same_kept a b e =
    let p = both_true (is_used a && is_used b) (eqb a.pid.0 b.pid.0) e in
    let q = both_true (is_used a) (is_used b) p.0 in
    used_kept a q.0 ∙ eqb-true a.pid.0 b.pid.0 p.1 ∙ sym (used_kept b q.1)

kept_same : (a b : Area) → pid_kept a ≡ pid_kept b → (pid_kept b ≡ 0xFFFF → ⊥) → same_pid a b ≡ true
kept_same a b e some = go (is_used a) (is_used b) refl refl
  where
    go : (u w : Bool) → is_used a ≡ u → is_used b ≡ w → same_pid a b ≡ true
    go u false p q = absurd (some (free_kept b q))
    go false true p q = absurd (some (sym e ∙ free_kept a p))
    go true true p q =
        true_both (is_used a && is_used b) (eqb a.pid.0 b.pid.0) (true_both (is_used a) (is_used b) p q)
        (eq-eqb a.pid.0 b.pid.0 (sym (used_kept a p) ∙ e ∙ used_kept b q))

-- a free area clashes with none
free_apart : (a b : Area) → is_used b ≡ false → same_pid a b ≡ false
free_apart a b u = rw (u, and_false (is_used a))

-- ---- an area that is free and all zero
free_sound : (a : Area) → is_free_area a ≡ true → sound_area a ≡ true
free_sound a e = let p = both_true (eqb a.users 0) (is_zero_area a) e in rw p.0 p.1

free_unused : (a : Area) → is_free_area a ≡ true → is_used a ≡ false
free_unused a e = ap not (both_true (eqb a.users 0) (is_zero_area a) e).0

free_agree : (counts : List ℕ) (areas : List Area) → all is_none counts ≡ true → all is_free_area areas ≡ true → agree counts areas ≡ true
free_agree counts [] n e = refl
free_agree [] (a ∷ areas) n e = refl
free_agree (k ∷ counts) (a ∷ areas) n e =
    let none = both_true (is_none k) (all is_none counts) n in
    let free = both_true (is_free_area a) (all is_free_area areas) e in
    let same = eqb-true a.users 0 (both_true (eqb a.users 0) (is_zero_area a) free.0).0 ∙ sym (eqb-true k 0 none.0) in
    true_both (eqb a.users k) (agree counts areas) (eq-eqb a.users k same) (free_agree counts areas none.1 free.1)

-- ---- the pass
-- the three clauses together
abbrev pub clauses : List ℕ → List Area → Bool
clauses counts areas = all sound_area areas && apart same_pid areas && agree counts areas

-- what is known once i areas are passed
pub record Passed (counts : List ℕ) (areas : List Area) (pids : List ℕ) (i : ℕ) : Type 0 where
  pub bound : i ≤ 8
  pub ranged : all sound_area areas ≡ all sound_area (drop i areas)
  pub differ : (j k : ℕ) → j < k → k < i → same_pid (get_or areas j free_area) (get_or areas k free_area) ≡ false
  pub agreed : agree counts areas ≡ agree (drop i counts) (drop i areas)
  pub kept : Kept pid_kept 0xFFFF free_area areas pids i

pub passed_none : (counts : List ℕ) (areas : List Area) → length areas ≡ 8 → Passed counts areas (replicate 8 0xFFFF) 0
passed_none counts areas long =
    record { bound = zero-le; ranged = refl; differ = λ j k h b. absurd (not-suc-le-zero b); agreed = refl; kept = kept_none pid_kept 0xFFFF free_area areas 8 long }

module _ (counts : List ℕ) (areas : List Area) (pids : List ℕ) (i : ℕ) (eight : length counts ≡ 8) (long : length areas ≡ 8) (p : Passed counts areas pids i) where
  abbrev own : Area
  own = get_or areas i free_area

  module _ (h : i < 8) where
    here : i < length areas
    here = rw long h

    agreed_on : agree counts areas ≡ (eqb own.users (get_or counts i 0) && agree (drop (suc i) counts) (drop (suc i) areas))
    agreed_on = p.agreed ∙ agree_turn counts areas i (rw eight h) here

    -- an area that is not sound by itself
    pub passed_unsound : sound_area own ≡ false → clauses counts areas ≡ false
    passed_unsound e = rw (all_stops sound_area areas i (all sound_area areas) p.ranged free_area here e)

    -- one that has not the users that were counted
    pub passed_miscounted : eqb own.users (get_or counts i 0) ≡ false → clauses counts areas ≡ false
    passed_miscounted e = rw (agreed_on, e) (and_false (all sound_area areas && apart same_pid areas))

    module _ (right : eqb own.users (get_or counts i 0) ≡ true) (fine : sound_area own ≡ true) where
      turn : (next : List ℕ) → ((j : ℕ) → j < i → same_pid (get_or areas j free_area) own ≡ false) → Kept pid_kept 0xFFFF free_area areas next (i + 1) → Passed counts areas next (i + 1)
      turn next new kept =
          record {
            bound = omega arith;
            ranged = all_goes sound_area areas i (all sound_area areas) p.ranged free_area here fine;
            differ = λ j k b c. go j k b c (ℕ_discrete k i);
            agreed = rw (add-one i) (agreed_on ∙ ap (λ (b : Bool). b && agree (drop (suc i) counts) (drop (suc i) areas)) right);
            kept = kept;
          }
        where
          go : (j k : ℕ) → j < k → k < i + 1 → Dec (k ≡ i) → same_pid (get_or areas j free_area) (get_or areas k free_area) ≡ false
          go j k b c (yes e) = rw e (new j (omega arith))
          go j k b c (no n) = p.differ j k b (omega arith)

      -- one area more, which is free
      pub passed_free : is_used own ≡ false → Passed counts areas pids (i + 1)
      passed_free u = turn pids (λ j b. free_apart (get_or areas j free_area) own u) (kept_on pid_kept 0xFFFF free_area areas pids i p.kept (free_kept own u))

      module _ (u : is_used own ≡ true) where
        -- one whose PID is none of those kept
        pub passed_new : is_new own.pid.0 pids ≡ true → Passed counts areas (set pids i own.pid.0) (i + 1)
        passed_new e =
            turn (set pids i own.pid.0)
            (kept_new pid_kept 0xFFFF free_area areas pids i p.kept same_pid same_kept kept_same here (ap (λ (n : ℕ). is_new n pids) (used_kept own u) ∙ e))
            (kept_one pid_kept 0xFFFF free_area areas pids i p.kept here own.pid.0 (sym (used_kept own u)))

        -- and one whose PID is: two areas have it
        pub passed_met : is_new own.pid.0 pids ≡ false → clauses counts areas ≡ false
        passed_met e =
            rw (
              kept_met pid_kept 0xFFFF free_area areas pids i p.kept same_pid same_kept kept_same here some (ap (λ (n : ℕ). is_new n pids) (used_kept own u) ∙ e),
              and_false (all sound_area areas),
            )
          where
            some : pid_kept own ≡ 0xFFFF → ⊥
            some q =
                let small = leb-true own.pid.0 0x1FFE (used_sound own fine u).0 in
                let same = sym (used_kept own u) ∙ q in
                absurd (omega arith)

  -- once all are passed but those that are free and all zero
  pub passed_all : all is_free_area (drop i areas) ≡ true → all is_none (drop i counts) ≡ true → clauses counts areas ≡ true
  passed_all free none =
      true_both (all sound_area areas && apart same_pid areas) (agree counts areas)
      (true_both (all sound_area areas) (apart same_pid areas) (p.ranged ∙ all_weaker sound_area is_free_area (drop i areas) free_sound free)
      (apart_front same_pid areas free_area i is_free_area p.differ (λ a b e. free_apart a b (free_unused b e)) free))
      (p.agreed ∙ free_agree (drop i counts) (drop i areas) none free)
