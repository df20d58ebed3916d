-- An area that has seen nothing: a sound state stays sound with it, opens, closes and packets of other PIDs do the same to it, and the PID's own packets change nothing but what it has seen.
-- Assumes nothing.
use mathlib.Core.Path.{◌≡◌, refl, sym, ◌∙◌, ap, ap₂, subst}
use mathlib.Core.Bool.{Bool, true, false, cond, not, ◌&&◌, false≢true}
use mathlib.Core.List.{List, [], ◌∷◌, map}
use mathlib.Core.Logic.{◌⊎◌, inl, inr}
use Prim.Native.Nat.{ℕ, ◌+◌, ◌-◌, ◌≤◌, ◌<◌}
use native.Mathlib.Decide.{ℕ_discrete, dec_lt}
use native.Mathlib.Omega.{arith}
use borrow.Author.Tests.{eqb-true, eqb-false, eq-eqb, ne_eqb, not-true}
use lib.Dec.{eqb, leb, ltb}
use lib.ListN.{length, get_or, set, length-set, length-map, get_or-map, get_or-eq_default}
use lib.Seq.{get_or-set_same, get_or-set_other, ext_get_or}
use Rattle.ground.specs.Answer.{refused, given}
use Rattle.ground.specs.Refusal.{Row, judge, ◌when◌}
use Rattle.ground.proofs.Judged.{judge_both}
use Rattle.ground.proofs.Test.{both_true, true_both}
use Rattle.ground.proofs.Walk.{set-map, find-map, all_at, all_of, apart_at, apart_of, find_passes}
use Rattle.gather.specs.Memory.{no_marks}
use Rattle.state.specs.State.{is_used, is_open, has_pid, area_of, free_area_of, free_place_of, place_of, free_area, free_filter}
use Rattle.state.specs.Choice.{sound_choice, code_of}
use Rattle.state.specs.declared.Area.{Area}
use Rattle.state.specs.declared.Choice.{Choice}
use Rattle.state.specs.declared.State.{State}
use Rattle.sound.specs.Sound.{sound, sound_area, sound_filter, same_pid}
use Rattle.sound.proofs.Pass.{counted_all}
use Rattle.sound.proofs.Clauses.{Clauses, sound_tells, sound_says, used_sound, free_marks, users_are}
use Rattle.open_call.specs.Open.{AfterOpen, area_for, open_refusals, with_user, opened, open_of}
use Rattle.open_call.proofs.OpenStaysSound as opening
use Rattle.close_call.specs.Close.{AfterClose, close_refusals, without_user, area_at, without_filter, close_of}
use Rattle.runs.specs.AsNew.{forgotten, anew}

module _ (pid : ℕ) where
  -- ---- one area
  -- its PID and its users are as they were
  users_stay : (a : Area) → (forgotten pid a).users ≡ a.users
  users_stay a = go (has_pid pid a)
    where
      go : (b : Bool) → (cond b (record { pid = a.pid; users = a.users; marks = no_marks }) a).users ≡ a.users
      go true = refl
      go false = refl

  pid_stays : (a : Area) → (forgotten pid a).pid.0 ≡ a.pid.0
  pid_stays a = go (has_pid pid a)
    where
      go : (b : Bool) → (cond b (record { pid = a.pid; users = a.users; marks = no_marks }) a).pid.0 ≡ a.pid.0
      go true = refl
      go false = refl

  used_stays : (a : Area) → is_used (forgotten pid a) ≡ is_used a
  used_stays a = ap (λ (n : ℕ). not (eqb n 0)) (users_stay a)

  has_stays : (q : ℕ) (a : Area) → has_pid q (forgotten pid a) ≡ has_pid q a
  has_stays q a = ap₂ (λ (b : Bool) (n : ℕ). b && eqb n q) (used_stays a) (pid_stays a)

  pub of_other : (a : Area) → has_pid pid a ≡ false → forgotten pid a ≡ a
  of_other a e = rw e

  pub of_own : (a : Area) → has_pid pid a ≡ true → forgotten pid a ≡ record { pid = a.pid; users = a.users; marks = no_marks }
  of_own a e = rw e

  sound_stays : (a : Area) → sound_area a ≡ true → sound_area (forgotten pid a) ≡ true
  sound_stays a e = go (has_pid pid a) refl
    where
      go : (b : Bool) → has_pid pid a ≡ b → sound_area (cond b (record { pid = a.pid; users = a.users; marks = no_marks }) a) ≡ true
      go true h =
          let used = (both_true (is_used a) (eqb a.pid.0 pid) h).0 in
          rw (used, (used_sound a e used).0)
      go false h = e

  -- ---- a list of areas
  pub forgotten_at : (areas : List Area) (i : ℕ) → get_or (map (forgotten pid) areas) i free_area ≡ forgotten pid (get_or areas i free_area)
  forgotten_at areas i = get_or-map (forgotten pid) areas i free_area

  pub area_stays : (q : ℕ) (areas : List Area) → area_of q (map (forgotten pid) areas) ≡ area_of q areas
  area_stays q areas = find-map (forgotten pid) (has_pid q) (has_pid q) (has_stays q) areas

  pub long : (areas : List Area) → length (map (forgotten pid) areas) ≡ length areas
  long areas = length-map areas (forgotten pid)

  for_stays : (q : ℕ) (areas : List Area) → area_for q (map (forgotten pid) areas) ≡ area_for q areas
  for_stays q areas =
      let free = find-map (forgotten pid) (λ a. eqb a.users 0) (λ a. eqb a.users 0) (λ a. ap (λ (n : ℕ). eqb n 0) (users_stay a)) areas in
      rw (area_stays q areas, long areas, free)

  -- where no area has the PID there is nothing to forget
  pub none_forgotten : (areas : List Area) → ((i : ℕ) → i < length areas → has_pid pid (get_or areas i free_area) ≡ false) → map (forgotten pid) areas ≡ areas
  none_forgotten areas none =
      ext_get_or free_area (map (forgotten pid) areas) areas (long areas) (λ i b. forgotten_at areas i ∙ of_other (get_or areas i free_area) (none i (rw (long areas) at b)))

  -- where one alone has it, putting another in its place is the same
  pub one_forgotten : (areas : List Area) (i : ℕ) (x : Area) → ((j : ℕ) → j < length areas → (j ≡ i → ⊥) → has_pid pid (get_or areas j free_area) ≡ false) → set (map (forgotten pid) areas) i x ≡ set areas i x
  one_forgotten areas i x others =
      ext_get_or free_area (set (map (forgotten pid) areas) i x) (set areas i x) (length-set (map (forgotten pid) areas) i x ∙ long areas ∙ sym (length-set areas i x)) each
    where
      each : (j : ℕ) → j < length (set (map (forgotten pid) areas) i x) → get_or (set (map (forgotten pid) areas) i x) j free_area ≡ get_or (set areas i x) j free_area
      each j b = go (ℕ_discrete j i)
        where
          within : j < length areas
          within = rw (length-set, long areas) at b

          go : Dec (j ≡ i) → get_or (set (map (forgotten pid) areas) i x) j free_area ≡ get_or (set areas i x) j free_area
          go (yes e) =
              let b = rw e at within in
              rw e (get_or-set_same (map (forgotten pid) areas) i x free_area (rw (long areas) b) ∙ sym (get_or-set_same areas i x free_area b))
          go (no n) =
              get_or-set_other (map (forgotten pid) areas) i j x free_area n
              ∙ forgotten_at areas j
              ∙ of_other (get_or areas j free_area) (others j within n)
              ∙ sym (get_or-set_other areas i j x free_area n)

  -- ---- a sound state stays sound
  module _ (s : State) where
    pub anew_clauses : Clauses s → Clauses (anew pid s)
    anew_clauses k =
        record {
          from = k.from;
          to = k.to;
          areas =
              all_of sound_area (map (forgotten pid) s.areas) free_area
              (λ i b. ap sound_area (forgotten_at s.areas i) ∙ sound_stays (get_or s.areas i free_area) (all_at sound_area s.areas free_area k.areas i (rw (long s.areas) at b)));
          pids =
              apart_of same_pid (map (forgotten pid) s.areas) free_area
              (λ i j h b. ap₂ same_pid (forgotten_at s.areas i) (forgotten_at s.areas j) ∙ same_pid_lem (get_or s.areas i free_area) (get_or s.areas j free_area) ∙ apart_at same_pid s.areas free_area k.pids i j h (rw (long s.areas) at b));
          filters =
              all_of (sound_filter s.next (map (forgotten pid) s.areas)) s.filters free_filter
              (λ j b.
              let f = get_or s.filters j free_filter in
              ap (λ (u : Bool). cond (is_open f) (ltb f.number s.next && u) (eqb f.area 0)) (ap is_used (forgotten_at s.areas f.area) ∙ used_stays (get_or s.areas f.area free_area))
              ∙ all_at (sound_filter s.next s.areas) s.filters free_filter k.filters j b);
          numbers = k.numbers;
          choices = k.choices;
          users =
              counted_all s.filters (map (forgotten pid) s.areas)
              (λ i b. ap (λ (a : Area). a.users) (forgotten_at s.areas i) ∙ users_stay (get_or s.areas i free_area) ∙ users_are s k i (rw (long s.areas) at b));
        }
      where
        same_pid_lem : (a b : Area) → same_pid (forgotten pid a) (forgotten pid b) ≡ same_pid a b
        same_pid_lem a b = rw (users_stay a, users_stay b, pid_stays a, pid_stays b)

    pub anew_sound : sound s ≡ true → sound s ≡ sound (anew pid s)
    anew_sound e = e ∙ sym (sound_says (anew pid s) (anew_clauses (sound_tells s e)))

    -- ---- an open
    -- the area that an open takes is the PID's own, or a free one that has seen nothing
    abbrev OwnOrFree : ℕ → Area → Type 0
    OwnOrFree q a = (has_pid q a ≡ true) ⊎ ((is_used a ≡ false) × (a.marks ≡ no_marks))

    own_or_free : Clauses s → (q : ℕ) → {i : ℕ} → opening.ForPid q s.areas i → OwnOrFree q (get_or s.areas i free_area)
    own_or_free k q (opening.own b) = inl (find_passes (has_pid q) s.areas free_area b)
    own_or_free k q (opening.new b) = go (dec_lt (free_area_of s.areas) (length s.areas))
      where
        i : ℕ
        i = free_area_of s.areas

        go : Dec (i < length s.areas) → OwnOrFree q (get_or s.areas i free_area)
        go (yes h) =
            let free = ap not (find_passes (λ (a : Area). eqb a.users 0) s.areas free_area h) in
            inr (free, free_marks (get_or s.areas i free_area) (all_at sound_area s.areas free_area k.areas i h) free)
        go (no n) =
            let none : length s.areas ≤ free_area_of s.areas = omega arith in
            rw (get_or-eq_default s.areas free_area none) (inr (refl, refl))

    user_forgotten : (q : ℕ) (a : Area) → OwnOrFree q a → with_user q (forgotten pid a) ≡ forgotten pid (with_user q a)
    user_forgotten q a is = go (ℕ_discrete q pid)
      where
        used : is_used (with_user q a) ≡ true
        used = ap not (ne_eqb (a.users + 1) 0 (omega arith))

        -- another PID's
        other : (q ≡ pid → ⊥) → OwnOrFree q a → has_pid pid a ≡ false
        other n (inl h) =
            let p = both_true (is_used a) (eqb a.pid.0 q) h in
            rw (p.0, eqb-true a.pid.0 q p.1) (ne_eqb q pid n)
        other n (inr f) = rw f.0

        -- the PID's own, or one that it takes
        none_held : q ≡ pid → OwnOrFree q a → (b : Bool) → has_pid pid a ≡ b → (cond b (record { pid = a.pid; users = a.users; marks = no_marks }) a).marks ≡ no_marks
        none_held e is true h = refl
        none_held e (inl h') false h = absurd (false≢true (sym h ∙ rw (← e) h'))
        none_held e (inr f) false h = f.1

        go : Dec (q ≡ pid) → with_user q (forgotten pid a) ≡ forgotten pid (with_user q a)
        go (yes e) =
            ap₂ (λ n m. record { pid = record { 0 = q }; users = n + 1; marks = m }) (users_stay a) (none_held e is (has_pid pid a) refl)
            ∙ sym (of_own (with_user q a) (true_both (is_used (with_user q a)) (eqb q pid) used (eq-eqb q pid e)))
        go (no n) =
            ap (with_user q) (of_other a (other n is))
            ∙ sym (of_other (with_user q a) (rw (used, ne_eqb q pid n)))

    module _ (fine : sound s ≡ true) (q : ℕ) (choice : Choice) where
      abbrev Opened : AfterOpen → AfterOpen → Type 0
      Opened o o₂ = (o.answer ≡ o₂.answer) × (anew pid o.state ≡ o₂.state)

      opened_anew : anew pid (opened s q choice) ≡ opened (anew pid s) q choice
      opened_anew =
          let i = area_for q s.areas in
          let a = get_or s.areas i free_area in
          rw (for_stays q s.areas)
          (ap (λ (l : List Area). record { areas = l; filters = set s.filters (free_place_of s.filters) (record { number = s.next; area = i }); choices = set s.choices (free_place_of s.filters) (code_of choice); next = s.next + 1 })
          (sym (set-map (forgotten pid) s.areas i (with_user q a))
          ∙ ap (set (map (forgotten pid) s.areas) i) (sym (user_forgotten q a (own_or_free (sound_tells s fine) q (opening.for_pid q s.areas))) ∙ ap (with_user q) (sym (forgotten_at s.areas i)))))

      pub open_anew : Opened (open_of s q choice) (open_of (anew pid s) q choice)
      unfolding open_of
      open_anew =
          subst (λ (rows : List Row). Opened (open_of s q choice) (judge (λ n. record { answer = refused n; state = anew pid s }) rows (record { answer = given (record { number = s.next; place = free_place_of s.filters }); state = opened (anew pid s) q choice })))
          (ap₂ (λ (b c : Bool). (1 when not b) ∷ (12 when ltb 0x1FFE q) ∷ (17 when not (sound_choice choice)) ∷ (13 when ltb 65535 s.next) ∷ (14 when leb (length s.filters) (free_place_of s.filters)) ∷ (15 when c) ∷ [])
          (anew_sound fine) (ap₂ leb (sym (long s.areas)) (sym (for_stays q s.areas))))
          (judge_both Opened (λ n. record { answer = refused n; state = s }) (λ n. record { answer = refused n; state = anew pid s }) (λ n. (refl, refl)) (open_refusals s q choice) _ _ (refl, opened_anew))

    -- ---- a close
    user_gone : (a : Area) → without_user (forgotten pid a) ≡ forgotten pid (without_user a)
    user_gone a = go (has_pid pid a) refl (eqb a.users 1) refl
      where
        less : Area
        less = record { pid = a.pid; users = a.users - 1; marks = a.marks }

        go : (b : Bool) → has_pid pid a ≡ b → (c : Bool) → eqb a.users 1 ≡ c
            → without_user (cond b (record { pid = a.pid; users = a.users; marks = no_marks }) a) ≡ forgotten pid (cond c free_area (record { pid = a.pid; users = a.users - 1; marks = a.marks }))
        go true h true c = rw c
        go true h false c =
            let p = both_true (is_used a) (eqb a.pid.0 pid) h in
            let some = eqb-false a.users 0 (not-true (eqb a.users 0) p.0) in
            let more = eqb-false a.users 1 c in
            let still : is_used less ≡ true = ap not (ne_eqb (a.users - 1) 0 (omega arith)) in
            rw c (sym (of_own less (true_both (is_used less) (eqb a.pid.0 pid) still p.1)))
        go false h true c = rw c
        go false h false c = rw c (sym (of_other less (fewer (is_used less) refl)))
          where
            fewer : (u : Bool) → is_used less ≡ u → (u && eqb a.pid.0 pid) ≡ false
            fewer false e = refl
            fewer true e =
                let some = eqb-false (a.users - 1) 0 (not-true (eqb (a.users - 1) 0) e) in
                let was : is_used a ≡ true = ap not (ne_eqb a.users 0 (omega arith)) in
                sym (ap (λ (u : Bool). u && eqb a.pid.0 pid) was) ∙ h

    module _ (fine : sound s ≡ true) (number : ℕ) where
      abbrev Closed : AfterClose → AfterClose → Type 0
      Closed o o₂ = (o.answer ≡ o₂.answer) × (anew pid o.state ≡ o₂.state)

      closed_anew : (place : ℕ) → anew pid (without_filter s place) ≡ without_filter (anew pid s) place
      closed_anew place =
          let i = area_at s place in
          let a = get_or s.areas i free_area in
          ap (λ (l : List Area). record { areas = l; filters = set s.filters place free_filter; choices = set s.choices place 0; next = s.next })
          (sym (set-map (forgotten pid) s.areas i (without_user a))
          ∙ ap (set (map (forgotten pid) s.areas) i) (sym (user_gone a) ∙ ap without_user (sym (forgotten_at s.areas i))))

      pub close_anew : Closed (close_of s number) (close_of (anew pid s) number)
      unfolding close_of
      close_anew =
          subst (λ (b : Bool). Closed (close_of s number) (judge (λ n. record { answer = refused n; state = anew pid s }) ((1 when not b) ∷ (16 when leb (length s.filters) (place_of number s.filters)) ∷ []) (record { answer = given tt; state = without_filter (anew pid s) (place_of number s.filters) })))
          (anew_sound fine)
          (judge_both Closed (λ n. record { answer = refused n; state = s }) (λ n. record { answer = refused n; state = anew pid s }) (λ n. (refl, refl)) (close_refusals s number) _ _ (refl, closed_anew (place_of number s.filters)))
