-- What a filter is owed goes on by the packets of its PID until its close, and no other call adds to it or takes from it.
-- Assumes nothing.
use mathlib.Core.Path.{◌≡◌, refl, sym, ◌∙◌, ap, ap₂}
use mathlib.Core.Bool.{Bool, true, false, cond, not, ◌||◌}
use mathlib.Core.List.{List, [], ◌∷◌, ◌++◌}
use Prim.Native.Nat.{ℕ, suc, ◌+◌}
use native.Mathlib.Omega.{arith}
use borrow.Author.Tests.{eqb-true, ne_eqb, lt-ltb}
use lib.Dec.{eqb}
use lib.ListN.{length}
use Rattle.ground.specs.Answer.{Answer, refused, given}
use Rattle.std.specs.Prelude.{Some}
use Rattle.ground.specs.Refusal.{Row, judge}
use Rattle.ground.specs.Walk.{keep}
use Rattle.ground.proofs.Judged.{judge_seen}
use Rattle.ground.proofs.Walk.{keep_append, keep_kept}
use Rattle.gather.specs.Rule.{Packet}
use Rattle.state.specs.Choice.{through}
use Rattle.state.specs.declared.Choice.{Choice}
use Rattle.open_call.specs.Open.{Place}
use Rattle.packet_call.specs.Packet.{Said, unwanted, pid_of, packet_from, report}
use Rattle.runs.specs.Run.{Buffers, Call, open_call, close_call, packet_call, World, Event, open_event, close_event, packet_event, ours}
use Rattle.runs.specs.History.{OpenedFilter, AcceptedCall, opened, closed, packet, accepted_by, numbers_given, opens, closes, opening_of, is_closed, more_opens, packets, since, up_to_close, handed, completed}
use Rattle.runs.specs.Answers.{lowest_free, open_rows, is_given, early_rows, late_rows, outcome_after, filled, packet_answer, answer_to}
use Rattle.runs.specs.Demand.{world_after, history, concerns, is_own}
use Rattle.runs.proofs.Ledger.{filter_at, IsOpen, Ledger, all_before, stood, busy, still_taken}
use Rattle.runs.proofs.Steps.{ledger}
use Rattle.runs.proofs.Others.{thin, thin_opening, thin_packets, thin_since, thin_up, event_is, history_thin}

-- what a filter is owed: how many packets came since its open, and which since the area was taken, up to its close
abbrev Owed : Type 0
Owed = ℕ × List Packet

abbrev owed_of : OpenedFilter → List AcceptedCall → Owed
owed_of f h = (since f h, packets f.pid h)

abbrev owed : OpenedFilter → List AcceptedCall → Owed
owed f h = owed_of f (up_to_close f.number h)

-- whether it is closed, and what it is owed
abbrev Status : Type 0
Status = Bool × Owed

abbrev status : OpenedFilter → List AcceptedCall → Status
status f h = (is_closed f.number h, owed f h)

-- one packet more, where it passes the tests that look at the call alone
abbrev offer : List ℕ → Buffers → Owed → Owed
offer p lent x = judge (λ n. x) (early_rows p lent) (judge (λ n. x) (late_rows p) (suc x.0, packet_from p ∷ x.1))

-- what a call makes of it
abbrev goes : OpenedFilter → Call → Status → Status
goes f (open_call q choice) x = x
goes f (close_call number) x = (eqb number f.number || x.0, x.1)
goes f (packet_call p lent) x = cond (eqb (pid_of p) f.pid) (x.0, cond x.0 x.1 (offer p lent x.1)) x

abbrev goes_by : OpenedFilter → List Call → Status → Status
goes_by f [] x = x
goes_by f (c ∷ cs) x = goes f c (goes_by f cs x)

-- a call that is not its own makes nothing of it
not_own : (f : OpenedFilter) (c : Call) (x : Status) → is_own f c ≡ false → goes f c x ≡ x
not_own f (open_call q choice) x e = refl
not_own f (close_call number) x e = rw e
not_own f (packet_call p lent) x e = rw e

own_alone : (f : OpenedFilter) (cs : List Call) (x : Status) → goes_by f (keep (is_own f) cs) x ≡ goes_by f cs x
own_alone f [] x = refl
own_alone f (c ∷ cs) x = go (is_own f c) refl (own_alone f cs x)
  where
    go : (b : Bool) → is_own f c ≡ b → goes_by f (keep (is_own f) cs) x ≡ goes_by f cs x
        → goes_by f (cond b (c ∷ keep (is_own f) cs) (keep (is_own f) cs)) x ≡ goes f c (goes_by f cs x)
    go true e q = ap (goes f c) q
    go false e q = q ∙ sym (not_own f c (goes_by f cs x) e)

-- a verdict that is the same either way
judge_same {ℓ} : {A : Type ℓ} (rows : List Row) (x y : A) → y ≡ x → judge (λ n. x) rows y ≡ x
judge_same [] x y e = e
judge_same (row ∷ rows) x y e = go row.applies (judge_same rows x y e)
  where
    go : (b : Bool) → judge (λ n. x) rows y ≡ x → cond b x (judge (λ n. x) rows y) ≡ x
    go true q = refl
    go false q = q

-- a packet's answer, seen through a function
packet_seen {ℓ} : {A : Type ℓ} (see : Event → A) (h : List AcceptedCall) (p : List ℕ) (lent : Buffers)
    → see (packet_answer h p lent)
    ≡ judge (λ n. see (packet_event p lent (refused n) lent)) (early_rows p lent)
    (cond (more_opens (pid_of p) h)
    (judge (λ n. see (packet_event p lent (refused n) lent)) (late_rows p)
    (see (packet_event p lent (given (report (outcome_after h p))) (filled h p lent))))
    (see (packet_event p lent (given unwanted) lent)))
packet_seen see h p lent =
    judge_seen see refuse (early_rows p lent) _ ∙ ap (judge (λ n. see (refuse n)) (early_rows p lent)) (either (more_opens (pid_of p) h) ∙ ap (λ x. cond (more_opens (pid_of p) h) x (see none)) (judge_seen see refuse (late_rows p) takes))
  where
    refuse : ℕ → Event
    refuse n = packet_event p lent (refused n) lent

    takes : Event
    takes = packet_event p lent (given (report (outcome_after h p))) (filled h p lent)

    none : Event
    none = packet_event p lent (given unwanted) lent

    either : (b : Bool) → see (cond b (judge refuse (late_rows p) takes) none) ≡ cond b (see (judge refuse (late_rows p) takes)) (see none)
    either true = refl
    either false = refl

-- where an accepted packet changes nothing of what is seen, no packet does
packet_unseen {ℓ} : {A : Type ℓ} (see : List AcceptedCall → A) (h : List AcceptedCall) (p : List ℕ) (lent : Buffers)
    → ((r : Said) (out : Buffers) → see (packet p lent r out ∷ h) ≡ see h) → see (accepted_by (packet_answer h p lent) ++ h) ≡ see h
packet_unseen see h p lent same =
    packet_seen (λ (e : Event). see (accepted_by e ++ h)) h p lent
    ∙ judge_same (early_rows p lent) (see h) _ (go (more_opens (pid_of p) h) (judge_same (late_rows p) (see h) _ (same _ _)))
  where
    go : (b : Bool) {x : _} → x ≡ see h → cond b x (see h) ≡ see h
    go true e = e
    go false e = refl

module _ (w : World) (h : List AcceptedCall) (l : Ledger w h) (f : OpenedFilter) (came : opening_of f.number h ≡ Some f) where
  -- its number is not given again
  not_next : numbers_given h + 1 ≡ f.number → ⊥
  not_next e = let b = (l.given f.number f came).1 in let n = l.numbers in omega arith

  -- a new filter
  abbrev new : ℕ → Choice → OpenedFilter
  new pid choice = record { number = numbers_given h + 1; pid = pid; choice = choice; place = lowest_free h }

  -- ---- its open stays
  pub step_opened : (c : Call) → opening_of f.number (accepted_by (answer_to h c) ++ h) ≡ Some f
  step_opened (open_call pid choice) =
      judge_seen (λ (a : Answer Place). opening_of f.number (accepted_by (open_event pid choice a) ++ h)) refused (open_rows h pid choice) (given (record { number = numbers_given h + 1; place = lowest_free h }))
      ∙ judge_same (open_rows h pid choice) (opening_of f.number h) _ (ap (λ (b : Bool). cond b (Some (new pid choice)) (opening_of f.number h)) (ne_eqb (numbers_given h + 1) f.number not_next))
      ∙ came
  step_opened (close_call number) = go (is_given h number)
    where
      go : (b : Bool) → opening_of f.number (accepted_by (close_event number (cond (not b) (refused 16) (given tt))) ++ h) ≡ Some f
      go true = came
      go false = came
  step_opened (packet_call p lent) = packet_unseen (opening_of f.number) h p lent (λ r out. refl) ∙ came

  -- ---- its status
  abbrev n : ℕ
  n = f.number

  -- a filter that is open is owed what came up to now
  up_to_now : is_closed f.number h ≡ false → owed_of f h ≡ owed f h
  up_to_now k = ap (owed_of f) (sym (all_before n h k))

  is_open : is_closed f.number h ≡ false → IsOpen f h
  is_open k = record { opened = came; kept = k }

  open_status : (pid : ℕ) (choice : Choice) → status f (opened (new pid choice) ∷ h) ≡ status f h
  open_status pid choice = go (is_closed n h) refl
    where
      go : (b : Bool) → is_closed n h ≡ b → status f (opened (new pid choice) ∷ h) ≡ status f h
      go true k = ap (λ (b : Bool). (is_closed n h, owed_of f (cond b (up_to_close n h) (opened (new pid choice) ∷ h)))) k
      go false k =
          ap (λ (b : Bool). (is_closed n h, owed_of f (cond b (up_to_close n h) (opened (new pid choice) ∷ h)))) k
          ∙ ap₂ (λ (m : ℕ) (ps : List Packet). (is_closed n h, (m, ps))) (ap (λ (b : Bool). cond b 0 (since f h)) (ne_eqb (numbers_given h + 1) n not_next))
          (still_taken w h l f (new pid choice) (is_open k))
          ∙ ap (λ (o : Owed). (is_closed n h, o)) (up_to_now k)

  -- one close more, of its number or another
  closed_status : (number : ℕ) (b : Bool) → is_closed f.number h ≡ b → (c : Bool) → eqb number f.number ≡ c
      → owed_of f (cond b (up_to_close f.number h) (cond c h (closed number ∷ h))) ≡ owed f h
  closed_status number true k c e = refl
  closed_status number false k true e = up_to_now k
  closed_status number false k false e = up_to_now k

  close_status : (number : ℕ) → status f (accepted_by (answer_to h (close_call number)) ++ h) ≡ goes f (close_call number) (status f h)
  close_status number = go (is_given h number) refl
    where
      -- a number that is not given is another, or was closed
      refused_same : is_given h number ≡ false → (c : Bool) → eqb number n ≡ c → is_closed n h ≡ (c || is_closed n h)
      refused_same g false e = refl
      refused_same g true e = unless_given (is_closed n h) refl
        where
          unless_given : (b : Bool) → is_closed n h ≡ b → b ≡ true
          unless_given true k = refl
          unless_given false k =
              let same = eqb-true number n e in
              let is : is_given h number ≡ true = rw (same, came, k) in
              sym g ∙ is

      go : (b : Bool) → is_given h number ≡ b → status f (accepted_by (close_event number (cond (not b) (refused 16) (given tt))) ++ h) ≡ goes f (close_call number) (status f h)
      go true g = ap (λ (o : Owed). (eqb number n || is_closed n h, o)) (closed_status number (is_closed n h) refl (eqb number n) refl)
      go false g = ap (λ (b : Bool). (b, owed f h)) (refused_same g (eqb number n) refl)

  -- a packet that is accepted
  abbrev one_more : Bool → List ℕ → Owed → Owed
  one_more b p o = (cond b (suc o.0) o.0, cond b (packet_from p ∷ o.1) o.1)

  packet_status : (p : List ℕ) (lent : Buffers) → status f (accepted_by (packet_answer h p lent) ++ h) ≡ goes f (packet_call p lent) (status f h)
  packet_status p lent = go (eqb (pid_of p) f.pid) refl (is_closed n h) refl
    where
      -- after its close, and of another PID, nothing changes
      late_one : is_closed n h ≡ true → status f (accepted_by (packet_answer h p lent) ++ h) ≡ status f h
      late_one k = packet_unseen (status f) h p lent (λ r out. ap (λ (b : Bool). (is_closed n h, owed_of f (cond b (up_to_close n h) (packet p lent r out ∷ h)))) k)

      other_one : eqb (pid_of p) f.pid ≡ false → is_closed n h ≡ false → status f (accepted_by (packet_answer h p lent) ++ h) ≡ status f h
      other_one e k =
          packet_unseen (status f) h p lent
          (λ r out.
          ap (λ (b : Bool). (is_closed n h, owed_of f (cond b (up_to_close n h) (packet p lent r out ∷ h)))) k
          ∙ ap (λ (b : Bool). (is_closed n h, one_more b p (owed_of f h))) e
          ∙ ap (λ (o : Owed). (is_closed n h, o)) (up_to_now k))

      own_one : eqb (pid_of p) f.pid ≡ true → is_closed n h ≡ false → status f (accepted_by (packet_answer h p lent) ++ h) ≡ (is_closed n h, offer p lent (owed f h))
      own_one e k =
          packet_seen (λ (x : Event). status f (accepted_by x ++ h)) h p lent
          ∙ ap (λ (b : Bool). judge (λ m. status f h) (early_rows p lent) (cond b (judge (λ m. status f h) (late_rows p) (status f (packet p lent r out ∷ h))) (status f h))) has
          ∙ ap (λ (x : Status). judge (λ m. status f h) (early_rows p lent) (judge (λ m. status f h) (late_rows p) x)) taken_one
          ∙ ap (judge (λ m. status f h) (early_rows p lent)) (sym (judge_seen (λ (o : Owed). (is_closed n h, o)) (λ m. owed f h) (late_rows p) (one_more true p (owed f h))))
          ∙ sym (judge_seen (λ (o : Owed). (is_closed n h, o)) (λ m. owed f h) (early_rows p lent) _)
        where
          r : Said
          r = report (outcome_after h p)

          out : Buffers
          out = filled h p lent

          has : more_opens (pid_of p) h ≡ true
          has =
              let st = stood w h l f (is_open k) in
              let some = busy w h l (filter_at w.state f.place).area f.pid st.area st.used st.pid in
              let even = l.balance f.pid in
              ap (λ (q : ℕ). more_opens q h) (eqb-true (pid_of p) f.pid e) ∙ lt-ltb (closes f.pid h) (opens f.pid h) (omega arith)

          taken_one : status f (packet p lent r out ∷ h) ≡ (is_closed n h, one_more true p (owed f h))
          taken_one =
              ap (λ (b : Bool). (is_closed n h, owed_of f (cond b (up_to_close n h) (packet p lent r out ∷ h)))) k
              ∙ ap (λ (b : Bool). (is_closed n h, one_more b p (owed_of f h))) e
              ∙ ap (λ (o : Owed). (is_closed n h, one_more true p o)) (up_to_now k)

      go : (b : Bool) → eqb (pid_of p) f.pid ≡ b → (d : Bool) → is_closed n h ≡ d
          → status f (accepted_by (packet_answer h p lent) ++ h) ≡ cond b (is_closed n h, cond (is_closed n h) (owed f h) (offer p lent (owed f h))) (status f h)
      go true e true k = late_one k ∙ sym (ap (λ (d : Bool). (is_closed n h, cond d (owed f h) (offer p lent (owed f h)))) k)
      go true e false k = own_one e k ∙ sym (ap (λ (d : Bool). (is_closed n h, cond d (owed f h) (offer p lent (owed f h)))) k)
      go false e true k = late_one k
      go false e false k = other_one e k

  pub step_status : (c : Call) → status f (accepted_by (answer_to h c) ++ h) ≡ goes f c (status f h)
  step_status (open_call pid choice) =
      judge_seen (λ (a : Answer Place). status f (accepted_by (open_event pid choice a) ++ h)) refused (open_rows h pid choice) (given (record { number = numbers_given h + 1; place = lowest_free h }))
      ∙ judge_same (open_rows h pid choice) (status f h) _ (open_status pid choice)
  step_status (close_call number) = close_status number
  step_status (packet_call p lent) = packet_status p lent

-- ---- over a run
own_concerns : (f : OpenedFilter) (c : Call) → is_own f c ≡ true → concerns f.pid c ≡ true
own_concerns f (open_call q choice) e = refl
own_concerns f (close_call number) e = refl
own_concerns f (packet_call p lent) e = e

thin_owed : (f : OpenedFilter) (h : List AcceptedCall) → owed f (thin f.pid h) ≡ owed f h
thin_owed f h =
    ap (owed_of f) (thin_up f.pid f.number h)
    ∙ ap₂ (λ (m : ℕ) (ps : List Packet). (m, ps)) (thin_since f (up_to_close f.number h)) (thin_packets f.pid (up_to_close f.number h))

module _ (store : List ℕ) (whole : length store ≡ 32768) (f : OpenedFilter) (before : List Call) (came : opening_of f.number (history ours store before) ≡ Some f) where
  pub run_opened : (later : List Call) → opening_of f.number (history ours store (later ++ before)) ≡ Some f
  run_opened [] = came
  run_opened (c ∷ later) =
      ap (λ (e : Event). opening_of f.number (accepted_by e ++ history ours store (later ++ before))) (event_is store whole (later ++ before) c)
      ∙ step_opened (world_after ours store (later ++ before)) (history ours store (later ++ before)) (ledger store whole (later ++ before)) f (run_opened later) c

  run_status : (later : List Call) → status f (history ours store (later ++ before)) ≡ goes_by f later (status f (history ours store before))
  run_status [] = refl
  run_status (c ∷ later) =
      ap (λ (e : Event). status f (accepted_by e ++ history ours store (later ++ before))) (event_is store whole (later ++ before) c)
      ∙ step_status (world_after ours store (later ++ before)) (history ours store (later ++ before)) (ledger store whole (later ++ before)) f (run_opened later) c
      ∙ ap (goes f c) (run_status later)

  module _ (later : List Call) where
    -- the later calls that count, and the run with them alone
    abbrev own : List Call
    own = keep (is_own f) later

    abbrev less : List Call
    less = own ++ keep (concerns f.pid) before

    -- it is a run without the packets of other PIDs
    less_is : keep (concerns f.pid) (own ++ before) ≡ less
    less_is =
        keep_append (concerns f.pid) own before
        ∙ ap (λ (cs : List Call). cs ++ keep (concerns f.pid) before) (keep_kept (concerns f.pid) (is_own f) (own_concerns f) later)

    history_less : history ours store less ≡ thin f.pid (history ours store (own ++ before))
    history_less = ap (history ours store) (sym less_is) ∙ history_thin store whole f.pid (own ++ before)

    opened_less : opening_of f.number (history ours store less) ≡ Some f
    opened_less = ap (opening_of f.number) history_less ∙ thin_opening f.pid f.number (history ours store (own ++ before)) ∙ run_opened own

    same_owed : owed f (history ours store less) ≡ owed f (history ours store (later ++ before))
    same_owed =
        ap (owed f) history_less
        ∙ thin_owed f (history ours store (own ++ before))
        ∙ ap (λ (x : Status). x.1) (run_status own ∙ own_alone f later (status f (history ours store before)) ∙ sym (run_status later))

    pub alone : handed f (history ours store (keep (is_own f) later ++ keep (concerns f.pid) before)) ≡ handed f (history ours store (later ++ before))
    alone =
        (ledger store whole less).hands f opened_less
        ∙ ap (λ (o : Owed). through f.choice (completed o.0 o.1)) same_owed
        ∙ sym ((ledger store whole (later ++ before)).hands f (run_opened later))
