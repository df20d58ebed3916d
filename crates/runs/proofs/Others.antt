-- Packets of other PIDs count for nothing: what a history says of opens and closes, and of a PID's own packets, is the same without them.
-- Assumes nothing.
use mathlib.Core.Path.{◌≡◌, refl, sym, ◌∙◌, ap, ap₂}
use mathlib.Core.Bool.{Bool, true, false, cond, not, ◌||◌}
use mathlib.Core.List.{List, [], ◌∷◌, ◌++◌, map}
use Prim.Native.Nat.{ℕ, suc, ◌+◌, ◌-◌}
use borrow.Author.Tests.{eqb-true}
use lib.Dec.{eqb, ltb}
use lib.ListN.{length, set}
use Rattle.ground.specs.Answer.{refused, given}
use Rattle.std.specs.declared.option.Option.{Option}
use Rattle.std.specs.Prelude.{Some, None}
use Rattle.ground.specs.Walk.{keep}
use Rattle.gather.specs.Rule.{Packet}
use Rattle.packet_call.specs.Packet.{pid_of, packet_from}
use Rattle.runs.specs.Run.{Call, open_call, close_call, packet_call, World, Event, open_event, close_event, packet_event, event, ours}
use Rattle.runs.specs.History.{OpenedFilter, AcceptedCall, opened, closed, packet, accepted, numbers_given, opens, closes, opening_of, is_on, is_closed, is_last, more_opens, unless, standing, areas_taken, packets, since, up_to_close}
use Rattle.runs.specs.Answers.{answer_to}
use Rattle.runs.specs.Demand.{world_after, log_of, history, concerns, question_of}
use Rattle.runs.proofs.Ledger.{all_before}
use Rattle.runs.proofs.Steps.{ledger}
use Rattle.runs.proofs.Answers.{answers}

-- a history without the packets of other PIDs
abbrev pub thin : ℕ → List AcceptedCall → List AcceptedCall
thin pid [] = []
thin pid (opened f ∷ h) = opened f ∷ thin pid h
thin pid (closed number ∷ h) = closed number ∷ thin pid h
thin pid (packet p lent r out ∷ h) = cond (eqb (pid_of p) pid) (packet p lent r out ∷ thin pid h) (thin pid h)

-- what passes packets over is the same of it
module _ (pid : ℕ) where
  -- a packet is kept or not
  either {ℓ} : {A : Type ℓ} (F : List AcceptedCall → A) (b : Bool) (a : AcceptedCall) (h : List AcceptedCall) (x : A) → F (a ∷ thin pid h) ≡ x → F (thin pid h) ≡ x → F (cond b (a ∷ thin pid h) (thin pid h)) ≡ x
  either F true a h x yes_kept left_out = yes_kept
  either F false a h x yes_kept left_out = left_out

  thin_numbers : (h : List AcceptedCall) → numbers_given (thin pid h) ≡ numbers_given h
  thin_numbers [] = refl
  thin_numbers (opened f ∷ h) = ap (λ (n : ℕ). n + 1) (thin_numbers h)
  thin_numbers (closed number ∷ h) = thin_numbers h
  thin_numbers (packet p lent r out ∷ h) = let e = thin_numbers h in either numbers_given (eqb (pid_of p) pid) (packet p lent r out) h (numbers_given h) e e

  thin_opens : (q : ℕ) (h : List AcceptedCall) → opens q (thin pid h) ≡ opens q h
  thin_opens q [] = refl
  thin_opens q (opened f ∷ h) = ap (λ (n : ℕ). cond (eqb f.pid q) 1 0 + n) (thin_opens q h)
  thin_opens q (closed number ∷ h) = thin_opens q h
  thin_opens q (packet p lent r out ∷ h) = let e = thin_opens q h in either (opens q) (eqb (pid_of p) pid) (packet p lent r out) h (opens q h) e e

  pub thin_opening : (n : ℕ) (h : List AcceptedCall) → opening_of n (thin pid h) ≡ opening_of n h
  thin_opening n [] = refl
  thin_opening n (opened f ∷ h) = ap (cond (eqb f.number n) (Some f)) (thin_opening n h)
  thin_opening n (closed number ∷ h) = thin_opening n h
  thin_opening n (packet p lent r out ∷ h) = let e = thin_opening n h in either (opening_of n) (eqb (pid_of p) pid) (packet p lent r out) h (opening_of n h) e e

  thin_closes : (q : ℕ) (h : List AcceptedCall) → closes q (thin pid h) ≡ closes q h
  thin_closes q [] = refl
  thin_closes q (opened f ∷ h) = thin_closes q h
  thin_closes q (closed number ∷ h) = ap₂ (λ (x : Option OpenedFilter) (n : ℕ). cond (is_on q x) 1 0 + n) (thin_opening number h) (thin_closes q h)
  thin_closes q (packet p lent r out ∷ h) = let e = thin_closes q h in either (closes q) (eqb (pid_of p) pid) (packet p lent r out) h (closes q h) e e

  thin_closed : (n : ℕ) (h : List AcceptedCall) → is_closed n (thin pid h) ≡ is_closed n h
  thin_closed n [] = refl
  thin_closed n (opened f ∷ h) = thin_closed n h
  thin_closed n (closed number ∷ h) = ap (λ (b : Bool). eqb number n || b) (thin_closed n h)
  thin_closed n (packet p lent r out ∷ h) = let e = thin_closed n h in either (is_closed n) (eqb (pid_of p) pid) (packet p lent r out) h (is_closed n h) e e

  thin_area : (q : ℕ) (h : List AcceptedCall) → more_opens q (thin pid h) ≡ more_opens q h
  thin_area q h = ap₂ ltb (thin_closes q h) (thin_opens q h)

  thin_standing : (h : List AcceptedCall) → standing (thin pid h) ≡ standing h
  thin_standing [] = refl
  thin_standing (opened f ∷ h) = ap (λ (l : List (Option OpenedFilter)). set l f.place (Some f)) (thin_standing h)
  thin_standing (closed number ∷ h) = ap (map (unless number)) (thin_standing h)
  thin_standing (packet p lent r out ∷ h) = let e = thin_standing h in either standing (eqb (pid_of p) pid) (packet p lent r out) h (standing h) e e

  thin_last : (x : Option OpenedFilter) (h : List AcceptedCall) → is_last x (thin pid h) ≡ is_last x h
  thin_last None h = refl
  thin_last (Some f) h = ap not (thin_area f.pid h)

  thin_taken : (h : List AcceptedCall) → areas_taken (thin pid h) ≡ areas_taken h
  thin_taken [] = refl
  thin_taken (opened f ∷ h) = ap₂ (λ (n : ℕ) (b : Bool). n + cond b 0 1) (thin_taken h) (thin_area f.pid h)
  thin_taken (closed number ∷ h) =
      ap₂ (λ (n : ℕ) (b : Bool). n - cond b 1 0) (thin_taken h)
      (ap (λ (x : Option OpenedFilter). is_last x (closed number ∷ thin pid h)) (thin_opening number h) ∙ thin_last (opening_of number h) (closed number ∷ h))
  thin_taken (packet p lent r out ∷ h) = let e = thin_taken h in either areas_taken (eqb (pid_of p) pid) (packet p lent r out) h (areas_taken h) e e

  -- of the PID's own packets none is missing
  pub thin_packets : (h : List AcceptedCall) → packets pid (thin pid h) ≡ packets pid h
  thin_packets [] = refl
  thin_packets (opened f ∷ h) = rw (thin_opens pid h, thin_closes pid h, thin_packets h)
  thin_packets (closed number ∷ h) = thin_packets h
  thin_packets (packet p lent r out ∷ h) = go (eqb (pid_of p) pid) refl (thin_packets h)
    where
      go : (b : Bool) → eqb (pid_of p) pid ≡ b → packets pid (thin pid h) ≡ packets pid h
          → packets pid (cond b (packet p lent r out ∷ thin pid h) (thin pid h)) ≡ cond b (packet_from p ∷ packets pid h) (packets pid h)
      go true e q = rw e (ap (λ (l : List Packet). packet_from p ∷ l) q)
      go false e q = q

pub thin_since : (f : OpenedFilter) (h : List AcceptedCall) → since f (thin f.pid h) ≡ since f h
thin_since f [] = refl
thin_since f (opened g ∷ h) = ap (cond (eqb g.number f.number) 0) (thin_since f h)
thin_since f (closed number ∷ h) = thin_since f h
thin_since f (packet p lent r out ∷ h) = go (eqb (pid_of p) f.pid) refl (thin_since f h)
  where
    go : (b : Bool) → eqb (pid_of p) f.pid ≡ b → since f (thin f.pid h) ≡ since f h
        → since f (cond b (packet p lent r out ∷ thin f.pid h) (thin f.pid h)) ≡ cond b (suc (since f h)) (since f h)
    go true e q = rw e (ap suc q)
    go false e q = q

-- a history up to a close, without the packets of other PIDs
pub thin_up : (pid n : ℕ) (h : List AcceptedCall) → up_to_close n (thin pid h) ≡ thin pid (up_to_close n h)
thin_up pid n [] = refl
thin_up pid n (opened f ∷ h) = rw (thin_closed pid n h) (go (is_closed n h) (thin_up pid n h))
  where
    go : (b : Bool) → up_to_close n (thin pid h) ≡ thin pid (up_to_close n h)
        → cond b (up_to_close n (thin pid h)) (opened f ∷ thin pid h) ≡ thin pid (cond b (up_to_close n h) (opened f ∷ h))
    go true q = q
    go false q = refl
thin_up pid n (closed m ∷ h) = rw (thin_closed pid n h) (go (is_closed n h) (eqb m n) (thin_up pid n h))
  where
    go : (b c : Bool) → up_to_close n (thin pid h) ≡ thin pid (up_to_close n h)
        → cond b (up_to_close n (thin pid h)) (cond c (thin pid h) (closed m ∷ thin pid h)) ≡ thin pid (cond b (up_to_close n h) (cond c h (closed m ∷ h)))
    go true c q = q
    go false true q = refl
    go false false q = refl
thin_up pid n (packet p lent r out ∷ h) = go (is_closed n h) refl (eqb (pid_of p) pid) refl (thin_up pid n h)
  where
    a : AcceptedCall
    a = packet p lent r out

    go : (b : Bool) → is_closed n h ≡ b → (c : Bool) → eqb (pid_of p) pid ≡ c → up_to_close n (thin pid h) ≡ thin pid (up_to_close n h)
        → up_to_close n (cond c (packet p lent r out ∷ thin pid h) (thin pid h)) ≡ thin pid (cond b (up_to_close n h) (packet p lent r out ∷ h))
    go true e true k q = rw (thin_closed pid n h, e) q
    go true e false k q = q
    go false e true k q = rw (thin_closed pid n h, e, k)
    go false e false k q = rw k (q ∙ ap (thin pid) (all_before n h e))

-- ---- answers
-- a call that is no packet of another PID is answered the same
thin_answer : (pid : ℕ) (h : List AcceptedCall) (c : Call) → concerns pid c ≡ true → answer_to (thin pid h) c ≡ answer_to h c
thin_answer pid h (open_call q choice) e =
    rw (thin_numbers pid h, thin_standing pid h, thin_area pid q h, thin_taken pid h)
thin_answer pid h (close_call number) e = rw (thin_opening pid number h, thin_closed pid number h)
thin_answer pid h (packet_call p lent) e = rw (eqb-true (pid_of p) pid e, thin_area pid pid h, thin_packets pid h, thin_standing pid h)

question_is : (w : World) (c : Call) → question_of (event ours w c) ≡ c
question_is w (open_call pid choice) = refl
question_is w (close_call number) = refl
question_is w (packet_call p lent) = refl

-- what a log accepted, without the packets of other PIDs
pub accepted_thin : (pid : ℕ) (log : List Event) → accepted (keep (λ e. concerns pid (question_of e)) log) ≡ thin pid (accepted log)
accepted_thin pid [] = refl
accepted_thin pid (open_event q choice (given a) ∷ log) = ap (λ (h : List AcceptedCall). opened (record { number = a.number; pid = q; choice = choice; place = a.place }) ∷ h) (accepted_thin pid log)
accepted_thin pid (open_event q choice (refused n) ∷ log) = accepted_thin pid log
accepted_thin pid (close_event number (given u) ∷ log) = ap (λ (h : List AcceptedCall). closed number ∷ h) (accepted_thin pid log)
accepted_thin pid (close_event number (refused n) ∷ log) = accepted_thin pid log
accepted_thin pid (packet_event p lent (given r) out ∷ log) = go (eqb (pid_of p) pid) refl r.wanted refl (accepted_thin pid log)
  where
    go : (b : Bool) → eqb (pid_of p) pid ≡ b → (c : Bool) → r.wanted ≡ c → accepted (keep (λ e. concerns pid (question_of e)) log) ≡ thin pid (accepted log)
        → accepted (cond b (packet_event p lent (given r) out ∷ keep (λ e. concerns pid (question_of e)) log) (keep (λ e. concerns pid (question_of e)) log))
        ≡ thin pid (cond c (packet p lent r out ∷ []) [] ++ accepted log)
    go true e true k q =
        ap (λ (b : Bool). cond b (packet p lent r out ∷ []) [] ++ accepted (keep (λ e. concerns pid (question_of e)) log)) k
        ∙ ap (λ (h : List AcceptedCall). packet p lent r out ∷ h) q
        ∙ sym (ap (λ (b : Bool). cond b (packet p lent r out ∷ thin pid (accepted log)) (thin pid (accepted log))) e)
    go true e false k q = rw k q
    go false e true k q = rw e q
    go false e false k q = q
accepted_thin pid (packet_event p lent (refused n) out ∷ log) = go (eqb (pid_of p) pid) (accepted_thin pid log)
  where
    go : (b : Bool) → accepted (keep (λ e. concerns pid (question_of e)) log) ≡ thin pid (accepted log)
        → accepted (cond b (packet_event p lent (refused n) out ∷ keep (λ e. concerns pid (question_of e)) log) (keep (λ e. concerns pid (question_of e)) log)) ≡ thin pid (accepted log)
    go true q = q
    go false q = q

-- ---- the run without them
module _ (store : List ℕ) (whole : length store ≡ 32768) where
  -- each event of a run is what its history says
  pub event_is : (cs : List Call) (c : Call) → event ours (world_after ours store cs) c ≡ answer_to (history ours store cs) c
  event_is cs c = answers (world_after ours store cs) (history ours store cs) (ledger store whole cs) c

  pub others : (pid : ℕ) (cs : List Call) → log_of ours store (keep (concerns pid) cs) ≡ keep (λ e. concerns pid (question_of e)) (log_of ours store cs)
  others pid [] = refl
  others pid (c ∷ cs) = rw (question_is (world_after ours store cs) c) (go (concerns pid c) refl (others pid cs))
    where
      go : (b : Bool) → concerns pid c ≡ b → log_of ours store (keep (concerns pid) cs) ≡ keep (λ e. concerns pid (question_of e)) (log_of ours store cs)
          → log_of ours store (cond b (c ∷ keep (concerns pid) cs) (keep (concerns pid) cs))
          ≡ cond b (event ours (world_after ours store cs) c ∷ keep (λ e. concerns pid (question_of e)) (log_of ours store cs)) (keep (λ e. concerns pid (question_of e)) (log_of ours store cs))
      go true e q =
          let same = ap accepted q ∙ accepted_thin pid (log_of ours store cs) in
          let head = event_is (keep (concerns pid) cs) c ∙ ap (λ (h : List AcceptedCall). answer_to h c) same ∙ thin_answer pid (history ours store cs) c e ∙ sym (event_is cs c) in
          ap₂ (λ (x : Event) (l : List Event). x ∷ l) head q
      go false e q = q

  -- what it accepted
  pub history_thin : (pid : ℕ) (cs : List Call) → history ours store (keep (concerns pid) cs) ≡ thin pid (history ours store cs)
  history_thin pid cs = ap accepted (others pid cs) ∙ accepted_thin pid (log_of ours store cs)
