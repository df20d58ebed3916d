-- Every call keeps the ledger, refused or not, and none is refused 1 or 9: so the ledger holds of every run.
-- Assumes nothing.
use mathlib.Core.Path.{◌≡◌, refl, sym, ◌∙◌, ap}
use mathlib.Core.Bool.{Bool, true, false, cond, false≢true}
use mathlib.Core.List.{List, [], ◌∷◌, ◌++◌}
use Prim.Native.Nat.{ℕ, zero, suc, ◌<◌}
use native.Mathlib.Omega.{arith}
use borrow.Author.Tests.{ne_eqb}
use lib.Dec.{eqb}
use lib.ListN.{length, get_or, replicate, get_or-replicate}
use Rattle.ground.specs.Walk.{Every}
use Rattle.std.specs.Prelude.{Some, None}
use Rattle.gather.specs.Memory.{held_of, contradicts_of}
use Rattle.gather.specs.Kind.{contradicting}
use Rattle.state.specs.State.{fresh, is_used, is_open, area_of, area_start, free_area, free_filter}
use Rattle.sound.specs.Sound.{sound}
use Rattle.packet_call.specs.Packet.{pid_of}
use Rattle.sound.proofs.Clauses.{sound_tells, sound_says}
use Rattle.state.proofs.Found.{found_area}
use Rattle.driver.proofs.StaysSound.{fresh_sound}
use Rattle.driver.proofs.Cases.{open_ind, close_ind, packet_ind}
use Rattle.runs.specs.Run.{Call, open_call, close_call, packet_call, World, open_event, close_event, packet_event, after, event, start, ours}
use Rattle.runs.specs.History.{OpenedFilter, AcceptedCall, accepted_by, is_refused, packets}
use Rattle.runs.specs.Demand.{world_after, log_of, history}
use Rattle.runs.proofs.Ledger.{area_at, opening_at, Ledger, remembered_fine}
use Rattle.runs.proofs.LedgerOpen.{open_ledger}
use Rattle.runs.proofs.LedgerClose.{close_ledger}
use Rattle.runs.proofs.LedgerPacket.{packet_ledger}

absent_there : {f : OpenedFilter} → None ≡ Some f → ⊥
absent_there e = let z : ◌≡◌ {A = ℕ} 0 1 = cc in omega arith

-- a list of one thing has it everywhere
filled {ℓ} : {A : Type ℓ} (n j : ℕ) (x : A) → get_or (replicate n x) j x ≡ x
filled zero j x = refl
filled (suc n) zero x = refl
filled (suc n) (suc j) x = filled n j x

-- before the first call nothing is open
pub fresh_ledger : (store : List ℕ) → length store ≡ 32768 → Ledger (start store) []
fresh_ledger store e =
    record {
      whole = e;
      eight = refl;
      places = refl;
      codes = refl;
      clauses = sound_tells fresh fresh_sound;
      balance = λ pid. refl;
      numbers = refl;
      given = λ number f q. absurd (absent_there q);
      ended = λ number q. absurd (false≢true q);
      stands = λ f i. absurd (absent_there i.opened);
      known = λ j b i. absurd (false≢true (ap is_open (sym (get_or-replicate 32 j free_filter free_filter b)) ∙ i));
      remembers = λ i b u. absurd (false≢true (ap is_used (sym (get_or-replicate 8 i free_area free_area b)) ∙ u));
      seats = λ j. filled 32 j None ∙ ap (λ (b : Bool). cond b (Some (opening_at fresh j)) None) (sym (ap is_open (filled 32 j free_filter)));
      busy_areas = refl;
      counts = tt;
      hands = λ f i. absurd (absent_there i);
    }

module _ (w : World) (h : List AcceptedCall) (l : Ledger w h) where
  pub step_ledger : (c : Call) → Ledger (after ours w c) (accepted_by (event ours w c) ++ h)
  step_ledger (open_call pid choice) =
      open_ind w.state pid choice (λ o. Ledger (record { state = o.state; store = w.store }) (accepted_by (open_event pid choice o.answer) ++ h))
      (λ n a b. l) (open_ledger w h l pid choice)
  step_ledger (close_call number) =
      close_ind w.state number (λ o. Ledger (record { state = o.state; store = w.store }) (accepted_by (close_event number o.answer) ++ h))
      (λ n a b. l) (close_ledger w h l number)
  step_ledger (packet_call p lent) =
      packet_ind w.state p w.store lent.out lent.sets
      (λ o. Ledger (record { state = o.state; store = o.store }) (accepted_by (packet_event p lent o.answer (record { out = o.out; sets = o.sets })) ++ h))
      (λ n a b. l) (λ b. l) (packet_ledger w h l p lent)

  pub fine : sound w.state ≡ true
  fine = sound_says w.state l.clauses

  -- the area of a PID never contradicts the state
  pub agrees : (pid : ℕ) → area_of pid w.state.areas < length w.state.areas
      → contradicts_of (held_of (area_at w.state (area_of pid w.state.areas)).marks) w.store (area_start (area_of pid w.state.areas)) ≡ false
  agrees pid b =
      let a = area_at w.state (area_of pid w.state.areas) in
      let used = (found_area pid w.state.areas b).0 in
      ap (λ st. contradicting st.held) (l.remembers (area_of pid w.state.areas) b used) ∙ remembered_fine (packets a.pid.0 h)

  not_one : (n : ℕ) → (n ≡ 1 → sound w.state ≡ false) → eqb n 1 ≡ false
  not_one n a = ne_eqb n 1 (λ e. false≢true (sym (a e) ∙ fine))

  pub step_quiet : (c : Call) → (is_refused 1 (event ours w c) ≡ false) × (is_refused 9 (event ours w c) ≡ false)
  step_quiet (open_call pid choice) =
      open_ind w.state pid choice (λ o. (is_refused 1 (open_event pid choice o.answer) ≡ false) × (is_refused 9 (open_event pid choice o.answer) ≡ false))
      (λ n a b. (not_one n a, ne_eqb n 9 b)) (λ o. (refl, refl))
  step_quiet (close_call number) =
      close_ind w.state number (λ o. (is_refused 1 (close_event number o.answer) ≡ false) × (is_refused 9 (close_event number o.answer) ≡ false))
      (λ n a b. (not_one n a, ne_eqb n 9 b)) (λ o. (refl, refl))
  step_quiet (packet_call p lent) =
      packet_ind w.state p w.store lent.out lent.sets
      (λ o. (is_refused 1 (packet_event p lent o.answer (record { out = o.out; sets = o.sets })) ≡ false) × (is_refused 9 (packet_event p lent o.answer (record { out = o.out; sets = o.sets })) ≡ false))
      (λ n a b. (not_one n a, ne_eqb n 9 (λ e. false≢true (sym (agrees (pid_of p) (b e).0) ∙ (b e).1)))) (λ b. (refl, refl)) (λ o. (refl, refl))

module _ (store : List ℕ) (whole : length store ≡ 32768) where
  -- the ledger holds of every run from a fresh state
  pub ledger : (cs : List Call) → Ledger (world_after ours store cs) (history ours store cs)
  ledger [] = fresh_ledger store whole
  ledger (c ∷ cs) = step_ledger (world_after ours store cs) (history ours store cs) (ledger cs) c

  -- and none of its calls is refused 1 or 9
  pub quiet : (cs : List Call) → Every (λ e. (is_refused 1 e ≡ false) × (is_refused 9 e ≡ false)) (log_of ours store cs)
  quiet [] = tt
  quiet (c ∷ cs) = (step_quiet (world_after ours store cs) (history ours store cs) (ledger cs) c, quiet cs)
