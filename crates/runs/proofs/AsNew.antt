-- After a jump, as good as new: beside every run goes the one without the PID's packets, whose area has seen nothing, and a packet that jumps or starts a section joins the two.
-- Assumes nothing.
use mathlib.Core.Path.{◌≡◌, refl, sym, ◌∙◌, ap, subst}
use mathlib.Core.Bool.{Bool, true, false, cond, false≢true}
use mathlib.Core.List.{List, [], ◌∷◌, reverse}
use Prim.Native.Nat.{ℕ}
use native.Mathlib.Omega.{arith}
use borrow.Author.Tests.{eqb-true, eqb-false, not-true, not-false, ltb-false}
use lib.Dec.{eqb}
use lib.ListN.{length, get_or-replicate}
use Rattle.ground.proofs.Walk.{find_first, keep-reverse}
use Rattle.state.specs.State.{has_pid, area_of, free_area}
use Rattle.state.specs.declared.Area.{Area}
use Rattle.state.specs.declared.State.{State}
use Rattle.open_call.specs.Open.{open_of}
use Rattle.packet_call.specs.Packet.{pid_of}
use Rattle.runs.specs.Run.{Call, open_call, close_call, packet_call, World, after, run_from, play_from, start, ours}
use Rattle.runs.specs.Demand.{world_after, history}
use Rattle.runs.specs.AsNew.{anew, FreshlyTaken, is_else, without, AfterJumps, TakenIn, AfterStarts, HoldsSame, SameHeld}
use Rattle.runs.proofs.InOrder.{in_order}
use Rattle.runs.proofs.Steps.{ledger, fine, agrees}
use Rattle.runs.proofs.Unread.{areas_stay, unread, onward}
use Rattle.runs.proofs.Anew.{long, none_forgotten, open_anew, close_anew}
use Rattle.runs.proofs.AnewPacket.{forget, other_packet, own_packet, jump_lands, start_lands}

-- ---- worlds that hold the same
same_sym : {w v : World} → SameHeld w v → SameHeld v w
same_sym {w} {v} s = record { state = sym s.state; size = sym s.size; held = subst (λ (x : State). HoldsSame x v.store w.store) s.state (λ i b u. sym (s.held i b u)) }

same_trans : {w v x : World} → SameHeld w v → SameHeld v x → SameHeld w x
same_trans {w} {v} {x} s t =
    record {
      state = s.state ∙ t.state;
      size = s.size ∙ t.size;
      held = λ i b u. s.held i b u ∙ subst (λ (y : State). HoldsSame y v.store x.store) (sym s.state) t.held i b u;
    }

-- ---- beside a run
module _ (store : List ℕ) (whole : length store ≡ 32768) where
  abbrev at : List Call → World
  at cs = world_after ours store cs

  eight : (cs : List Call) → length (at cs).state.areas ≡ 8
  eight cs = (ledger store whole cs).eight

  -- a call that is no packet of the PID does the same where its area has seen nothing
  else_same : (pid : ℕ) (cs : List Call) (c : Call) → is_else pid c ≡ true → after ours (forget pid (at cs)) c ≡ forget pid (after ours (at cs) c)
  else_same pid cs (open_call q choice) e =
      ap (λ (s : State). record { state = s; store = (at cs).store }) (sym (open_anew pid (at cs).state (fine (at cs) (history ours store cs) (ledger store whole cs)) q choice).1)
  else_same pid cs (close_call number) e =
      ap (λ (s : State). record { state = s; store = (at cs).store }) (sym (close_anew pid (at cs).state (fine (at cs) (history ours store cs) (ledger store whole cs)) number).1)
  else_same pid cs (packet_call p lent) e =
      sym (other_packet (at cs).state (at cs).store p lent pid (fine (at cs) (history ours store cs) (ledger store whole cs)) (eqb-false (pid_of p) pid (not-true (eqb (pid_of p) pid) e))).1

  -- a packet of the PID changes nothing there
  own_same : (pid : ℕ) (cs : List Call) (c : Call) → is_else pid c ≡ false → SameHeld (forget pid (after ours (at cs) c)) (forget pid (at cs))
  own_same pid cs (open_call q choice) e = absurd (false≢true (sym e))
  own_same pid cs (close_call number) e = absurd (false≢true (sym e))
  own_same pid cs (packet_call p lent) e =
      subst (λ (q : ℕ). SameHeld (forget q (after ours (at cs) (packet_call p lent))) (forget q (at cs))) (eqb-true (pid_of p) pid (not-false (eqb (pid_of p) pid) e))
      (own_packet (at cs).state (at cs).store p lent (eight cs))

module _ (store store₂ : List ℕ) (whole : length store ≡ 32768) (whole₂ : length store₂ ≡ 32768) (pid : ℕ) where
  eight_anew : (cs : List Call) → length (anew pid (world_after ours store cs).state).areas ≡ 8
  eight_anew cs = long pid (world_after ours store cs).state.areas ∙ eight store whole cs

  -- the run without the PID's packets is in the state in which its area has seen nothing
  beside : (cs : List Call) → SameHeld (forget pid (world_after ours store cs)) (world_after ours store₂ (without pid cs))
  beside [] = record { state = refl; size = whole ∙ sym whole₂; held = λ i b u. rw (get_or-replicate 8 i free_area free_area b) }
  beside (c ∷ cs) = go (is_else pid c) refl (beside cs)
    where
      go : (b : Bool) → is_else pid c ≡ b → SameHeld (forget pid (world_after ours store cs)) (world_after ours store₂ (without pid cs))
          → SameHeld (forget pid (world_after ours store (c ∷ cs))) (world_after ours store₂ (cond b (c ∷ without pid cs) (without pid cs)))
      go true e same =
          subst (λ (x : World). SameHeld x (world_after ours store₂ (c ∷ without pid cs))) (else_same store whole pid cs c e)
          (unread (forget pid (world_after ours store cs)) (world_after ours store₂ (without pid cs)) (eight_anew cs) same c).1
      go false e same = same_trans (own_same store whole pid cs c e) same

  -- and so it is after a call that both join
  joins : (cs : List Call) (c : Call) → after ours (world_after ours store cs) c ≡ after ours (forget pid (world_after ours store cs)) c
      → SameHeld (after ours (world_after ours store cs) c) (after ours (world_after ours store₂ (without pid cs)) c)
  joins cs c e =
      subst (λ (x : World). SameHeld x (after ours (world_after ours store₂ (without pid cs)) c)) (sym e)
      (unread (forget pid (world_after ours store cs)) (world_after ours store₂ (without pid cs)) (eight_anew cs) (beside cs) c).1

-- ---- a jump
pub after_jumps : AfterJumps ours (run_from ours)
after_jumps store store₂ whole whole₂ earlier p lent left r is jump =
    let w = world_after ours store earlier in
    let v = world_after ours store₂ (without (pid_of p) earlier) in
    let h = history ours store earlier in
    let l = ledger store whole earlier in
    let same = beside store store₂ whole whole₂ (pid_of p) earlier in
    let lands = jump_lands w.state w.store p lent (fine w h l) (agrees w h l (pid_of p)) l.eight r left is jump in
    record {
      taken = sym same.state;
      told = lands.said;
      answer = sym (unread (forget (pid_of p) w) v (eight_anew store store₂ whole whole₂ (pid_of p) earlier) same (packet_call p lent)).0 ∙ lands.answer;
      same = lands.same;
      never = lands.never;
      onward = onward (after ours w (packet_call p lent)) (after ours v (packet_call p lent)) (areas_stay w (packet_call p lent) ∙ l.eight) (joins store store₂ whole whole₂ (pid_of p) earlier (packet_call p lent) lands.world);
    }

-- ---- a start
pub after_starts : AfterStarts ours (run_from ours)
after_starts store store₂ whole whole₂ earlier earlier₂ p lent differ starts some a b =
    onward (after ours (world_after ours store earlier) c) (after ours (world_after ours store₂ earlier₂) c) (areas_stay (world_after ours store earlier) c ∙ eight store whole earlier)
    (same_trans (joined store whole earlier a)
    (subst (λ (cs : List Call). SameHeld (after ours (world_after ours store₂ cs) c) (after ours (world_after ours store₂ earlier₂) c)) (sym differ) (same_sym (joined store₂ whole₂ earlier₂ b))))
  where
    c : Call
    c = packet_call p lent

    joined : (store : List ℕ) → length store ≡ 32768 → (cs : List Call) → TakenIn ours (world_after ours store cs) p lent
        → SameHeld (after ours (world_after ours store cs) (packet_call p lent)) (after ours (world_after ours store₂ (without (pid_of p) cs)) (packet_call p lent))
    joined store whole cs t =
        let w = world_after ours store cs in
        let h = history ours store cs in
        let l = ledger store whole cs in
        joins store store₂ whole whole₂ (pid_of p) cs c (start_lands w.state w.store p lent (fine w h l) (agrees w h l (pid_of p)) starts some t.said t.left t.answer t.wanted t.original)

-- ---- calls as they come
played : (store : List ℕ) (cs : List Call) → play_from ours (start store) cs ≡ world_after ours store (reverse cs)
played store cs = (in_order ours store cs).0

played_without : (store : List ℕ) (pid : ℕ) (cs : List Call) → play_from ours (start store) (without pid cs) ≡ world_after ours store (without pid (reverse cs))
played_without store pid cs = played store (without pid cs) ∙ ap (world_after ours store) (sym (keep-reverse (is_else pid) cs))

pub jumps_as_they_come : AfterJumps ours (play_from ours)
jumps_as_they_come store store₂ whole whole₂ earlier p lent left r =
    rw (played store earlier, played_without store₂ (pid_of p) earlier) (after_jumps store store₂ whole whole₂ (reverse earlier) p lent left r)

pub starts_as_they_come : AfterStarts ours (play_from ours)
starts_as_they_come store store₂ whole whole₂ earlier earlier₂ p lent differ starts some =
    rw (played store earlier, played store₂ earlier₂)
    (after_starts store store₂ whole whole₂ (reverse earlier) (reverse earlier₂) p lent (keep-reverse (is_else (pid_of p)) earlier ∙ ap reverse differ ∙ sym (keep-reverse (is_else (pid_of p)) earlier₂)) starts some)

-- ---- what an open leaves that takes an area
pub freshly_taken : FreshlyTaken ours
freshly_taken store calls whole pid choice none =
    let w = world_after ours store calls in
    let same = (open_anew pid w.state (fine w (history ours store calls) (ledger store whole calls)) pid choice).1 in
    let b = ltb-false (area_of pid w.state.areas) (length w.state.areas) none in
    same
    ∙ ap (λ (l : List Area). (open_of (record { areas = l; filters = w.state.filters; choices = w.state.choices; next = w.state.next }) pid choice).state)
    (none_forgotten pid w.state.areas (λ i h. find_first (has_pid pid) w.state.areas free_area i (omega arith)))
