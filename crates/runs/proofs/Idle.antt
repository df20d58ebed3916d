-- A call that is refused, or a packet that is not wanted, leaves the world as it was, so leaving it out changes nothing after it.
-- Assumes nothing.
use mathlib.Core.Path.{◌≡◌, refl, sym, ◌∙◌, ap, ap₂}
use mathlib.Core.Bool.{Bool, true, false, cond, false≢true}
use mathlib.Core.List.{List, [], ◌∷◌}
use Rattle.ground.specs.Walk.{keep}
use Rattle.driver.proofs.Cases.{open_ind, close_ind, packet_ind}
use Rattle.runs.specs.Run.{Call, open_call, close_call, packet_call, World, Event, open_event, close_event, packet_event, after, event, run_from, log_from, ours}
use Rattle.runs.specs.History.{is_accepted}
use Rattle.runs.specs.Demand.{heeded_from}

pub still : (w : World) (c : Call) → is_accepted (event ours w c) ≡ false → after ours w c ≡ w
still w (open_call pid choice) =
    open_ind w.state pid choice (λ o. is_accepted (open_event pid choice o.answer) ≡ false → record { state = o.state; store = w.store } ≡ w)
    (λ n a b e. refl) (λ o e. absurd (false≢true (sym e)))
still w (close_call number) =
    close_ind w.state number (λ o. is_accepted (close_event number o.answer) ≡ false → record { state = o.state; store = w.store } ≡ w)
    (λ n a b e. refl) (λ o e. absurd (false≢true (sym e)))
still w (packet_call p lent) =
    packet_ind w.state p w.store lent.out lent.sets
    (λ o. is_accepted (packet_event p lent o.answer (record { out = o.out; sets = o.sets })) ≡ false → record { state = o.state; store = o.store } ≡ w)
    (λ n a b e. refl) (λ b e. refl) (λ o e. absurd (false≢true (sym e)))

module _ (w : World) where
  pub idle_world : (cs : List Call) → run_from ours w (heeded_from ours w cs) ≡ run_from ours w cs
  idle_world [] = refl
  idle_world (c ∷ cs) = go (is_accepted (event ours (run_from ours w cs) c)) refl (idle_world cs)
    where
      go : (b : Bool) → is_accepted (event ours (run_from ours w cs) c) ≡ b → run_from ours w (heeded_from ours w cs) ≡ run_from ours w cs
          → run_from ours w (cond b (c ∷ heeded_from ours w cs) (heeded_from ours w cs)) ≡ after ours (run_from ours w cs) c
      go true e q = ap (λ (x : World). after ours x c) q
      go false e q = q ∙ sym (still (run_from ours w cs) c e)

  pub idle_log : (cs : List Call) → log_from ours w (heeded_from ours w cs) ≡ keep is_accepted (log_from ours w cs)
  idle_log [] = refl
  idle_log (c ∷ cs) = go (is_accepted (event ours (run_from ours w cs) c)) (idle_log cs)
    where
      go : (b : Bool) → log_from ours w (heeded_from ours w cs) ≡ keep is_accepted (log_from ours w cs)
          → log_from ours w (cond b (c ∷ heeded_from ours w cs) (heeded_from ours w cs)) ≡ cond b (event ours (run_from ours w cs) c ∷ keep is_accepted (log_from ours w cs)) (keep is_accepted (log_from ours w cs))
      go true q = ap₂ (λ (e : Event) (l : List Event). e ∷ l) (ap (λ (x : World). event ours x c) (idle_world cs)) q
      go false q = q
