-- What an answer tells leaves nothing of it untold, and the table is exact as every table is.
-- Assumes nothing.
use mathlib.Core.Path.{◌≡◌, refl, ap}
use Prim.Native.Nat.{ℕ}
use Rattle.std.specs.declared.result.Result.{Result}
use Rattle.ground.specs.declared.Refusal.{Refusal}
use Rattle.ground.specs.Answer.{refused}
use Rattle.ground.proofs.Told.{made, back}
use Rattle.state.specs.declared.After.{After}
use Rattle.ground.specs.Outcome.{Determined}
use Rattle.ground.specs.Refusal.{ExactCall}
use Rattle.ground.proofs.Judged.{exact_call}
use Rattle.ground.proofs.Outcome.{determined_told}
use Rattle.state.specs.declared.State.{State}
use Rattle.close_call.specs.Close.{AfterClose, told_closed, close_refusals, close_of}
use Rattle.close_call.specs.Promises.{ClosesFilter}
use Rattle.close_call.specs.Claims.{Claims}

abbrev closed_made : AfterClose → After (Result (Unit {0}) Refusal)
closed_made a = record { state = a.state; answer = made (λ done. done) a.answer }

closed_back : (x : After (Result (Unit {0}) Refusal)) → closed_made (told_closed x) ≡ x
closed_back x = ap (λ (a : Result (Unit {0}) Refusal). record { state = x.state; answer = a }) (back (λ done. done) (λ done. done) (λ done. refl) x.answer)

closes_filter : (s : State) (number : ℕ) → Determined (ClosesFilter s number)
closes_filter s number = determined_told told_closed closed_made closed_back (close_of s number)

exact_close : (s : State) (number : ℕ)
    → ExactCall (close_refusals s number) (λ (x : AfterClose). x.answer) (λ n. record { answer = refused n; state = s }) (close_of s number)
unfolding close_of
exact_close s number =
    exact_call (λ (x : AfterClose). x.answer) (λ n. record { answer = refused n; state = s }) (λ n. refl) (close_refusals s number) _ _ refl

pub claims : Claims
claims = record { closes_filter = closes_filter; exact_close = exact_close }
