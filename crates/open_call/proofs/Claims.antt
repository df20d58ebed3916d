-- What an answer tells leaves nothing of it untold, and the table is exact as every table is.
-- Assumes nothing.
use mathlib.Core.Path.{◌≡◌, refl, ap}
use Prim.Native.Nat.{ℕ}
use Rattle.std.specs.declared.result.Result.{Result}
use Rattle.ground.specs.declared.Refusal.{Refusal}
use Rattle.ground.specs.Answer.{refused}
use Rattle.ground.proofs.Told.{made, back}
use Rattle.state.specs.declared.After.{After}
use Rattle.ground.specs.Outcome.{Determined}
use Rattle.ground.specs.Refusal.{ExactCall}
use Rattle.ground.proofs.Judged.{exact_call}
use Rattle.ground.proofs.Outcome.{determined_told}
use Rattle.state.specs.declared.Choice.{Choice}
use Rattle.state.specs.declared.State.{State}
use Rattle.open_call.specs.Open.{Place, AfterOpen, told_place, told_opened, open_refusals, open_of}
use Rattle.open_call.specs.Promises.{OpensFilter}
use Rattle.open_call.specs.Claims.{Claims}
use Rattle.open_call.specs.declared.Opening.{Opening}

abbrev opening_made : Place → Opening
opening_made p = record { number = p.number; place = p.place }

abbrev opened_made : AfterOpen → After (Result Opening Refusal)
opened_made a = record { state = a.state; answer = made opening_made a.answer }

opened_back : (x : After (Result Opening Refusal)) → opened_made (told_opened x) ≡ x
opened_back x = ap (λ (a : Result Opening Refusal). record { state = x.state; answer = a }) (back told_place opening_made (λ o. refl) x.answer)

opens_filter : (s : State) (pid : ℕ) (choice : Choice) → Determined (OpensFilter s pid choice)
opens_filter s pid choice = determined_told told_opened opened_made opened_back (open_of s pid choice)

exact_open : (s : State) (pid : ℕ) (choice : Choice)
    → ExactCall (open_refusals s pid choice) (λ (x : AfterOpen). x.answer) (λ n. record { answer = refused n; state = s }) (open_of s pid choice)
unfolding open_of
exact_open s pid choice = exact_call (λ (x : AfterOpen). x.answer) (λ n. record { answer = refused n; state = s }) (λ n. refl) (open_refusals s pid choice) _ _ refl

pub claims : Claims
claims = record { opens_filter = opens_filter; exact_open = exact_open }
