-- Gathering is never refused here, since the sizes serve and the marks of a sound state are sound; what it answers is handed on.
-- Assumes nothing.
use mathlib.Core.Path.{◌≡◌, refl, ◌∙◌, ap, ap₂}
use mathlib.Core.List.{List}
use Prim.Native.Nat.{ℕ}
use native.Mathlib.Omega.{arith}
use lib.ListN.{length, get_or}
use borrow.Author.Rules.{rules}
use Rattle.ground.specs.Write.{put}
use Rattle.ground.proofs.Walk.{mapped_length}
use Rattle.gather.specs.Rule.{Outcome, rule}
use Rattle.gather.specs.Memory.{state_of, Leaves}
use Rattle.std.specs.Prelude.{Ok, Err}
use Rattle.ground.specs.Told.{number_of}
use Rattle.state.specs.State.{area_start, free_area}
use Rattle.state.specs.Choice.{places_of}
use Rattle.packet_call.specs.Steps.{sets_in}
use Rattle.packet_call.proofs.PutBack.{gathering_serves, done_apart, sections_few, sets_told, counted_is, taken_is}
use Rattle.packet_call.proofs.gathered.Goals as goal

pub tell_places-requires : goal.tell_places-requires
tell_places-requires c =
    let a = c.args in
    let pre = c.requires in
    let good = c.well_formed in
    let s = a.state in
    let payload = a.payload.now in
    let store = a.store.now in
    let out = a.out.now in
    let long : length s.areas ≡ 8 = search (rules, mapped_length, good) in
    let o : Outcome = rule (state_of (get_or s.areas a.i free_area).marks store (area_start a.i)) (record { counter = a.counter; start = a.start; payload = payload }) in
    let left = gathering_serves s a.i a.counter a.start payload store out a.sets.now long pre.ready pre.area_and_payload.0 pre.area_and_payload.1 pre.area_and_payload.2 {answer = Ok c.in-Ok.g} refl c.in-Ok.ensures in
    let many = counted_is o store out _ _ a.i c.in-Ok.g left in
    let few = sections_few s a.i a.counter a.start payload store pre.area_and_payload.1 pre.area_and_payload.3 in
    omega (arith, many, few, pre.ready.listed)

pub returns-in-Err : goal.returns-in-Err
returns-in-Err c =
    let a = c.args in
    let pre = c.requires in
    let good = c.well_formed in
    let s = a.state in
    let payload = a.payload.now in
    let store = a.store.now in
    let out = a.out.now in
    let long : length s.areas ≡ 8 = search (rules, mapped_length, good) in
    let o : Outcome = rule (state_of (get_or s.areas a.i free_area).marks store (area_start a.i)) (record { counter = a.counter; start = a.start; payload = payload }) in
    let left = gathering_serves s a.i a.counter a.start payload store out a.sets.now long pre.ready pre.area_and_payload.0 pre.area_and_payload.1 pre.area_and_payload.2 {answer = Err c.in-Err.field-0} refl c.in-Err.ensures in
    absurd (done_apart o store out _ _ a.i (number_of c.in-Err.field-0) left)

pub returns-in-Ok : goal.returns-in-Ok
returns-in-Ok c =
    let a = c.args in
    let pre = c.requires in
    let good = c.well_formed in
    let s = a.state in
    let payload = a.payload.now in
    let store = a.store.now in
    let out = a.out.now in
    let sets = a.sets.now in
    let long : length s.areas ≡ 8 = search (rules, mapped_length, good) in
    let o : Outcome = rule (state_of (get_or s.areas a.i free_area).marks store (area_start a.i)) (record { counter = a.counter; start = a.start; payload = payload }) in
    let left = gathering_serves s a.i a.counter a.start payload store out sets long pre.ready pre.area_and_payload.0 pre.area_and_payload.1 pre.area_and_payload.2 {answer = Ok c.in-Ok.g} refl c.in-Ok.ensures in
    let many = counted_is o store out _ _ a.i c.in-Ok.g left in
    rw c.from.ensures
    (taken_is s a.i o store out sets _ _ _ c.in-Ok.g left
    (c.tell_places.ensures
    ∙ ap₂ (λ (n : ℕ) (l : List ℕ). put sets 0 (sets_in a.i (places_of s) n l)) many (ap (λ (l : Leaves). l.out) left)
    ∙ ap (put sets 0) (sets_told s a.i a.counter a.start payload store pre.area_and_payload.1 pre.area_and_payload.3 out)))
