-- A next number or places that are not sound make the whole false; where they are, what is left is what the pass over the areas found.
-- Assumes nothing.
use mathlib.Core.Path.{◌≡◌, sym, ◌∙◌, ap}
use mathlib.Core.Bool.{Bool, ◌&&◌}
use borrow.Author.Rules.{rules}
use lib.ListN.{length}
use Rattle.ground.specs.Walk.{all, apart}
use Rattle.ground.proofs.Test.{and_false}
use Rattle.ground.proofs.Walk.{mapped_length}
use Rattle.sound.specs.Sound.{sound, sound_area, same_pid}
use Rattle.sound.proofs.Pass.{regrouped, clauses_out, clauses_left, agree_counts}
use Rattle.sound.proofs.is_sound.Goals as goal

pub returns-then-not-next_is_sound : goal.returns-then-not-next_is_sound
unfolding sound
returns-then-not-next_is_sound c = rw (sym c.next_is_sound.ensures ∙ c.if-not-next_is_sound.true)

pub returns-then-not-places_are_sound : goal.returns-then-not-places_are_sound
unfolding sound
returns-then-not-places_are_sound c =
    let s = c.args.state in
    let long : length s.areas ≡ 8 = search (rules, mapped_length) in
    let out = sym c.places_are_sound.ensures.0 ∙ c.if-not-places_are_sound.true in
    rw (sym c.next_is_sound.ensures ∙ c.if-not-next_is_sound.false)
    (sym (regrouped (all sound_area s.areas && apart same_pid s.areas) _ _ _ _ ∙ rw (clauses_out s.next s.areas s.filters s.choices long out, and_false (all sound_area s.areas && apart same_pid s.areas))))

pub returns : goal.returns
unfolding sound
returns c =
    let s = c.args.state in
    let long : length s.areas ≡ 8 = search (rules, mapped_length) in
    let places = c.places_are_sound in
    let counts = places.new.counts in
    let ok = c.if-not-places_are_sound.false in
    let sound_areas = all sound_area s.areas && apart same_pid s.areas in
    rw (sym c.next_is_sound.ensures ∙ c.if-not-next_is_sound.false)
    (c.areas_are_sound.ensures
    ∙ ap (λ (b : Bool). sound_areas && b)
    (agree_counts s.filters counts s.areas long (places.ensures.1 ok)
    ∙ sym (clauses_left s.next s.areas s.filters s.choices long (sym places.ensures.0 ∙ ok)))
    ∙ sym (regrouped sound_areas _ _ _ _))
