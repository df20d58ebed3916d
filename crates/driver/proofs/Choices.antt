-- Each section's set is by definition what stands in the places; a choice enters nothing but the sets, and there it can only take a place out.
-- Assumes nothing.
use mathlib.Core.Path.{◌≡◌, refl, sym, ◌∙◌, ap, ap₂}
use mathlib.Core.Bool.{Bool, true, false, cond, not, ◌&&◌, ◌||◌, false≢true}
use mathlib.Core.List.{List, [], ◌∷◌, ◌++◌, map}
use Prim.Native.Nat.{ℕ, zero, suc, ◌+◌, ◌*◌, ◌≤◌, ◌<◌}
use native.Mathlib.Decide.{dec_lt}
use native.Mathlib.Omega.{arith}
use borrow.Author.Tests.{eqb-true}
use lib.Dec.{eqb, leb}
use lib.ListN.{length, get_or, drop, length-map, get_or-eq_default, get_or-map}
use Rattle.ground.specs.Answer.{Answer, refused, given}
use Rattle.ground.specs.Refusal.{judge, ◌when◌}
use Rattle.ground.specs.Set.{is_in}
use Rattle.ground.specs.Walk.{all}
use Rattle.ground.specs.Write.{put}
use Rattle.ground.proofs.Answer.{given_apart, given_same}
use Rattle.ground.proofs.Judged.{judge_both}
use Rattle.ground.proofs.Set.{in_set}
use Rattle.ground.proofs.Test.{both_true, true_both}
use Rattle.ground.proofs.Walk.{all_of, map_at}
use Rattle.ground.proofs.Write.{put_item, put_rest}
use Rattle.packet.specs.Packet.{packet_refusals}
use Rattle.section.specs.Section.{table_of}
use Rattle.gather.specs.Rule.{Outcome}
use Rattle.gather.specs.Memory.{state_of}
use Rattle.gather.proofs.RuleKeeps.{rule_keeps}
use Rattle.state.specs.State.{stands_on, area_of, area_start, free_area, free_filter}
use Rattle.state.specs.Choice.{lets, choice_of, Placed, placed, places_of, free_place, is_for, places_for}
use Rattle.state.specs.declared.Filter.{Filter}
use Rattle.state.specs.declared.State.{State}
use Rattle.state.proofs.Chosen.{placed_length, placed_at}
use Rattle.sound.specs.Sound.{sound, sound_place}
use Rattle.sound.proofs.Choices.{all_sound}
use Rattle.sound.proofs.Clauses.{sound_tells, sound_says}
use Rattle.packet_call.specs.Packet.{Said, AfterPacket, unwanted, as_given, pid_of, packet_from, outcome, report, sets_for, put_back, is_wrong_size, last_refusals, packet_of}
use Rattle.driver.specs.Choices.{Listed, places_on, is_all_on, with_all, Alike}
use Rattle.driver.proofs.Cases.{Handles, packet_ind}

-- ---- what is written
module _ (s : State) (p store out sets : List ℕ) where
  abbrev own : ℕ
  own = area_of (pid_of p) s.areas

  abbrev finished : List (List ℕ)
  finished = (outcome s own p store).sections

  abbrev set_of_lem : List ℕ → ℕ
  set_of_lem x = places_for own (table_of x) (places_of s)

  written : Handles s p store out sets → Listed own (places_of s) finished (report (outcome s own p store)) sets (put sets 0 (sets_for own (places_of s) finished))
  written h = record { exactly = exactly; rest = rw long at (put_rest sets (map set_of_lem finished) room) }
    where
      long : length (map set_of_lem finished) ≡ length finished
      long = length-map finished set_of_lem

      room : length (map set_of_lem finished) ≤ length sets
      room =
          let few = (rule_keeps (state_of (get_or s.areas own free_area).marks store (area_start own)) (packet_from p) h.agrees).count h.short in
          omega (arith, few, long, h.listed)

      exactly : (k : ℕ) → k < length finished → (place : ℕ) → is_in place (get_or (put sets 0 (map set_of_lem finished)) k 0) ≡ is_for own (table_of (get_or finished k [])) (get_or (places_of s) place free_place)
      exactly k b place =
          ap (is_in place) (put_item sets (map set_of_lem finished) room k 0 (rw long b) ∙ map_at set_of_lem finished k [] 0 b)
          ∙ in_set (is_for own (table_of (get_or finished k []))) (places_of s) place free_place refl

  pub packet_listed : (r : Said) → (packet_of s p store out sets).answer ≡ given r → r.wanted ≡ true
      → let i = area_of (pid_of p) s.areas in
      Listed i (places_of s) (outcome s i p store).sections r sets (packet_of s p store out sets).sets
  packet_listed =
      packet_ind s p store out sets (λ (a : AfterPacket). (r : Said) → a.answer ≡ given r → r.wanted ≡ true → Listed own (places_of s) finished r sets a.sets)
      (λ n _ _ r e _. absurd (given_apart (sym e)))
      (λ _ r e w. absurd (false≢true (ap (λ (x : Said). x.wanted) (given_same e) ∙ w)))
      (λ h r e _. rw (← given_same e) (written h))

-- ---- where all chose all
pub joined_set : (i : ℕ) (places : List Placed) → all (is_all_on i) places ≡ true → (table : ℕ) → places_for i table places ≡ places_on i places
joined_set i [] e table = refl
joined_set i (r ∷ places) e table =
    let both = both_true (is_all_on i r) (all (is_all_on i) places) e in
    ap₂ (λ (b : Bool) (n : ℕ). cond b 1 0 + 2 * n) (one (stands_on i r.filter) refl both.0) (joined_set i places both.1 table)
  where
    one : (b : Bool) → stands_on i r.filter ≡ b → (not b || eqb r.choice 0) ≡ true → (b && lets (choice_of r.choice) table) ≡ b
    one true q c = ap (λ (n : ℕ). lets (choice_of n) table) (eqb-true r.choice 0 c)
    one false q c = refl

-- ---- nobody else's business
-- every choice is all
none_chosen : (choices : List ℕ) (j : ℕ) → ◌≡◌ {A = ℕ} (get_or (map (λ (c : ℕ). 0) choices) j 0) 0
none_chosen choices j = get_or-map (λ (c : ℕ). 0) choices j 0

all_chosen : (filters : List Filter) (choices : List ℕ) → all sound_place (placed filters (map (λ (c : ℕ). 0) choices)) ≡ true
all_chosen filters choices =
    all_of sound_place (placed filters (map (λ (c : ℕ). 0) choices)) free_place
    (λ j b.
    ap sound_place (placed_at filters (map (λ (c : ℕ). 0) choices) j (rw (placed_length filters (map (λ (c : ℕ). 0) choices)) at b))
    ∙ ap (λ (c : ℕ). sound_place (record { filter = get_or filters j free_filter; choice = c })) (none_chosen choices j)
    ∙ all_sound (get_or filters j free_filter))

with_all_sound : (s : State) → sound s ≡ true → sound (with_all s) ≡ true
with_all_sound s e =
    let k = sound_tells s e in
    sound_says (with_all s)
    (record {
      from = k.from;
      to = k.to;
      areas = k.areas;
      pids = k.pids;
      filters = k.filters;
      numbers = k.numbers;
      choices = all_chosen s.filters s.choices;
      users = k.users;
    })

-- a place that lets a table_id through is there where it lets all through
still_there : (s : State) (i table place : ℕ) → is_in place (places_for i table (places_of s)) ≡ true → is_in place (places_for i table (places_of (with_all s))) ≡ true
still_there s i table place e = in_set (is_for i table) (places_of (with_all s)) place free_place refl ∙ go (dec_lt place (length s.filters))
  where
    is : is_for i table (get_or (places_of s) place free_place) ≡ true
    is = sym (in_set (is_for i table) (places_of s) place free_place refl) ∙ e

    f : Filter
    f = get_or s.filters place free_filter

    go : Dec (place < length s.filters) → is_for i table (get_or (places_of (with_all s)) place free_place) ≡ true
    go (no n) = absurd (false≢true (ap (is_for i table) (sym (get_or-eq_default (places_of s) free_place (rw (placed_length s.filters s.choices) (omega arith)))) ∙ is))
    go (yes b) =
        let stands = (both_true (stands_on i f) (lets (choice_of (get_or s.choices place 0)) table) (ap (is_for i table) (sym (placed_at s.filters s.choices place b)) ∙ is)).0 in
        ap (is_for i table) (placed_at s.filters (with_all s).choices place b)
        ∙ ap (λ (c : ℕ). stands_on i f && lets (choice_of c) table) (none_chosen s.choices place)
        ∙ true_both (stands_on i f) true stands refl

-- sets one by one, and behind them the same
within_all : (f g : List ℕ → ℕ) → ((x : List ℕ) (place : ℕ) → is_in place (f x) ≡ true → is_in place (g x) ≡ true) → (ss : List (List ℕ)) (rest : List ℕ) (k place : ℕ)
    → is_in place (get_or (map f ss ++ rest) k 0) ≡ true → is_in place (get_or (map g ss ++ rest) k 0) ≡ true
within_all f g each [] rest k place e = e
within_all f g each (x ∷ ss) rest zero place e = each x place e
within_all f g each (x ∷ ss) rest (suc k) place e = within_all f g each ss rest k place e

module _ (s : State) (p store out sets : List ℕ) where
  given_alike : (a : Answer Said) → Alike (as_given s store out sets a) (as_given (with_all s) store out sets a)
  given_alike a = record { answer = refl; store = refl; out = refl; state = refl; within = λ k place e. e }

  taken_alike : (i : ℕ) (o : Outcome) → Alike (put_back s i o store out sets) (put_back (with_all s) i o store out sets)
  unfolding put
  taken_alike i o =
      record {
        answer = refl;
        store = refl;
        out = refl;
        state = refl;
        within = λ k place e.
            ap (λ (n : ℕ). is_in place (get_or (sets_for i (places_of (with_all s)) o.sections ++ drop n sets) k 0)) same
            ∙ within_all (λ x. places_for i (table_of x) (places_of s)) (λ x. places_for i (table_of x) (places_of (with_all s))) (λ x. still_there s i (table_of x)) o.sections (drop (0 + length (sets_for i (places_of s) o.sections)) sets) k place e;
      }
    where
      same : 0 + length (sets_for i (places_of (with_all s)) o.sections) ≡ 0 + length (sets_for i (places_of s) o.sections)
      same = ap (λ (n : ℕ). 0 + n) (length-map o.sections _ ∙ sym (length-map o.sections _))

  pub nobody_else : sound s ≡ true → Alike (packet_of s p store out sets) (packet_of (with_all s) p store out sets)
  unfolding packet_of
  nobody_else e =
      rw (e, with_all_sound s e)
      (judge_both Alike (λ n. as_given s store out sets (refused n)) (λ n. as_given (with_all s) store out sets (refused n)) (λ n. given_alike (refused n)) ((3 when is_wrong_size store out sets) ∷ packet_refusals p) _ _ (go (leb (length s.areas) (area_of (pid_of p) s.areas))))
    where
      i : ℕ
      i = area_of (pid_of p) s.areas

      go : (b : Bool) → Alike
          (cond b (as_given s store out sets (given unwanted)) (judge (λ n. as_given s store out sets (refused n)) (last_refusals s (area_of (pid_of p) s.areas) p store) (put_back s (area_of (pid_of p) s.areas) (outcome s (area_of (pid_of p) s.areas) p store) store out sets)))
          (cond b (as_given (with_all s) store out sets (given unwanted))
          (judge (λ n. as_given (with_all s) store out sets (refused n)) (last_refusals s (area_of (pid_of p) s.areas) p store) (put_back (with_all s) (area_of (pid_of p) s.areas) (outcome s (area_of (pid_of p) s.areas) p store) store out sets)))
      go true = given_alike (given unwanted)
      go false = judge_both Alike (λ n. as_given s store out sets (refused n)) (λ n. as_given (with_all s) store out sets (refused n)) (λ n. given_alike (refused n)) (last_refusals s i p store) _ _ (taken_alike i (outcome s i p store))
