-- The choices of a sound state: each is tested by the number of its filter alone, and stays sound where another is set.
-- Assumes nothing.
use mathlib.Core.Path.{◌≡◌, refl, sym, ◌∙◌, ap, ap₂}
use mathlib.Core.Bool.{Bool, true, false, cond, not, ◌&&◌}
use mathlib.Core.List.{List, [], ◌∷◌, map}
use Prim.Native.Nat.{ℕ, suc, ◌+◌, ◌≤◌, ◌<◌}
use native.Mathlib.Numerals.{add-one}
use native.Mathlib.Decide.{ℕ_discrete, dec_lt}
use native.Mathlib.Omega.{arith}
use borrow.Author.Tests.{eq-eqb, ne_eqb, le-leb, lt-leb}
use lib.Dec.{eqb, leb}
use lib.ListN.{length, drop, get_or, set, length-map, length-set, get_or-eq_default, get_or-map}
use lib.Seq.{get_or-set_same, get_or-set_other}
use Rattle.ground.specs.Walk.{all}
use Rattle.ground.proofs.Walk.{all_turn, all_behind, all_at, all_of}
use Rattle.state.specs.State.{is_open, free_filter}
use Rattle.state.specs.Choice.{sound_choice, choice_of, Placed, placed, free_place}
use Rattle.state.specs.declared.Filter.{Filter}
use Rattle.state.proofs.Chosen.{sound_code, placed_length, placed_at}
use Rattle.sound.specs.Sound.{sound_place}
use Rattle.sound.specs.Steps.{known, highest_choice}

-- a choice is one, and all where there is no number
choice_told : (number choice : ℕ) → leb choice (highest_choice number) ≡ sound_place (record { filter = known number; choice = choice })
choice_told number choice = go (eqb number 0)
  where
    none : Dec (choice ≡ 0) → leb choice 0 ≡ eqb choice 0
    none (yes e) = le-leb choice 0 (omega arith) ∙ sym (eq-eqb choice 0 e)
    none (no n) = lt-leb choice 0 (omega arith) ∙ sym (ne_eqb choice 0 n)

    go : (b : Bool) → leb choice (cond b 0 255) ≡ cond (not b) (sound_choice (choice_of choice)) (eqb choice 0)
    go true = none (ℕ_discrete choice 0)
    go false = sym (sound_code choice)

-- one place more, and the end
module _ (numbers choices : List ℕ) (i : ℕ) (fits : Bool) where
  abbrev records : List Placed
  records = placed (map known numbers) choices

  as_many : length records ≡ length numbers
  as_many = placed_length (map known numbers) choices ∙ length-map numbers known

  pub choices_go : (most : ℕ) → i < length numbers → most ≡ highest_choice (get_or numbers i 0)
      → ((fits && leb (get_or choices i 0) most) && all sound_place (drop (i + 1) (placed (map known numbers) choices))) ≡ (fits && all sound_place (drop i (placed (map known numbers) choices)))
  choices_go most h e =
      grouped fits (leb (get_or choices i 0) most) (all sound_place (drop (i + 1) records))
      ∙ ap (λ (b : Bool). fits && b)
      (ap₂ (λ (b : Bool) (n : ℕ). b && all sound_place (drop n records)) (ap (leb (get_or choices i 0)) e ∙ choice_told (get_or numbers i 0) (get_or choices i 0) ∙ ap sound_place own) (add-one i) ∙ sym (all_turn sound_place records i free_place (rw as_many h)))
    where
      grouped : (a b c : Bool) → ((a && b) && c) ≡ (a && (b && c))
      grouped true b c = refl
      grouped false b c = refl

      own : record { filter = known (get_or numbers i 0); choice = get_or choices i 0 } ≡ get_or records i free_place
      own =
          ap (λ (f : Filter). record { filter = f; choice = get_or choices i 0 }) (sym (get_or-map known numbers i 0))
          ∙ sym (placed_at (map known numbers) choices i (rw (length-map numbers known) h))

  pub choices_end : length numbers ≤ i → fits ≡ (fits && all sound_place (drop i (placed (map known numbers) choices)))
  choices_end past = sym (ap (λ (b : Bool). fits && b) (all_behind sound_place records i (rw as_many past)) ∙ left_none fits)
    where
      left_none : (b : Bool) → (b && true) ≡ b
      left_none true = refl
      left_none false = refl

-- of a filter the number alone counts for its choice
pub same_choices : (fs gs : List Filter) (choices : List ℕ) → length fs ≡ length gs → ((j : ℕ) → (get_or fs j free_filter).number ≡ (get_or gs j free_filter).number)
    → all sound_place (placed fs choices) ≡ all sound_place (placed gs choices)
same_choices [] [] choices e each = refl
same_choices [] (g ∷ gs) choices e each = absurd (omega arith)
same_choices (f ∷ fs) [] choices e each = absurd (omega arith)
same_choices (f ∷ fs) (g ∷ gs) choices e each =
    ap₂ (λ (n : ℕ) (b : Bool). cond (not (eqb n 0)) (sound_choice (choice_of (get_or choices 0 0))) (eqb (get_or choices 0 0) 0) && b) (each 0)
    (same_choices fs gs (drop 1 choices) (omega arith) (λ j. each (suc j)))

-- ---- a place that is set
-- all is sound everywhere
pub all_sound : (f : Filter) → sound_place (record { filter = f; choice = 0 }) ≡ true
all_sound f = go (is_open f)
  where
    go : (b : Bool) → cond b (sound_choice (choice_of 0)) (eqb 0 0) ≡ true
    go true = refl
    go false = refl

pub choices_set : (filters : List Filter) (choices : List ℕ) (p : ℕ) (f : Filter) (code : ℕ) → p < length filters
    → all sound_place (placed filters choices) ≡ true → sound_place (record { filter = f; choice = code }) ≡ true
    → all sound_place (placed (set filters p f) (set choices p code)) ≡ true
choices_set filters choices p f code h e own =
    all_of sound_place (placed (set filters p f) (set choices p code)) free_place
    (λ j b.
    let inside : j < length (set filters p f) = rw (placed_length (set filters p f) (set choices p code)) at b in
    ap sound_place (placed_at (set filters p f) (set choices p code) j inside) ∙ each j (rw length-set at inside) (ℕ_discrete j p))
  where
    here : Dec (p < length choices) → sound_place (record { filter = f; choice = get_or (set choices p code) p 0 }) ≡ true
    here (yes b) = ap (λ (c : ℕ). sound_place (record { filter = f; choice = c })) (get_or-set_same choices p code 0 b) ∙ own
    here (no n) = ap (λ (c : ℕ). sound_place (record { filter = f; choice = c })) (get_or-eq_default (set choices p code) 0 (rw length-set (omega arith))) ∙ all_sound f

    each : (j : ℕ) → j < length filters → Dec (j ≡ p) → sound_place (record { filter = get_or (set filters p f) j free_filter; choice = get_or (set choices p code) j 0 }) ≡ true
    each j b (yes q) = rw (q, get_or-set_same filters p f free_filter h) (here (dec_lt p (length choices)))
    each j b (no n) =
        rw (get_or-set_other filters p j f free_filter n, get_or-set_other choices p j code 0 n)
        (ap sound_place (sym (placed_at filters choices j b)) ∙ all_at sound_place (placed filters choices) free_place e j (rw (placed_length filters choices) b))
