-- A choice and its number in the state say the same, and the record at a place is made of what stands there in both lists.
-- Assumes nothing.
use mathlib.Core.Path.{◌≡◌, refl, sym, ◌∙◌, ap}
use mathlib.Core.Bool.{Bool, true, false, ◌&&◌, ◌||◌}
use mathlib.Core.List.{List, [], ◌∷◌}
use Prim.Native.Nat.{ℕ, zero, suc, ◌+◌, ◌≤◌, ◌<◌}
use native.Mathlib.Nat.{not-suc-le-zero, le_of_suc-le-suc}
use native.Mathlib.Decide.{ℕ_discrete}
use native.Mathlib.Numerals.{add-one}
use native.Mathlib.Omega.{arith}
use borrow.Author.Tests.{eq-eqb, ne_eqb, le-leb, lt-leb}
use lib.Dec.{eqb, leb}
use lib.ListN.{length, get_or, drop}
use lib.Seq.{get_or-drop}
use Rattle.ground.proofs.Walk.{leb_suc}
use Rattle.state.specs.State.{stands_on, free_filter}
use Rattle.state.specs.Choice.{sound_choice, lets, code_of, choice_of, placed, free_place, is_for}
use Rattle.state.specs.declared.Choice.{Choice}
use Rattle.state.specs.declared.Choice.TheVariants.{All, One}
use Rattle.state.specs.declared.Filter.{Filter}

-- a choice that is put down is read back, and so is a number
pub choice_back : (c : Choice) → choice_of (code_of c) ≡ c
choice_back All = refl
choice_back (One table) = refl

pub code_back : (code : ℕ) → code_of (choice_of code) ≡ code
code_back zero = refl
code_back (suc table) = refl

one-add : (j : ℕ) → 1 + j ≡ suc j
one-add j = omega arith

-- one more on both sides
eqb_suc : (m n : ℕ) → eqb m n ≡ eqb (suc m) (suc n)
eqb_suc m n = go (ℕ_discrete m n)
  where
    go : Dec (m ≡ n) → eqb m n ≡ eqb (suc m) (suc n)
    go (yes e) = eq-eqb m n e ∙ sym (eq-eqb (suc m) (suc n) (ap suc e))
    go (no d) = ne_eqb m n d ∙ sym (ne_eqb (suc m) (suc n) (λ e. d (omega arith)))

-- a number lets a table_id through where it is 0 or one more
pub lets_code : (code table : ℕ) → lets (choice_of code) table ≡ (eqb code 0 || eqb code (table + 1))
lets_code zero table = refl
lets_code (suc own) table = rw (ne_eqb (suc own) 0 (omega arith), add-one table) (eqb_suc own table)

pub for_code : (i table : ℕ) (f : Filter) (code : ℕ) → (stands_on i f && (eqb code 0 || eqb code (table + 1))) ≡ is_for i table (record { filter = f; choice = code })
for_code i table f code = ap (λ (b : Bool). stands_on i f && b) (sym (lets_code code table))

-- ---- the records
pub placed_length : (filters : List Filter) (choices : List ℕ) → length (placed filters choices) ≡ length filters
placed_length [] choices = refl
placed_length (f ∷ filters) choices = ap suc (placed_length filters (drop 1 choices))

pub placed_at : (filters : List Filter) (choices : List ℕ) (j : ℕ) → j < length filters
    → get_or (placed filters choices) j free_place ≡ record { filter = get_or filters j free_filter; choice = get_or choices j 0 }
placed_at [] choices j h = absurd (not-suc-le-zero h)
placed_at (f ∷ filters) choices zero h = refl
placed_at (f ∷ filters) choices (suc j) h =
    placed_at filters (drop 1 choices) j (le_of_suc-le-suc h)
    ∙ ap (λ (c : ℕ). record { filter = get_or filters j free_filter; choice = c }) (get_or-drop 1 choices j 0 ∙ ap (λ (n : ℕ). get_or choices n 0) (one-add j))

-- whom a section is for is told by the record at a place
pub for_placed : (i table : ℕ) (filters : List Filter) (choices : List ℕ) (j : ℕ) → j < length filters
    → is_for i table (record { filter = get_or filters j free_filter; choice = get_or choices j 0 }) ≡ is_for i table (get_or (placed filters choices) j free_place)
for_placed i table filters choices j h = ap (is_for i table) (sym (placed_at filters choices j h))

-- ---- soundness
-- a sound choice's number is at most 255
pub sound_code : (code : ℕ) → sound_choice (choice_of code) ≡ leb code 255
sound_code zero = refl
sound_code (suc table) = sym (leb_suc table 254)

sound_put : (c : Choice) → sound_choice c ≡ leb (code_of c) 255
sound_put c = ap sound_choice (sym (choice_back c)) ∙ sound_code (code_of c)

pub choice_sound : (c : Choice) → code_of c ≤ 255 → sound_choice c ≡ true
choice_sound c b = sound_put c ∙ le-leb (code_of c) 255 b

pub choice_unsound : (c : Choice) → 255 < code_of c → sound_choice c ≡ false
choice_unsound c b = sound_put c ∙ lt-leb (code_of c) 255 b
