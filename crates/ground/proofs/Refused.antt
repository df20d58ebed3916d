-- The laws of a table of refusals, both ways: from the rows to what is given, and from what is given to the rows.
-- Assumes nothing.
use mathlib.Core.Path.{◌≡◌, refl, sym, ◌∙◌, ap}
use mathlib.Core.Bool.{Bool, true, false, cond, not}
use mathlib.Core.List.{List, [], ◌∷◌, ◌++◌}
use mathlib.Core.Logic.{◌⊎◌, inl, inr, ⊎_elim}
use Prim.Native.Nat.{ℕ, ◌≤◌, ◌<◌}
use lib.Dec.{ltb, leb, eqb}
use borrow.Author.Tests.{lt-ltb, le-ltb, le-leb, lt-leb, eq-eqb, ne_eqb}
use Rattle.ground.specs.Refusal.{Row, judge, Silent, First, ◌when◌}

-- ---- one test, as a return of the code shows it
module _ {ℓ} {A : Type ℓ} {z : A} where
  pub yes : (b : Bool) (x y : A) → b ≡ true → z ≡ x → z ≡ cond b x y
  yes b x y e p = rw e p

  pub no : (b : Bool) (x y : A) → b ≡ false → z ≡ y → z ≡ cond b x y
  no b x y e p = rw e p

  -- a test that a function of its own made: r is its answer
  pub yes_by : (b r : Bool) (x y : A) → r ≡ b → r ≡ true → z ≡ x → z ≡ cond b x y
  yes_by b r x y e t = yes b x y (sym e ∙ t)

  pub no_by : (b r : Bool) (x y : A) → r ≡ b → r ≡ false → z ≡ y → z ≡ cond b x y
  no_by b r x y e t = no b x y (sym e ∙ t)

  pub yes< : (a b : ℕ) (x y : A) → a < b → z ≡ x → z ≡ cond (ltb a b) x y
  yes< a b x y h = yes (ltb a b) x y (lt-ltb a b h)

  pub no< : (a b : ℕ) (x y : A) → b ≤ a → z ≡ y → z ≡ cond (ltb a b) x y
  no< a b x y h = no (ltb a b) x y (le-ltb a b h)

  pub yes≤ : (a b : ℕ) (x y : A) → a ≤ b → z ≡ x → z ≡ cond (leb a b) x y
  yes≤ a b x y h = yes (leb a b) x y (le-leb a b h)

  pub no≤ : (a b : ℕ) (x y : A) → b < a → z ≡ y → z ≡ cond (leb a b) x y
  no≤ a b x y h = no (leb a b) x y (lt-leb a b h)

  pub yes≡ : (a b : ℕ) (x y : A) → a ≡ b → z ≡ x → z ≡ cond (eqb a b) x y
  yes≡ a b x y h = yes (eqb a b) x y (eq-eqb a b h)

  pub no≡ : (a b : ℕ) (x y : A) → (a ≡ b → ⊥) → z ≡ y → z ≡ cond (eqb a b) x y
  no≡ a b x y h = no (eqb a b) x y (ne_eqb a b h)

  pub yes≢ : (a b : ℕ) (x y : A) → (a ≡ b → ⊥) → z ≡ x → z ≡ cond (not (eqb a b)) x y
  yes≢ a b x y h = yes (not (eqb a b)) x y (ap not (ne_eqb a b h))

  pub no≢ : (a b : ℕ) (x y : A) → a ≡ b → z ≡ y → z ≡ cond (not (eqb a b)) x y
  no≢ a b x y h = no (not (eqb a b)) x y (ap not (eq-eqb a b h))

-- every test of a table, for `search`
pub ruleset tests = (yes_by, no_by, yes<, no<, yes≤, no≤, yes≡, no≡, yes≢, no≢)

-- ---- the whole table
module _ {ℓ} {A : Type ℓ} (refuse : ℕ → A) (answer : A) where
  -- where no row applies, the answer
  pub accepted : (rows : List Row) → Silent rows → judge refuse rows answer ≡ answer
  accepted [] s = refl
  accepted (row ∷ rows) s = rw s.0 (accepted rows s.1)

  given : (earlier later : List Row) (n : ℕ) → Silent earlier → judge refuse (earlier ++ (n when true) ∷ later) answer ≡ refuse n
  given [] later n s = refl
  given (row ∷ rows) later n s = rw s.0 (given rows later n s.1)

  -- where n is the first that applies, n
  pub refused : (n : ℕ) (rows : List Row) → First n rows → judge refuse rows answer ≡ refuse n
  refused n rows f = ap (λ (r : List Row). judge refuse r answer) f.split ∙ given f.earlier f.later n f.silent

-- either no row applies, or one is the first that does
pub verdict : (rows : List Row) → Silent rows ⊎ ((n : ℕ) × First n rows)
verdict [] = inl tt
verdict (row ∷ rows) = go row.applies refl (verdict rows)
  where
    after : row.applies ≡ false → Silent rows ⊎ ((n : ℕ) × First n rows) → Silent (row ∷ rows) ⊎ ((n : ℕ) × First n (row ∷ rows))
    after e (inl s) = inl (e, s)
    after e (inr (n, f)) =
        inr (n, record { earlier = row ∷ f.earlier; later = f.later; split = ap (λ (r : List Row). row ∷ r) f.split; silent = (e, f.silent) })

    go : (b : Bool) → row.applies ≡ b → Silent rows ⊎ ((n : ℕ) × First n rows) → Silent (row ∷ rows) ⊎ ((n : ℕ) × First n (row ∷ rows))
    go true e v =
        inr (row.number, record { earlier = []; later = rows; split = ap (λ (b : Bool). (row.number when b) ∷ rows) e; silent = tt })
    go false e v = after e v

-- no row of two tables applies: none of either
pub silent_both : (rows later : List Row) → Silent (rows ++ later) → Silent rows × Silent later
silent_both [] later s = (tt, s)
silent_both (row ∷ rows) later s = let both = silent_both rows later s.1 in ((s.0, both.0), both.1)

-- ---- back from what was given
module _ {ℓ} {A : Type ℓ} (refuse : ℕ → A) (answer : A) where
  -- where it was no refusal, no row applies and it was the answer
  pub none : (rows : List Row) (z : A) → ((n : ℕ) → z ≡ refuse n → ⊥) → z ≡ judge refuse rows answer → Silent rows × (z ≡ answer)
  none rows z apart e =
      ⊎_elim (λ s. (s, e ∙ accepted refuse answer rows s))
      (λ f. absurd (apart f.0 (e ∙ refused refuse answer f.0 rows f.1)))
      (verdict rows)

  -- where n was given, n is the first that applies; refusals differ from each other and from the answer
  pub only : (rows : List Row) (n : ℕ) → ((m : ℕ) → refuse m ≡ answer → ⊥) → ((m : ℕ) → refuse m ≡ refuse n → m ≡ n)
      → judge refuse rows answer ≡ refuse n → First n rows
  only rows n apart same e =
      ⊎_elim (λ s. absurd (apart n (sym e ∙ accepted refuse answer rows s)))
      (λ f. rw (same f.0 (sym (refused refuse answer f.0 rows f.1) ∙ e)) at f.1)
      (verdict rows)
