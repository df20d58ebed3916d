-- A table whose answer is made of the answers of one table or two: by cases of the rows.
-- Assumes nothing.
use mathlib.Core.Path.{◌≡◌, refl, sym, ◌∙◌, ap, ap₂, fun_ext}
use mathlib.Core.Bool.{Bool, true, false, cond}
use mathlib.Core.List.{List, [], ◌∷◌, ◌++◌}
use mathlib.Core.Logic.{⊎_elim}
use Prim.Native.Nat.{ℕ}
use Rattle.ground.specs.Answer.{Answer, refused, given}
use Rattle.ground.specs.Refusal.{Row, judge, Silent, First, Exact, ExactCall}
use Rattle.ground.specs.Walk.{Every}
use Rattle.ground.proofs.Answer.{given_apart, given_same, refused_same}
use Rattle.ground.proofs.Refused
use Rattle.ground.proofs.Refused.{accepted, verdict, only}

module _ {ℓ} {A B : Type ℓ} (f : A → B) where
  -- the answer made into another; a refusal stays
  abbrev pub mapped : Answer A → Answer B
  mapped (refused n) = refused n
  mapped (given x) = given (f x)

  pub judge_mapped : (rows : List Row) (x : A) → judge refused rows (given (f x)) ≡ mapped (judge refused rows (given x))
  judge_mapped [] x = refl
  judge_mapped (row ∷ rows) x = go row.applies (judge_mapped rows x)
    where
      go : (b : Bool) → judge refused rows (given (f x)) ≡ mapped (judge refused rows (given x))
          → cond b (refused row.number) (judge refused rows (given (f x))) ≡ mapped (cond b (refused row.number) (judge refused rows (given x)))
      go true e = refl
      go false e = e

-- two answers made into one; the first refusal stays
module _ {ℓ} {A B C : Type ℓ} (f : A → B → C) where
  abbrev pub joined : Answer A → Answer B → Answer C
  joined (refused n) b = refused n
  joined (given x) b = mapped (f x) b

  pub judge_joined : (rows later : List Row) (x : A) (y : B)
      → joined (judge refused rows (given x)) (judge refused later (given y)) ≡ judge refused (rows ++ later) (given (f x y))
  judge_joined [] later x y = sym (judge_mapped (f x) later y)
  judge_joined (row ∷ rows) later x y = go row.applies (judge_joined rows later x y)
    where
      go : (b : Bool) → joined (judge refused rows (given x)) (judge refused later (given y)) ≡ judge refused (rows ++ later) (given (f x y))
          → joined (cond b (refused row.number) (judge refused rows (given x))) (judge refused later (given y))
          ≡ cond b (refused row.number) (judge refused (rows ++ later) (given (f x y)))
      go true e = refl
      go false e = e

-- ---- back from what was given
module _ {ℓ} {A : Type ℓ} (rows : List Row) (x : A) where
  -- where an answer was given no row applies, and it is the table's own
  pub given_by : (y : A) → judge refused rows (given x) ≡ given y → Silent rows × (y ≡ x)
  given_by y e =
      ⊎_elim (λ s. (s, given_same (sym e ∙ accepted refused (given x) rows s)))
      (λ f. absurd (given_apart (sym e ∙ Refused.refused refused (given x) f.0 rows f.1)))
      (verdict rows)

  -- where n was given n is the first that applies
  pub refused_by : (n : ℕ) → judge refused rows (given x) ≡ refused n → First n rows
  refused_by n = only refused (given x) rows n (λ m e. given_apart (sym e)) (λ m e. refused_same e)

  -- so a table is exact, both ways
  pub exact : Exact rows (judge refused rows (given x))
  exact =
      record {
        number = λ n. (refused_by n, Refused.refused refused (given x) n rows);
        none = (λ e. (given_by e.0 e.1).0, λ s. (x, accepted refused (given x) rows s));
      }

-- ---- what holds of every refusal that can apply and of the answer holds of the verdict
module _ {ℓ} {A : Type ℓ} (refuse : ℕ → A) (P : A → Type 0) where
  pub judge_ind : (rows : List Row) (answer : A) → Every (λ row. row.applies ≡ true → P (refuse row.number)) rows → (Silent rows → P answer)
      → P (judge refuse rows answer)
  judge_ind [] answer each on = on tt
  judge_ind (row ∷ rows) answer each on = go row.applies refl (judge_ind rows answer each.1)
    where
      go : (b : Bool) → row.applies ≡ b → ((Silent rows → P answer) → P (judge refuse rows answer))
          → P (cond b (refuse row.number) (judge refuse rows answer))
      go true e rest = each.0 e
      go false e rest = rest (λ s. on (e, s))

-- a verdict seen through a function is the verdict of what is seen
pub judge_seen {ℓ ℓ'} : {A : Type ℓ} {B : Type ℓ'} (see : A → B) (refuse : ℕ → A) (rows : List Row) (answer : A)
    → see (judge refuse rows answer) ≡ judge (λ n. see (refuse n)) rows (see answer)
judge_seen see refuse [] answer = refl
judge_seen see refuse (row ∷ rows) answer = go row.applies (judge_seen see refuse rows answer)
  where
    go : (b : Bool) → see (judge refuse rows answer) ≡ judge (λ n. see (refuse n)) rows (see answer)
        → see (cond b (refuse row.number) (judge refuse rows answer)) ≡ cond b (see (refuse row.number)) (judge (λ n. see (refuse n)) rows (see answer))
    go true e = refl
    go false e = e

-- two verdicts by one table are related where all that they give is
pub judge_both {ℓ} : {A : Type ℓ} (R : A → A → Type 0) (f g : ℕ → A) → ((n : ℕ) → R (f n) (g n)) → (rows : List Row) (x y : A) → R x y → R (judge f rows x) (judge g rows y)
judge_both R f g each [] x y r = r
judge_both R f g each (row ∷ rows) x y r = go row.applies (judge_both R f g each rows x y r)
  where
    go : (b : Bool) → R (judge f rows x) (judge g rows y) → R (cond b (f row.number) (judge f rows x)) (cond b (g row.number) (judge g rows y))
    go true q = each row.number
    go false q = q

-- a table that goes on in another
pub judge_append {ℓ} : {A : Type ℓ} (refuse : ℕ → A) (rows later : List Row) (answer : A)
    → judge refuse (rows ++ later) answer ≡ judge refuse rows (judge refuse later answer)
judge_append refuse [] later answer = refl
judge_append refuse (row ∷ rows) later answer = ap (cond row.applies (refuse row.number)) (judge_append refuse rows later answer)

-- rows that do not apply are passed
pub passed_over {ℓ} : {A : Type ℓ} (x : A) (rows later : List Row) → Silent rows → judge refused (rows ++ later) (given x) ≡ judge refused later (given x)
passed_over x rows later s = judge_append refused rows later (given x) ∙ accepted refused (judge refused later (given x)) rows s

-- ---- a verdict of one call, whose answer is x, carried into another that has the same rows first and the answer y
module _ {ℓ ℓ'} {A : Type ℓ} {B : Type ℓ'} (x : A) (y : B) (rows : List Row) where
  -- where no row applied the other rows decide
  module _ (z : A) (e : judge refused rows (given x) ≡ given z) where
    pub is_given_lem : judge refused rows (given y) ≡ given y
    is_given_lem = accepted refused (given y) rows (given_by rows x z e).0

    pub goes_on : (later : List Row) → judge refused (rows ++ later) (given y) ≡ judge refused later (given y)
    goes_on later = passed_over y rows later (given_by rows x z e).0

  -- where one did it is the answer
  module _ (n : ℕ) (e : judge refused rows (given x) ≡ refused n) where
    pub is_refused_lem : judge refused rows (given y) ≡ refused n
    is_refused_lem = Refused.refused refused (given y) n rows (refused_by rows x n e)

    pub stays_refused : (later : List Row) → judge refused (rows ++ later) (given y) ≡ refused n
    stays_refused later = judge_append refused rows later (given y) ∙ Refused.refused refused (judge refused later (given y)) n rows (refused_by rows x n e)

-- ---- a call that leaves more than its answer
module _ {ℓ} {A B : Type ℓ} (answer_of : A → Answer B) (unchanged : ℕ → A) (tells : (n : ℕ) → answer_of (unchanged n) ≡ refused n)
    (rows : List Row) (x : A) (b : B) (e : answer_of x ≡ given b) where
  answer_is : answer_of (judge unchanged rows x) ≡ judge refused rows (given b)
  answer_is = judge_seen answer_of unchanged rows x ∙ ap₂ (λ (f : ℕ → Answer B) (a : Answer B). judge f rows a) (fun_ext tells) e

  -- a refusal leaves what a refusal of its number leaves
  still : (n : ℕ) → answer_of (judge unchanged rows x) ≡ refused n → judge unchanged rows x ≡ unchanged n
  still n q = Refused.refused unchanged x n rows (refused_by rows b n (sym answer_is ∙ q))

  pub exact_call : ExactCall rows answer_of unchanged (judge unchanged rows x)
  exact_call = record { table = rw answer_is (exact rows b); still = still }
