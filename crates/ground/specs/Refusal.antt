-- Document 01, "Refusal numbers": a table of refusals, each row has a number and says whether it applies. The first that applies is given.
use Rattle.std.specs.Prelude.{◌≡◌, Bool, true, false, cond, List, [], ◌∷◌, ◌++◌, ◌↔◌, ℕ}
use Rattle.ground.specs.Answer.{Answer, refused, given}

-- A row: the refusal's number, and whether it applies
pub record Row : Type 0 where
  pub number : ℕ
  pub applies : Bool

infix 20 ◌when◌
abbrev pub ◌when◌ : ℕ → Bool → Row
n when b = record { number = n; applies = b }

-- "The first that applies is given, in these orders": the refusal of that row, or the answer where no row applies
abbrev pub judge {ℓ} : {A : Type ℓ} → (ℕ → A) → List Row → A → A
judge refuse [] answer = answer
judge refuse (row ∷ rows) answer = cond row.applies (refuse row.number) (judge refuse rows answer)

-- No row of the table applies
abbrev pub Silent : List Row → Type 0
Silent [] = Unit {0}
Silent (row ∷ rows) = (row.applies ≡ false) × Silent rows

-- The number n is the first that applies
pub record First (n : ℕ) (rows : List Row) : Type 0 where
  pub earlier : List Row
  pub later : List Row
  pub split : rows ≡ earlier ++ (n when true) ∷ later
  pub silent : Silent earlier

-- A table is exact for an answer: a number is given when, and only when, it is the first that applies, and an answer that is no refusal when, and only when, no row does
pub record Exact {ℓ} {A : Type ℓ} (rows : List Row) (answer : Answer A) : Type ℓ where
  pub number : (n : ℕ) → (answer ≡ refused n) ↔ First n rows
  pub none : ((x : A) × (answer ≡ given x)) ↔ Silent rows

-- The same of a call that leaves more than its answer: its table is exact, and where it is refused it leaves everything as it was
pub record ExactCall {ℓ} {A B : Type ℓ} (rows : List Row) (answer_of : A → Answer B) (unchanged : ℕ → A) (left : A) : Type ℓ where
  pub table : Exact rows (answer_of left)
  pub still : (n : ℕ) → answer_of left ≡ refused n → left ≡ unchanged n
