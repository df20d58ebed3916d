-- A loop that forms a set of 32 places: it begins, one place more, and it ends; all 32 have room.
-- Assumes nothing.
use mathlib.Core.Path.{◌≡◌, refl, sym, ◌∙◌, ap}
use mathlib.Core.Bool.{Bool, true, false, cond}
use mathlib.Core.List.{List, [], ◌∷◌, map}
use mir.Val.{bool_byte}
use Prim.Native.Nat.{ℕ, ◌+◌, ◌*◌, ◌%◌, ◌^◌, ◌≤◌, ◌<◌}
use native.Mathlib.Nat.{zero-add, one-mul}
use native.Mathlib.Omega.{arith}
use lib.ListN.{length, drop, get_or, length-map}
use lib.Pow.{shl_exact}
use Rattle.std.proofs.Math.Pow.{pow_mono}
use native.Mathlib.Numerals.{add-one}
use native.Mathlib.Nat.{two-pow-succ}
use Rattle.std.proofs.lemmas.List as L
use Rattle.ground.specs.Set.{set_of}
use Rattle.state.specs.Steps.{IsSet}
use Rattle.ground.proofs.Set.{bit_lt, set_goes, set_ends}

-- the bit of an answer
pub bit_is : (b : Bool) → bool_byte b ≡ cond b 1 0
bit_is true = refl
bit_is false = refl

pub bit_small : (b : Bool) → bool_byte b ≤ 1
bit_small true = omega arith
bit_small false = omega arith

-- a set by the answers alone
pub set_mapped : {A : Type 0} (p : A → Bool) (l : List A) → set_of (λ (b : Bool). b) (map p l) ≡ set_of p l
set_mapped p [] = refl
set_mapped p (x ∷ xs) = ap (λ (n : ℕ). cond (p x) 1 0 + 2 * n) (set_mapped p xs)

-- a set that is told by what a test says of each place
pub set_told : {A : Type 0} (p : A → Bool) (l : List A) (d : A) → length l ≡ 32 → {says : ℕ → Bool → Type 0} {r : ℕ} → IsSet says r
    → ((place : ℕ) (b : Bool) → place < 32 → says place b → b ≡ p (get_or l place d)) → r ≡ set_of p l
set_told {A} p l d long told each =
    told (map p l) (length-map l p ∙ long) (λ place b inside says. each place b inside says ∙ sym (at_map l place (rw long inside))) ∙ set_mapped p l
  where
    at_map : (xs : List A) (i : ℕ) → i < length xs → get_or (map p xs) i false ≡ p (get_or xs i d)
    at_map xs i h = L.get_or-map p xs i d false h

-- a set of the first i places has room for the bit of the next one
pub bit_fits : (i done bit : ℕ) → i < 32 → done < 2 ^ i → bit ≤ 1 → done + (bit * 2 ^ i) % 4294967296 < 2 ^ (i + 1)
bit_fits i done bit h f b =
    let shifted : (bit * 2 ^ i) % 4294967296 ≡ bit * 2 ^ i = shl_exact 1 i 32 (omega arith) (omega arith) in
    let twice : 2 ^ (i + 1) ≡ 2 ^ i + 2 ^ i = rw (add-one i, two-pow-succ i) in
    let most : bit * 2 ^ i ≤ 2 ^ i = grind arith in
    rw (shifted, twice) (omega (arith, most))

pub all_fit : (i : ℕ) → i < 32 → 2 ^ (i + 1) ≤ 4294967296
all_fit i h = pow_mono {i = i + 1} {j = 32} (omega arith)

module _ {ℓ} {A : Type ℓ} (p : A → Bool) (l : List A) where
  -- i places are passed: what is done and what is left make up the whole
  abbrev pub Passed : ℕ → ℕ → Type 0
  Passed i done = (i ≤ 32) × (done + 2 ^ i * set_of p (drop i l) ≡ set_of p l)

  pub set_begins : Passed 0 0
  set_begins = (omega arith, zero-add _ ∙ one-mul _)

  module _ (size : length l ≡ 32) (i done : ℕ) (passed : Passed i done) where
    module _ (d : A) (bit : ℕ) (inside : i < 32) (is : bit ≡ cond (p (get_or l i d)) 1 0) where
      more : done + (bit * 2 ^ i) % 4294967296 + 2 ^ (i + 1) * set_of p (drop (i + 1) l) ≡ set_of p l
      more =
          let small : bit < 2 ^ 1 = rw is (bit_lt (p (get_or l i d))) in
          ap (λ (n : ℕ). done + n + 2 ^ (i + 1) * set_of p (drop (i + 1) l)) (shl_exact 1 i 32 small (omega arith) ∙ ap (λ (n : ℕ). n * 2 ^ i) is)
          ∙ set_goes p l i done (set_of p l) passed.1 d (rw size inside)

      pub place_passed : Passed (i + 1) (done + (bit * 2 ^ i) % 4294967296)
      place_passed = (omega arith, more)

    pub all_passed : 32 ≤ i → done ≡ set_of p l
    all_passed past = set_ends p l i done (set_of p l) passed.1 (rw size past)
