-- A set of places fits as many bits as there are places, has a place exactly where what stands there passes, and its lowest place is the first such.
-- Assumes nothing.
use mathlib.Core.Path.{◌≡◌, refl, sym, ◌∙◌, ap, ap₂}
use mathlib.Core.Bool.{Bool, true, false, cond}
use mathlib.Core.List.{List, [], ◌∷◌, ◌++◌, map}
use Prim.Native.Nat.{ℕ, zero, suc, ◌+◌, ◌*◌, ◌/◌, ◌%◌, ◌^◌, ◌≤◌, ◌<◌}
use native.Mathlib.Nat.{pow-suc, pow-succ', mul-add, mul_comm, mul_assoc, mul-zero, add_assoc, add-zero, div-one, zero-div, div-div-eq-div-mul, add-mul-div_left, add-mul-mod_self_left, zero-add}
use native.Mathlib.Numerals.{add-one}
use native.Mathlib.Omega.{arith}
use lib.Dec.{eqb, lit<}
use lib.ListN.{length, drop, get_or, replicate, drop_of_length-le}
use lib.Seq.{drop-cons}
use lib.Count.{count_trailing_zeros, under}
use Rattle.ground.specs.Set.{set_of, is_in}
use Rattle.ground.specs.Walk.{find}

pub bit_lt : (b : Bool) → cond b 1 0 < 2
bit_lt true = lit< tt
bit_lt false = lit< tt

-- ---- one bit and the others
low : (b : Bool) (rest : ℕ) → (cond b 1 0 + 2 * rest) % 2 ≡ cond b 1 0
low true rest = add-mul-mod_self_left 1 2 rest
low false rest = add-mul-mod_self_left 0 2 rest

high : (b : Bool) (rest : ℕ) → (cond b 1 0 + 2 * rest) / 2 ≡ rest
high true rest = add-mul-div_left 1 rest (lit< tt) ∙ zero-add rest
high false rest = add-mul-div_left 0 rest (lit< tt) ∙ zero-add rest

-- the bit is set, or the count of zeros goes on above it
set_bit : (b : Bool) → eqb (cond b 1 0) 1 ≡ b
set_bit true = refl
set_bit false = refl

under_bit : (b : Bool) (above : ℕ) → under (cond b 1 0) above ≡ cond b 0 (suc above)
under_bit true above = refl
under_bit false above = refl

module _ {ℓ} {A : Type ℓ} (p : A → Bool) where
  pub set_lt : (l : List A) → set_of p l < 2 ^ length l
  set_lt [] = lit< tt
  set_lt (x ∷ xs) =
      let rest = set_lt xs in
      let one = bit_lt (p x) in
      rw (pow-suc 2 (length xs)) (omega arith)

  -- one place more
  pub set_turn : (l : List A) (i : ℕ) (d : A) → i < length l → set_of p (drop i l) ≡ cond (p (get_or l i d)) 1 0 + 2 * set_of p (drop (suc i) l)
  set_turn l i d h = ap (set_of p) (drop-cons l i d h)

  -- a loop that adds up the set, where what is done and what is left make up the whole: it goes on, ends
  module _ (l : List A) (i done whole : ℕ) (left : done + 2 ^ i * set_of p (drop i l) ≡ whole) where
    pub set_goes : (d : A) → i < length l → done + cond (p (get_or l i d)) 1 0 * 2 ^ i + 2 ^ (i + 1) * set_of p (drop (i + 1) l) ≡ whole
    set_goes d h =
        let b : ℕ = cond (p (get_or l i d)) 1 0 in
        let rest = set_of p (drop (suc i) l) in
        let spread : 2 ^ i * (b + 2 * rest) ≡ b * 2 ^ i + 2 ^ suc i * rest =
        mul-add (2 ^ i) b (2 * rest) ∙ ap₂ (λ (m n : ℕ). m + n) (mul_comm (2 ^ i) b) (sym (mul_assoc (2 ^ i) 2 rest) ∙ ap (λ (n : ℕ). n * rest) (sym (pow-suc 2 i))) in
        rw (add-one i)
        (add_assoc done (b * 2 ^ i) (2 ^ suc i * rest)
        ∙ ap (λ (n : ℕ). done + n) (sym spread ∙ ap (λ (n : ℕ). 2 ^ i * n) (sym (set_turn l i d h)))
        ∙ left)

    pub set_ends : length l ≤ i → done ≡ whole
    set_ends h = sym (ap (λ (m : List A). done + 2 ^ i * set_of p m) (drop_of_length-le l h) ∙ ap (λ (n : ℕ). done + n) (mul-zero (2 ^ i)) ∙ add-zero done) ∙ left

  -- a place is in the set exactly where what stands there passes; past the last place stands what does not
  pub in_set : (l : List A) (k : ℕ) (d : A) → p d ≡ false → is_in k (set_of p l) ≡ p (get_or l k d)
  in_set [] k d no_pass = rw (zero-div (2 ^ k)) (sym no_pass)
  in_set (x ∷ xs) zero d no_pass = rw (div-one (cond (p x) 1 0 + 2 * set_of p xs), low (p x) (set_of p xs)) (set_bit (p x))
  in_set (x ∷ xs) (suc k) d no_pass =
      ap (λ (n : ℕ). eqb (n % 2) 1)
      (ap (λ (n : ℕ). (cond (p x) 1 0 + 2 * set_of p xs) / n) (pow-succ' 2 k)
      ∙ sym (div-div-eq-div-mul (cond (p x) 1 0 + 2 * set_of p xs) 2 (2 ^ k))
      ∙ ap (λ (n : ℕ). n / 2 ^ k) (high (p x) (set_of p xs)))
      ∙ in_set xs k d no_pass

-- below the lowest place of a set stand as many zeros as a search for that place passes over
pub trailing_find {ℓ} : {A : Type ℓ} (p : A → Bool) (l : List A) → count_trailing_zeros (length l) (set_of p l) ≡ find p l
unfolding count_trailing_zeros
trailing_find p [] = refl
trailing_find p (x ∷ xs) =
    ap₂ under (low (p x) (set_of p xs)) (ap (count_trailing_zeros (length xs)) (high (p x) (set_of p xs)) ∙ trailing_find p xs)
    ∙ under_bit (p x) (find p xs)

-- of 32 places all pass; all but 0, 1 and 2; all but 0, 2 and 3; 31 alone; none: the sets, and the lowest place of each
sets :
    map
    (set_of (λ (b : Bool). b))
    (replicate 32 true
    ∷ (replicate 3 false ++ replicate 29 true)
    ∷ (false ∷ true ∷ false ∷ false ∷ replicate 28 true)
    ∷ (replicate 31 false ++ true ∷ [])
    ∷ replicate 32 false
    ∷ [])
    ≡ 4294967295 ∷ 4294967288 ∷ 4294967282 ∷ 2147483648 ∷ 0 ∷ []
sets = refl

lowest : map (count_trailing_zeros 32) (4294967295 ∷ 4294967288 ∷ 4294967282 ∷ 2147483648 ∷ 0 ∷ []) ≡ 0 ∷ 3 ∷ 1 ∷ 31 ∷ 32 ∷ []
unfolding count_trailing_zeros
lowest = refl

-- a set hangs on the tests alone
pub set_tests {ℓ} : {A : Type ℓ} (p : A → Bool) (l : List A) → set_of p l ≡ set_of (λ (b : Bool). b) (map p l)
set_tests p [] = refl
set_tests p (x ∷ xs) = ap (λ (n : ℕ). cond (p x) 1 0 + 2 * n) (set_tests p xs)
