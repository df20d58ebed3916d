-- One count less another, as a whole number: it is another such where the crossed sums are the same, and where it lies is told by the two counts.
-- Assumes nothing.
use Rattle.std.proofs.Common.{◌≡◌, ℕ, zero, suc, ◌+◌, ◌-◌, ◌<◌, ◌≤◌, Bool, true, false, ltb, leb, ℤ, pos, negsuc, ◌+ℤ◌, ◌-ℤ◌, neg_ℤ, sym, refl, ap, ◌∙◌, arith, ltb-false, ltb-true, le-ltb, lt-ltb, le-leb, leb-false, leb-true}
use lib.IntN.{+ℤ_assoc, +ℤ_comm, +ℤ-neg_ℤ_cancel, neg_ℤ-+ℤ, neg_ℤ-neg_ℤ}
use lib.Signed.{mag}
use Rattle.clock.specs.Sums.{is_within}

-- z is a − b where z and b are a
less_of : (z : ℤ) (a b : ℕ) → z +ℤ pos b ≡ pos a → z ≡ pos a -ℤ pos b
less_of z a b e = sym (+ℤ-neg_ℤ_cancel z (pos b)) ∙ ap (λ (x : ℤ). x -ℤ pos b) e

-- c more
pub less_more : (a b c : ℕ) → pos a -ℤ pos b +ℤ pos c ≡ pos (a + c) -ℤ pos b
less_more a b c =
    +ℤ_assoc (pos a) (neg_ℤ (pos b)) (pos c)
    ∙ ap (λ (x : ℤ). pos a +ℤ x) (+ℤ_comm (neg_ℤ (pos b)) (pos c))
    ∙ sym (+ℤ_assoc (pos a) (pos c) (neg_ℤ (pos b)))

-- c less
pub less-less : (a b c : ℕ) → pos a -ℤ pos b -ℤ pos c ≡ pos a -ℤ pos (b + c)
less-less a b c = +ℤ_assoc (pos a) (neg_ℤ (pos b)) (neg_ℤ (pos c)) ∙ ap (λ (x : ℤ). pos a +ℤ x) (sym (neg_ℤ-+ℤ (pos b) (pos c)))

-- two of them added
pub less_sum : (a b c d : ℕ) → pos a -ℤ pos b +ℤ (pos c -ℤ pos d) ≡ pos (a + c) -ℤ pos (b + d)
less_sum a b c d =
    sym (+ℤ_assoc (pos a -ℤ pos b) (pos c) (neg_ℤ (pos d))) ∙ ap (λ (x : ℤ). x -ℤ pos d) (less_more a b c) ∙ less-less (a + c) b d

-- the same, by the crossed sums
pub less_same : (a b c d : ℕ) → a + d ≡ c + b → pos a -ℤ pos b ≡ pos c -ℤ pos d
less_same a b c d e = less_of (pos a -ℤ pos b) c d (less_more a b d ∙ ap (λ (n : ℕ). pos n -ℤ pos b) e ∙ +ℤ-neg_ℤ_cancel (pos c) (pos b))

-- the two exchanged
pub less_exchanged : (a b : ℕ) → neg_ℤ (pos a -ℤ pos b) ≡ pos b -ℤ pos a
less_exchanged a b =
    neg_ℤ-+ℤ (pos a) (neg_ℤ (pos b)) ∙ ap (λ (x : ℤ). neg_ℤ (pos a) +ℤ x) (neg_ℤ-neg_ℤ (pos b)) ∙ +ℤ_comm (neg_ℤ (pos a)) (pos b)

-- ---- where it lies
-- it is a count, or below 0
less_up : (a b : ℕ) → b ≤ a → pos a -ℤ pos b ≡ pos (a - b)
less_up a b h = sym (less_of (pos (a - b)) a b (ap pos (omega arith)))

less_down : (a b : ℕ) → a < b → pos a -ℤ pos b ≡ negsuc (b - suc a)
less_down a b h =
    let more : b - a ≡ suc (b - suc a) = omega arith in
    sym (less_exchanged b a) ∙ ap neg_ℤ (less_up b a (omega arith)) ∙ ap (λ (n : ℕ). neg_ℤ (pos n)) more

-- from −half to half − 1 is one bound for both signs
within_bound : (half : ℕ) (d : ℤ) → is_within half d ≡ ltb (mag d) half
within_bound zero (pos n) = rw (le-leb 0 n (omega arith))
within_bound zero (negsuc n) = sym (le-ltb n 0 (omega arith))
within_bound (suc half) (pos n) = refl
within_bound (suc half) (negsuc n) = go (leb n half) refl
  where
    go : (t : Bool) → leb n half ≡ t → is_within (suc half) (negsuc n) ≡ ltb n (suc half)
    go true e = let h = leb-true n half e in rw (e, lt-ltb n (suc half) (omega arith))
    go false e = let h = leb-false n half e in rw (e, le-ltb n (suc half) (omega arith))

module _ (half a b : ℕ) where
  within_less : (t : Bool) → (b ≤ a → ltb (a - b) half ≡ t) → (a < b → ltb (b - suc a) half ≡ t) → is_within half (pos a -ℤ pos b) ≡ t
  within_less t up down = go (ltb a b) refl
    where
      go : (s : Bool) → ltb a b ≡ s → is_within half (pos a -ℤ pos b) ≡ t
      go true e = let h = ltb-true a b e in rw (less_down a b h) (within_bound half (negsuc (b - suc a)) ∙ down h)
      go false e = let h = ltb-false a b e in rw (less_up a b h) (within_bound half (pos (a - b)) ∙ up h)

  pub less_within : b ≤ a + half → a < b + half → is_within half (pos a -ℤ pos b) ≡ true
  less_within h l = within_less true (λ k. lt-ltb (a - b) half (omega arith)) (λ k. lt-ltb (b - suc a) half (omega arith))

  pub less_above : b + half ≤ a → is_within half (pos a -ℤ pos b) ≡ false
  less_above h = within_less false (λ k. le-ltb (a - b) half (omega arith)) (λ k. le-ltb (b - suc a) half (omega arith))

  pub less_below : a + half < b → is_within half (pos a -ℤ pos b) ≡ false
  less_below h = within_less false (λ k. le-ltb (a - b) half (omega arith)) (λ k. le-ltb (b - suc a) half (omega arith))
