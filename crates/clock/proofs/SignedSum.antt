-- A signed difference raised by half a turn is a count below a turn; two of them are half a turn away from the third, so they are it, or a turn less or more.
-- Assumes nothing.
use Rattle.std.proofs.Common.{◌≡◌, ℕ, zero, suc, ◌+◌, ◌-◌, ◌*◌, ◌/◌, ◌%◌, ◌<◌, ◌≤◌, Bool, true, false, cond, ltb, ℤ, pos, ◌+ℤ◌, ◌-ℤ◌, neg_ℤ, nat_abs, sym, refl, ap, ◌∙◌, mod-eq_of_lt, div-add-mod', arith, ltb-false, ltb-true}
use native.Mathlib.Nat.{mod-add-mod, add-mod_right, mod-eq-sub-mod}
use lib.IntN.{+ℤ_idl, +ℤ_invr, +ℤ_invl, +ℤ-neg_ℤ_cancel, -ℤ-+ℤ_cancel}
use Rattle.clock.specs.Modulus.{minus_mod}
use Rattle.clock.specs.Sums.{signed_mod, signed_way, is_within, brought_back}
use Rattle.clock.proofs.Modulus.{around, minus_sum}
use Rattle.clock.proofs.Less.{less_more, less-less, less_sum, less_same, less_exchanged, less_within, less_above, less_below}

module _ (half : ℕ) (positive : 0 < half) where
  abbrev turn : ℕ
  turn = 2 * half

  -- ---- the difference raised by half a turn
  abbrev raised : ℕ → ℕ → ℕ
  raised a b = minus_mod turn (a + half) b

  raised_lt : (a b : ℕ) → raised a b < turn
  raised_lt a b = (around turn).below (a + half) b (omega arith)

  raised_way : (a b : ℕ) → raised a b ≡ (minus_mod turn a b + half) % turn
  raised_way a b = ap (λ (x : ℕ). x % turn) (omega arith) ∙ sym (mod-add-mod (a + (turn - b)) turn half)

  raised_self : (a : ℕ) → a ≤ turn → raised a a ≡ half
  raised_self a h = ap (λ (x : ℕ). x % turn) (omega arith) ∙ add-mod_right half turn ∙ mod-eq_of_lt (omega arith)

  raised_sum : (a b c : ℕ) → b ≤ turn → (raised b a + raised c b + half) % turn ≡ raised c a
  raised_sum a b c h =
      ap (λ (x : ℕ). (x + raised c b + half) % turn) (raised_way b a)
      ∙ ap (λ (x : ℕ). x % turn) (omega arith)
      ∙ mod-add-mod (minus_mod turn b a + half) turn (raised c b + half)
      ∙ ap (λ (x : ℕ). x % turn) (omega arith)
      ∙ add-mod_right (minus_mod turn b a + raised c b) turn
      ∙ minus_sum turn a b (c + half) h

  -- so two of them are the third and half a turn, or a turn less or more
  module _ (a b c : ℕ) (h : b ≤ turn) {P : Type 0}
      (less : raised b a + raised c b + turn ≡ raised c a + half → P)
      (same : raised b a + raised c b ≡ raised c a + half → P)
      (more : raised b a + raised c b ≡ raised c a + half + turn → P) where
    by_turns : P
    by_turns = go ((raised b a + raised c b + half) / turn) (rw (← raised_sum a b c h) (div-add-mod' (raised b a + raised c b + half) turn))
      where
        go : (turns : ℕ) → turns * turn + raised c a ≡ raised b a + raised c b + half → P
        go zero e = less (omega arith)
        go (suc zero) e = same (omega arith)
        go (suc (suc zero)) e = more (omega arith)
        go (suc (suc (suc turns))) e = absurd (omega (arith, raised_lt b a, raised_lt c b))

  -- ---- what it is, and where it lies
  pub signed_way_lem : (a b : ℕ) → signed_mod half a b ≡ signed_way half (minus_mod turn a b)
  signed_way_lem a b = go (ltb (minus_mod turn a b) half) refl
    where
      go : (t : Bool) → ltb (minus_mod turn a b) half ≡ t → signed_mod half a b ≡ cond t (pos (minus_mod turn a b)) (pos (minus_mod turn a b) -ℤ pos turn)
      go true e =
          let h = ltb-true (minus_mod turn a b) half e in
          ap (λ (n : ℕ). pos n -ℤ pos half) (raised_way a b ∙ mod-eq_of_lt (omega arith)) ∙ +ℤ-neg_ℤ_cancel (pos (minus_mod turn a b)) (pos half)
      go false e =
          let h = ltb-false (minus_mod turn a b) half e in
          let l = (around turn).below a b (omega arith) in
          let over : raised a b ≡ minus_mod turn a b + half - turn = raised_way a b ∙ mod-eq-sub-mod (omega arith) ∙ mod-eq_of_lt (omega arith) in
          less_same (raised a b) half (minus_mod turn a b) turn (omega arith)

  pub signed_within : (a b : ℕ) → is_within half (signed_mod half a b) ≡ true
  signed_within a b = let l = raised_lt a b in less_within half (raised a b) half (omega arith) (omega arith)

  pub signed_self : (a : ℕ) → a ≤ turn → signed_mod half a a ≡ pos 0
  signed_self a h = ap (λ (n : ℕ). pos n -ℤ pos half) (raised_self a h) ∙ +ℤ_invr (pos half)

  -- ---- two added
  module _ (p q r : ℕ) (l : r < turn) where
    abbrev Brought : Type 0
    Brought = pos r -ℤ pos half ≡ brought_back half (pos p -ℤ pos half +ℤ (pos q -ℤ pos half))

    brought_up : p + q + turn ≡ r + half → Brought
    brought_up e =
        rw (
          less_sum p half q half,
          less_below half (p + q) (half + half) (omega arith),
          less-less (p + q) (half + half) turn,
          less_below half (p + q) (half + half + turn) (omega arith),
          less_more (p + q) (half + half) turn,
        )
        (less_same r half (p + q + turn) (half + half) (omega arith))

    brought_not : p + q ≡ r + half → Brought
    brought_not e =
        rw (less_sum p half q half, less_within half (p + q) (half + half) (omega arith) (omega arith))
        (less_same r half (p + q) (half + half) (omega arith))

    brought_down : p + q ≡ r + half + turn → Brought
    brought_down e =
        rw (
          less_sum p half q half,
          less_above half (p + q) (half + half) (omega arith),
          less-less (p + q) (half + half) turn,
          less_within half (p + q) (half + half + turn) (omega arith) (omega arith),
        )
        (less_same r half (p + q) (half + half + turn) (omega arith))

  pub signed_sum : (a b c : ℕ) → b ≤ turn → signed_mod half c a ≡ brought_back half (signed_mod half b a +ℤ signed_mod half c b)
  signed_sum a b c h =
      by_turns a b c h
      (brought_up (raised b a) (raised c b) (raised c a) (raised_lt c a))
      (brought_not (raised b a) (raised c b) (raised c a) (raised_lt c a))
      (brought_down (raised b a) (raised c b) (raised c a) (raised_lt c a))

  -- ---- exchanged
  -- minus half a turn is nothing raised
  least : (n : ℕ) → n ≡ 0 → pos n -ℤ pos half ≡ neg_ℤ (pos half)
  least n e = rw e (+ℤ_idl (neg_ℤ (pos half)))

  is_least : (n : ℕ) → pos n -ℤ pos half ≡ neg_ℤ (pos half) → n ≡ 0
  is_least n e = ap nat_abs (sym (-ℤ-+ℤ_cancel (pos n) (pos half)) ∙ ap (λ (z : ℤ). z +ℤ pos half) e ∙ +ℤ_invl (pos half))

  module _ (a b : ℕ) (h : a ≤ turn) (l : b ≤ turn) where
    -- there and back is half a turn twice: both are nothing raised, or together a turn
    there_and_back : {P : Type 0} → (raised b a ≡ 0 → raised a b ≡ 0 → P) → (raised b a + raised a b ≡ turn → P) → P
    there_and_back none whole =
        let self = raised_self a h in
        by_turns a b a l (λ e. none (omega arith) (omega arith)) (λ e. whole (omega arith)) (λ e. absurd (omega (arith, raised_lt b a, raised_lt a b)))

    pub signed_exchanged : (signed_mod half a b ≡ neg_ℤ (pos half) → ⊥) → signed_mod half b a ≡ neg_ℤ (signed_mod half a b)
    signed_exchanged other =
        there_and_back (λ e f. absurd (other (least (raised a b) f)))
        (λ e. less_same (raised b a) half half (raised a b) (omega arith) ∙ sym (less_exchanged (raised a b) half))

    pub signed_stays : signed_mod half a b ≡ neg_ℤ (pos half) → signed_mod half b a ≡ neg_ℤ (pos half)
    signed_stays e =
        let f = is_least (raised a b) e in
        there_and_back (λ g k. least (raised b a) g) (λ g. absurd (omega (arith, raised_lt b a)))
