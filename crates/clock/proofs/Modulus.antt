-- Counting around a turn, for every modulus: adding what was taken away is a whole turn more, which a remainder does not see.
-- Assumes nothing.
use Rattle.std.proofs.Common.{◌≡◌, ℕ, ◌+◌, ◌-◌, ◌%◌, ◌<◌, ◌≤◌, sym, ap, ◌∙◌, mod-lt, mod-eq_of_lt, arith}
use native.Mathlib.Nat.{mod-add-mod, add-mod-mod, add-mod_right, mod_self, mod-mod_of_dvd, dvd_of_mod-eq-zero}
use Rattle.clock.specs.Modulus.{minus_mod}
use Rattle.clock.specs.Claims.Modulus.{Around, Wrapped}

-- from a to a: a whole turn, of which the remainder leaves nothing
pub minus_self : (m a : ℕ) → a ≤ m → minus_mod m a a ≡ 0
minus_self m a h = ap (λ (x : ℕ). x % m) (omega arith) ∙ mod_self m

-- from a to b and then from b to c
pub minus_sum : (m a b c : ℕ) → b ≤ m → (minus_mod m b a + minus_mod m c b) % m ≡ minus_mod m c a
minus_sum m a b c h =
    mod-add-mod (b + (m - a)) m (minus_mod m c b)
    ∙ add-mod-mod (b + (m - a)) (c + (m - b)) m
    ∙ ap (λ (x : ℕ). x % m) (omega arith)
    ∙ add-mod_right (c + (m - a)) m

pub around : (m : ℕ) → Around m
around m =
    record {
      below = λ a b h. mod-lt (a + (m - b)) h;
      back = λ a b h. mod-add-mod (a + (m - b)) m b ∙ ap (λ (x : ℕ). x % m) (omega arith) ∙ add-mod_right a m;
      only = λ a b r h l e.
          sym (mod-eq_of_lt l)
          ∙ sym (add-mod_right r m)
          ∙ ap (λ (x : ℕ). x % m) (omega arith)
          ∙ sym (mod-add-mod (r + b) m (m - b))
          ∙ ap (λ (x : ℕ). (x + (m - b)) % m) e
          ∙ mod-add-mod a m (m - b);
      self = minus_self m;
      whole = λ a b h l. minus_sum m b a b h ∙ minus_self m b l;
    }

-- without a turn, and with one
pub minus_ahead : (m a b : ℕ) → b ≤ a → a < m → a - b ≡ minus_mod m a b
minus_ahead m a b h l = sym (ap (λ (x : ℕ). x % m) (omega arith) ∙ add-mod_right (a - b) m ∙ mod-eq_of_lt (omega arith))

pub minus_behind : (m a b : ℕ) → a < b → b < m → a + (m - b) ≡ minus_mod m a b
minus_behind m a b h l = sym (mod-eq_of_lt (omega arith))

-- that m divides the wrap is told by the step back from 0 to 1 alone
pub wrapped : (m wrap : ℕ) → Wrapped m wrap
wrapped m wrap =
    record {
      reduces = λ a b w p d h e.
          (around m).only a b (w % m) h (mod-lt w p)
          (mod-add-mod w m b
          ∙ sym (mod-mod_of_dvd m (w + b) (dvd_of_mod-eq-zero m d))
          ∙ ap (λ (x : ℕ). x % m) e
          ∙ mod-mod_of_dvd m a (dvd_of_mod-eq-zero m d));
      divides = λ p l reduces.
          let last : wrap ≡ wrap - 1 + 1 = omega arith in
          let none : wrap % wrap ≡ 0 % wrap = mod_self wrap ∙ sym (mod-eq_of_lt (omega arith)) in
          ap (λ (x : ℕ). x % m) last
          ∙ sym (mod-add-mod (wrap - 1) m 1)
          ∙ ap (λ (x : ℕ). (x + 1) % m) (reduces 0 1 (wrap - 1) (omega arith) p (omega arith) (ap (λ (x : ℕ). x % wrap) (sym last) ∙ none))
          ∙ mod-add-mod (0 + (m - 1)) m 1
          ∙ ap (λ (x : ℕ). x % m) (omega arith)
          ∙ mod_self m;
    }
