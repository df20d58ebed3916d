-- A pass over a list that keeps a key of each element passed: who compares a key with those kept compares the element with all before it.
-- Assumes nothing.
use mathlib.Core.Path.{◌≡◌, refl, sym, ◌∙◌, ap}
use mathlib.Core.Bool.{Bool, true, false, not, false≢true}
use mathlib.Core.List.{List}
use Prim.Native.Nat.{ℕ, ◌+◌, ◌≤◌, ◌<◌}
use native.Mathlib.Nat.{not-suc-le-zero}
use native.Mathlib.Decide.{ℕ_discrete, dec_lt}
use native.Mathlib.Omega.{arith}
use borrow.Author.Tests.{ne_eqb, eqb-false, not-true}
use lib.Dec.{eqb}
use lib.ListN.{length, get_or, set, replicate, length-replicate, get_or-replicate, length-set, get_or-eq_default}
use lib.Seq.{get_or-set_same, get_or-set_other}
use Rattle.ground.specs.Walk.{all, apart}
use Rattle.ground.proofs.Walk.{all_at, all_of, apart_at}

module _ {ℓ} {A : Type ℓ} (key : A → ℕ) (none : ℕ) (d : A) (l : List A) where
  -- the keys of the first i elements, each in its place, and behind them what is no key
  pub record Kept (keys : List ℕ) (i : ℕ) : Type 0 where
    pub long : length keys ≡ length l
    pub passed : (j : ℕ) → j < i → get_or keys j none ≡ key (get_or l j d)
    pub behind : (j : ℕ) → i ≤ j → get_or keys j none ≡ none

  pub kept_none : (n : ℕ) → length l ≡ n → Kept (replicate n none) 0
  kept_none n e =
      record {
        long = length-replicate n none ∙ sym e;
        passed = λ j h. absurd (not-suc-le-zero h);
        behind = λ j h. go j (dec_lt j n);
      }
    where
      go : (j : ℕ) → Dec (j < n) → get_or (replicate n none) j none ≡ none
      go j (yes h) = get_or-replicate n j none none h
      go j (no m) = let past : length (replicate n none) ≤ j = rw (length-replicate n none) (omega arith) in get_or-eq_default (replicate n none) none past

  module _ (keys : List ℕ) (i : ℕ) (k : Kept keys i) where
    -- one element more
    pub kept_one : i < length l → (own : ℕ) → own ≡ key (get_or l i d) → Kept (set keys i own) (i + 1)
    kept_one h own e =
        record {
          long = length-set keys i own ∙ k.long;
          passed = λ j b. before j b (ℕ_discrete j i);
          behind = λ j b. get_or-set_other keys i j own none (λ q. absurd (omega arith)) ∙ k.behind j (omega arith);
        }
      where
        here : i < length keys
        here = rw k.long h

        before : (j : ℕ) → j < i + 1 → Dec (j ≡ i) → get_or (set keys i own) j none ≡ key (get_or l j d)
        before j b (yes q) = rw q (get_or-set_same keys i own none here ∙ e)
        before j b (no n) = get_or-set_other keys i j own none n ∙ k.passed j (omega arith)

    -- and one that has no key
    pub kept_on : key (get_or l i d) ≡ none → Kept keys (i + 1)
    kept_on e = record { long = k.long; passed = λ j b. before j b (ℕ_discrete j i); behind = λ j b. k.behind j (omega arith) }
      where
        before : (j : ℕ) → j < i + 1 → Dec (j ≡ i) → get_or keys j none ≡ key (get_or l j d)
        before j b (yes q) = rw q (k.behind i (omega arith) ∙ sym e)
        before j b (no n) = k.passed j (omega arith)

    -- two elements clash exactly where they have one key
    module _ (clash : A → A → Bool) (tells : (x y : A) → clash x y ≡ true → key x ≡ key y) (says : (x y : A) → key x ≡ key y → (key y ≡ none → ⊥) → clash x y ≡ true)
        (h : i < length l) where
      -- where the element's key is none of those kept, no element before clashes with it
      pub kept_new : all (λ n. not (eqb n (key (get_or l i d)))) keys ≡ true → (j : ℕ) → j < i → clash (get_or l j d) (get_or l i d) ≡ false
      kept_new e j b = go (clash (get_or l j d) (get_or l i d)) refl
        where
          go : (c : Bool) → clash (get_or l j d) (get_or l i d) ≡ c → c ≡ false
          go false q = refl
          go true q =
              let inside : j < length keys = rw k.long (omega arith) in
              absurd
              (eqb-false _ _ (not-true _ (all_at (λ n. not (eqb n (key (get_or l i d)))) keys none e j inside))
              (k.passed j b ∙ tells (get_or l j d) (get_or l i d) q))

      -- and where it is one of them, some two clash
      pub kept_met : (key (get_or l i d) ≡ none → ⊥) → all (λ n. not (eqb n (key (get_or l i d)))) keys ≡ false → apart clash l ≡ false
      kept_met some e = go (apart clash l) refl
        where
          each : apart clash l ≡ true → (j : ℕ) → j < length keys → Dec (j < i) → not (eqb (get_or keys j none) (key (get_or l i d))) ≡ true
          each q j b (no n) = ap not (ne_eqb _ _ (λ same. some (sym same ∙ k.behind j (omega arith))))
          each q j b (yes before) =
              ap not
              (ne_eqb _ _
              (λ same. false≢true (sym (apart_at clash l d q j i before h) ∙ says (get_or l j d) (get_or l i d) (sym (k.passed j before) ∙ same) some)))

          go : (c : Bool) → apart clash l ≡ c → c ≡ false
          go false q = refl
          go true q = sym (sym e ∙ all_of (λ n. not (eqb n (key (get_or l i d)))) keys none (λ j b. each q j b (dec_lt j i)))
