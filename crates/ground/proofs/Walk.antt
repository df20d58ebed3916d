-- The laws of searching, counting and adding up, by index and tail: what a loop at index i knows of the rest of the list, and what a store changes.
-- Assumes nothing.
use mathlib.Core.Path.{◌≡◌, refl, sym, ◌∙◌, ap, ap₂}
use mathlib.Core.Bool.{Bool, true, false, cond, not, ◌&&◌, false≢true}
use mathlib.Core.List.{List, [], ◌∷◌, ◌++◌, map, reverse, reverse-cons, append-nil}
use Prim.Native.Nat.{ℕ, zero, suc, ◌+◌, ◌-◌, ◌≤◌, ◌<◌, zero-le, suc-le-suc}
use native.Mathlib.Nat.{not-suc-le-zero, le_of_suc-le-suc, zero-add, add-zero, add_assoc}
use native.Mathlib.Numerals.{add-one}
use native.Mathlib.Omega.{arith}
use lib.ListN.{length, get_or, take, drop, set, length-set, length-map, length-drop, drop_of_length-le}
use lib.Seq.{drop-cons, get_or-drop, get_or-set_same, get_or-set_other}
use native.Mathlib.Decide.{ℕ_discrete, dec_le, dec_lt}
use Rattle.ground.specs.Walk.{find, total, count, keep, all, apart, Every}
use Rattle.ground.proofs.Test.{both_true}
use borrow.Author.Tests.{not-true, le-leb, lt-leb}
use lib.Dec.{leb}

module _ {ℓ} {A : Type ℓ} where
  -- ---- find
  pub find_le : (p : A → Bool) (l : List A) → find p l ≤ length l
  find_le p [] = zero-le
  find_le p (x ∷ xs) = go (p x) (find_le p xs)
    where
      go : (b : Bool) → find p xs ≤ length xs → cond b 0 (suc (find p xs)) ≤ suc (length xs)
      go true h = zero-le
      go false h = suc-le-suc h

  -- what is found passes
  pub find_passes : (p : A → Bool) (l : List A) (d : A) → find p l < length l → p (get_or l (find p l) d) ≡ true
  find_passes p [] d h = absurd (not-suc-le-zero h)
  find_passes p (x ∷ xs) d h = go (p x) refl (find_passes p xs d) h
    where
      go : (b : Bool) → p x ≡ b → (find p xs < length xs → p (get_or xs (find p xs) d) ≡ true)
          → cond b 0 (suc (find p xs)) < suc (length xs) → p (get_or (x ∷ xs) (cond b 0 (suc (find p xs))) d) ≡ true
      go true e rest h = e
      go false e rest h = rest (le_of_suc-le-suc h)

  -- nothing before it passes
  pub find_first : (p : A → Bool) (l : List A) (d : A) (i : ℕ) → i < find p l → p (get_or l i d) ≡ false
  find_first p [] d i h = absurd (not-suc-le-zero h)
  find_first p (x ∷ xs) d i h = go (p x) refl (find_first p xs d) i h
    where
      go : (b : Bool) → p x ≡ b → ((i : ℕ) → i < find p xs → p (get_or xs i d) ≡ false)
          → (i : ℕ) → i < cond b 0 (suc (find p xs)) → p (get_or (x ∷ xs) i d) ≡ false
      go true e rest i h = absurd (not-suc-le-zero h)
      go false e rest zero h = e
      go false e rest (suc i) h = rest i (le_of_suc-le-suc h)

  -- an index that passes, with none before it, is what is found
  pub find_is : (p : A → Bool) (l : List A) (d : A) (i : ℕ) → i < length l → p (get_or l i d) ≡ true
      → ((k : ℕ) → k < i → p (get_or l k d) ≡ false) → find p l ≡ i
  find_is p [] d i h e none = absurd (not-suc-le-zero h)
  find_is p (x ∷ xs) d zero h e none = rw e refl
  find_is p (x ∷ xs) d (suc i) h e none =
      rw (none 0 (suc-le-suc zero-le)) (ap suc (find_is p xs d i (le_of_suc-le-suc h) e (λ k l. none (suc k) (suc-le-suc l))))

  -- where none passes the length is found
  pub find_none : (p : A → Bool) (l : List A) (d : A) → ((i : ℕ) → i < length l → p (get_or l i d) ≡ false) → find p l ≡ length l
  find_none p [] d none = refl
  find_none p (x ∷ xs) d none =
      rw (none 0 (suc-le-suc zero-le)) (ap suc (find_none p xs d (λ i h. none (suc i) (suc-le-suc h))))

  -- a turn of a loop that searches: the element at i passes, or the search goes on after it
  pub find_here : (p : A → Bool) (l : List A) (i : ℕ) (d : A) → i < length l → p (get_or l i d) ≡ true → find p (drop i l) ≡ 0
  find_here p l i d h e = rw (drop-cons l i d h, e)

  pub find_on : (p : A → Bool) (l : List A) (i : ℕ) (d : A) → i < length l → p (get_or l i d) ≡ false
      → find p (drop i l) ≡ suc (find p (drop (suc i) l))
  find_on p l i d h e = rw (drop-cons l i d h, e)

  -- a loop that searches, where the answer r hangs on what is left to search: it stops, goes on, ends
  module _ (p : A → Bool) (l : List A) (i r : ℕ) (left : r ≡ i + find p (drop i l)) where
    pub find_stops : (d : A) → i < length l → p (get_or l i d) ≡ true → r ≡ i
    find_stops d h e = left ∙ ap (λ (n : ℕ). i + n) (find_here p l i d h e) ∙ add-zero i

    pub find_goes : (d : A) → i < length l → p (get_or l i d) ≡ false → r ≡ i + 1 + find p (drop (i + 1) l)
    find_goes d h e =
        left ∙ ap (λ (n : ℕ). i + n) (find_on p l i d h e) ∙ ap (λ (n : ℕ). i + suc (find p (drop n l))) (sym (add-one i)) ∙ omega arith

    pub find_ends : length l ≤ i → r ≡ i
    find_ends h = left ∙ ap (λ (m : List A). i + find p m) (drop_of_length-le l h) ∙ add-zero i

  -- ---- total, and count, which is one
  -- a turn of a loop that adds up
  pub total_turn : (f : A → ℕ) (l : List A) (i : ℕ) (d : A) → i < length l → total f (drop i l) ≡ f (get_or l i d) + total f (drop (suc i) l)
  total_turn f l i d h = rw (drop-cons l i d h)

  pub total-append : (f : A → ℕ) (a b : List A) → total f (a ++ b) ≡ total f a + total f b
  total-append f [] b = sym (zero-add (total f b))
  total-append f (x ∷ xs) b = ap (λ (n : ℕ). f x + n) (total-append f xs b) ∙ sym (add_assoc (f x) (total f xs) (total f b))

  -- a store exchanges one summand
  pub total-set : (f : A → ℕ) (l : List A) (i : ℕ) (a d : A) → i < length l → total f (set l i a) + f (get_or l i d) ≡ total f l + f a
  total-set f [] i a d h = absurd (not-suc-le-zero h)
  total-set f (x ∷ xs) zero a d h = omega arith
  total-set f (x ∷ xs) (suc i) a d h = let e = total-set f xs i a d (le_of_suc-le-suc h) in omega arith

  -- a summand is at most the sum
  pub total_at : (f : A → ℕ) (l : List A) (i : ℕ) (d : A) → i < length l → f (get_or l i d) ≤ total f l
  total_at f [] i d h = absurd (not-suc-le-zero h)
  total_at f (x ∷ xs) zero d h = omega arith
  total_at f (x ∷ xs) (suc i) d h = let e = total_at f xs i d (le_of_suc-le-suc h) in omega arith

  -- summands that agree give one sum
  pub total_same : (f g : A → ℕ) (l : List A) (d : A) → ((i : ℕ) → i < length l → f (get_or l i d) ≡ g (get_or l i d)) → total f l ≡ total g l
  total_same f g [] d same = refl
  total_same f g (x ∷ xs) d same =
      let e = total_same f g xs d (λ i h. same (suc i) (suc-le-suc h)) in
      let s = same 0 (suc-le-suc zero-le) in
      cc

  pub count_le : (p : A → Bool) (l : List A) → count p l ≤ length l
  count_le p [] = zero-le
  count_le p (x ∷ xs) = go (p x) (count_le p xs)
    where
      go : (b : Bool) → count p xs ≤ length xs → cond b 1 0 + count p xs ≤ suc (length xs)
      go true h = omega arith
      go false h = omega arith

  -- ---- all
  -- a turn of a loop that tests every element
  pub all_turn : (p : A → Bool) (l : List A) (i : ℕ) (d : A) → i < length l → all p (drop i l) ≡ (p (get_or l i d) && all p (drop (suc i) l))
  all_turn p l i d h = rw (drop-cons l i d h)

  -- a search from the end: none is behind the end, and one that passes joins those behind it
  pub all_behind : (p : A → Bool) (l : List A) (end : ℕ) → length l ≤ end → all p (drop end l) ≡ true
  all_behind p l end h = ap (all p) (drop_of_length-le l h)

  pub all_back : (p : A → Bool) (l : List A) (end : ℕ) (d : A) → 0 < end → end ≤ length l → p (get_or l (end - 1) d) ≡ true → all p (drop end l) ≡ true
      → all p (drop (end - 1) l) ≡ true
  all_back p l end d s h e rest =
      let back : suc (end - 1) ≡ end = omega arith in
      all_turn p l (end - 1) d (omega arith) ∙ rw (e, back, rest)

  -- what all pass each passes
  pub all_at : (p : A → Bool) (l : List A) (d : A) → all p l ≡ true → (i : ℕ) → i < length l → p (get_or l i d) ≡ true
  all_at p [] d e i h = absurd (not-suc-le-zero h)
  all_at p (x ∷ xs) d e i h = go (p x) refl (all_at p xs d) e i h
    where
      go : (b : Bool) → p x ≡ b → (all p xs ≡ true → (i : ℕ) → i < length xs → p (get_or xs i d) ≡ true)
          → (b && all p xs) ≡ true → (i : ℕ) → i < suc (length xs) → p (get_or (x ∷ xs) i d) ≡ true
      go true e rest r zero h = e
      go true e rest r (suc i) h = rest r i (le_of_suc-le-suc h)
      go false e rest r i h = absurd (false≢true r)

  -- what each passes all pass
  pub all_of : (p : A → Bool) (l : List A) (d : A) → ((i : ℕ) → i < length l → p (get_or l i d) ≡ true) → all p l ≡ true
  all_of p [] d each = refl
  all_of p (x ∷ xs) d each =
      rw (each 0 (suc-le-suc zero-le)) (all_of p xs d (λ i h. each (suc i) (suc-le-suc h)))

  -- all that pass a test pass a weaker one
  pub all_weaker : (p q : A → Bool) (l : List A) → ((x : A) → q x ≡ true → p x ≡ true) → all q l ≡ true → all p l ≡ true
  all_weaker p q [] weaker e = refl
  all_weaker p q (x ∷ xs) weaker e =
      let both = both_true (q x) (all q xs) e in
      rw (weaker x both.0, all_weaker p q xs weaker both.1)

  -- a loop that tests every element, where the answer r hangs on what is left to test: it stops, goes on, ends
  module _ (p : A → Bool) (l : List A) (i : ℕ) (r : Bool) (left : r ≡ all p (drop i l)) where
    pub all_stops : (d : A) → i < length l → p (get_or l i d) ≡ false → r ≡ false
    all_stops d h e = left ∙ all_turn p l i d h ∙ ap (λ (b : Bool). b && all p (drop (suc i) l)) e

    pub all_goes : (d : A) → i < length l → p (get_or l i d) ≡ true → r ≡ all p (drop (i + 1) l)
    all_goes d h e =
        left ∙ all_turn p l i d h ∙ ap (λ (b : Bool). b && all p (drop (suc i) l)) e ∙ ap (λ (n : ℕ). all p (drop n l)) (sym (add-one i))

  -- a store of what passes keeps all passing
  pub all_set : (p : A → Bool) (l : List A) (i : ℕ) (x d : A) → all p l ≡ true → p x ≡ true → all p (set l i x) ≡ true
  all_set p l i x d e q = all_of p (set l i x) d (λ j h. go j (rw length-set at h) (ℕ_discrete j i))
    where
      go : (j : ℕ) → j < length l → Dec (j ≡ i) → p (get_or (set l i x) j d) ≡ true
      go j h (yes r) = ap (λ (k : ℕ). p (get_or (set l i x) k d)) r ∙ ap p (get_or-set_same l i x d (rw r at h)) ∙ q
      go j h (no n) = ap p (get_or-set_other l i j x d n) ∙ all_at p l d e j h

-- ---- what a list is made into, by its index
module _ {ℓ ℓ'} {A : Type ℓ} {B : Type ℓ'} (f : A → B) where
  pub map_at : (l : List A) (i : ℕ) (d : A) (z : B) → i < length l → get_or (map f l) i z ≡ f (get_or l i d)
  map_at [] i d z h = absurd (not-suc-le-zero h)
  map_at (x ∷ xs) zero d z h = refl
  map_at (x ∷ xs) (suc i) d z h = map_at xs i d z (le_of_suc-le-suc h)

  -- a store in it is a store before it was made
  pub set-map : (l : List A) (i : ℕ) (x : A) → set (map f l) i (f x) ≡ map f (set l i x)
  set-map [] i x = refl
  set-map (y ∷ ys) zero x = refl
  set-map (y ∷ ys) (suc i) x = ap (λ (t : List B). f y ∷ t) (set-map ys i x)

  -- what is found in it is found by the same test before
  pub find-map : (p : B → Bool) (q : A → Bool) → ((x : A) → p (f x) ≡ q x) → (l : List A) → find p (map f l) ≡ find q l
  find-map p q same [] = refl
  find-map p q same (x ∷ xs) = ap₂ (λ (b : Bool) (n : ℕ). cond b 0 (suc n)) (same x) (find-map p q same xs)

-- ---- Every
module _ {ℓ} {A : Type ℓ} (P : A → Type 0) where
  pub every_at : (l : List A) (d : A) → Every P l → (i : ℕ) → i < length l → P (get_or l i d)
  every_at [] d e i h = absurd (not-suc-le-zero h)
  every_at (x ∷ xs) d e zero h = e.0
  every_at (x ∷ xs) d e (suc i) h = every_at xs d e.1 i (le_of_suc-le-suc h)

  pub every_of : (l : List A) (d : A) → ((i : ℕ) → i < length l → P (get_or l i d)) → Every P l
  every_of [] d each = tt
  every_of (x ∷ xs) d each = (each 0 (suc-le-suc zero-le), every_of xs d (λ i h. each (suc i) (suc-le-suc h)))

  pub every_append : (a b : List A) → Every P a → Every P b → Every P (a ++ b)
  every_append [] b ea eb = eb
  every_append (x ∷ xs) b ea eb = (ea.0, every_append xs b ea.1 eb)

  pub every_take : (n : ℕ) (l : List A) → Every P l → Every P (take n l)
  every_take zero l e = tt
  every_take (suc n) [] e = tt
  every_take (suc n) (x ∷ xs) e = (e.0, every_take n xs e.1)

  pub every_drop : (n : ℕ) (l : List A) → Every P l → Every P (drop n l)
  every_drop zero l e = e
  every_drop (suc n) [] e = tt
  every_drop (suc n) (x ∷ xs) e = every_drop n xs e.1

-- ---- apart
module _ {ℓ} {A : Type ℓ} (clash : A → A → Bool) where
  -- of two elements that are apart the earlier does not clash with the later
  pub apart_at : (l : List A) (d : A) → apart clash l ≡ true → (i j : ℕ) → i < j → j < length l → clash (get_or l i d) (get_or l j d) ≡ false
  apart_at [] d e i j h b = absurd (not-suc-le-zero b)
  apart_at (x ∷ xs) d e zero (suc j) h b =
      not-true (clash x (get_or xs j d))
      (all_at (λ y. not (clash x y)) xs d (both_true (all (λ y. not (clash x y)) xs) (apart clash xs) e).0 j (le_of_suc-le-suc b))
  apart_at (x ∷ xs) d e (suc i) (suc j) h b =
      apart_at xs d (both_true (all (λ y. not (clash x y)) xs) (apart clash xs) e).1 i j (le_of_suc-le-suc h) (le_of_suc-le-suc b)
  apart_at (x ∷ xs) d e zero zero h b = absurd (not-suc-le-zero h)
  apart_at (x ∷ xs) d e (suc i) zero h b = absurd (not-suc-le-zero h)

  pub apart_of : (l : List A) (d : A) → ((i j : ℕ) → i < j → j < length l → clash (get_or l i d) (get_or l j d) ≡ false) → apart clash l ≡ true
  apart_of [] d each = refl
  apart_of (x ∷ xs) d each =
      rw (
        all_of (λ y. not (clash x y)) xs d (λ j h. ap not (each 0 (suc j) (suc-le-suc zero-le) (suc-le-suc h))),
        apart_of xs d (λ i j h b. each (suc i) (suc j) (suc-le-suc h) (suc-le-suc b)),
      )

  -- those before an index are apart, and none from it on clashes with one before it
  pub apart_front : (l : List A) (d : A) (i : ℕ) (idle : A → Bool) → ((j k : ℕ) → j < k → k < i → clash (get_or l j d) (get_or l k d) ≡ false)
      → ((x y : A) → idle y ≡ true → clash x y ≡ false) → all idle (drop i l) ≡ true → apart clash l ≡ true
  apart_front l d i idle before none rest = apart_of l d (λ j k h b. go j k h b (dec_lt k i))
    where
      go : (j k : ℕ) → j < k → k < length l → Dec (k < i) → clash (get_or l j d) (get_or l k d) ≡ false
      go j k h b (yes q) = before j k h q
      go j k h b (no n) =
          let back : i + (k - i) ≡ k = omega arith in
          let inside : k - i < length (drop i l) = simp length-drop (omega arith) in
          let there = get_or-drop i l (k - i) d ∙ ap (λ (m : ℕ). get_or l m d) back in
          none (get_or l j d) (get_or l k d) (ap idle (sym there) ∙ all_at idle (drop i l) d rest (k - i) inside)

  -- a store of what clashes with no other keeps all apart
  pub apart_set : (l : List A) (i : ℕ) (x d : A) → apart clash l ≡ true
      → ((j : ℕ) → j < length l → (j ≡ i → ⊥) → (clash x (get_or l j d) ≡ false) × (clash (get_or l j d) x ≡ false)) → apart clash (set l i x) ≡ true
  apart_set l i x d e alone = apart_of (set l i x) d (λ j k h b. go j k h (rw length-set at b) (ℕ_discrete j i) (ℕ_discrete k i))
    where
      go : (j k : ℕ) → j < k → k < length l → Dec (j ≡ i) → Dec (k ≡ i) → clash (get_or (set l i x) j d) (get_or (set l i x) k d) ≡ false
      go j k h b (yes p) (yes q) = absurd (omega arith)
      go j k h b (yes p) (no n) =
          ap₂ clash (ap (λ (m : ℕ). get_or (set l i x) m d) p ∙ get_or-set_same l i x d (omega arith)) (get_or-set_other l i k x d n) ∙ (alone k b n).0
      go j k h b (no m) (yes q) =
          ap₂ clash (get_or-set_other l i j x d m) (ap (λ (m : ℕ). get_or (set l i x) m d) q ∙ get_or-set_same l i x d (omega arith)) ∙ (alone j (omega arith) m).1
      go j k h b (no m) (no n) =
          ap₂ clash (get_or-set_other l i j x d m) (get_or-set_other l i k x d n) ∙ apart_at l d e j k h b

-- ---- an array that is a struct's field: its length is told of the list with a function mapped over it
pub mapped_length {ℓ ℓ'} : {A : Type ℓ} {B : Type ℓ'} (f : A → B) (l : List A) (n : ℕ) → length (map f l) ≡ n → length l ≡ n
mapped_length f l n e = sym (length-map l f) ∙ e

-- P holds of every image of a list's elements where it holds of each
pub every_map {ℓ ℓ'} : {A : Type ℓ} {B : Type ℓ'} (P : B → Type 0) (f : A → B) (l : List A) → Every (λ (x : A). P (f x)) l → Every P (map f l)
every_map P f [] h = tt
every_map P f (x ∷ xs) h = (h.0, every_map P f xs h.1)

-- ---- one test of two lists
module _ {ℓ ℓ'} {A : Type ℓ} {B : Type ℓ'} (p : A → Bool) (q : B → Bool) where
  -- the tests give the same at every index
  pub tests_same : (l : List A) (m : List B) (d : A) (e : B) → length l ≡ length m → ((i : ℕ) → i < length l → p (get_or l i d) ≡ q (get_or m i e)) → map p l ≡ map q m
  tests_same [] [] d e same each = refl
  tests_same [] (y ∷ m) d e same each = absurd (omega arith)
  tests_same (x ∷ l) [] d e same each = absurd (omega arith)
  tests_same (x ∷ l) (y ∷ m) d e same each =
      ap₂ (λ (b : Bool) (bs : List Bool). b ∷ bs) (each 0 (suc-le-suc zero-le)) (tests_same l m d e (omega arith) (λ i h. each (suc i) (suc-le-suc h)))

-- what is found hangs on the tests alone
pub find_tests {ℓ} : {A : Type ℓ} (p : A → Bool) (l : List A) → find p l ≡ find (λ (b : Bool). b) (map p l)
find_tests p [] = refl
find_tests p (x ∷ xs) = ap (λ (n : ℕ). cond (p x) 0 (suc n)) (find_tests p xs)

pub leb_suc : (a b : ℕ) → leb (suc a) (suc b) ≡ leb a b
leb_suc a b = go (dec_le a b)
  where
    go : Dec (a ≤ b) → leb (suc a) (suc b) ≡ leb a b
    go (yes h) = le-leb (suc a) (suc b) (omega arith) ∙ sym (le-leb a b h)
    go (no n) = lt-leb (suc a) (suc b) (omega arith) ∙ sym (lt-leb a b (omega arith))

-- none is found exactly where as many fail as there are
pub find_full {ℓ} : {A : Type ℓ} (p : A → Bool) (l : List A) → leb (length l) (find p l) ≡ leb (length l) (count (λ x. not (p x)) l)
find_full p [] = refl
find_full p (x ∷ xs) = go (p x) (find_full p xs) (count_le (λ y. not (p y)) xs)
  where
    go : (b : Bool) → leb (length xs) (find p xs) ≡ leb (length xs) (count (λ y. not (p y)) xs) → count (λ y. not (p y)) xs ≤ length xs
        → leb (suc (length xs)) (cond b 0 (suc (find p xs))) ≡ leb (suc (length xs)) (cond (not b) 1 0 + count (λ y. not (p y)) xs)
    go true same most = lt-leb (suc (length xs)) 0 (omega arith) ∙ sym (lt-leb (suc (length xs)) (0 + count (λ y. not (p y)) xs) (omega arith))
    go false same most = leb_suc (length xs) (find p xs) ∙ same ∙ sym (leb_suc (length xs) (count (λ y. not (p y)) xs)) ∙ ap (leb (suc (length xs))) (omega arith)

-- ---- sums in which all summands but one are nothing
module _ {ℓ} {A : Type ℓ} (f : A → ℕ) where
  pub total_none : (l : List A) (d : A) → ((i : ℕ) → i < length l → f (get_or l i d) ≡ 0) → total f l ≡ 0
  total_none [] d none = refl
  total_none (x ∷ xs) d none =
      let a = none 0 (suc-le-suc zero-le) in
      let b = total_none xs d (λ i h. none (suc i) (suc-le-suc h)) in
      omega arith

  -- where all summands but one are 0 the sum is that one
  pub total_one : (l : List A) (d : A) (i : ℕ) → i < length l → f d ≡ 0 → ((j : ℕ) → j < length l → (j ≡ i → ⊥) → f (get_or l j d) ≡ 0) → total f l ≡ f (get_or l i d)
  total_one l d i h z none =
      let e = total-set f l i d d h in
      let rest = total_none (set l i d) d each in
      omega arith
    where
      each : (j : ℕ) → j < length (set l i d) → f (get_or (set l i d) j d) ≡ 0
      each j b = go (ℕ_discrete j i)
        where
          go : Dec (j ≡ i) → f (get_or (set l i d) j d) ≡ 0
          go (yes e) = rw e (ap f (get_or-set_same l i d d h) ∙ z)
          go (no n) = ap f (get_or-set_other l i j d d n) ∙ none j (rw length-set at b) n

-- what passes where nothing does past the end stands in the list
pub passes_inside {ℓ} : {A : Type ℓ} (p : A → Bool) (l : List A) (i : ℕ) (d : A) → p d ≡ false → p (get_or l i d) ≡ true → i < length l
passes_inside p [] i d none e = absurd (false≢true (sym none ∙ e))
passes_inside p (x ∷ xs) zero d none e = suc-le-suc zero-le
passes_inside p (x ∷ xs) (suc i) d none e = suc-le-suc (passes_inside p xs i d none e)

-- ---- what is kept
module _ {ℓ} {A : Type ℓ} (p : A → Bool) where
  pub keep_append : (a b : List A) → keep p (a ++ b) ≡ keep p a ++ keep p b
  keep_append [] b = refl
  keep_append (x ∷ xs) b = go (p x) (keep_append xs b)
    where
      go : (c : Bool) → keep p (xs ++ b) ≡ keep p xs ++ keep p b → cond c (x ∷ keep p (xs ++ b)) (keep p (xs ++ b)) ≡ cond c (x ∷ keep p xs) (keep p xs) ++ keep p b
      go true e = ap (λ (l : List A). x ∷ l) e
      go false e = e

  -- what is kept of a list that is turned round
  pub keep-reverse : (l : List A) → keep p (reverse l) ≡ reverse (keep p l)
  keep-reverse [] = refl
  keep-reverse (x ∷ xs) = ap (keep p) (reverse-cons x xs) ∙ keep_append (reverse xs) (x ∷ []) ∙ go (p x) (keep-reverse xs)
    where
      go : (b : Bool) → keep p (reverse xs) ≡ reverse (keep p xs) → keep p (reverse xs) ++ cond b (x ∷ []) [] ≡ reverse (cond b (x ∷ keep p xs) (keep p xs))
      go true e = ap (λ (l : List A). l ++ x ∷ []) e ∙ sym (reverse-cons x (keep p xs))
      go false e = append-nil (keep p (reverse xs)) ∙ e

-- of a list none is kept, or all
pub keep_none {ℓ} : {A : Type ℓ} (l : List A) → keep (λ x. false) l ≡ []
keep_none [] = refl
keep_none (x ∷ xs) = keep_none xs

pub keep_all {ℓ} : {A : Type ℓ} (l : List A) → keep (λ x. true) l ≡ l
keep_all [] = refl
keep_all (x ∷ xs) = ap (λ (l : List _). x ∷ l) (keep_all xs)

-- what is kept by a test is kept by every weaker one
pub keep_kept {ℓ} : {A : Type ℓ} (p q : A → Bool) → ((x : A) → q x ≡ true → p x ≡ true) → (l : List A) → keep p (keep q l) ≡ keep q l
keep_kept p q weaker [] = refl
keep_kept p q weaker (x ∷ xs) = go (q x) refl (keep_kept p q weaker xs)
  where
    go : (b : Bool) → q x ≡ b → keep p (keep q xs) ≡ keep q xs → keep p (cond b (x ∷ keep q xs) (keep q xs)) ≡ cond b (x ∷ keep q xs) (keep q xs)
    go true e r = ap₂ (λ (c : Bool) (ys : List _). cond c (x ∷ ys) ys) (weaker x e) r
    go false e r = r
