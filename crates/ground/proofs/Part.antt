-- A part of a list: its size, its elements by places of the whole, and writes of it.
-- Assumes nothing.
use mathlib.Core.Path.{◌≡◌, refl, sym, ◌∙◌, ap, ap₂}
use mathlib.Core.Bool.{Bool, true, false}
use mathlib.Core.List.{List, [], ◌∷◌, ◌++◌}
use Prim.Native.Nat.{ℕ, zero, suc, ◌+◌, ◌-◌, ◌≤◌, ◌<◌, min}
use native.Mathlib.Nat.{zero-add, add-zero, add-suc, suc-add, le_refl}
use native.Mathlib.Numerals.{add-one, add-two}
use native.Mathlib.Omega.{arith}
use borrow.Author.Tests.{ltb-true, ltb-false, le-ltb}
use lib.Dec.{ltb}
use lib.ListN.{length, get_or, take, drop, length-append, length-take, length-drop, drop_of_length-le, get_or-append, get_or-eq_default}
use lib.Seq.{slice, slice-cons, slice_empty, drop-append_seam, drop_at, drop-drop, get_or-append-add, get_or-drop, get_or-take, length-take-le, take-add, take_all, take-append-add, take-append-le, take-append_seam, take_at, take-length, take-nil, take-take}
use Rattle.ground.specs.Number.{number_of, bytes_at, number_at}
use Rattle.ground.specs.Write.{put}
use Rattle.ground.proofs.Write.{put-put, put_nil, put_same}

module _ {ℓ} {A : Type ℓ} where
  -- the part from place i on is what is left without the first i
  pub part_drop : (s : List A) (i : ℕ) → take (length s - i) (drop i s) ≡ drop i s
  part_drop s i = take_all (length s - i) (drop i s) (rw (length-drop i s) (le_refl (length s - i)))

  -- ---- its size and its elements
  pub length_part : (n : ℕ) (s : List A) (at : ℕ) → at + n ≤ length s → length (take n (drop at s)) ≡ n
  length_part n s at h = length-take-le n (drop at s) (rw length-drop (omega arith))

  pub part_at : (n : ℕ) (s : List A) (at i : ℕ) (d : A) → i < n → get_or (take n (drop at s)) i d ≡ get_or s (at + i) d
  part_at n s at i d h = get_or-take n (drop at s) i d h ∙ get_or-drop at s i d

  pub part_past : (n : ℕ) (s : List A) (at i : ℕ) (d : A) → at + n ≤ length s → n ≤ i → get_or (take n (drop at s)) i d ≡ d
  part_past n s at i d f h = get_or-eq_default (take n (drop at s)) d (rw (length_part n s at f) h)

  -- an element of what follows n others
  pub behind_at : (a b : List A) (n i : ℕ) (d : A) → length a ≡ n → n ≤ i → get_or (a ++ b) i d ≡ get_or b (i - n) d
  behind_at a b n i d e h =
      ap (λ (k : ℕ). get_or (a ++ b) k d) (let g : i ≡ length a + (i - n) = omega arith in g) ∙ get_or-append-add a b (i - n) d

  -- the first k of s and what follows them: an element of the first k, and the size
  module _ (k : ℕ) (s t : List A) (h : k ≤ length s) where
    pub front_at : (i : ℕ) (d : A) → i < k → get_or (take k s ++ t) i d ≡ get_or s i d
    front_at i d l = get_or-append (take k s) t d i (rw (length-take-le k s h) l) ∙ get_or-take k s i d l

    pub front_size : length (take k s ++ t) ≡ k + length t
    front_size = length-append (take k s) t ∙ ap (λ (n : ℕ). n + length t) (length-take-le k s h)

  -- ---- by its start and end
  pub slice_take : (f n : ℕ) (l : List A) → slice f (f + n) l ≡ take n (drop f l)
  slice_take zero n l = ap (λ (k : ℕ). take k l) (zero-add n)
  slice_take (suc f) n [] = ap (λ (k : List A). drop (suc f) k) (take-nil (suc f + n)) ∙ sym (take-nil n)
  slice_take (suc f) n (x ∷ xs) = ap (λ (k : ℕ). drop (suc f) (take k (x ∷ xs))) (suc-add f n) ∙ slice_take f n xs

  -- the rest of a part
  pub drop_slice : (n f t : ℕ) (l : List A) → drop n (slice f t l) ≡ slice (f + n) t l
  drop_slice n f t l = drop-drop n f (take t l)

  -- a part of one element, and one of at least two
  pub slice_one : (f : ℕ) (l : List A) (d : A) → f < length l → slice f (f + 1) l ≡ get_or l f d ∷ []
  slice_one f l d h =
      slice-cons f (f + 1) l d (omega arith) (omega arith)
      ∙ ap (λ (k : ℕ). get_or l f d ∷ slice (suc f) k l) (add-one f)
      ∙ ap (λ (k : List A). get_or l f d ∷ k) (slice_empty (suc f) l)

  pub slice_two : (f t : ℕ) (l : List A) (d : A) → f + 2 ≤ t → t ≤ length l
      → slice f t l ≡ get_or l f d ∷ (get_or l (f + 1) d ∷ slice (f + 2) t l)
  slice_two f t l d h k =
      slice-cons f t l d (omega arith) k
      ∙ ap (λ (r : List A). get_or l f d ∷ r) (slice-cons (suc f) t l d (omega arith) k)
      ∙ ap₂ (λ (i j : ℕ). get_or l f d ∷ (get_or l i d ∷ slice j t l)) (sym (add-one f)) (sym (add-two f))

  -- ---- a place past the end is the end
  module _ (l : List A) (n : ℕ) where
    pub drop_least : drop (min n (length l)) l ≡ drop n l
    drop_least = go (ltb n (length l)) refl
      where
        go : (b : Bool) → ltb n (length l) ≡ b → drop (min n (length l)) l ≡ drop n l
        go true e =
            let h = ltb-true n (length l) e in
            let m : min n (length l) ≡ n = omega arith in
            rw m
        go false e =
            let h = ltb-false n (length l) e in
            drop_of_length-le l {i = min n (length l)} (omega arith) ∙ sym (drop_of_length-le l {i = n} (omega arith))

    pub take_least : take (min n (length l)) l ≡ take n l
    take_least = go (ltb n (length l)) refl
      where
        go : (b : Bool) → ltb n (length l) ≡ b → take (min n (length l)) l ≡ take n l
        go true e =
            let h = ltb-true n (length l) e in
            let m : min n (length l) ≡ n = omega arith in
            rw m
        go false e =
            let h = ltb-false n (length l) e in
            take_all (min n (length l)) l (omega arith) ∙ sym (take_all n l (omega arith))

  -- a part that would go past the end ends there
  pub part_least : (n : ℕ) (s : List A) (at : ℕ) → take (min n (length s - min at (length s))) (drop (min at (length s)) s) ≡ take n (drop at s)
  part_least n s at =
      ap (λ (k : ℕ). take (min n k) (drop (min at (length s)) s)) (sym (length-drop (min at (length s)) s))
      ∙ ap (λ (l : List A). take (min n (length l)) l) (drop_least s at)
      ∙ take_least (drop at s) n

  -- a part passed and then another is both passed
  pub drop_both : (l : List A) (place size : ℕ) → drop (min (place + size) (length l)) l ≡ drop size (drop place l)
  drop_both l place size = drop_least l (place + size) ∙ sym (drop-drop size place l)

  -- elements taken of the joined ones, from a part of the second list that is long enough
  pub take_joined : (a b : List A) (n m : ℕ) → n ≤ length a + m → take n (a ++ take m b) ≡ take n (a ++ b)
  take_joined a b n m h = go (ltb n (length a)) refl
    where
      go : (c : Bool) → ltb n (length a) ≡ c → take n (a ++ take m b) ≡ take n (a ++ b)
      go true e = let l = ltb-true n (length a) e in take-append-le n a (take m b) (omega arith) ∙ sym (take-append-le n a b (omega arith))
      go false e =
          let l = ltb-false n (length a) e in
          let both : n ≡ length a + (n - length a) = omega arith in
          rw both
          (take-append-add a (take m b) (n - length a)
          ∙ ap (λ (l : List A). a ++ l) (take-take (n - length a) m b (omega arith))
          ∙ sym (take-append-add a b (n - length a)))

  -- ---- elements that stand in a list from a place on
  abbrev pub Standing : List A → ℕ → List A → Type ℓ
  Standing s i t = take (length t) (drop i s) ≡ t

  -- and after them others
  pub standing_both : (s : List A) (i : ℕ) (t u : List A) → Standing s i t → Standing s (i + length t) u → Standing s i (t ++ u)
  standing_both s i t u h g =
      ap (λ (n : ℕ). take n (drop i s)) (length-append t u)
      ∙ take-add (length t) (length u) (drop i s)
      ∙ ap₂ (λ (a b : List A). a ++ b) h (ap (λ (l : List A). take (length u) l) (drop-drop (length t) i s) ∙ g)

  -- of two that stand one after the other each stands by itself
  pub standing_split : (s : List A) (i : ℕ) (t u : List A) → Standing s i (t ++ u) → Standing s i t × Standing s (i + length t) u
  standing_split s i t u h = (
    sym (take_at front back (length t) long) ∙ ap (λ (l : List A). take (length t) l) whole ∙ take-append_seam t u,
    ap (λ (l : List A). take (length u) l) (sym (drop-drop (length t) i s))
        ∙ sym (drop_at front back (length t) long)
        ∙ ap (λ (l : List A). drop (length t) l) whole
        ∙ drop-append_seam t u,
  )
    where
      front : List A
      front = take (length t) (drop i s)

      back : List A
      back = take (length u) (drop (length t) (drop i s))

      whole : take (length t) (drop i s) ++ take (length u) (drop (length t) (drop i s)) ≡ t ++ u
      whole = sym (take-add (length t) (length u) (drop i s)) ∙ ap (λ (n : ℕ). take n (drop i s)) (sym (length-append t u)) ∙ h

      long : length (take (length t) (drop i s)) ≡ length t
      long = let size = simp (length-take, length-append) at (ap length h) in length-take-le (length t) (drop i s) (omega arith)

  -- ---- a write after a part that stands where it is written
  pub put_after : (d : List A) (at n : ℕ) (t : List A) → at + n + length t ≤ length d → put d at (take n (drop at d) ++ t) ≡ put d (at + n) t
  put_after d at n t h =
      let size = length_part n d at (omega arith) in
      sym (put-put d at (take n (drop at d)) (rw size (omega arith)) t (rw size h)) ∙ rw (size, put_same d at n (omega arith))

  -- a copy from two places, one after the other, is a copy of the joined elements
  pub put_joined : (d a b : List A) (n : ℕ) → n ≤ length d → n ≤ length (a ++ b)
      → put (put d 0 (take (min n (length a)) a)) (min n (length a)) (take (n - min n (length a)) b) ≡ put d 0 (take n (a ++ b))
  put_joined d a b n f h = go (ltb n (length a)) refl
    where
      go : (c : Bool) → ltb n (length a) ≡ c
          → put (put d 0 (take (min n (length a)) a)) (min n (length a)) (take (n - min n (length a)) b) ≡ put d 0 (take n (a ++ b))
      go true e =
          let l = ltb-true n (length a) e in
          let m : min n (length a) ≡ n = omega arith in
          let z : n - n ≡ 0 = omega arith in
          rw (m, z, put_nil (put d 0 (take n a)) n, take-append-le n a b (omega arith))
      go false e =
          let l = ltb-false n (length a) e in
          let m : min n (length a) ≡ length a = omega arith in
          let room : n ≤ length a + length b = rw length-append at h in
          let size : length (take (n - length a) b) ≡ n - length a = length-take-le (n - length a) b (omega arith) in
          let both : n ≡ length a + (n - length a) = omega arith in
          rw (m, take-length a)
          (ap (λ (k : ℕ). put (put d 0 a) k (take (n - length a) b)) (sym (zero-add (length a)))
          ∙ put-put d 0 a (omega arith) (take (n - length a) b) (rw size (omega arith))
          ∙ ap (λ (l : List A). put d 0 l) (sym (take-append-add a b (n - length a)) ∙ ap (λ (k : ℕ). take k (a ++ b)) (sym both)))

-- the bytes from place j of the part on are those from place i + j of the whole on
pub bytes_at-drop : (s : List ℕ) (i j k : ℕ) → bytes_at (drop i s) j k ≡ bytes_at s (i + j) k
bytes_at-drop s i j zero = refl
bytes_at-drop s i j (suc k) =
    ap₂ (λ (x : ℕ) (xs : List ℕ). x ∷ xs) (get_or-drop i s j 0)
    (bytes_at-drop s i (suc j) k ∙ ap (λ (n : ℕ). bytes_at s n k) (add-suc i j))

-- ---- a field of k bytes with which the part from place i on begins
-- its number is the whole's at that place
pub number_at_part : (s : List ℕ) (i k : ℕ) → number_at (take (length s - i) (drop i s)) 0 k ≡ number_at s i k
number_at_part s i k =
    ap (λ (t : List ℕ). number_at t 0 k) (part_drop s i)
    ∙ ap number_of (bytes_at-drop s i 0 k)
    ∙ ap (λ (n : ℕ). number_at s n k) (add-zero i)

-- and where the whole has it, the part is not too short for it
pub part_holds : (s : List ℕ) (i k : ℕ) → i + k ≤ length s → ltb (length (take (length s - i) (drop i s))) k ≡ false
part_holds s i k h = le-ltb (length (take (length s - i) (drop i s))) k (rw (part_drop s i, length-drop i s) (omega arith))
