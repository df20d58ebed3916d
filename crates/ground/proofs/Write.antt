-- The laws of a write: its length, what it holds, what it leaves, and how writes join.
-- Assumes nothing.
use mathlib.Core.Path.{◌≡◌, refl, sym, ◌∙◌, ap}
use mathlib.Core.List.{List, [], ◌++◌, append_assoc}
use Prim.Native.Nat.{ℕ, suc, ◌+◌, ◌≤◌, ◌<◌}
use native.Mathlib.Omega.{arith}
use native.Mathlib.Nat.{add-zero, zero-add, add_assoc}
use native.Mathlib.Numerals.{add-one}
use lib.ListN.{length, get_or, take, drop, set, length-append, length-take, length-drop, take-append-drop, get_or-append}
use lib.Seq.{take_at, drop_at, drop-drop, length-take-le, get_or-drop, get_or-take, sets, sets-eq, paste-suc}
use Rattle.ground.specs.Write.{put, Rest}

module _ {ℓ} {A : Type ℓ} where
  -- a write of nothing changes nothing
  pub put_nil : (d : List A) (at : ℕ) → put d at [] ≡ d
  unfolding put
  put_nil d at = rw add-zero (take-append-drop at d)

  -- a write that fits keeps the length
  pub length-put : (d : List A) (at : ℕ) (s : List A) → at + length s ≤ length d → length (put d at s) ≡ length d
  unfolding put
  length-put d at s h = simp (length-append, length-take, length-drop) (omega arith)

  module _ (d : List A) (at : ℕ) (s : List A) (h : at + length s ≤ length d) where
    -- what stands before the write is as before
    pub take_put : take at (put d at s) ≡ take at d
    unfolding put
    take_put = take_at (take at d) (s ++ drop (at + length s) d) at (length-take-le at d (omega arith))

    -- the write and what stands after it
    pub drop-put : drop at (put d at s) ≡ s ++ drop (at + length s) d
    unfolding put
    drop-put = drop_at (take at d) (s ++ drop (at + length s) d) at (length-take-le at d (omega arith))

    -- what was written is there
    pub written : take (length s) (drop at (put d at s)) ≡ s
    written = rw drop-put (take_at s (drop (at + length s) d) (length s) refl)

    -- what stands after the write is as before
    pub after_put : drop (at + length s) (put d at s) ≡ drop (at + length s) d
    after_put = sym (drop-drop (length s) at (put d at s)) ∙ rw drop-put (drop_at s (drop (at + length s) d) (length s) refl)

    -- a byte before the write, in it and after it
    pub get_d_before : (i : ℕ) (z : A) → i < at → get_or (put d at s) i z ≡ get_or d i z
    get_d_before i z l =
        sym (get_or-take at (put d at s) i z l) ∙ ap (λ (t : List A). get_or t i z) take_put ∙ get_or-take at d i z l

    pub get_d_inside : (i : ℕ) (z : A) → i < length s → get_or (put d at s) (at + i) z ≡ get_or s i z
    get_d_inside i z l =
        sym (get_or-drop at (put d at s) i z) ∙ ap (λ (t : List A). get_or t i z) drop-put ∙ get_or-append s (drop (at + length s) d) z i l

    pub get_d_after : (i : ℕ) (z : A) → get_or (put d at s) (at + length s + i) z ≡ get_or d (at + length s + i) z
    get_d_after i z =
        sym (get_or-drop (at + length s) (put d at s) i z) ∙ ap (λ (t : List A). get_or t i z) after_put ∙ get_or-drop (at + length s) d i z

    -- a second write right after the first is one write of both
    pub put-put : (t : List A) → at + length s + length t ≤ length d → put (put d at s) (at + length s) t ≡ put d at (s ++ t)
    unfolding put
    put-put t l =
        ap (λ (u : List A). u ++ (t ++ drop (at + length s + length t) (take at d ++ (s ++ drop (at + length s) d)))) before
        ∙ ap (λ (u : List A). (take at d ++ s) ++ (t ++ u)) rest
        ∙ simp append_assoc
      where
        lead : length (take at d) ≡ at
        lead = length-take-le at d (omega arith)

        both : length (take at d ++ s) ≡ at + length s
        both = length-append (take at d) s ∙ ap (λ (n : ℕ). n + length s) lead

        before : take (at + length s) (take at d ++ (s ++ drop (at + length s) d)) ≡ take at d ++ s
        before =
            ap (λ (u : List A). take (at + length s) u) (sym (append_assoc (take at d) s (drop (at + length s) d)))
            ∙ take_at (take at d ++ s) (drop (at + length s) d) (at + length s) both

        rest : drop (at + length s + length t) (take at d ++ (s ++ drop (at + length s) d)) ≡ drop (at + length (s ++ t)) d
        rest =
            sym (drop-drop (length t) (at + length s) (take at d ++ (s ++ drop (at + length s) d)))
            ∙ ap (λ (u : List A). drop (length t) (drop (at + length s) u)) (sym (append_assoc (take at d) s (drop (at + length s) d)))
            ∙ ap (λ (u : List A). drop (length t) u) (drop_at (take at d ++ s) (drop (at + length s) d) (at + length s) both)
            ∙ drop-drop (length t) (at + length s) d
            ∙ ap (λ (n : ℕ). drop n d) (add_assoc at (length s) (length t) ∙ ap (λ (n : ℕ). at + n) (sym (length-append s t)))

  -- a write of what stands there changes nothing
  pub put_same : (d : List A) (at n : ℕ) → at + n ≤ length d → put d at (take n (drop at d)) ≡ d
  unfolding put
  put_same d at n h =
      let long : length (take n (drop at d)) ≡ n = length-take-le n (drop at d) (simp length-drop (omega arith)) in
      rw (long, ← drop-drop n at d, take-append-drop n (drop at d)) (take-append-drop at d)

  -- stores one after the other are a write
  pub sets_put : (d : List A) (at : ℕ) (s : List A) → at + length s ≤ length d → sets d at s ≡ put d at s
  unfolding put
  sets_put d at s h = rw (← append_assoc) (sets-eq s d at h)

  -- one turn of a copying loop: a store of the next element makes the write one longer
  pub put_turn : (d : List A) (at : ℕ) (s : List A) (j : ℕ) (z : A) → at + j < length d → j < length s
      → set (put d at (take j s)) (at + j) (get_or s j z) ≡ put d at (take (suc j) s)
  unfolding put
  put_turn d at s j z p q =
      rw (length-take-le j s (omega arith), length-take-le (suc j) s (omega arith))
      (simp append_assoc at (paste-suc d at s j z p q))

  -- ---- a list that is written from its start on
  -- one turn: the next element is stored after those that stand written
  pub stored : (d s : List A) (i : ℕ) (a z : A) → i < length d → i < length s → a ≡ get_or s i z → set (put d 0 (take i s)) i a ≡ put d 0 (take (i + 1) s)
  stored d s i a z p q e =
      ap (λ (k : ℕ). set (put d 0 (take i s)) k a) (sym (zero-add i))
      ∙ ap (λ (x : A). set (put d 0 (take i s)) (0 + i) x) e
      ∙ put_turn d 0 s i z (omega arith) q
      ∙ ap (λ (k : ℕ). put d 0 (take k s)) (sym (add-one i))

  module _ (d s : List A) (h : length s ≤ length d) where
    room : 0 + length s ≤ length d
    room = omega arith

    -- an element that was written
    pub put_item : (i : ℕ) (z : A) → i < length s → get_or (put d 0 s) i z ≡ get_or s i z
    put_item i z l = ap (λ (k : ℕ). get_or (put d 0 s) k z) (sym (zero-add i)) ∙ get_d_inside d 0 s room i z l

    -- and the rest
    pub put_rest : Rest (length s) d (put d 0 s)
    put_rest = record {
      long = length-put d 0 s room;
      same = ap (λ (k : ℕ). drop k (put d 0 s)) (sym (zero-add (length s))) ∙ after_put d 0 s room ∙ ap (λ (k : ℕ). drop k d) (zero-add (length s));
    }
