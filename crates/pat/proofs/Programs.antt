-- The entries of a PAT by their index: four bytes each.
-- Assumes nothing.
use mathlib.Core.Path.{◌≡◌, refl, sym, ◌∙◌, ap, ap₂}
use mathlib.Core.Bool.{true, false≢true}
use mathlib.Core.List.{List, [], ◌∷◌}
use Prim.Native.Nat.{ℕ, zero, suc, ◌+◌, ◌-◌, ◌*◌, ◌/◌, ◌%◌, ◌≤◌, ◌<◌}
use native.Mathlib.Nat.{not-suc-le-zero, add-zero, add_assoc, div-one}
use native.Mathlib.Omega.{arith}
use lib.Dec.{eqb, lit<}
use lib.ListN.{length, get_or, take, drop}
use lib.Seq.{slice, length-slice, get_or-drop, get_or-take}
use Rattle.std.specs.Simd.{first_chunks}
use Rattle.ground.proofs.Part.{slice_take}
use Rattle.psi.specs.Section.{word_of, word_at, before}
use Rattle.psi.specs.Loop.{joined}
use Rattle.pat.specs.Pat.{fours_of, pat_of, association_of}

fill : (l : List ℕ) → (fours_of l).fills ≡ eqb (length l % 4) 0
fill [] = refl
fill (a ∷ []) = refl
fill (a ∷ (b ∷ [])) = refl
fill (a ∷ (b ∷ (c ∷ []))) = refl
fill (a ∷ (b ∷ (c ∷ (d ∷ rest)))) =
    let n = length rest in
    let e : n % 4 ≡ suc (suc (suc (suc n))) % 4 = omega arith in
    fill rest ∙ ap (λ (k : ℕ). eqb k 0) e

count : (l : List ℕ) → length (fours_of l).items ≡ length l / 4
count [] = refl
count (a ∷ []) = refl
count (a ∷ (b ∷ [])) = refl
count (a ∷ (b ∷ (c ∷ []))) = refl
count (a ∷ (b ∷ (c ∷ (d ∷ rest)))) = let e = count rest in omega arith

nth : (l : List ℕ) (i : ℕ) → i < length l / 4 → get_or (fours_of l).items i [] ≡ take 4 (drop (4 * i) l)
nth [] i h = absurd (not-suc-le-zero h)
nth (a ∷ []) i h = absurd (not-suc-le-zero h)
nth (a ∷ (b ∷ [])) i h = absurd (not-suc-le-zero h)
nth (a ∷ (b ∷ (c ∷ []))) i h = absurd (not-suc-le-zero h)
nth (a ∷ (b ∷ (c ∷ (d ∷ rest)))) zero h = refl
nth (a ∷ (b ∷ (c ∷ (d ∷ rest)))) (suc i) h =
    let e : suc (suc (suc (suc (4 * i)))) ≡ 4 * suc i = omega arith in
    nth rest i (omega arith) ∙ ap (λ (k : ℕ). take 4 (drop k (a ∷ (b ∷ (c ∷ (d ∷ rest)))))) e

-- they are the groups of four
chunks : (l : List ℕ) → (fours_of l).items ≡ first_chunks 4 (length l / 4) l
chunks [] = refl
chunks (a ∷ []) = refl
chunks (a ∷ (b ∷ [])) = refl
chunks (a ∷ (b ∷ (c ∷ []))) = refl
chunks (a ∷ (b ∷ (c ∷ (d ∷ rest)))) =
    let n = length rest in
    let e : suc (n / 4) ≡ suc (suc (suc (suc n))) / 4 = omega arith in
    ap (λ (r : List (List ℕ)). (a ∷ (b ∷ (c ∷ (d ∷ [])))) ∷ r) (chunks rest)
    ∙ ap (λ (k : ℕ). first_chunks 4 k (a ∷ (b ∷ (c ∷ (d ∷ rest))))) e

-- laid side by side the entries are the bytes again
pub fours_bytes : (l : List ℕ) → (fours_of l).fills ≡ true → joined (λ four. four) (fours_of l).items ≡ l
fours_bytes [] h = refl
fours_bytes (a ∷ []) h = absurd (false≢true h)
fours_bytes (a ∷ (b ∷ [])) h = absurd (false≢true h)
fours_bytes (a ∷ (b ∷ (c ∷ []))) h = absurd (false≢true h)
fours_bytes (a ∷ (b ∷ (c ∷ (d ∷ rest)))) h = ap (λ (l : List ℕ). a ∷ (b ∷ (c ∷ (d ∷ l)))) (fours_bytes rest h)

-- ---- the same of a section that has room for its header and CRC_32
module _ (s : List ℕ) (h : 12 ≤ length s) where
  room : length (before 8 s) ≡ length s - 12
  room = length-slice 8 (length s - 4) s (omega arith) ∙ omega arith

  pub pat_fill : (pat_of s).fills ≡ eqb ((length s - 12) % 4) 0
  unfolding pat_of
  pat_fill = fill (before 8 s) ∙ ap (λ (n : ℕ). eqb (n % 4) 0) room

  pub pat_count : length (pat_of s).items ≡ (length s - 12) / 4
  unfolding pat_of
  pat_count = count (before 8 s) ∙ ap (λ (n : ℕ). n / 4) room

  module _ (i : ℕ) (l : i < (length s - 12) / 4) where
    byte : (j : ℕ) → j < 4 → get_or (get_or (pat_of s).items i []) j 0 ≡ get_or s (8 + 4 * i + j) 0
    unfolding pat_of
    byte j m =
        ap (λ (x : List ℕ). get_or x j 0) (nth (before 8 s) i (rw room l))
        ∙ get_or-take 4 (drop (4 * i) (before 8 s)) j 0 m
        ∙ get_or-drop (4 * i) (before 8 s) j 0
        ∙ get_or-drop 8 (take (length s - 4) s) (4 * i + j) 0
        ∙ get_or-take (length s - 4) s (8 + (4 * i + j)) 0 (omega arith)
        ∙ ap (λ (k : ℕ). get_or s k 0) (sym (add_assoc 8 (4 * i) j))

    pub pat_association : association_of (get_or (pat_of s).items i [])
        ≡ record { program_number = word_of (get_or s (8 + 4 * i) 0) (get_or s (8 + 4 * i + 1) 0); pid = word_of (get_or s (8 + 4 * i + 2) 0) (get_or s (8 + 4 * i + 3) 0) % 8192 }
    pat_association =
        let first = byte 0 (lit< tt) ∙ ap (λ (k : ℕ). get_or s k 0) (add-zero (8 + 4 * i)) in
        ap₂ (λ (m n : ℕ). record { program_number = m; pid = n % 8192 })
        (ap₂ word_of first (byte 1 (lit< tt)))
        (div-one (word_at (get_or (pat_of s).items i []) 2) ∙ ap₂ word_of (byte 2 (lit< tt)) (byte 3 (lit< tt)))

  -- the body, as the code cuts it out
  abbrev pub body : List ℕ
  body = take (length s - 4 - 8) (drop 8 s)

  pub pat_chunks : (pat_of s).items ≡ first_chunks 4 (length body / 4) body
  unfolding pat_of
  pat_chunks =
      let end : length s - 4 ≡ 8 + (length s - 4 - 8) = omega arith in
      chunks (before 8 s)
      ∙ ap (λ (l : List ℕ). first_chunks 4 (length l / 4) l) (ap (λ (k : ℕ). slice 8 k s) end ∙ slice_take 8 (length s - 4 - 8) s)
