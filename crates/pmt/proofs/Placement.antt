-- Every descriptor and entry stands in the bytes where it says it does, and those of a loop that is filled are its bytes again, laid side by side.
-- Assumes nothing.
use mathlib.Core.Path.{◌≡◌, refl, sym, ◌∙◌, ap, ap₂}
use mathlib.Core.Bool.{Bool, true, false, cond, ◌&&◌, false≢true}
use mathlib.Core.List.{List, [], ◌∷◌, ◌++◌, append_assoc}
use Prim.Native.Nat.{ℕ, ◌+◌, ◌≤◌, ◌<◌}
use native.Mathlib.Nat.{add-zero}
use native.Mathlib.Omega.{arith}
use borrow.Author.Tests.{leb-true}
use lib.Dec.{leb, eqb, lit<}
use lib.ListN.{length, get_or, take, drop, length-append, length-drop, take-append-drop}
use lib.Seq.{length-take-le, drop-drop, get_or-take, get_or-drop, take-append-le, drop-append-le}
use Rattle.ground.specs.Items.{takes, ends, onward}
use Rattle.ground.specs.Number.{bits}
use Rattle.ground.specs.Walk.{Every}
use Rattle.ground.proofs.Items.{items_ind}
use Rattle.ground.proofs.Test.{both_true}
use Rattle.psi.specs.Section.{word_of, word_at}
use Rattle.psi.specs.Loop.{Loop, filled, unfilled, onto}
use Rattle.loops.specs.Loop.{Descriptor, Entry, fits, first_descriptor, first_entry, descriptors_of, entries_of}
use Rattle.psi.specs.Loop.{joined}
use Rattle.loops.specs.Claims.{laid_out, length_in}
use Rattle.pmt.specs.Claims.{entry_laid_out}

-- ---- from descriptor to descriptor
module _ (P : ℕ → List ℕ → Loop Descriptor → Type 0)
    (end : (at : ℕ) → P at [] filled)
    (misfit : (at : ℕ) (s : List ℕ) → P at s unfilled)
    (more : (at tag n : ℕ) (rest : List ℕ) (l : Loop Descriptor) → n ≤ length rest → P (at + (2 + n)) (drop n rest) l
    → P at (tag ∷ n ∷ rest) (onto (record { at = at; tag = tag; bytes = take n rest }) l)) where
  turn_descriptor : (at : ℕ) (s : List ℕ) (rest : ℕ → Loop Descriptor) → 0 < length s → ((n : ℕ) → 0 < n → P (at + n) (drop n s) (rest n))
      → P at s (onward onto (first_descriptor at s) rest)
  turn_descriptor at [] rest h later = end at
  turn_descriptor at (tag ∷ []) rest h later = misfit at (tag ∷ [])
  turn_descriptor at (tag ∷ n ∷ xs) rest h later = go (leb n (length xs)) refl
    where
      go : (t : Bool) → leb n (length xs) ≡ t
          → P at (tag ∷ n ∷ xs) (onward onto (cond t (takes (2 + n) (record { at = at; tag = tag; bytes = take n xs })) (ends unfilled)) rest)
      go true e = more at tag n xs (rest (2 + n)) (leb-true n (length xs) e) (rw (← drop-drop n 2 (tag ∷ n ∷ xs)) at (later (2 + n) (omega arith)))
      go false e = misfit at (tag ∷ n ∷ xs)

  over_descriptors : (at : ℕ) (s : List ℕ) → P at s (descriptors_of at s)
  unfolding descriptors_of
  over_descriptors = items_ind onto first_descriptor filled P end turn_descriptor

-- ---- from entry to entry
-- how many bytes the descriptors of the first entry take, and these
abbrev own_size : List ℕ → ℕ
own_size s = bits (word_at s 3) 0 12

abbrev own_of : ℕ → List ℕ → Loop Descriptor
own_of at s = descriptors_of (at + 5) (take (own_size s) (drop 5 s))

module _ (P : ℕ → List ℕ → Loop Entry → Type 0)
    (end : (at : ℕ) → P at [] filled)
    (misfit : (at : ℕ) (s : List ℕ) → P at s unfilled)
    (more : (at : ℕ) (s : List ℕ) (l : Loop Entry) → 5 + own_size s ≤ length s → (own_of at s).fills ≡ true
    → P (at + (5 + own_size s)) (drop (5 + own_size s) s) l → P at s (onto (record { at = at; lead = take 5 s; descriptors = (own_of at s).items }) l)) where
  turn_entry : (at : ℕ) (s : List ℕ) (rest : ℕ → Loop Entry) → 0 < length s → ((n : ℕ) → 0 < n → P (at + n) (drop n s) (rest n))
      → P at s (onward onto (first_entry at s) rest)
  turn_entry at s rest h later = go (leb 5 (length s) && (fits (word_at s 3) (length (drop 5 s)) && (own_of at s).fills)) refl
    where
      go : (t : Bool) → (leb 5 (length s) && (fits (word_at s 3) (length (drop 5 s)) && (own_of at s).fills)) ≡ t
          → P at s (onward onto (cond t (takes (5 + own_size s) (record { at = at; lead = take 5 s; descriptors = (own_of at s).items })) (ends unfilled)) rest)
      go true e =
          let first = both_true (leb 5 (length s)) (fits (word_at s 3) (length (drop 5 s)) && (own_of at s).fills) e in
          let second = both_true (fits (word_at s 3) (length (drop 5 s))) (own_of at s).fills first.1 in
          let five = leb-true 5 (length s) first.0 in
          let there = leb-true (own_size s) (length (drop 5 s)) (both_true (eqb (bits (word_at s 3) 10 2) 0) (leb (own_size s) (length (drop 5 s))) second.0).1 in
          more at s (rest (5 + own_size s)) (omega (arith, length-drop 5 s)) second.1 (later (5 + own_size s) (omega arith))
      go false e = misfit at s

  pub over_entries : (at : ℕ) (s : List ℕ) → P at s (entries_of at s)
  unfolding entries_of
  over_entries = items_ind onto first_entry filled P end turn_entry

-- ---- laid side by side, the items of a loop that they fill are its bytes again
pub descriptors_bytes : (at : ℕ) (s : List ℕ) → (descriptors_of at s).fills ≡ true → joined laid_out (descriptors_of at s).items ≡ s
descriptors_bytes =
    over_descriptors (λ (at : ℕ) (s : List ℕ) (l : Loop Descriptor). l.fills ≡ true → joined laid_out l.items ≡ s)
    (λ at f. refl) (λ at s f. absurd (false≢true f))
    (λ at tag n rest l h bytes f.
    ap₂ (λ (m : ℕ) (r : List ℕ). tag ∷ (m ∷ (take n rest ++ r))) (length-take-le n rest h) (bytes f)
    ∙ ap (λ (r : List ℕ). tag ∷ (n ∷ r)) (take-append-drop n rest))

pub entries_bytes : (at : ℕ) (s : List ℕ) → (entries_of at s).fills ≡ true → joined entry_laid_out (entries_of at s).items ≡ s
entries_bytes =
    over_entries (λ (at : ℕ) (s : List ℕ) (l : Loop Entry). l.fills ≡ true → joined entry_laid_out l.items ≡ s)
    (λ at f. refl) (λ at s f. absurd (false≢true f))
    (λ at s l h own bytes f.
    ap₂ (λ (ds es : List ℕ). (take 5 s ++ ds) ++ es) (descriptors_bytes (at + 5) (take (own_size s) (drop 5 s)) own) (bytes f ∙ sym (drop-drop (own_size s) 5 s))
    ∙ append_assoc (take 5 s) (take (own_size s) (drop 5 s)) (drop (own_size s) (drop 5 s))
    ∙ ap (λ (r : List ℕ). take 5 s ++ r) (take-append-drop (own_size s) (drop 5 s))
    ∙ take-append-drop 5 s)

-- ---- where they stand
-- A descriptor stands in the bytes b where it says: its tag, its length, its bytes after them, and all within b
pub record Stands (b : List ℕ) (d : Descriptor) : Type 0 where
  pub tag : d.tag ≡ get_or b d.at 0
  pub size : length d.bytes ≡ get_or b (d.at + 1) 0
  pub part : d.bytes ≡ take (length d.bytes) (drop (d.at + 2) b)
  pub inside : d.at + 2 + length d.bytes ≤ length b

pub record EntryStands (b : List ℕ) (e : Entry) : Type 0 where
  pub lead : e.lead ≡ take 5 (drop e.at b)
  pub inside : e.at + 5 + length_in e.lead ≤ length b
  pub descriptors : Every (Stands b) e.descriptors
  pub loop : descriptors_of (e.at + 5) (take (length_in e.lead) (drop (e.at + 5) b)) ≡ record { fills = true; items = e.descriptors }

-- bytes s stand at a place of b, and `after` is what follows them there
module _ (b : List ℕ) where
  size_at : (at : ℕ) (s after : List ℕ) → drop at b ≡ s ++ after → 0 < length s → at + length s ≤ length b
  size_at at s after e h = let l = ap length e in omega (arith, length-drop at b, length-append s after)

  one_stands : (at tag n : ℕ) (rest after : List ℕ) → n ≤ length rest → drop at b ≡ (tag ∷ (n ∷ rest)) ++ after
      → Stands b (record { at = at; tag = tag; bytes = take n rest })
  one_stands at tag n rest after h e =
      let long = length-take-le n rest h in
      let within = size_at at (tag ∷ (n ∷ rest)) after e (omega arith) in
      record {
        tag = ap (λ (l : List ℕ). get_or l 0 0) (sym e) ∙ get_or-drop at b 0 0 ∙ ap (λ (k : ℕ). get_or b k 0) (add-zero at);
        size = long ∙ ap (λ (l : List ℕ). get_or l 1 0) (sym e) ∙ get_or-drop at b 1 0;
        part = rw long (sym (take-append-le n rest after h) ∙ ap (take n) (ap (drop 2) (sym e) ∙ drop-drop 2 at b));
        inside = omega arith;
      }

  pub descriptors_stand : (at : ℕ) (s after : List ℕ) → drop at b ≡ s ++ after → Every (Stands b) (descriptors_of at s).items
  descriptors_stand =
      over_descriptors (λ (at : ℕ) (s : List ℕ) (l : Loop Descriptor). (after : List ℕ) → drop at b ≡ s ++ after → Every (Stands b) l.items)
      (λ at after e. tt) (λ at s after e. tt)
      (λ at tag n rest l h stand after e. (
        one_stands at tag n rest after h e,
        stand after
            (sym (drop-drop (2 + n) at b) ∙ ap (drop (2 + n)) e ∙ sym (drop-drop n 2 ((tag ∷ (n ∷ rest)) ++ after)) ∙ drop-append-le n rest after h),
      ))

  pub entries_stand : (at : ℕ) (s after : List ℕ) → drop at b ≡ s ++ after → Every (EntryStands b) (entries_of at s).items
  entries_stand =
      over_entries (λ (at : ℕ) (s : List ℕ) (l : Loop Entry). (after : List ℕ) → drop at b ≡ s ++ after → Every (EntryStands b) l.items)
      (λ at after e. tt) (λ at s after e. tt)
      (λ at s l h own stand after e.
      let n = own_size s in
      let five : 5 ≤ length s = omega arith in
      let within = size_at at s after e (omega arith) in
      let says : length_in (take 5 s) ≡ n = ap₂ (λ (x y : ℕ). bits (word_of x y) 0 12) (get_or-take 5 s 3 0 (lit< tt)) (get_or-take 5 s 4 0 (lit< tt)) in
      let behind : drop (at + 5) b ≡ drop 5 s ++ after = sym (drop-drop 5 at b) ∙ ap (drop 5) e ∙ drop-append-le 5 s after five in
      let room : n ≤ length (drop 5 s) = rw length-drop (omega arith) in (
        record {
          lead = sym (ap (take 5) e ∙ take-append-le 5 s after five);
          inside = rw says (omega arith);
          descriptors =
              descriptors_stand (at + 5) (take n (drop 5 s)) (drop n (drop 5 s) ++ after)
              (behind
              ∙ ap (λ (r : List ℕ). r ++ after) (sym (take-append-drop n (drop 5 s)))
              ∙ append_assoc (take n (drop 5 s)) (drop n (drop 5 s)) after);
          loop =
              ap₂ (λ (k : ℕ) (r : List ℕ). descriptors_of (at + 5) (take k r)) says behind
              ∙ ap (descriptors_of (at + 5)) (take-append-le n (drop 5 s) after room)
              ∙ ap (λ (t : Bool). record { fills = t; items = (own_of at s).items }) own;
        },
        stand after (sym (drop-drop (5 + n) at b) ∙ ap (drop (5 + n)) e ∙ drop-append-le (5 + n) s after h),
      ))
