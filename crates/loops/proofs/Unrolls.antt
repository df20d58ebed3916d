-- A loop is its first item and then the loop after it: the walk over items, by what stands first.
-- Assumes nothing.
use mathlib.Core.Path.{◌≡◌, refl, sym, ◌∙◌, ap, ap₂}
use mathlib.Core.Bool.{Bool, true, false, cond, not, ◌&&◌}
use mathlib.Core.List.{List, [], ◌∷◌, ◌++◌}
use Prim.Native.Nat.{ℕ, ◌+◌, ◌≤◌, ◌<◌}
use native.Mathlib.Omega.{arith}
use borrow.Author.Tests.{le-leb, lt-leb, eq-eqb, ne_eqb}
use lib.Dec.{leb, eqb}
use lib.ListN.{length, take, drop, length-append, get_or-append}
use lib.Seq.{take-append_seam, drop-append_seam, take_at, drop_at, drop-drop}
use Rattle.ground.specs.Answer.{refused, given}
use Rattle.ground.specs.Items.{takes, ends, items_from}
use Rattle.ground.specs.Number.{bits}
use Rattle.ground.specs.Refusal.{Silent}
use Rattle.ground.proofs.Items.{items_on, items_end}
use Rattle.ground.proofs.Judged.{passed_over}
use Rattle.ground.proofs.Test.{and_false, two_of_three}
use Rattle.psi.specs.Section.{word_of, word_at}
use Rattle.psi.specs.Refusals.{shared}
use Rattle.psi.specs.Loop.{filled, unfilled, onto}
use Rattle.loops.specs.Loop.{Descriptor, Entry, first_descriptor, descriptors_of, first_entry, entries_of, fits}
use Rattle.loops.specs.Body.{program_of, streams_of, pmt_own, pmt_loops}
use Rattle.loops.specs.Walk.{found_in, walk_of}
use Rattle.loops.specs.Claims.{laid_out, Leads, length_in, bits_before}

-- ---- descriptors
pub no_descriptors : (at : ℕ) → descriptors_of at [] ≡ filled
unfolding descriptors_of
no_descriptors at = refl

pub descriptor_follows : (d : Descriptor) (rest : List ℕ) → descriptors_of d.at (laid_out d ++ rest) ≡ onto d (descriptors_of (d.at + (2 + length d.bytes)) rest)
unfolding descriptors_of
descriptor_follows d rest =
    let n = length d.bytes in
    let s = laid_out d ++ rest in
    let long : n ≤ length (d.bytes ++ rest) = rw (length-append d.bytes rest) (omega arith) in
    let step : first_descriptor d.at s ≡ takes (2 + n) d = rw (le-leb n (length (d.bytes ++ rest)) long, take-append_seam d.bytes rest) refl in
    items_on onto first_descriptor filled d.at s (2 + n) d (omega arith) (omega arith) step
    ∙ ap (λ (r : List ℕ). onto d (items_from onto first_descriptor filled (d.at + (2 + n)) r)) (sym (drop-drop n 2 s) ∙ drop-append_seam d.bytes rest)

pub descriptor_overruns : (at tag n : ℕ) (rest : List ℕ) → length rest < n → descriptors_of at (tag ∷ n ∷ rest) ≡ unfilled
unfolding descriptors_of
descriptor_overruns at tag n rest h =
    items_end onto first_descriptor filled at (tag ∷ n ∷ rest) unfilled (omega arith) (rw (lt-leb n (length rest) h) refl)

pub descriptor_cut : (at tag : ℕ) → descriptors_of at (tag ∷ []) ≡ unfilled
unfolding descriptors_of
descriptor_cut at tag = refl

-- ---- entries
pub no_entries : (at : ℕ) → entries_of at [] ≡ filled
unfolding entries_of
no_entries at = refl

-- a test of the first entry fails
failed : (at : ℕ) (s : List ℕ) → 0 < length s
    → (leb 5 (length s) && (fits (word_at s 3) (length (drop 5 s)) && (descriptors_of (at + 5) (take (length_in s) (drop 5 s))).fills)) ≡ false
    → entries_of at s ≡ unfilled
unfolding entries_of
failed at s h e =
    items_end onto first_entry filled at s unfilled h
    (ap (λ (t : Bool). cond t (takes (5 + length_in s) (record { at = at; lead = take 5 s; descriptors = (descriptors_of (at + 5) (take (length_in s) (drop 5 s))).items })) (ends unfilled)) e)

pub entry_cut : (at : ℕ) (bytes : List ℕ) → 0 < length bytes → length bytes < 5 → entries_of at bytes ≡ unfilled
entry_cut at s h l =
    failed at s h (ap (λ (t : Bool). t && (fits (word_at s 3) (length (drop 5 s)) && (descriptors_of (at + 5) (take (length_in s) (drop 5 s))).fills)) (lt-leb 5 (length s) l))

-- bytes that five of them lead
module _ (at : ℕ) (lead rest : List ℕ) (five : Leads lead) where
  abbrev s : List ℕ
  s = lead ++ rest

  word : word_at s 3 ≡ word_at lead 3
  word = ap₂ word_of (get_or-append lead rest 0 3 (omega arith)) (get_or-append lead rest 0 4 (omega arith))

  after : drop 5 s ≡ rest
  after = drop_at lead rest 5 five

  front : take 5 s ≡ lead
  front = take_at lead rest 5 five

  long : 5 ≤ length s
  long = rw (length-append lead rest) (omega arith)

  -- a length that does not fit leaves the loop unfilled
  unfit : fits (word_at lead 3) (length rest) ≡ false → entries_of at s ≡ unfilled
  unfit e =
      failed at s (omega (arith, long))
      (two_of_three (leb 5 (length s)) (fits (word_at s 3) (length (drop 5 s))) (descriptors_of (at + 5) (take (length_in s) (drop 5 s))).fills
      (rw (word, after, e, and_false (leb 5 (length s))) refl))

  pub entry_overruns : length rest < length_in lead → entries_of at s ≡ unfilled
  entry_overruns h = unfit (rw (lt-leb (length_in lead) (length rest) h, and_false (eqb (bits_before lead) 0)) refl)

  pub entry_bits : 0 < bits_before lead → entries_of at s ≡ unfilled
  entry_bits h = unfit (rw (ne_eqb (bits_before lead) 0 (λ e. omega arith)) refl)

-- bytes that five of them lead, after which so many stand as these say
module _ (at : ℕ) (lead own rest : List ℕ) (five : Leads lead) (says : length_in lead ≡ length own) where
  abbrev all : List ℕ
  all = lead ++ (own ++ rest)

  inside : take (length_in all) (drop 5 all) ≡ own
  inside =
      ap₂ (λ (w : ℕ) (r : List ℕ). take (bits w 0 12) r) (word at lead (own ++ rest) five) (after at lead (own ++ rest) five)
      ∙ take_at own rest (length_in lead) (sym says)

  pub entry_unfilled : (descriptors_of (at + 5) own).fills ≡ false → entries_of at all ≡ unfilled
  entry_unfilled e =
      let l = long at lead (own ++ rest) five in
      failed at all (omega arith)
      (rw (inside, e, and_false (fits (word_at all 3) (length (drop 5 all))), and_false (leb 5 (length all))) refl)

  pub entry_follows : bits_before lead ≡ 0 → (descriptors_of (at + 5) own).fills ≡ true
      → entries_of at all ≡ onto (record { at = at; lead = lead; descriptors = (descriptors_of (at + 5) own).items }) (entries_of (at + (5 + length own)) rest)
  unfolding entries_of
  entry_follows zeros fill =
      let w = word at lead (own ++ rest) five in
      let l = long at lead (own ++ rest) five in
      let room : length_in lead ≤ length (own ++ rest) = rw (length-append own rest) (omega arith) in
      let fit : fits (word_at lead 3) (length (own ++ rest)) ≡ true =
      ap₂ (λ (a b : Bool). a && b) (eq-eqb (bits_before lead) 0 zeros) (le-leb (length_in lead) (length (own ++ rest)) room) in
      let e : Entry = record { at = at; lead = lead; descriptors = (descriptors_of (at + 5) own).items } in
      let size : 5 + length_in all ≡ 5 + length own = ap (λ (x : ℕ). 5 + bits x 0 12) w ∙ ap (λ (n : ℕ). 5 + n) says in
      let step : first_entry at all ≡ takes (5 + length own) e =
      rw (inside, w, after at lead (own ++ rest) five, front at lead (own ++ rest) five, le-leb 5 (length all) l, fit, fill, says) refl in
      items_on onto first_entry filled at all (5 + length own) e (omega arith) (omega arith) step
      ∙ ap (λ (r : List ℕ). onto e (items_from onto first_entry filled (at + (5 + length own)) r))
      (sym (drop-drop (length own) 5 all) ∙ ap (drop (length own)) (after at lead (own ++ rest) five) ∙ drop-append_seam own rest)

-- ---- a loop that is not filled is the last of a PMT's refusals
pub unfilled_refused : (s : List ℕ) (number item : ℕ) → Silent (shared 2 13 s ++ pmt_own s) → ((program_of s).fills && (streams_of s).fills) ≡ false
    → walk_of s number item ≡ refused 26
unfilled_refused s number item q e =
    passed_over (found_in s number item) (shared 2 13 s ++ pmt_own s) (pmt_loops s) q
    ∙ ap (λ (t : Bool). cond (not t) (refused 26) (given (found_in s number item))) e
