-- In a PMT section that passes, every entry and descriptor stands in the section where it says it does, and so does the part that an answer names.
-- Assumes nothing.
use mathlib.Core.Path.{◌≡◌, sym, ◌∙◌, ap, ap₂}
use mathlib.Core.Bool.{Bool, true, false}
use mathlib.Core.List.{List, [], ◌∷◌, ◌++◌, append_assoc, map}
use Prim.Native.Nat.{ℕ, zero, suc, ◌+◌, ◌-◌, ◌/◌, ◌%◌, ◌≤◌, ◌<◌}
use native.Mathlib.Nat.{add-zero, div-one, le_of_eq}
use native.Mathlib.Omega.{arith}
use borrow.Author.Tests.{leb-false}
use lib.Dec.{lit<}
use lib.ListN.{length, get_or, take, drop, length-drop, take-append-drop}
use lib.Seq.{slice, length-take-le, get_or-take, get_or-drop, take-append-le, drop-append-le}
use Rattle.ground.specs.Answer.{Answer, refused, given}
use Rattle.ground.specs.Refusal.{Row, Silent, ◌when◌}
use Rattle.ground.specs.Walk.{Every}
use Rattle.ground.proofs.Judged.{given_by, judge_ind}
use Rattle.ground.proofs.Walk.{every_at, every_of}
use Rattle.ground.proofs.Refused.{silent_both}
use Rattle.ground.proofs.Part.{slice_take}
use Rattle.ground.proofs.Test.{both_true}
use Rattle.psi.specs.Section.{word_of, word_at}
use Rattle.pmt.specs.Answers.{DescriptorPlace}
use Rattle.loops.specs.Loop.{Entry, descriptors_of}
use Rattle.loops.specs.Body.{body_of, info_length, program_of, streams_of, no_entry, entry_at, pmt_refusals, loop_at, no_descriptor, descriptor_at}
use Rattle.pmt.specs.Listed.{size_of}
use Rattle.pmt.specs.Pmt.{stream_of, descriptor_place, descriptor_missing, descriptor_refusals, descriptor_in, descriptor_start, descriptor_size}
use Rattle.loops.proofs.Passed.{PmtPassed, pmt_passed}
use Rattle.pmt.proofs.Placement.{Stands, EntryStands, descriptors_stand, entries_stand}

module _ (s : List ℕ) (p : PmtPassed s) where
  pub size : 16 ≤ length s
  size = let w = p.fixed.shared.whole in let e = p.fixed.shared.enough in omega arith

  pub body : length (body_of s) ≡ length s - 4
  body = length-take-le (length s - 4) s (omega (arith, size))

  pub room : 12 + info_length s ≤ length (body_of s)
  room = let f = p.fixed.fits in omega (arith, size, body)

  -- the section goes on with the rest of the body, and CRC_32 follows
  goes_on : (i : ℕ) → i ≤ length (body_of s) → drop i s ≡ drop i (body_of s) ++ drop (length s - 4) s
  goes_on i h = ap (drop i) (sym (take-append-drop (length s - 4) s)) ∙ drop-append-le i (body_of s) (drop (length s - 4) s) h

  -- every descriptor of every loop stands in the section
  program_stands : Every (Stands s) (program_of s).items
  unfolding program_of
  program_stands =
      let b = body_of s in
      let k = info_length s in
      let crc = drop (length s - 4) s in
      descriptors_stand s 12 (slice 12 (12 + k) b) (drop k (drop 12 b) ++ crc)
      (goes_on 12 (omega (arith, room))
      ∙ ap (λ (r : List ℕ). r ++ crc) (sym (take-append-drop k (drop 12 b)))
      ∙ append_assoc (take k (drop 12 b)) (drop k (drop 12 b)) crc
      ∙ ap (λ (r : List ℕ). r ++ (drop k (drop 12 b) ++ crc)) (sym (slice_take 12 k b)))

  streams_stand : Every (EntryStands s) (streams_of s).items
  unfolding streams_of
  streams_stand = entries_stand s (12 + info_length s) (drop (12 + info_length s) (body_of s)) (drop (length s - 4) s) (goes_on (12 + info_length s) room)

  loops_stand : (es : List Entry) → Every (EntryStands s) es → (i : ℕ) → Every (Stands s) (get_or (map (λ (e : Entry). e.descriptors) es) i [])
  loops_stand [] q i = tt
  loops_stand (e ∷ es) q zero = q.0.descriptors
  loops_stand (e ∷ es) q (suc i) = loops_stand es q.1 i

  loop_stands : (number : ℕ) → Every (Stands s) (loop_at s number)
  loop_stands zero = program_stands
  loop_stands (suc i) = loops_stand (streams_of s).items streams_stand i

  pub descriptor_stands : (number i : ℕ) → i < length (loop_at s number) → Stands s (descriptor_at s number i)
  descriptor_stands number i h = every_at (Stands s) (loop_at s number) no_descriptor (loop_stands number) i h

  pub entry_stands : (i : ℕ) → i < length (streams_of s).items → EntryStands s (entry_at s i)
  entry_stands i h = every_at (EntryStands s) (streams_of s).items no_entry streams_stand i h

  -- the program's descriptors fill the part that program_info_length says
  pub program_loop : descriptors_of 12 (take (info_length s) (drop 12 s)) ≡ record { fills = true; items = (program_of s).items }
  unfolding program_of
  program_loop =
      let b = body_of s in
      let k = info_length s in
      let there : k ≤ length (drop 12 b) = rw length-drop (omega (arith, room)) in
      ap (λ (r : List ℕ). descriptors_of 12 (take k r)) (goes_on 12 (omega (arith, room)))
      ∙ ap (descriptors_of 12) (take-append-le k (drop 12 b) (drop (length s - 4) s) there ∙ sym (slice_take 12 k b))
      ∙ ap (λ (t : Bool). record { fills = t; items = (program_of s).items }) (both_true (program_of s).fills (streams_of s).fills p.filled).0

  -- the fields of an entry, by places of the section
  module _ (i : ℕ) (h : i < length (streams_of s).items) (place : ℕ) (there : place ≡ (entry_at s i).at) where
    abbrev own : Entry
    own = entry_at s i

    pub entry_inside : place + 5 ≤ length s
    entry_inside = let r = (entry_stands i h).inside in omega arith

    lead : (j : ℕ) → j < 5 → get_or s (place + j) 0 ≡ get_or own.lead j 0
    lead j l =
        ap (λ (k : ℕ). get_or s (k + j) 0) there
        ∙ sym (ap (λ (x : List ℕ). get_or x j 0) (entry_stands i h).lead ∙ get_or-take 5 (drop own.at s) j 0 l ∙ get_or-drop own.at s j 0)

    word : (j : ℕ) → j + 1 < 5 → word_of (get_or s (place + j) 0) (get_or s (place + (j + 1)) 0) ≡ word_at own.lead j / 1
    word j l = ap₂ word_of (lead j (omega arith)) (lead (j + 1) l) ∙ sym (div-one (word_at own.lead j))

    pub type_there : get_or s place 0 ≡ (stream_of own).stream_type
    type_there = ap (λ (k : ℕ). get_or s k 0) (sym (add-zero place)) ∙ lead 0 (lit< tt)

    pub pid_there : word_of (get_or s (place + 1) 0) (get_or s (place + 2) 0) % 8192 ≡ (stream_of own).pid
    pid_there = ap (λ (w : ℕ). w % 8192) (word 1 (lit< tt))

    pub size_there : word_of (get_or s (place + 3) 0) (get_or s (place + 4) 0) % 4096 ≡ size_of own
    size_there = ap (λ (w : ℕ). w % 4096) (word 3 (lit< tt))

-- ---- the part that the answer for a descriptor names
module _ (s : List ℕ) (number i : ℕ) where
  given_stands : Silent (descriptor_refusals s number i) → Stands s (descriptor_at s number i)
  given_stands q =
      descriptor_stands s (pmt_passed s (silent_both (pmt_refusals s) (descriptor_missing s number i) q).0) number i
      (leb-false (length (loop_at s number)) i (silent_both (pmt_refusals s) (descriptor_missing s number i) q).1.1.0)

  -- it lies inside the section: a refusal's is empty, at the end
  pub part_inside : descriptor_start s (descriptor_in s number i) + descriptor_size (descriptor_in s number i) ≤ length s
  part_inside =
      judge_ind refused (λ (a : Answer DescriptorPlace). descriptor_start s a + descriptor_size a ≤ length s) (descriptor_refusals s number i) (given (descriptor_place (descriptor_at s number i)))
      (every_of (λ (row : Row). row.applies ≡ true → length s + 0 ≤ length s) (descriptor_refusals s number i) (0 when false) (λ k h e. le_of_eq (add-zero (length s))))
      (λ q. (given_stands q).inside)

  -- and it is the descriptor's bytes
  pub part_bytes : (p : DescriptorPlace) → descriptor_in s number i ≡ given p → take p.size (drop p.start s) ≡ (descriptor_at s number i).bytes
  part_bytes p e =
      let g = given_by (descriptor_refusals s number i) (descriptor_place (descriptor_at s number i)) p e in
      rw g.1 (sym (given_stands g.0).part)
