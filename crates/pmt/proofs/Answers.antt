-- What a whole walk of a PMT section says of each public call's answer: what it found is what they give.
-- Assumes nothing.
use mathlib.Core.Path.{◌≡◌, refl, sym, ◌∙◌, ap}
use mathlib.Core.List.{List}
use Prim.Native.Nat.{ℕ, ◌+◌, ◌%◌, ◌≤◌, ◌<◌}
use native.Mathlib.Nat.{div-one}
use native.Mathlib.Numerals.{add-one}
use native.Mathlib.Omega.{arith}
use lib.ListN.{length, get_or, length-map}
use Rattle.ground.specs.Answer.{refused, given}
use Rattle.ground.specs.Refusal.{judge, Silent}
use Rattle.ground.proofs.Judged.{given_by, is_refused_lem, passed_over, stays_refused}
use Rattle.ground.proofs.Refused.{yes≤, no≤, accepted}
use Rattle.psi.specs.Section.{word_at}
use Rattle.loops.specs.Loop.{Descriptor, Entry}
use Rattle.loops.specs.Body.{streams_of, pmt_refusals, entry_at, loops_of, loop_at, descriptor_at}
use Rattle.loops.specs.Walk.{Found, found, found_in, walk_of}
use Rattle.loops.proofs.Passed.{PmtPassed, pmt_passed}
use Rattle.loops.proofs.Seek.{loop_of}
use Rattle.pmt.specs.Pmt.{pmt_heading_of, pmt_header_of, stream_of, pmt_missing, pmt_entry_of, descriptor_place, descriptor_missing, descriptor_in}
use Rattle.pmt.specs.Listed.{pmt_listing_of}
use Rattle.pmt.specs.Steps.{pmt_heading_at, pmt_listing_at, stream_at, descriptor_place_at}
use Rattle.pmt.proofs.Placed as placed
use Rattle.pmt.proofs.Placed.{descriptor_stands, type_there, pid_there}
use Rattle.pmt.proofs.Placement.{Stands}

-- ---- a walk that was not refused: the section passes, and what was found is what is to be found
module _ (s : List ℕ) (number item : ℕ) (f : Found) (e : walk_of s number item ≡ given f) where
  silent : Silent (pmt_refusals s)
  silent = (given_by (pmt_refusals s) (found_in s number item) f e).0

  pub good : PmtPassed s
  good = pmt_passed s silent

  is : f ≡ found_in s number item
  is = (given_by (pmt_refusals s) (found_in s number item) f e).1

-- ---- a walk that was refused: each answer is the same refusal
module _ (s : List ℕ) (number item n : ℕ) (e : walk_of s number item ≡ refused n) where
  pub header_refused : pmt_header_of s ≡ refused n
  header_refused = is_refused_lem (found_in s number item) (pmt_heading_of s) (pmt_refusals s) n e

  pub entry_refused : (i : ℕ) → pmt_entry_of s i ≡ refused n
  entry_refused i = stays_refused (found_in s number item) (stream_of (entry_at s i)) (pmt_refusals s) n e (pmt_missing s i)

  pub descriptor_refused : (loop i : ℕ) → descriptor_in s loop i ≡ refused n
  descriptor_refused loop i = stays_refused (found_in s number item) (descriptor_place (descriptor_at s loop i)) (pmt_refusals s) n e (descriptor_missing s loop i)

-- ---- the header
pub header : (s : List ℕ) (f : Found) → walk_of s 0 0 ≡ given f → pmt_header_of s ≡ given (pmt_heading_at s f.descriptors f.entries)
header s f e =
    let descriptors = ap (λ (x : Found). x.descriptors) (is s 0 0 f e) in
    let entries = ap (λ (x : Found). x.entries) (is s 0 0 f e) in
    let pid = ap (λ (w : ℕ). w % 8192) (div-one (word_at s 8)) in
    accepted refused (given (pmt_heading_of s)) (pmt_refusals s) (silent s 0 0 f e) ∙ cc

-- the same with all entries read
pub listing : (s : List ℕ) (n : ℕ) → n ≡ length (streams_of s).items → pmt_listing_at s n ≡ pmt_listing_of s
listing s n e =
    let pid = ap (λ (w : ℕ). w % 8192) (div-one (word_at s 8)) in
    let size = ap (λ (w : ℕ). w % 4096) (div-one (word_at s 10)) in
    cc

-- ---- an entry
module _ (s : List ℕ) (i : ℕ) (f : Found) (e : walk_of s (i + 1) 0 ≡ given f) where
  abbrev own : Entry
  own = entry_at s i

  -- where it starts and how many descriptors it has
  entry_found : f ≡ found (length (streams_of s).items) (length own.descriptors) own.at
  entry_found =
      is s (i + 1) 0 f e
      ∙ ap (λ (number : ℕ). found_in s number 0) (add-one i)
      ∙ ap (λ (ds : List Descriptor). found (length (streams_of s).items) (length ds) own.at) (loop_of s i)

  entry_on : pmt_entry_of s i ≡ judge refused (pmt_missing s i) (given (stream_of own))
  entry_on = passed_over (stream_of own) (pmt_refusals s) (pmt_missing s i) (silent s (i + 1) 0 f e)

  pub entry_missing : f.entries ≤ i → pmt_entry_of s i ≡ refused 27
  entry_missing h = entry_on ∙ sym (yes≤ _ _ _ _ (rw entry_found at h) refl)

  module _ (h : i < f.entries) where
    listed : i < length (streams_of s).items
    listed = rw entry_found at h

    place : f.place ≡ own.at
    place = ap (λ (x : Found). x.place) entry_found

    pub entry_inside : f.place + 5 ≤ length s
    entry_inside = placed.entry_inside s (good s (i + 1) 0 f e) i listed f.place place

    pub entry_there : pmt_entry_of s i ≡ given (stream_at s f.place f.descriptors)
    entry_there =
        let p = good s (i + 1) 0 f e in
        let descriptors = ap (λ (x : Found). x.descriptors) entry_found in
        let kind = type_there s p i listed f.place place in
        let pid = pid_there s p i listed f.place place in
        entry_on ∙ sym (no≤ _ _ _ _ listed cc)

-- ---- a descriptor
module _ (s : List ℕ) (number i : ℕ) (f : Found) (e : walk_of s number (i + 1) ≡ given f) where
  abbrev d : Descriptor
  d = descriptor_at s number i

  -- where it stands, and how many its loop has
  found_there : f ≡ found (length (streams_of s).items) (length (loop_at s number)) d.at
  found_there = is s number (i + 1) f e ∙ ap (found_in s number) (add-one i)

  on : descriptor_in s number i ≡ judge refused (descriptor_missing s number i) (given (descriptor_place d))
  on = passed_over (descriptor_place d) (pmt_refusals s) (descriptor_missing s number i) (silent s number (i + 1) f e)

  -- each entry has a loop, and so has the program
  loops : length (loops_of s) ≡ f.entries + 1
  loops = let m = length-map (streams_of s).items (λ (x : Entry). x.descriptors) in rw found_there (omega arith)

  pub loop_missing : f.entries < number → descriptor_in s number i ≡ refused 27
  loop_missing h = let l : length (loops_of s) ≤ number = omega (arith, loops) in on ∙ sym (yes≤ _ _ _ _ l refl)

  module _ (h : number ≤ f.entries) where
    within : number < length (loops_of s)
    within = omega (arith, loops)

    pub descriptor_missing_lem : f.descriptors ≤ i → descriptor_in s number i ≡ refused 27
    descriptor_missing_lem l = on ∙ sym (no≤ _ _ _ _ within (yes≤ _ _ _ _ (rw found_there at l) refl))

    module _ (l : i < f.descriptors) where
      there : i < length (loop_at s number)
      there = rw found_there at l

      stands : Stands s d
      stands = descriptor_stands s (good s number (i + 1) f e) number i there

      pub descriptor_inside : f.place + 2 + get_or s (f.place + 1) 0 ≤ length s
      descriptor_inside = rw found_there (rw stands.size at stands.inside)

      pub descriptor_there : descriptor_in s number i ≡ given (descriptor_place_at s f.place)
      descriptor_there =
          let tag = stands.tag in
          let long = stands.size in
          let place = ap (λ (x : Found). x.place) found_there in
          on ∙ sym (no≤ _ _ _ _ within (no≤ _ _ _ _ there cc))
