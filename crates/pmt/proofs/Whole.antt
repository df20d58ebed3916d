-- What a whole reading leaves where it is not refused: the lists hold what the calls by index answer and where the descriptor loops are, and the rest as it was.
-- Assumes nothing.
use mathlib.Core.Path.{◌≡◌, refl, sym, ◌∙◌, ap}
use mathlib.Core.Bool.{true}
use mathlib.Core.List.{List}
use Prim.Native.Nat.{ℕ, ◌+◌, ◌≤◌, ◌<◌}
use native.Mathlib.Numerals.{add-one}
use native.Mathlib.Omega.{arith}
use borrow.Author.Tests.{ltb-false}
use lib.ListN.{length, get_or, take, drop}
use Rattle.ground.specs.Answer.{refused, given}
use Rattle.ground.specs.Refusal.{Silent, ExactCall}
use Rattle.ground.specs.Write.{put, Rest}
use Rattle.ground.proofs.Answer.{given_same}
use Rattle.ground.proofs.Judged.{passed_over, exact_call}
use Rattle.ground.proofs.Part.{slice_take}
use Rattle.ground.proofs.Refused.{no≤, accepted}
use Rattle.ground.proofs.Write.{put_item, put_rest}
use Rattle.psi.specs.Loop.{Loop, joined}
use Rattle.loops.specs.Loop.{Descriptor, Entry, descriptors_of}
use Rattle.loops.specs.Claims.{laid_out}
use Rattle.loops.specs.Body.{info_length, streams_of, pmt_refusals, entry_at, loop_at}
use Rattle.loops.proofs.Passed.{PmtPassed, pmt_passed}
use Rattle.loops.proofs.Seek.{loop_of}
use Rattle.pmt.specs.Answers.{PmtListing}
use Rattle.pmt.specs.Pmt.{pmt_heading_of, pmt_header_of, stream_of, pmt_missing, pmt_entry_of}
use Rattle.pmt.specs.Listed.{type_of, pid_of, start_of, size_of, each_of, Lists, Listed, written_to, pmt_listing_of, unlisted, pmt_list_refusals, pmt_list_of}
use Rattle.pmt.specs.Claims.{Holds}
use Rattle.pmt.proofs.Placement.{descriptors_bytes}
use Rattle.pmt.proofs.Placed.{size, body, room, program_loop, entry_stands}
use Rattle.pmt.proofs.Listed.{each_length, each_at, few}

-- what is read from a part fills it, and so laid out again is its bytes
holds : (s : List ℕ) (number start size : ℕ) → start + size ≤ length s → descriptors_of start (take size (drop start s)) ≡ record { fills = true; items = loop_at s number }
    → Holds s number start size
holds s number start size h e =
    record {
      inside = h;
      descriptors = ap (descriptors_of start) (slice_take start size s) ∙ e;
      bytes =
          sym (descriptors_bytes start (take size (drop start s)) (ap (λ (l : Loop Descriptor). l.fills) e))
          ∙ ap (λ (l : Loop Descriptor). joined laid_out l.items) e;
    }

module _ (s : List ℕ) (l : Lists) where
  abbrev full : Listed
  full = record { answer = given (pmt_listing_of s); lists = written_to l s }

  pub list_exact : ExactCall (pmt_list_refusals s l) (λ (x : Listed). x.answer) (unlisted l) (pmt_list_of s l)
  list_exact = exact_call (λ (x : Listed). x.answer) (unlisted l) (λ n. refl) (pmt_list_refusals s l) full (pmt_listing_of s) refl

  module _ (h : PmtListing) (e : (pmt_list_of s l).answer ≡ given h) where
    quiet : Silent (pmt_list_refusals s l)
    quiet = list_exact.table.none.0 (h, e)

    own : Silent (pmt_refusals s)
    own = quiet.1.1.1.1

    passes : PmtPassed s
    passes = pmt_passed s own

    is : pmt_list_of s l ≡ full
    is = accepted (unlisted l) full (pmt_list_refusals s l) quiet

    heading : h ≡ pmt_listing_of s
    heading = given_same (sym e ∙ ap (λ (x : Listed). x.answer) is)

    count : h.entries ≡ length (streams_of s).items
    count = ap (λ (x : PmtListing). x.entries) heading

    pub list_header : pmt_header_of s ≡ given (record { heading = h.heading; pcr_pid = h.pcr_pid; descriptors = length (loop_at s 0); entries = h.entries })
    list_header = rw heading (accepted refused (given (pmt_heading_of s)) (pmt_refusals s) own)

    -- ---- a list with places for all entries
    module _ (d : List ℕ) (wide : 201 ≤ length d) (field : Entry → ℕ) (after : List ℕ) (written : after ≡ put d 0 (each_of field s)) where
      room_for : length (each_of field s) ≤ length d
      room_for = let n = each_length s field in omega (arith, few s own)

      item : (i : ℕ) → i < h.entries → get_or after i 0 ≡ field (entry_at s i)
      item i b =
          let n = each_length s field in
          let there : i < length (streams_of s).items = rw (sym count) b in
          ap (λ (x : List ℕ). get_or x i 0) written ∙ put_item d (each_of field s) room_for i 0 (omega arith) ∙ each_at s field i there

      rest : Rest h.entries d after
      rest = let k = count ∙ sym (each_length s field) in rw (written, k) (put_rest d (each_of field s) room_for)

    -- ---- the four lists have them
    typed : 201 ≤ length l.types
    typed = ltb-false (length l.types) 201 quiet.0

    pidded : 201 ≤ length l.pids
    pidded = ltb-false (length l.pids) 201 quiet.1.0

    started : 201 ≤ length l.starts
    started = ltb-false (length l.starts) 201 quiet.1.1.0

    sized : 201 ≤ length l.sizes
    sized = ltb-false (length l.sizes) 201 quiet.1.1.1.0

    -- the loop of entry i
    loop : (i : ℕ) → (entry_at s i).descriptors ≡ loop_at s (i + 1)
    loop i = sym (ap (loop_at s) (add-one i) ∙ loop_of s i)

    pub list_entry : (i : ℕ) → i < h.entries
        → pmt_entry_of s i
        ≡ given (record { stream_type = get_or (pmt_list_of s l).lists.types i 0; pid = get_or (pmt_list_of s l).lists.pids i 0; descriptors = length (loop_at s (i + 1)) })
    list_entry i b =
        let there : i < length (streams_of s).items = rw (sym count) b in
        let kind = item l.types typed type_of (pmt_list_of s l).lists.types (ap (λ (x : Listed). x.lists.types) is) i b in
        let pid = item l.pids pidded pid_of (pmt_list_of s l).lists.pids (ap (λ (x : Listed). x.lists.pids) is) i b in
        let many = ap length (loop i) in
        passed_over (stream_of (entry_at s i)) (pmt_refusals s) (pmt_missing s i) own
        ∙ sym (no≤ _ _ _ _ there refl)
        ∙ cc

    pub list_program : Holds s 0 h.start h.size
    list_program = rw heading (holds s 0 12 (info_length s) (omega (arith, size s passes, body s passes, room s passes)) (program_loop s passes))

    pub list_loop : (i : ℕ) → i < h.entries → Holds s (i + 1) (get_or (pmt_list_of s l).lists.starts i 0) (get_or (pmt_list_of s l).lists.sizes i 0)
    list_loop i b =
        let there : i < length (streams_of s).items = rw (sym count) b in
        let start = item l.starts started start_of (pmt_list_of s l).lists.starts (ap (λ (x : Listed). x.lists.starts) is) i b in
        let many = item l.sizes sized size_of (pmt_list_of s l).lists.sizes (ap (λ (x : Listed). x.lists.sizes) is) i b in
        let stands = entry_stands s passes i there in
        rw (start, many)
        (holds s (i + 1) (start_of (entry_at s i)) (size_of (entry_at s i)) stands.inside
        (stands.loop ∙ ap (λ (ds : List Descriptor). record { fills = true; items = ds }) (loop i)))

    pub list_rest : Rest h.entries l.types (pmt_list_of s l).lists.types
        × Rest h.entries l.pids (pmt_list_of s l).lists.pids
        × Rest h.entries l.starts (pmt_list_of s l).lists.starts
        × Rest h.entries l.sizes (pmt_list_of s l).lists.sizes
    list_rest = (
      rest l.types typed type_of _ (ap (λ (x : Listed). x.lists.types) is),
      rest l.pids pidded pid_of _ (ap (λ (x : Listed). x.lists.pids) is),
      rest l.starts started start_of _ (ap (λ (x : Listed). x.lists.starts) is),
      rest l.sizes sized size_of _ (ap (λ (x : Listed). x.lists.sizes) is),
    )
