-- The laws of the walk, one for each way that the code can go on from a place.
-- Assumes nothing.
use mathlib.Core.Path.{◌≡◌, refl, ◌∙◌, ap}
use mathlib.Core.Bool.{Bool, true, false, cond, ◌&&◌}
use mathlib.Core.List.{List}
use Prim.Native.Nat.{ℕ, ◌+◌, ◌-◌, ◌/◌, ◌%◌, ◌≤◌, ◌<◌}
use borrow.Author.Tests.{eq-eqb, ne_eqb}
use lib.Dec.{eqb}
use lib.ListN.{length, get_or, take, drop, set}
use lib.Seq.{slice}
use Rattle.ground.specs.Answer.{Answer, refused, given}
use Rattle.ground.proofs.Test.{and_false}
use Rattle.psi.specs.Loop.{Loop, unfilled, onto}
use Rattle.loops.specs.Loop.{Descriptor, Entry, descriptors_of, entries_of}
use Rattle.loops.specs.Steps.{Met, met, found_all, Leaves, leaves, begun, passed, seek_in, seek, walk_entries, walk_descriptors}
use Rattle.loops.specs.Walk.{placed}
use Rattle.loops.proofs.Loop.{no_descriptors, lone_byte, overrun, descriptor}
use Rattle.loops.proofs.Entries.{word_from, no_entries, entry_short, entry_bits, entry_over, entry_on}

module _ (asked item : ℕ) where
  -- ---- what is noted at an entry and at a descriptor
  module _ (number at : ℕ) (m : Met) where
    pub begun_here : number ≡ asked → item ≡ 0 → begun asked item number at m ≡ met m.count at
    begun_here h k = rw (eq-eqb number asked h, eq-eqb item 0 k) refl

    pub begun_other : (item ≡ 0 → ⊥) → begun asked item number at m ≡ m
    begun_other k = rw (ne_eqb item 0 k, and_false (eqb number asked)) refl

    pub begun_elsewhere : (number ≡ asked → ⊥) → begun asked item number at m ≡ m
    begun_elsewhere h = rw (ne_eqb number asked h) refl

    pub passed_here : number ≡ asked → item ≡ m.count + 1 → passed asked item number at m ≡ met (m.count + 1) at
    passed_here h k = rw (eq-eqb number asked h, eq-eqb item (m.count + 1) k) refl

    pub passed_other : number ≡ asked → (item ≡ m.count + 1 → ⊥) → passed asked item number at m ≡ met (m.count + 1) m.place
    passed_other h k = rw (eq-eqb number asked h, ne_eqb item (m.count + 1) k) refl

    pub passed_elsewhere : (number ≡ asked → ⊥) → passed asked item number at m ≡ m
    passed_elsewhere h = rw (ne_eqb number asked h) refl

  -- what the walk says of loops that were read
  abbrev said_entries : ℕ → Met → List ℕ → Loop Entry → Answer Leaves
  said_entries number m places es = cond es.fills (given (leaves (seek asked item number m es.items) (placed number places es.items))) (refused 26)

  abbrev said_both : ℕ → Met → List ℕ → Loop Entry → Loop Descriptor → Answer Leaves
  said_both number m places es ds =
      cond (ds.fills && es.fills)
      (given (leaves (seek asked item (number + 1) (seek_in asked item number m ds.items) es.items) (placed (number + 1) places es.items)))
      (refused 26)

  -- an entry whose tests pass is a loop of descriptors with entries after it
  let_in : (number : ℕ) (m : Met) (places : List ℕ) (at : ℕ) (lead : List ℕ) (o : Bool) (ds : List Descriptor) (es : Loop Entry)
      → said_entries number m places (cond o (onto (record { at = at; lead = lead; descriptors = ds }) es) unfilled)
      ≡ said_both number (begun asked item number at m) (set places number at) es (record { fills = o; items = ds })
  let_in number m places at lead true ds es = refl
  let_in number m places at lead false ds es = refl

  module _ (b : List ℕ) (at number : ℕ) (m : Met) (places : List ℕ) where
    pub entries_end : at ≡ length b → walk_entries asked item b at number m places ≡ given (leaves (found_all number m) places)
    unfolding walk_entries
    entries_end e = ap (said_entries number m places) (no_entries b at e)

    pub entries_short : at < length b → length b - at < 5 → walk_entries asked item b at number m places ≡ refused 26
    unfolding walk_entries
    entries_short h l = ap (said_entries number m places) (entry_short b at h l)

    pub entries_bits : at + 5 ≤ length b → (word_from b at / 1024 % 4 ≡ 0 → ⊥) → walk_entries asked item b at number m places ≡ refused 26
    unfolding walk_entries
    entries_bits h l = ap (said_entries number m places) (entry_bits b at h l)

    pub entries_over : at + 5 ≤ length b → length b - at - 5 < word_from b at % 4096 → walk_entries asked item b at number m places ≡ refused 26
    unfolding walk_entries
    entries_over h l = ap (said_entries number m places) (entry_over b at h l)

    pub entries_on : at + 5 ≤ length b → word_from b at / 1024 % 4 ≡ 0 → word_from b at % 4096 ≤ length b - at - 5
        → walk_entries asked item b at number m places
        ≡ walk_descriptors asked item b (at + 5) (at + 5 + word_from b at % 4096) number (begun asked item number at m) (set places number at)
    unfolding walk_entries walk_descriptors
    entries_on h z l =
        let n = word_from b at % 4096 in
        let own = descriptors_of (at + 5) (slice (at + 5) (at + 5 + n) b) in
        ap (said_entries number m places) (entry_on b at h z l)
        ∙ let_in number m places at (take 5 (drop at b)) own.fills own.items (entries_of (at + 5 + n) (drop (at + 5 + n) b))

  module _ (b : List ℕ) (at stop number : ℕ) (m : Met) (places : List ℕ) (k : stop ≤ length b) where
    pub descriptors_end : at ≡ stop → walk_descriptors asked item b at stop number m places ≡ walk_entries asked item b at (number + 1) m places
    unfolding walk_entries walk_descriptors
    descriptors_end e =
        ap (said_both number m places (entries_of stop (drop stop b))) (no_descriptors b at stop k e)
        ∙ rw e refl

    pub descriptors_one : at + 1 ≡ stop → walk_descriptors asked item b at stop number m places ≡ refused 26
    unfolding walk_descriptors
    descriptors_one e = ap (said_both number m places (entries_of stop (drop stop b))) (lone_byte b at stop k e)

    pub descriptors_over : at + 2 ≤ stop → stop - (at + 2) < get_or b (at + 1) 0 → walk_descriptors asked item b at stop number m places ≡ refused 26
    unfolding walk_descriptors
    descriptors_over h l = ap (said_both number m places (entries_of stop (drop stop b))) (overrun b at stop k h l)

    pub descriptors_on : at + 2 ≤ stop → get_or b (at + 1) 0 ≤ stop - (at + 2)
        → walk_descriptors asked item b at stop number m places
        ≡ walk_descriptors asked item b (at + 2 + get_or b (at + 1) 0) stop number (passed asked item number at m) places
    unfolding walk_descriptors
    descriptors_on h l = ap (said_both number m places (entries_of stop (drop stop b))) (descriptor b at stop k h l)
