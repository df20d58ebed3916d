-- The lists of a PMT's entries, field by field: by their index, and one turn of writing them.
-- Assumes nothing.
use mathlib.Core.Path.{◌≡◌, sym, ◌∙◌, ap}
use mathlib.Core.List.{List}
use Prim.Native.Nat.{ℕ, ◌+◌, ◌≤◌, ◌<◌}
use native.Mathlib.Nat.{add_comm}
use native.Mathlib.Omega.{arith}
use lib.ListN.{length, get_or, take, set, length-map}
use lib.Seq.{take_all}
use Rattle.ground.specs.Refusal.{Silent}
use Rattle.ground.specs.Write.{put}
use Rattle.ground.proofs.Walk.{map_at}
use Rattle.ground.proofs.Write.{stored}
use Rattle.loops.specs.Loop.{Entry}
use Rattle.loops.specs.Body.{streams_of, no_entry, entry_at, pmt_refusals}
use Rattle.loops.specs.Walk.{placed, unnoted}
use Rattle.loops.proofs.Noted.{placed_at}
use Rattle.loops.proofs.Passed.{pmt_passed}
use Rattle.pmt.specs.Listed.{each_of}
use Rattle.pmt.proofs.Limits.{pmt_limit}

module _ (s : List ℕ) where
  abbrev count : ℕ
  count = length (streams_of s).items

  module _ (field : Entry → ℕ) where
    pub each_length : length (each_of field s) ≡ count
    each_length = length-map (streams_of s).items field

    pub each_at : (i : ℕ) → i < count → get_or (each_of field s) i 0 ≡ field (entry_at s i)
    each_at i h = map_at field (streams_of s).items i no_entry 0 h

  module _ (q : Silent (pmt_refusals s)) where
    pub few : count ≤ 201
    few = pmt_limit s (pmt_passed s q)

    -- where entry i stands
    pub place_of_lem : (i : ℕ) → i < count → get_or (placed 1 unnoted (streams_of s).items) (i + 1) 0 ≡ (entry_at s i).at
    place_of_lem i h =
        ap (λ (k : ℕ). get_or (placed 1 unnoted (streams_of s).items) k 0) (add_comm i 1)
        ∙ placed_at (streams_of s).items 1 unnoted i h (omega (arith, few))

    -- one turn: the field of the next entry is stored
    pub stored_field : (field : Entry → ℕ) (d : List ℕ) (i n : ℕ) → i < count → 201 ≤ length d → n ≡ field (entry_at s i)
        → set (put d 0 (take i (each_of field s))) i n ≡ put d 0 (take (i + 1) (each_of field s))
    stored_field field d i n h room e =
        let m = few in
        let l = each_length field in
        stored d (each_of field s) i n 0 (omega arith) (omega arith) (e ∙ sym (each_at field i h))

    -- after the last
    pub all_stored : (field : Entry → ℕ) (d : List ℕ) (i : ℕ) → i ≡ count → put d 0 (take i (each_of field s)) ≡ put d 0 (each_of field s)
    all_stored field d i e = let l = each_length field in ap (put d 0) (take_all i (each_of field s) (omega arith))
