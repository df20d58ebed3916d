-- What the walk meets is what stands at the number and the item asked for: only the loop asked for notes anything.
-- Assumes nothing.
use mathlib.Core.Path.{◌≡◌, refl, sym, ◌∙◌, ap, ap₂}
use mathlib.Core.Bool.{Bool, true, cond, ◌&&◌}
use mathlib.Core.List.{List, [], ◌∷◌}
use Prim.Native.Nat.{ℕ, zero, suc, ◌+◌, ◌-◌, ◌≤◌, ◌<◌}
use native.Mathlib.Nat.{le_refl, add-zero, zero-add}
use native.Mathlib.Omega.{arith}
use borrow.Author.Tests.{eq-eqb, ne_eqb}
use lib.Dec.{eqb}
use lib.ListN.{length, get_or, get_or-map}
use Rattle.ground.proofs.Test.{either_way}
use Rattle.loops.specs.Loop.{Descriptor, Entry}
use Rattle.loops.specs.Body.{program_of, streams_of, no_entry, entry_at, loop_at, no_descriptor}
use Rattle.loops.specs.Walk.{place_of, found_in}
use Rattle.loops.specs.Steps.{Met, met, found_all, begun, seek_in, seek, met_in}

-- ---- among descriptors of which `count` came before: the place of an item
abbrev place_in : ℕ → ℕ → ℕ → List Descriptor → ℕ
place_in count item old [] = old
place_in count item old (d ∷ ds) = place_in (count + 1) item (cond (eqb item (count + 1)) d.at old) ds

-- an item that came before is not there
past : (ds : List Descriptor) (count item old : ℕ) → item ≤ count → place_in count item old ds ≡ old
past [] count item old h = refl
past (d ∷ ds) count item old h =
    past ds (count + 1) item (cond (eqb item (count + 1)) d.at old) (omega arith)
    ∙ ap (λ (t : Bool). cond t d.at old) (ne_eqb item (count + 1) (λ e. omega arith))

-- any other is the descriptor by its index, or 0 where there is none
placed_at : (ds : List Descriptor) (count k : ℕ) → place_in count (count + 1 + k) 0 ds ≡ (get_or ds k no_descriptor).at
placed_at [] count k = refl
placed_at (d ∷ ds) count zero =
    past ds (count + 1) (count + 1 + 0) (cond (eqb (count + 1 + 0) (count + 1)) d.at 0) (omega arith)
    ∙ ap (λ (t : Bool). cond t d.at 0) (eq-eqb (count + 1 + 0) (count + 1) (omega arith))
placed_at (d ∷ ds) count (suc k) =
    let e : count + 1 + suc k ≡ count + 1 + 1 + k = omega arith in
    ap₂ (λ (w : ℕ) (t : Bool). place_in (count + 1) w (cond t d.at 0) ds) e (ne_eqb (count + 1 + suc k) (count + 1) (λ e. omega arith))
    ∙ placed_at ds (count + 1) k

module _ (asked item : ℕ) where
  -- ---- the loop asked for, and any other
  here : eqb asked asked ≡ true
  here = eq-eqb asked asked refl

  -- the descriptors of the loop asked for are counted, and one of them may be the item
  own_loop : (ds : List Descriptor) (m : Met)
      → seek_in asked item asked m ds ≡ met (m.count + length ds) (place_in m.count item m.place ds)
  own_loop [] m = ap (λ (n : ℕ). met n m.place) (sym (add-zero m.count))
  own_loop (d ∷ ds) m =
      let next = met (m.count + 1) (cond (eqb item (m.count + 1)) d.at m.place) in
      let e : m.count + 1 + length ds ≡ m.count + suc (length ds) = omega arith in
      ap (λ (t : Bool). seek_in asked item asked (met (cond t (m.count + 1) m.count) (cond (t && eqb item (m.count + 1)) d.at m.place)) ds) here
      ∙ own_loop ds next
      ∙ ap (λ (n : ℕ). met n (place_in (m.count + 1) item next.place ds)) e

  module _ (number : ℕ) (h : number ≡ asked → ⊥) where
    -- those of another loop add nothing
    other_loop : (ds : List Descriptor) (m : Met) → seek_in asked item number m ds ≡ m
    other_loop [] m = refl
    other_loop (d ∷ ds) m =
        ap (λ (t : Bool). seek_in asked item number (met (cond t (m.count + 1) m.count) (cond (t && eqb item (m.count + 1)) d.at m.place)) ds)
        (ne_eqb number asked h)
        ∙ other_loop ds m

    -- nor does an entry whose loop is not the one asked for
    other_entry : (e : Entry) (m : Met) → seek_in asked item number (begun asked item number e.at m) e.descriptors ≡ m
    other_entry e m =
        other_loop e.descriptors (begun asked item number e.at m)
        ∙ ap (λ (t : Bool). met m.count (cond (t && eqb item 0) e.at m.place)) (ne_eqb number asked h)

  -- what the entry asked for adds, where nothing was met
  abbrev of_entry : Entry → Met
  of_entry e = met (length e.descriptors) (place_in 0 item (cond (eqb item 0) e.at 0) e.descriptors)

  own_entry : (e : Entry) → seek_in asked item asked (begun asked item asked e.at (met 0 0)) e.descriptors ≡ of_entry e
  own_entry e =
      own_loop e.descriptors (begun asked item asked e.at (met 0 0))
      ∙ ap₂ (λ (n : ℕ) (t : Bool). met n (place_in 0 item (cond (t && eqb item 0) e.at 0) e.descriptors)) (zero-add (length e.descriptors)) here

  -- ---- entries after the loop asked for, and entries of which one may have it
  one_more : (number : ℕ) (es : List Entry) → number + 1 + length es ≡ number + suc (length es)
  one_more number es = omega arith

  after_loop : (es : List Entry) (number : ℕ) (m : Met) → asked < number → seek asked item number m es ≡ found_all (number + length es) m
  after_loop [] number m h = ap (λ (n : ℕ). found_all n m) (sym (add-zero number))
  after_loop (e ∷ es) number m h =
      ap (λ (x : Met). seek asked item (number + 1) x es) (other_entry number (λ q. omega arith) e m)
      ∙ after_loop es (number + 1) m (omega arith)
      ∙ ap (λ (n : ℕ). found_all n m) (one_more number es)

  in_entry : (es : List Entry) (number k : ℕ) → asked ≡ number + k
      → seek asked item number (met 0 0) es ≡ found_all (number + length es) (of_entry (get_or es k no_entry))
  in_entry [] number k e = ap₂ (λ (n place : ℕ). found_all n (met 0 place)) (sym (add-zero number)) (sym (either_way (eqb item 0) 0))
  in_entry (x ∷ es) number zero e =
      let same : number ≡ asked = omega arith in
      ap (λ (k : ℕ). seek asked item (number + 1) (seek_in asked item k (begun asked item k x.at (met 0 0)) x.descriptors) es) same
      ∙ ap (λ (y : Met). seek asked item (number + 1) y es) (own_entry x)
      ∙ after_loop es (number + 1) (of_entry x) (omega arith)
      ∙ ap (λ (n : ℕ). found_all n (of_entry x)) (one_more number es)
  in_entry (x ∷ es) number (suc k) e =
      ap (λ (y : Met). seek asked item (number + 1) y es) (other_entry number (λ q. omega arith) x (met 0 0))
      ∙ in_entry es (number + 1) k (omega arith)
      ∙ ap (λ (n : ℕ). found_all n (of_entry (get_or es k no_entry))) (one_more number es)

-- ---- the same of a section
module _ (s : List ℕ) where
  abbrev program : List Descriptor
  program = (program_of s).items

  abbrev streams : List Entry
  streams = (streams_of s).items

  -- each entry has a loop, and so has the program
  entries_count : 1 + length streams - 1 ≡ length streams
  entries_count = omega arith

  -- the program's loop: no item of it is an entry
  program_place : (item : ℕ) → place_in 0 item 0 program ≡ place_of s 0 item
  program_place zero = past program 0 0 0 (le_refl 0)
  program_place (suc i) = let e : suc i ≡ 0 + 1 + i = omega arith in ap (λ (k : ℕ). place_in 0 k 0 program) e ∙ placed_at program 0 i

  -- the loop of entry i
  pub loop_of : (i : ℕ) → loop_at s (suc i) ≡ (entry_at s i).descriptors
  loop_of i = get_or-map (λ (x : Entry). x.descriptors) streams i no_entry

  stream_place : (i item : ℕ) → place_in 0 item (cond (eqb item 0) (entry_at s i).at 0) (entry_at s i).descriptors ≡ place_of s (suc i) item
  stream_place i zero = past (entry_at s i).descriptors 0 0 (entry_at s i).at (le_refl 0)
  stream_place i (suc k) =
      let e : suc k ≡ 0 + 1 + k = omega arith in
      ap₂ (λ (w : ℕ) (t : Bool). place_in 0 w (cond t (entry_at s i).at 0) (entry_at s i).descriptors) e (ne_eqb (suc k) 0 (λ q. omega arith))
      ∙ placed_at (entry_at s i).descriptors 0 k
      ∙ ap (λ (ds : List Descriptor). (get_or ds k no_descriptor).at) (sym (loop_of i))

  -- what the walk meets is what is to be found
  pub met_found : (number item : ℕ) → met_in number item s ≡ found_in s number item
  met_found zero item =
      let own : Met = met (0 + length program) (place_in 0 item 0 program) in
      let counted = zero-add (length program) in
      let placed = program_place item in
      let all = entries_count in
      ap (λ (m : Met). seek 0 item 1 m streams) (own_loop 0 item program (met 0 0)) ∙ after_loop 0 item streams 1 own (omega arith) ∙ cc
  met_found (suc i) item =
      let counted = ap length (loop_of i) in
      let placed = stream_place i item in
      let all = entries_count in
      ap (λ (m : Met). seek (suc i) item 1 m streams) (other_loop (suc i) item 0 (λ e. omega arith) program (met 0 0))
      ∙ in_entry (suc i) item streams 1 i (omega arith)
      ∙ cc
