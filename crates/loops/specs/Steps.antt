-- What only the private functions promise each other: no public promise and no claim reaches it, so nobody has to believe it.
-- The walk over a PMT's body answers refusal 26 where a loop is not filled, else what it was asked to find.
use Rattle.std.specs.Prelude.{Bool, cond, ◌&&◌, List, [], ◌∷◌, ℕ, ◌+◌, ◌-◌, eqb, drop}
use Rattle.std.proofs.Math.Seq.{slice}
use Rattle.std.specs.declared.result.Result.{Result}
use Rattle.ground.specs.Answer.{Answer, refused, given}
use Rattle.ground.specs.Refusal.{judge}
use Rattle.ground.specs.Told.{told}
use Rattle.ground.specs.declared.Refusal.{Refusal}
use Rattle.loops.specs.Loop.{Descriptor, Entry, descriptors_of, entries_of}
use Rattle.loops.specs.Body.{program_of, streams_of, pmt_loops, pmt_refusals}
use Rattle.loops.specs.Walk.{Found, found, found_by, found_in, placed, unnoted}
use Rattle.loops.specs.declared.Walked.{Walked}
use Rattle.loops.specs.declared.Surveyed.{Surveyed}
use Rattle.loops.specs.declared.walkers.Search.{Search}

-- what was met of the loop asked for: how many descriptors, and the place of the item asked for
pub record Met : Type 0 where
  pub count : ℕ
  pub place : ℕ

-- the same by its two numbers
abbrev pub met : ℕ → ℕ → Met
met count place = record { count = count; place = place }

-- what a whole walk over so many loops found: each entry has one, and so has the program
abbrev pub found_all : ℕ → Met → Found
found_all loops m = found (loops - 1) m.count m.place

-- what a whole walk leaves: what it found, and the places of the entries
pub record Leaves : Type 0 where
  pub found : Found
  pub places : List ℕ

abbrev pub leaves : Found → List ℕ → Leaves
leaves f places = record { found = f; places = places }

-- what was met, as the code has it
abbrev pub met_by : Walked → Met
met_by w = met w.descriptors w.place

-- what the code found, with the places of the entries
abbrev pub leaves_by : Surveyed → Leaves
leaves_by r = leaves (found_by r.walked) r.places

-- what a walker's answer says, with what it leaves: whether the loops are filled
abbrev pub told_walk : Bool → Surveyed → Answer Leaves
told_walk fills r = cond fills (given (leaves_by r)) (refused 26)

-- the loop with the number `asked` is asked for, and in it an item: item 0 is the entry, item i + 1 its descriptor i
module _ (asked item : ℕ) where
  -- the entry of the loop `number` starts at a place
  abbrev pub begun : ℕ → ℕ → Met → Met
  begun number at m = record { count = m.count; place = cond (eqb number asked && eqb item 0) at m.place }

  -- A descriptor of the loop `number` starts at a place
  abbrev pub passed : ℕ → ℕ → Met → Met
  passed number at m = record {
    count = cond (eqb number asked) (m.count + 1) m.count;
    place = cond (eqb number asked && eqb item (m.count + 1)) at m.place;
  }

  -- what the descriptors of the loop `number` add to what was met
  abbrev pub seek_in : ℕ → Met → List Descriptor → Met
  seek_in number m [] = m
  seek_in number m (d ∷ ds) = seek_in number (passed number d.at m) ds

  -- what the entries add to what was met, the first of them with the loop `number`; at the end the number of loops
  abbrev pub seek : ℕ → Met → List Entry → Found
  seek number m [] = found_all number m
  seek number m (e ∷ es) = seek (number + 1) (seek_in number (begun number e.at m) e.descriptors) es

  -- the walk over the entries from `at` on
  unfoldable pub walk_entries : List ℕ → ℕ → ℕ → Met → List ℕ → Answer Leaves
  walk_entries b at number m places =
      let es = entries_of at (drop at b) in
      cond es.fills (given (leaves (seek number m es.items) (placed number places es.items))) (refused 26)

  -- the walk over the descriptors from `at` to `stop`, and then over the entries from `stop` on
  unfoldable pub walk_descriptors : List ℕ → ℕ → ℕ → ℕ → Met → List ℕ → Answer Leaves
  walk_descriptors b at stop number m places =
      let ds = descriptors_of at (slice at stop b) in
      let es = entries_of stop (drop stop b) in
      cond (ds.fills && es.fills)
      (given (leaves (seek (number + 1) (seek_in number m ds.items) es.items) (placed (number + 1) places es.items)))
      (refused 26)

  -- what the walk over a section's body meets
  abbrev pub met_in : List ℕ → Found
  met_in s = seek 1 (seek_in 0 (met 0 0) (program_of s).items) (streams_of s).items

  -- what a walk over a section is to leave
  abbrev pub leaves_in : List ℕ → List ℕ → Leaves
  leaves_in s places = leaves (found_in s asked item) (placed 1 places (streams_of s).items)

  -- what walking over the body of a section answers, where all before its loops passes
  abbrev pub body_walked_of : List ℕ → List ℕ → Answer Leaves
  body_walked_of s places = judge refused (pmt_loops s) (given (leaves_in s places))

  -- the same of the section, or the first refusal that applies
  abbrev pub run_of : List ℕ → List ℕ → Answer Leaves
  run_of s places = judge refused (pmt_refusals s) (given (leaves_in s places))

-- what the answer of `run` says, with what it leaves
abbrev pub told_run : Result (Unit {0}) Refusal → Surveyed → Answer Leaves
told_run r found = told (λ (whole : Unit {0}). leaves_by found) r

-- nothing found yet
abbrev pub nothing : Surveyed
nothing = record { walked = record { entries = 0; descriptors = 0; place = 0 }; places = unnoted }

-- a search that has found nothing yet
abbrev pub begun_for : ℕ → ℕ → Search
begun_for asked item = record { asked = asked; item = item; found = nothing }
