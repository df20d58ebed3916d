-- Each turn stores the next entry's four numbers: after i turns the first i of each list stand written.
-- Assumes nothing.
use mathlib.Core.Path.{◌≡◌, sym, ◌∙◌, ap, ap₂}
use mathlib.Core.List.{List}
use Prim.Native.Nat.{ℕ, ◌+◌, ◌%◌, ◌≤◌, ◌<◌}
use native.Mathlib.Omega.{arith}
use lib.ListN.{length, get_or, set}
use Rattle.std.specs.Prelude.{Ok}
use Rattle.ground.specs.Refusal.{Silent}
use Rattle.ground.proofs.Write.{put_nil}
use Rattle.loops.specs.Body.{streams_of, entry_at, pmt_refusals}
use Rattle.loops.specs.Walk.{found_by}
use Rattle.loops.specs.Promises.{Surveys}
use Rattle.loops.specs.declared.Surveyed.{Surveyed}
use Rattle.loops.proofs.Noted.{survey_passes, survey_entries, survey_places}
use Rattle.loops.proofs.Passed.{pmt_passed}
use Rattle.pmt.specs.Listed.{type_of, pid_of, start_of, size_of}
use Rattle.pmt.proofs.Placed.{entry_inside, type_there, pid_there, size_there}
use Rattle.pmt.proofs.Listed.{place_of_lem, stored_field}
use Rattle.pmt.proofs.list_streams.Goals as goal

-- ---- at a turn
module _ (s : List ℕ) (survey : Surveyed) (i : ℕ) (e : Surveys s (Ok survey)) (h : i < survey.walked.entries) where
  -- what the code reads as the entry's place
  abbrev place : ℕ
  place = get_or survey.places (i + 1) 0

  passes : Silent (pmt_refusals s)
  passes = survey_passes s (found_by survey.walked) survey.places (sym e)

  turn : i < length (streams_of s).items
  turn = let n = survey_entries s (found_by survey.walked) survey.places (sym e) in omega arith

  there : place ≡ (entry_at s i).at
  there = ap (λ (l : List ℕ). get_or l (i + 1) 0) (survey_places s (found_by survey.walked) survey.places (sym e)) ∙ place_of_lem s passes i turn

  inside : place + 5 ≤ length s
  inside = entry_inside s (pmt_passed s passes) i turn place there

pub loop-i-init : goal.loop-i-init
loop-i-init c = (sym (put_nil _ 0), sym (put_nil _ 0), sym (put_nil _ 0), sym (put_nil _ 0))

pub bounds-section-place : goal.bounds-section-place
bounds-section-place c = let f = inside c.args.section.now c.args.survey.now c.loop-i.i c.requires.found c.loop-i-test.true in omega arith

pub bounds-section-place-in-loop-i : goal.bounds-section-place-in-loop-i
bounds-section-place-in-loop-i c = let f = inside c.args.section.now c.args.survey.now c.loop-i.i c.requires.found c.loop-i-test.true in omega arith

pub bounds-section-place-in-loop-i-2 : goal.bounds-section-place-in-loop-i-2
bounds-section-place-in-loop-i-2 c = let f = inside c.args.section.now c.args.survey.now c.loop-i.i c.requires.found c.loop-i-test.true in omega arith

pub overflow_cast-starts : goal.overflow_cast-starts
overflow_cast-starts c = let f = inside c.args.section.now c.args.survey.now c.loop-i.i c.requires.found c.loop-i-test.true in omega arith

pub bounds-section-place-in-loop-i-3 : goal.bounds-section-place-in-loop-i-3
bounds-section-place-in-loop-i-3 c = let f = inside c.args.section.now c.args.survey.now c.loop-i.i c.requires.found c.loop-i-test.true in omega arith

pub bounds-section-place-in-loop-i-4 : goal.bounds-section-place-in-loop-i-4
bounds-section-place-in-loop-i-4 c = let f = inside c.args.section.now c.args.survey.now c.loop-i.i c.requires.found c.loop-i-test.true in omega arith

pub loop-i-preserved : goal.loop-i-preserved
loop-i-preserved c =
    let a = c.args in
    let s = a.section.now in
    let survey = a.survey.now in
    let i = c.loop-i.i in
    let inv = c.loop-i.invariant in
    let h = c.loop-i-test.true in
    let q = passes s survey i c.requires.found h in
    let p = pmt_passed s q in
    let t = turn s survey i c.requires.found h in
    let k = c.from-place.result in
    let at : k ≡ (entry_at s i).at = c.from-place.ensures ∙ there s survey i c.requires.found h in
    let room = c.requires.room in (
      ap (λ (d : List ℕ). set d i (get_or s k 0)) inv.0 ∙ stored_field s q type_of a.types.now i _ t room.0 (type_there s p i t k at),
      ap₂ (λ (d : List ℕ) (w : ℕ). set d i (w % 8192)) inv.1 c.number_of_two.ensures
          ∙ stored_field s q pid_of a.pids.now i _ t room.1 (pid_there s p i t k at),
      ap (λ (d : List ℕ). set d i (k + 5)) inv.2 ∙ stored_field s q start_of a.starts.now i _ t room.2 (ap (λ (j : ℕ). j + 5) at),
      ap₂ (λ (d : List ℕ) (w : ℕ). set d i (w % 4096)) inv.3 c.number_of_two-in-loop-i.ensures
          ∙ stored_field s q size_of a.sizes.now i _ t room.3 (size_there s p i t k at),
    )
