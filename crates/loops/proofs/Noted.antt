-- What a run over a section says of the walk to one item, and of the survey of all entries.
-- Assumes nothing.
use mathlib.Core.Path.{◌≡◌, refl, sym, ◌∙◌, ap}
use mathlib.Core.List.{List, [], ◌∷◌}
use Prim.Native.Nat.{ℕ, zero, suc, ◌+◌, ◌≤◌, ◌<◌}
use native.Mathlib.Nat.{not-suc-le-zero, add-zero}
use native.Mathlib.Omega.{arith}
use lib.ListN.{length, get_or, set, length-set}
use lib.Seq.{get_or-set_same, get_or-set_other}
use Rattle.ground.specs.Answer.{Answer, refused, given}
use Rattle.ground.specs.Refusal.{Silent, First, ExactCall}
use Rattle.ground.proofs.Answer.{given_same}
use Rattle.ground.proofs.Judged.{mapped, judge_mapped, given_by, refused_by, exact_call}
use Rattle.ground.proofs.Refused
use Rattle.ground.proofs.Refused.{accepted}
use Rattle.loops.specs.Loop.{Entry}
use Rattle.loops.specs.Body.{streams_of, pmt_refusals, no_entry}
use Rattle.loops.specs.Walk.{Found, found_in, walk_of, placed, unnoted, Overview, unsurveyed, survey_of}
use Rattle.loops.specs.Steps.{Leaves, leaves, leaves_in, run_of}

-- the answer alone
pub run_walks : (a : Answer Leaves) (asked item : ℕ) (s places : List ℕ) → a ≡ run_of asked item s places → mapped (λ (n : Leaves). n.found) a ≡ walk_of s asked item
run_walks a asked item s places e =
    ap (mapped (λ (n : Leaves). n.found)) e ∙ sym (judge_mapped (λ (n : Leaves). n.found) (pmt_refusals s) (leaves_in asked item s places))

-- the answer with the places
module _ (s : List ℕ) where
  pub surveyed : (f : Found) (places : List ℕ) → run_of 0 0 s unnoted ≡ given (leaves f places) → survey_of s ≡ record { answer = given f; places = places }
  surveyed f places e =
      let g = given_by (pmt_refusals s) (leaves_in 0 0 s unnoted) (leaves f places) e in
      accepted unsurveyed _ (pmt_refusals s) g.0 ∙ ap (λ (n : Leaves). record { answer = given n.found; places = n.places }) (sym g.1)

  pub survey_refused : (n : ℕ) → run_of 0 0 s unnoted ≡ refused n → survey_of s ≡ unsurveyed n
  survey_refused n e = Refused.refused unsurveyed _ n (pmt_refusals s) (refused_by (pmt_refusals s) (leaves_in 0 0 s unnoted) n e)

-- ---- back from what a survey says
module _ (s : List ℕ) where
  abbrev full : Overview
  full = record { answer = given (found_in s 0 0); places = placed 1 unnoted (streams_of s).items }

  pub survey_exact : ExactCall (pmt_refusals s) (λ (o : Overview). o.answer) unsurveyed (survey_of s)
  survey_exact = exact_call (λ (o : Overview). o.answer) unsurveyed (λ n. refl) (pmt_refusals s) full (found_in s 0 0) refl

  pub survey_stops : (n : ℕ) (places : List ℕ) → survey_of s ≡ record { answer = refused n; places = places } → First n (pmt_refusals s)
  survey_stops n places e = (survey_exact.table.number n).0 (ap (λ (o : Overview). o.answer) e)

  -- one that was not refused
  module _ (f : Found) (places : List ℕ) (e : survey_of s ≡ record { answer = given f; places = places }) where
    pub survey_passes : Silent (pmt_refusals s)
    survey_passes = survey_exact.table.none.0 (f, ap (λ (o : Overview). o.answer) e)

    is : record { answer = given f; places = places } ≡ full
    is = sym e ∙ accepted unsurveyed full (pmt_refusals s) survey_passes

    pub survey_entries : f.entries ≡ length (streams_of s).items
    survey_entries = ap (λ (x : Found). x.entries) (given_same (ap (λ (o : Overview). o.answer) is))

    pub survey_places : places ≡ placed 1 unnoted (streams_of s).items
    survey_places = ap (λ (o : Overview). o.places) is

-- ---- the places by the numbers of the loops
-- those of the entries from `number` on leave the ones before
before : (es : List Entry) (number : ℕ) (l : List ℕ) (k : ℕ) → k < number → get_or (placed number l es) k 0 ≡ get_or l k 0
before [] number l k h = refl
before (e ∷ es) number l k h = before es (number + 1) (set l number e.at) k (omega arith) ∙ get_or-set_other l number k e.at 0 (λ q. omega arith)

pub placed_at : (es : List Entry) (number : ℕ) (l : List ℕ) (i : ℕ) → i < length es → number + length es ≤ length l
    → get_or (placed number l es) (number + i) 0 ≡ (get_or es i no_entry).at
placed_at [] number l i h room = absurd (not-suc-le-zero h)
placed_at (e ∷ es) number l zero h room =
    ap (λ (k : ℕ). get_or (placed (number + 1) (set l number e.at) es) k 0) (add-zero number)
    ∙ before es (number + 1) (set l number e.at) number (omega arith)
    ∙ get_or-set_same l number e.at 0 (omega arith)
placed_at (e ∷ es) number l (suc i) h room =
    let k : number + suc i ≡ number + 1 + i = omega arith in
    ap (λ (k : ℕ). get_or (placed (number + 1) (set l number e.at) es) k 0) k
    ∙ placed_at es (number + 1) (set l number e.at) i (omega arith) (rw length-set (omega arith))
