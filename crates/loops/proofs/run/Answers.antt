-- What passes before the loops is judged by the last row, which is the walk.
-- Assumes nothing.
use mathlib.Core.Path.{◌≡◌, sym, ◌∙◌, ap, ap₂}
use mathlib.Core.Bool.{Bool}
use mathlib.Core.List.{List, ◌++◌}
use Prim.Native.Nat.{ℕ, ◌+◌, ◌%◌}
use native.Mathlib.Nat.{div-one}
use native.Mathlib.Omega.{arith}
use borrow.Author.Rules.{rules}
use Rattle.ground.specs.Answer.{refused, given}
use Rattle.ground.specs.Told.{number_of}
use Rattle.ground.proofs.Judged.{stays_refused}
use Rattle.psi.specs.Section.{word_at}
use Rattle.psi.specs.Refusals.{shared, verdict_of}
use Rattle.loops.specs.Body.{body_of, info_length, pmt_own, pmt_loops}
use Rattle.loops.specs.Walk.{unnoted}
use Rattle.loops.specs.Steps.{met_by, told_walk, told_run, walk_descriptors, leaves_in, run_of, nothing}
use Rattle.loops.specs.declared.Surveyed.{Surveyed}
use Rattle.loops.proofs.Body.{run_on}
use Rattle.loops.proofs.run.Goals as goal

pub descriptors-requires : goal.descriptors-requires
descriptors-requires c =
    let none : c.args.search.now.found.walked.descriptors ≡ 0 = ap (λ (x : Surveyed). x.walked.descriptors) c.requires in
    (search rules, search rules, search rules, search rules, omega arith)

pub returns-in_err-judge : goal.returns-in_err-judge
returns-in_err-judge c =
    let a = c.args in
    let s = a.section.now in
    let n = number_of c.in_err-judge.field-0.0 in
    let own : told_run c.from_residual.result a.search.now.found ≡ refused n = search rules in
    own ∙ sym (stays_refused tt (leaves_in a.search.now.asked a.search.now.item s unnoted) (shared 2 13 s ++ pmt_own s) n (sym c.in_err-judge.ensures) (pmt_loops s))

-- past the head the section is walked from its first descriptor on
walked_on : (asked item : ℕ) (s : List ℕ) (fills : Bool) (n two : ℕ) (before after : Surveyed)
    → told_walk fills after ≡ walk_descriptors asked item (body_of s) 12 (12 + n) 0 (met_by before.walked) before.places
    → n ≡ two % 4096 → two ≡ word_at s 10 → before ≡ nothing → given tt ≡ verdict_of (shared 2 13 s ++ pmt_own s)
    → told_walk fills after ≡ run_of asked item s unnoted
walked_on asked item s fills n two before after walk size word none passes =
    let info : n ≡ info_length s = size ∙ ap (λ (x : ℕ). x % 4096) (word ∙ sym (div-one (word_at s 10))) in
    walk
    ∙ ap₂ (λ (k : ℕ) (x : Surveyed). walk_descriptors asked item (body_of s) 12 (12 + k) 0 (met_by x.walked) x.places) info none
    ∙ run_on asked item s unnoted (sym passes)

pub returns-then-descriptors : goal.returns-then-descriptors
returns-then-descriptors c =
    ap (λ (fills : Bool). told_walk fills c.descriptors.new.self.found) (sym c.if-descriptors.true)
    ∙ walked_on c.args.search.now.asked c.args.search.now.item c.args.section.now _ _ _ _ _ c.descriptors.ensures c.from-n.ensures c.number_of_two.ensures c.requires c.in_ok-judge.ensures

pub returns-else-descriptors : goal.returns-else-descriptors
returns-else-descriptors c =
    ap (λ (fills : Bool). told_walk fills c.descriptors.new.self.found) (sym c.if-descriptors.false)
    ∙ walked_on c.args.search.now.asked c.args.search.now.item c.args.section.now _ _ _ _ _ c.descriptors.ensures c.from-n.ensures c.number_of_two.ensures c.requires c.in_ok-judge.ensures
