-- Each turn stores the next entry's two numbers: after i turns the first i of both lists stand written.
-- Assumes nothing.
use mathlib.Core.Path.{◌≡◌, sym, ◌∙◌, ap}
use mathlib.Core.List.{List, []}
use Prim.Native.Nat.{ℕ, ◌≤◌, ◌<◌}
use native.Mathlib.Omega.{arith}
use lib.ListN.{length, get_or, set}
use lib.Seq.{take_all}
use Rattle.ground.specs.Write.{put}
use Rattle.ground.proofs.Write.{put_nil}
use Rattle.pat.specs.Answers.{Association, association_by}
use Rattle.pat.specs.Pat.{pat_of, association_of}
use Rattle.pat.specs.Listed.{programs_of, pids_of}
use Rattle.pat.proofs.Listed.{programs_length, pids_length, stored_program, stored_pid}
use Rattle.pat.proofs.Pat.list.Goals as goal

pub loop-i-init : goal.loop-i-init
loop-i-init c = (sym (put_nil _ 0), sym (put_nil _ 0))

pub loop-i-preserved : goal.loop-i-preserved
loop-i-preserved c =
    let a = c.args in
    let l = c.loop-i in
    let i = l.i in
    let s = a.self.section.now in
    let fours = c.fours-four-items.ensures.items in
    let few : length (pat_of s).items ≤ 253 = rw fours at c.fours-four-items.ensures.few in
    let here : i < length (pat_of s).items = rw fours at c.loop-i-test.true in
    let own : association_by c.program_of-program.result ≡ association_of (get_or (pat_of s).items i []) =
    c.program_of-program.ensures ∙ ap (λ (l : List (List ℕ)). association_of (get_or l i [])) fours in (
      ap (λ (d : List ℕ). set d i c.program_of-program.result.number) l.invariant.0
          ∙ stored_program s a.programs.now i here (omega arith) c.program_of-program.result.number (ap (λ (a : Association). a.program_number) own),
      ap (λ (d : List ℕ). set d i c.program_of-program.result.pid.0) l.invariant.1
          ∙ stored_pid s a.pids.now i here (omega arith) c.program_of-program.result.pid.0 (ap (λ (a : Association). a.pid) own),
    )

pub returns : goal.returns
returns c =
    let a = c.args in
    let s = a.self.section.now in
    let l = c.loop-i in
    let fours = c.fours-four-items.ensures.items in
    let end : length (pat_of s).items ≤ l.i = rw fours at c.loop-i-test.false in
    let ps = programs_length s in
    let qs = pids_length s in (
      l.invariant.0 ∙ ap (λ (t : List ℕ). put a.programs.now 0 t) (take_all l.i (programs_of s) (omega arith)),
      l.invariant.1 ∙ ap (λ (t : List ℕ). put a.pids.now 0 t) (take_all l.i (pids_of s) (omega arith)),
    )
