-- A turn takes one record off the walk; past the last one the walk is done, and its verdict is the ticket's.
-- Assumes nothing.
use Rattle.std.proofs.Common.{suc, drop, add-one, ap, sym, ◌∙◌, arith}
use Rattle.buffer.specs.Verdict.{told_verdict}
use Rattle.buffer.specs.Model.{walked}
use Rattle.buffer.specs.declared.model.Judging.{Judging}
use Rattle.buffer.proofs.Walking.{turned, ended}
use Rattle.buffer.proofs.Agrees.{agrees}
use Rattle.buffer.proofs.judge.Goals as goal

pub loop-i-preserved : goal.loop-i-preserved
loop-i-preserved c =
    let ys = c.args.records.now in
    let i = c.loop-i.i in
    rw add-one (ap (λ (x : Judging). walked x (suc i) (drop (suc i) ys)) c.step-j.ensures ∙ turned ys i c.loop-i.j (omega arith) ∙ c.loop-i.invariant)

pub returns : goal.returns
returns c =
    let ys = c.args.records.now in
    ap told_verdict (ap (λ (x : Judging). x.verdict) (sym (ended ys c.loop-i.i c.loop-i.j (omega arith)) ∙ c.loop-i.invariant))
    ∙ agrees c.args.pid.0 ys
