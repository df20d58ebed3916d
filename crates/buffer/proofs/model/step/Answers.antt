-- A return for each test, and what a packet does after others by the verdict so far.
-- Assumes nothing.
use Rattle.std.proofs.Common.{◌≡◌, refl, sym, ◌∙◌, arith}
use Rattle.ground.proofs.Refused.{yes≢, no≢, yes<, no<}
use Rattle.buffer.specs.Model.{step_of}
use Rattle.buffer.proofs.model.step.Goals as goal

pub returns-then-pid-j : goal.returns-then-pid-j
unfolding step_of
returns-then-pid-j c =
    let a = c.args in
    yes≢ a.pid a.j.pid _ _ (λ (e : a.pid ≡ a.j.pid). absurd (omega arith)) refl

pub returns-then-tick-j : goal.returns-then-tick-j
unfolding step_of
returns-then-tick-j c =
    let a = c.args in
    no≢ a.pid a.j.pid _ _ (omega arith) (yes< a.tick a.j.last _ _ (omega arith) c.moved.ensures)

pub returns-then-is_settled : goal.returns-then-is_settled
unfolding step_of
returns-then-is_settled c =
    let a = c.args in
    no≢ a.pid a.j.pid _ _ (omega arith) (no< a.tick a.j.last _ _ (omega arith)
    (rw (sym c.is_settled.ensures ∙ c.if-is_settled.true) c.moved-then-is_settled.ensures))

pub returns : goal.returns
unfolding step_of
returns c =
    let a = c.args in
    no≢ a.pid a.j.pid _ _ (omega arith) (no< a.tick a.j.last _ _ (omega arith)
    (rw (sym c.is_settled.ensures ∙ c.if-is_settled.false) c.arrived.ensures))
