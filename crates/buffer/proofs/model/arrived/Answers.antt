-- A return for each rule; what is left of the level, and how many packets came since the buffer was found empty, are what the two callees tell.
-- Assumes nothing.
use Rattle.std.proofs.Common.{◌≡◌, ℕ, ◌+◌, ◌-◌, ap, ◌∙◌, arith}
use Rattle.ground.proofs.Refused.{yes<, no<}
use Rattle.buffer.specs.Model.{left_of, busy_with, arrived_at}
use Rattle.buffer.specs.declared.model.Judging.{Judging}
use Rattle.buffer.proofs.model.arrived.Goals as goal

-- how many packets came, by what is left of the level
count-is : (j : Judging) (tick left busy : ℕ) → left ≡ j.level - (tick - j.last) → busy ≡ busy_with left j.busy → busy ≡ busy_with (left_of j tick) j.busy
count-is j tick left busy level e = e ∙ ap (λ (n : ℕ). busy_with n j.busy) level

pub returns-then-level-gt-ROOM : goal.returns-then-level-gt-ROOM
unfolding arrived_at
returns-then-level-gt-ROOM c =
    let level = c.saturating_sub-left.ensures ∙ ap (λ (n : ℕ). n - (c.args.tick - c.args.j.last)) c.from.ensures in
    yes< 55296 (left_of c.args.j c.args.tick + 20304) _ _ (omega arith) c.moved.ensures

pub returns-then-busy-gt-MOST_BUSY : goal.returns-then-busy-gt-MOST_BUSY
unfolding arrived_at
returns-then-busy-gt-MOST_BUSY c =
    let left = left_of c.args.j c.args.tick in
    let level = c.saturating_sub-left.ensures ∙ ap (λ (n : ℕ). n - (c.args.tick - c.args.j.last)) c.from.ensures in
    let busy = count-is c.args.j c.args.tick _ _ level c.busy_with-busy.ensures in
    no< 55296 (left + 20304) _ _ (omega arith)
    (yes< 1329 (busy_with left c.args.j.busy) _ _ (omega arith) c.moved-then-busy-gt-MOST_BUSY.ensures)

pub returns : goal.returns
unfolding arrived_at
returns c =
    let left = left_of c.args.j c.args.tick in
    let level = c.saturating_sub-left.ensures ∙ ap (λ (n : ℕ). n - (c.args.tick - c.args.j.last)) c.from.ensures in
    let busy = count-is c.args.j c.args.tick _ _ level c.busy_with-busy.ensures in
    no< 55296 (left + 20304) _ _ (omega arith) (no< 1329 (busy_with left c.args.j.busy) _ _ (omega arith) (rw (level, busy)))
