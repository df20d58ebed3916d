-- `added` measures one step on the held bytes and the new ones, by their kind.
-- Assumes nothing.
use Rattle.gather.specs.declared.kind.Kind.TheVariants.{Nothing, Part, Overlong, Whole}
use Rattle.gather.proofs.Sized.{sizes_none, sizes_added}
use Rattle.gather.proofs.measure.added.Goals as goal

pub returns-then-held-eq0 : goal.returns-then-held-eq0
returns-then-held-eq0 c = sizes_none c.args.held.now c.args.new.now c.if-held-eq0.true

pub returns-in-Nothing : goal.returns-in-Nothing
returns-in-Nothing c = sizes_added c.args.held.now c.args.new.now c.if-held-eq0.false Nothing c.in-Nothing.ensures

pub returns-in-Part : goal.returns-in-Part
returns-in-Part c = sizes_added c.args.held.now c.args.new.now c.if-held-eq0.false Part c.in-Part.ensures

pub returns-in-Overlong : goal.returns-in-Overlong
returns-in-Overlong c = sizes_added c.args.held.now c.args.new.now c.if-held-eq0.false Overlong c.in-Overlong.ensures

pub returns-in-Whole : goal.returns-in-Whole
returns-in-Whole c = sizes_added c.args.held.now c.args.new.now c.if-held-eq0.false (Whole c.in-Whole.n) c.in-Whole.ensures
