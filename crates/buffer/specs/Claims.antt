-- What is claimed of the definitions and the promises, and proved.
use Rattle.std.specs.Prelude.{List, ℕ}
use Rattle.ground.specs.Outcome.{Determined, Stated}
use Rattle.ground.specs.Refusal.{Exact}
use Rattle.buffer.specs.Verdict.{verdict_refusals, verdict_of}
use Rattle.buffer.specs.Promises.{Judges}
use Rattle.buffer.specs.Laws.{BufferLaws}
use Rattle.buffer.specs.declared.Record.{Record}

pub record Claims : Type 0 where
  -- any two outcomes that the promise admits are equal
  pub judges : (pid : ℕ) (rs : List Record) → Determined (Judges pid rs)
  -- and so are those of the function that states what a verdict says
  pub buffer_laws : Determined (Stated BufferLaws)
  -- a refusal is given exactly when it is the first that applies
  pub refusals : (pid : ℕ) (rs : List Record) → Exact (verdict_refusals pid rs) (verdict_of pid rs)
