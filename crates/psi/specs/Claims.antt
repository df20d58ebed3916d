-- What is claimed of the definitions and the promises, and proved.
use Rattle.std.specs.Prelude.{List, ℕ}
use Rattle.ground.specs.Outcome.{Determined}
use Rattle.ground.specs.Refusal.{Exact}
use Rattle.psi.specs.Refusals.{shared, verdict_of}
use Rattle.psi.specs.Promises.{ReadsHead, Judges}

pub record Claims : Type 0 where
  -- any two outcomes that the promise of `head_of` admits are equal
  pub reads_head : (five : List ℕ) → Determined (ReadsHead five)
  -- any two outcomes that the promise of `judge` admits are equal
  pub judges : (s : List ℕ) (asked least : ℕ) → Determined (Judges s asked least)
  -- a section is refused by what a PAT and a PMT share, and by which number, exactly as the table says
  pub judges_exact : (s : List ℕ) (asked least : ℕ) → Exact (shared asked least s) (verdict_of (shared asked least s))
