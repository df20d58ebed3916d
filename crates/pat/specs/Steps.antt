-- What only the private functions promise each other: no public promise and no claim reaches it, so nobody has to believe it.
use Rattle.std.specs.Prelude.{List, [], ℕ, get_or}
use Rattle.ground.specs.Answer.{Answer, refused, given}
use Rattle.ground.specs.Refusal.{judge}
use Rattle.pat.specs.Answers.{Association}
use Rattle.pat.specs.Pat.{pat_of, pat_missing, association_of}

-- the entry with an index of a PAT that passes, or refusal 27
abbrev pub pat_entry_in : List ℕ → ℕ → Answer Association
pat_entry_in s i = judge refused (pat_missing s i) (given (association_of (get_or (pat_of s).items i [])))
