-- What the private functions promise each other, in terms of the definitions; no public promise cites it.
use Rattle.std.specs.Prelude.{cond, List, [], ℕ}
use Rattle.ground.specs.Answer.{Answer, refused, given}
use Rattle.ground.specs.Refusal.{judge}
use Rattle.pes.specs.Stream.{is_bare}
use Rattle.pes.specs.Stamps.{Times, told_stamps, stamp_refusals, stamps_of}
use Rattle.pes.specs.Header.{HeaderContents, id_of, optional_refusals, optional_of, header_contents}
use Rattle.std.specs.declared.result.Result.{Result}
use Rattle.ground.specs.declared.Refusal.{Refusal}
use Rattle.ground.specs.Told.{told}
use Rattle.pes.specs.declared.stamps.Stamps.{Stamps}

-- what the answer for the stamps says
abbrev pub told_stamped : Result Stamps Refusal → Answer Times
told_stamped = told told_stamps

-- the stamps that the flags announce, judged
abbrev pub read_stamps : List ℕ → ℕ → Answer Times
read_stamps s code = judge refused (stamp_refusals s code) (given (stamps_of s code))

-- the optional header, judged
abbrev pub read_optional : List ℕ → Answer HeaderContents
read_optional s = judge refused (optional_refusals s) (given (optional_of s))

-- a header whose first six bytes are in order, judged
abbrev pub read_after_start : List ℕ → Answer HeaderContents
read_after_start s = judge refused (cond (is_bare (id_of s)) [] (optional_refusals s)) (given (header_contents s))
