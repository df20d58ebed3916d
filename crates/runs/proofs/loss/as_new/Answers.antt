-- The answer is true by computation, and what is claimed is proved in AsNew.antt, Again.antt, Unread.antt, TooMuch.antt and WrongAtJumps.antt.
-- Assumes nothing.
use mathlib.Core.Path.{refl}
use Rattle.runs.specs.Run.{ours}
use Rattle.runs.specs.AsNew.{AsNew}
use Rattle.runs.proofs.AsNew.{after_jumps, jumps_as_they_come, after_starts, starts_as_they_come, freshly_taken}
use Rattle.runs.proofs.Again.{completes, handed_again}
use Rattle.runs.proofs.Unread.{unread}
use Rattle.runs.proofs.TooMuch.{given_up_needed, jump_needed}
use Rattle.runs.proofs.WrongAtJumps.{excluded}
use Rattle.runs.proofs.loss.as_new.Goals as goal

claims : AsNew ours
claims =
    record {
      jumps = after_jumps;
      jumps_as_they_come = jumps_as_they_come;
      starts = after_starts;
      starts_as_they_come = starts_as_they_come;
      again = handed_again;
      unread = unread;
      taken = freshly_taken;
      given_up_needed = given_up_needed;
      jump_needed = jump_needed;
    }

pub returns : goal.returns
returns c = (refl, record { holds = claims; completes = completes; excluded = excluded })
