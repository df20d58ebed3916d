-- None of a given record's doubles is a NaN, so that each has its bits.
-- Assumes nothing.
use Rattle.std.proofs.Common.{ℕ, not, T, sym, Option, Ok}
use lib.Ieee.{is_nan}
use Rattle.rates.specs.Promises.{GivesRate}
use Rattle.rates.specs.Laws.{Stretch}
use Rattle.rates.specs.declared.Rates.{Rates}
use Rattle.rates.proofs.RateLaws.{rate_laws}
use Rattle.exercise.proofs.rate_calls.rated.Goals as goal

-- what was given, by the call's promise
have_bits : (known : Option Rates) → (bytes later earlier : ℕ) → (r : Rates) → GivesRate known bytes later earlier (Ok r)
    → T (not (is_nan r.lowest)) × T (not (is_nan r.latest)) × T (not (is_nan r.highest))
have_bits known bytes later earlier r gives =
    let s : Stretch = record { bytes = bytes; later = later; earlier = earlier } in
    let numbers = rate_laws.numbers known s r (sym gives) in
    (rw numbers.0 tt, rw numbers.1 tt, rw numbers.2 tt)

pub float_to_bits-r : goal.float_to_bits-r
float_to_bits-r c = (have_bits c.args.known c.args.bytes c.args.later c.args.earlier c.in-Ok.r c.in-Ok.ensures).0

pub float_to_bits-r-in-Ok : goal.float_to_bits-r-in-Ok
float_to_bits-r-in-Ok c = (have_bits c.args.known c.args.bytes c.args.later c.args.earlier c.in-Ok.r c.in-Ok.ensures).1

pub float_to_bits-r-in-Ok-2 : goal.float_to_bits-r-in-Ok-2
float_to_bits-r-in-Ok-2 c = (have_bits c.args.known c.args.bytes c.args.later c.args.earlier c.in-Ok.r c.in-Ok.ensures).2
