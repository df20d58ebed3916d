-- Behind a prefix that a stamp has, the two readings of a stamp pass the same rows but for the prefix, and that is the one that is told.
-- Assumes nothing.
use Rattle.std.proofs.Common.{◌≡◌, ℕ, false, ◌↔◌, List, sym, ap, ◌∙◌, eq-eqb}
use Rattle.ground.specs.Answer.{refused, given}
use Rattle.ground.specs.Number.{number_at}
use Rattle.ground.proofs.Judged.{given_by}
use Rattle.ground.proofs.Refused.{accepted}
use Rattle.clock.specs.Stamp.{Prefixed, is_no_prefix, is_unmarked, prefix_of, stamp_of, prefixed_of, stamp_read_refusals, any_stamp_refusals, read_stamp, read_any_stamp}
use Rattle.clock.proofs.Field.{marked}

module _ (s : List ℕ) (prefix v : ℕ) (named : is_no_prefix prefix ≡ false) where
  abbrev told : Prefixed
  told = record { prefix = prefix; stamp = v }

  to_any : read_stamp s prefix ≡ given v → read_any_stamp s ≡ given told
  to_any e =
      let found = given_by (stamp_read_refusals s prefix) (stamp_of (number_at s 0 5)) v e in
      let right = marked (number_at s 0 5) prefix found.0.1.1.0 in
      accepted refused (given (prefixed_of (number_at s 0 5))) (any_stamp_refusals s) (found.0.1.0, (right.1, tt)) ∙ rw (right.0, found.1)

  from_any : read_any_stamp s ≡ given told → read_stamp s prefix ≡ given v
  from_any e =
      let found = given_by (any_stamp_refusals s) (prefixed_of (number_at s 0 5)) told e in
      let same : prefix_of (number_at s 0 5) ≡ prefix = sym (ap (λ (p : Prefixed). p.prefix) found.1) in
      let right : is_unmarked (number_at s 0 5) prefix ≡ false = rw (eq-eqb (prefix_of (number_at s 0 5)) prefix same) found.0.1.0 in
      accepted refused (given (stamp_of (number_at s 0 5))) (stamp_read_refusals s prefix) (named, (found.0.0, (right, tt)))
      ∙ ap given (sym (ap (λ (p : Prefixed). p.stamp) found.1))

  pub either_reading : (read_stamp s prefix ≡ given v) ↔ (read_any_stamp s ≡ given told)
  either_reading = (to_any, from_any)
