-- Each law by its own file.
-- Assumes nothing.
use mathlib.Core.Path.{sym}
use lib.Ieee.{binary64}
use Rattle.rates.specs.Rate.{ticks_of, with_rate}
use Rattle.rates.specs.Laws.{rate_along, RateLaws}
use Rattle.rates.proofs.Quotient.{whole_quotient}
use Rattle.rates.proofs.Nearest.{rate_nearest}
use Rattle.rates.proofs.Rows.{rated_unordered}
use Rattle.rates.proofs.Given.{forward_told, ticks_pos, ticks_small, rate_number, rate_rises, given_has, has_given, record_order, passes_order, order_passes, unordered_fails, range_refused, bytes_refused, equal_refused, given_ordered, ordered_numbers, ordered_goes_on}
use Rattle.rates.proofs.Kept.{keeps, only, runs}
use Rattle.rates.proofs.Examples.{examples}

pub rate_laws : RateLaws
rate_laws =
    record {
      one_division = whole_quotient binary64;
      nearest = λ s h. rate_nearest s.bytes (ticks_of s.later s.earlier) h.few_bytes (ticks_pos s h) (ticks_small s);
      finite = λ s h. rate_number s.bytes (ticks_of s.later s.earlier) h.few_bytes (ticks_pos s h);
      rises = rate_rises;
      forward = λ s h. (forward_told s h.later_in_range h.earlier_in_range, ticks_pos s h);
      given_exactly = λ k s.
          (λ e. let found = given_has k s e.0 e.1 in (passes_order k found.0, found.1), λ e. (with_rate k (rate_along s), has_given k s (order_passes k e.0) e.1));
      unordered_refused = λ k s never. rated_unordered k s.bytes s.later s.earlier (unordered_fails k never);
      range_refused = λ k s o. range_refused k s (order_passes k o);
      bytes_refused = λ k s o. bytes_refused k s (order_passes k o);
      equal_refused = λ k s o l h same. equal_refused k s (order_passes k o) l (rw (sym same) l) h same;
      ordered = λ k s r e. let o = given_ordered k s r e in (o, record_order r o);
      goes_on = λ k s next r e. ordered_goes_on r next (given_ordered k s r e);
      numbers = λ k s r e. ordered_numbers r (given_ordered k s r e);
      runs = runs;
      keeps = keeps;
      only = only;
      examples = examples;
    }
