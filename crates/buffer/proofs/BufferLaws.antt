-- Each law by its own file.
-- Assumes nothing.
use mathlib.Core.Path.{refl, sym}
use Prim.Native.Nat.{◌-◌}
use Rattle.buffer.specs.Laws.{BufferLaws}
use Rattle.buffer.proofs.Arrivals.{counts, skips}
use Rattle.buffer.proofs.Levels.{ticks_off}
use Rattle.buffer.proofs.Found.{refused_exactly, given_exactly}
use Rattle.buffer.proofs.Counted.{busy_time, late_exactly, first_to_linger}
use Rattle.buffer.proofs.Named.{named, later}
use Rattle.buffer.proofs.Others.{others, put_in}
use Rattle.buffer.proofs.Spaced.{apart_passes, three_overrun}
use Rattle.buffer.proofs.Agrees.{agrees}
use Rattle.buffer.proofs.Examples.{examples}

pub buffer_laws : BufferLaws
buffer_laws =
    record {
      counts = counts;
      skips = skips;
      ends = λ pid i. refl;
      refused_exactly = refused_exactly;
      given_exactly = given_exactly;
      drained = λ b t. sym (ticks_off b.level (t - b.tick));
      busy_time = busy_time;
      late_exactly = late_exactly;
      first_to_linger = first_to_linger;
      named = named;
      later = later;
      others = others;
      put_in = put_in;
      apart = apart_passes;
      three = three_overrun;
      walk = agrees;
      examples = examples;
    }
