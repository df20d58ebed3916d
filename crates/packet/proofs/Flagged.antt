-- The field whose flagged fields fit is read by reading its two clock references and its extension: the rows for them are judged one after the other.
-- Assumes nothing.
use mathlib.Core.Path.{◌≡◌, ◌∙◌, ap₂}
use mathlib.Core.Bool.{Bool, true, false}
use mathlib.Core.List.{List, [], ◌∷◌, ◌++◌}
use Prim.Native.Nat.{ℕ, ◌+◌, ◌≤◌}
use native.Mathlib.Omega.{arith}
use borrow.Author.Tests.{ltb-false}
use lib.ListN.{get_or}
use Rattle.ground.specs.Answer.{Answer}
use Rattle.ground.specs.Refusal.{Row, ◌when◌}
use Rattle.std.specs.declared.option.Option.{Option}
use Rattle.ground.specs.Number.{is_flagged}
use Rattle.packet.specs.Part.{part_at, part_size}
use Rattle.packet.specs.Extension.{Extended, flagged_size, is_cramped, extended_in, has_wrong_splice}
use Rattle.packet.specs.Adaptation.{AdaptationField, is_wrong_clock, opcr_place, extension_part, clock_at, flagged_field}
use Rattle.packet.specs.Steps.{Roomy, read_clock, read_extended, read_fitting}
use Rattle.ground.proofs.Judged.{joined, judge_joined}

-- a field with other clock references and another extension's parts
abbrev pub with_values : AdaptationField → Option ℕ → Option ℕ → Extended → AdaptationField
with_values f pcr opcr x =
    record {
      size = f.size;
      discontinuity = f.discontinuity;
      random_access = f.random_access;
      stream_priority = f.stream_priority;
      pcr = pcr;
      opcr = opcr;
      countdown = f.countdown;
      private_data = f.private_data;
      extension = f.extension;
      window = x.window;
      rate = x.rate;
      splice = x.splice;
    }

abbrev applied : (Extended → AdaptationField) → Extended → AdaptationField
applied f x = f x

-- three answers made into a field; the first refusal stays
abbrev pub joined_values : AdaptationField → Answer (Option ℕ) → Answer (Option ℕ) → Answer Extended → Answer AdaptationField
joined_values f pcr opcr x = joined applied (joined (with_values f) pcr opcr) x

pub fitting_read : (s : List ℕ) (size : Option ℕ) (flags : ℕ) (pcr opcr : Answer (Option ℕ)) (x : Answer Extended)
    → pcr ≡ read_clock s 6 (is_flagged flags 4) → opcr ≡ read_clock s (opcr_place flags) (is_flagged flags 3) → x ≡ read_extended s (extension_part s flags)
    → joined_values (flagged_field s size flags) pcr opcr x ≡ read_fitting s size flags
fitting_read s size flags pcr opcr x p o e =
    ap₂ (joined applied) (ap₂ (joined with) p o ∙ judge_joined with first second (clock_at s 6 (is_flagged flags 4)) (clock_at s (opcr_place flags) (is_flagged flags 3))) e
    ∙ judge_joined applied (first ++ second) ((36 when has_wrong_splice s (extension_part s flags)) ∷ [])
    (with (clock_at s 6 (is_flagged flags 4)) (clock_at s (opcr_place flags) (is_flagged flags 3)))
    (extended_in s (extension_part s flags))
  where
    with : Option ℕ → Option ℕ → Extended → AdaptationField
    with = with_values (flagged_field s size flags)

    first : List Row
    first = (8 when is_wrong_clock s 6 (is_flagged flags 4)) ∷ []

    second : List Row
    second = (8 when is_wrong_clock s (opcr_place flags) (is_flagged flags 3)) ∷ []

-- an extension that ends in the packet and is not cramped has room for its parts
pub roomy : (s : List ℕ) (i : ℕ) (flagged : Bool) → i + part_size (part_at s i flagged) ≤ 188 → is_cramped s (part_at s i flagged) ≡ false → Roomy s (part_at s i flagged)
roomy s i true h e = let inside = ltb-false (get_or s i 0) (flagged_size (get_or s (i + 1) 0)) e in omega arith
roomy s i false h e = tt
