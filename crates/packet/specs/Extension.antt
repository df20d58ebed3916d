-- Document 02, ticket 6; H.222.0 2.4.3.4 and 2.4.3.5: what stands in the adaptation field's extension.
use Rattle.std.specs.Prelude.{Bool, false, ◌&&◌, List, ℕ, ◌+◌, ◌*◌, ltb, get_or, Some, None}
use Rattle.std.specs.Option.{option_map}
use Rattle.ground.specs.Number.{bits, is_flagged, number_at}
use Rattle.std.specs.declared.option.Option.{Option}
use Rattle.ground.specs.Perhaps.{perhaps}
use Rattle.clock.specs.Stamp.{prefix_of, stamp_of, lacks_marker}
use Rattle.packet.specs.Part.{Span}
use Rattle.packet.specs.declared.extension.Window.{Window}
use Rattle.packet.specs.declared.extension.Splice.{Splice}

-- "legal time window (valid bit, 15-bit offset)"
pub record LegalWindow : Type 0 where
  pub valid : Bool
  pub offset : ℕ

-- "seamless splice (4-bit type, 33-bit stamp with markers)"
pub record SeamlessSplice : Type 0 where
  pub splice_type : ℕ
  pub stamp : ℕ

-- ---- what the types of the code say in the documents' terms
-- the legal time window
abbrev pub told_window : Option Window → Option LegalWindow
told_window = option_map (λ (w : Window). record { valid = w.valid; offset = w.offset })

-- the seamless splice
abbrev pub told_splice : Option Splice → Option SeamlessSplice
told_splice = option_map (λ (x : Splice). record { splice_type = x.splice_type; stamp = x.stamp.0 })

-- ---- the flags byte x, the first of the extension's n bytes: window 1, rate 1, splice 1, reserved 5
-- how many bytes it takes with the parts that it flags, window 2, rate 3, splice 5, "in that order after the extension's flags byte"
abbrev pub flagged_size : ℕ → ℕ
flagged_size x = 1 + 2 * bits x 7 1 + 3 * bits x 6 1 + 5 * bits x 5 1

-- where the rate begins, the flags byte at place i; the window at place i + 1
abbrev pub rate_place : ℕ → ℕ → ℕ
rate_place i x = i + 1 + 2 * bits x 7 1

-- the splice
abbrev pub splice_place : ℕ → ℕ → ℕ
splice_place i x = rate_place i x + 3 * bits x 6 1

-- ---- what is read
-- of the window's 16 bits: valid 1, offset 15
abbrev pub window_of : ℕ → LegalWindow
window_of n = record { valid = is_flagged n 15; offset = bits n 0 15 }

-- of the rate's 24 bits: reserved 2, rate 22
abbrev pub rate_of : ℕ → ℕ
rate_of n = bits n 0 22

-- of the splice's 40 bits: a stamp's field, with the type where a stamp has its prefix
abbrev pub splice_of : ℕ → SeamlessSplice
splice_of n = record { splice_type = prefix_of n; stamp = stamp_of n }

-- each of the three, or its absence
pub record Extended : Type 0 where
  pub window : Option LegalWindow
  pub rate : Option ℕ
  pub splice : Option SeamlessSplice

-- "each, or its absence", of the extension whose flags byte x stands at place i
abbrev pub extended_at : List ℕ → ℕ → ℕ → Extended
extended_at s i x =
    record {
      window = perhaps (is_flagged x 7) (window_of (number_at s (i + 1) 2));
      rate = perhaps (is_flagged x 6) (rate_of (number_at s (rate_place i x) 3));
      splice = perhaps (is_flagged x 5) (splice_of (number_at s (splice_place i x) 5));
    }

-- its splice is flagged and lacks a marker
abbrev pub is_wrong_splice : List ℕ → ℕ → ℕ → Bool
is_wrong_splice s i x = is_flagged x 5 && lacks_marker (number_at s (splice_place i x) 5)

-- ---- of an extension that may be missing: its flags byte is its first, and one outside the packet counts as 0
-- each of the three, or its absence
abbrev pub extended_in : List ℕ → Option Span → Extended
extended_in s None = record { window = None; rate = None; splice = None }
extended_in s (Some part) = extended_at s part.start (get_or s part.start 0)

-- "n at least 1, with flagged parts inside n": it has fewer bytes than they take
abbrev pub is_cramped : List ℕ → Option Span → Bool
is_cramped s None = false
is_cramped s (Some part) = ltb part.size (flagged_size (get_or s part.start 0))

-- "36 for a marker": its splice is flagged and lacks one
abbrev pub has_wrong_splice : List ℕ → Option Span → Bool
has_wrong_splice s None = false
has_wrong_splice s (Some part) = is_wrong_splice s part.start (get_or s part.start 0)
