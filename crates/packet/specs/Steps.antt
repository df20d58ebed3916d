-- What the private functions promise each other, in terms of the definitions; no public promise cites it.
use Rattle.std.specs.Prelude.{◌≡◌, Bool, true, false, List, [], ◌∷◌, ℕ, ◌+◌, ◌≤◌, get_or, Some, None}
use Rattle.ground.specs.House.{packet_bytes}
use Rattle.ground.specs.Answer.{Answer, refused, given}
use Rattle.ground.specs.Refusal.{judge, ◌when◌}
use Rattle.std.specs.declared.option.Option.{Option}
use Rattle.ground.specs.Number.{is_flagged}
use Rattle.packet.specs.Part.{Span, told_part, part_at}
use Rattle.packet.specs.Extension.{SeamlessSplice, Extended, told_window, told_splice, flagged_size, extended_at, extended_in, is_wrong_splice, has_wrong_splice}
use Rattle.packet.specs.Adaptation.{AdaptationField, told_clock, told_field, private_place, extension_part, fields_end, is_wrong_clock, clock_at, flagged_field, value_refusals, flagged_refusals, field_of, field_refusals}
use Rattle.clock.specs.declared.reference.Reference.{Reference}
use Rattle.packet.specs.declared.adaptation.Adaptation.{Adaptation}
use Rattle.packet.specs.declared.extension.Extension.{Extension}
use Rattle.packet.specs.declared.extension.Splice.{Splice}
use Rattle.std.specs.declared.result.Result.{Result}
use Rattle.ground.specs.declared.Refusal.{Refusal}
use Rattle.ground.specs.Told.{told}
use Rattle.packet.specs.declared.adaptation.Parts.{Parts}

-- what the answer for a clock reference says
abbrev pub told_clocked : Result (Option Reference) Refusal → Answer (Option ℕ)
told_clocked = told told_clock

-- a clock reference at place i, judged
abbrev pub read_clock : List ℕ → ℕ → Bool → Answer (Option ℕ)
read_clock s i flagged = judge refused ((8 when is_wrong_clock s i flagged) ∷ []) (given (clock_at s i flagged))

-- what the answer for a splice says
abbrev pub told_spliced : Result (Option Splice) Refusal → Answer (Option SeamlessSplice)
told_spliced = told told_splice

-- the splice of an extension whose flags byte x stands at place i, judged
abbrev pub read_splice : List ℕ → ℕ → ℕ → Answer (Option SeamlessSplice)
read_splice s i x = judge refused ((36 when is_wrong_splice s i x) ∷ []) (given (extended_at s i x).splice)

-- what the answer for an extension says
abbrev pub told_extended : Result Extension Refusal → Answer Extended
told_extended = told (λ (e : Extension). record { window = told_window e.window; rate = e.rate; splice = told_splice e.splice })

-- the extension whose flags byte stands at place i, judged
abbrev pub read_extended_at : List ℕ → ℕ → Answer Extended
read_extended_at s i = judge refused ((36 when is_wrong_splice s i (get_or s i 0)) ∷ []) (given (extended_at s i (get_or s i 0)))

-- an extension that may be missing ends in the packet with all its parts
abbrev pub Roomy : List ℕ → Option Span → Type 0
Roomy s None = Unit {0}
Roomy s (Some part) = part.start + flagged_size (get_or s part.start 0) ≤ packet_bytes

-- the same extension, judged
abbrev pub read_extended : List ℕ → Option Span → Answer Extended
read_extended s part = judge refused ((36 when has_wrong_splice s part) ∷ []) (given (extended_in s part))

-- the parts that are flagged, and where the flagged fields end
pub record Parted (s : List ℕ) (flags : ℕ) (parts : Parts) : Type 0 where
  pub own : told_part parts.own ≡ part_at s (private_place flags) (is_flagged flags 1)
  pub extension : told_part parts.extension ≡ extension_part s flags
  pub end : parts.end ≡ fields_end s flags

-- what the answer for a whole field says
abbrev pub told_fields : Result Adaptation Refusal → Answer AdaptationField
told_fields = told told_field

-- a field without a flags byte
abbrev pub bare_field : Option ℕ → AdaptationField
bare_field size =
    record {
      size = size;
      discontinuity = false;
      random_access = false;
      stream_priority = false;
      pcr = None;
      opcr = None;
      countdown = None;
      private_data = None;
      extension = None;
      window = None;
      rate = None;
      splice = None;
    }

-- the field whose flagged fields fit, judged
abbrev pub read_fitting : List ℕ → Option ℕ → ℕ → Answer AdaptationField
read_fitting s size flags = judge refused (value_refusals s flags) (given (flagged_field s size flags))

-- the field whose flags byte is there, judged
abbrev pub read_flagged : List ℕ → Option ℕ → ℕ → Answer AdaptationField
read_flagged s size flags = judge refused (flagged_refusals s true flags) (given (flagged_field s size flags))

-- the field of a packet with this control, judged
abbrev pub read_field : ℕ → List ℕ → Answer AdaptationField
read_field control s = judge refused (field_refusals control s) (given (field_of control s))
