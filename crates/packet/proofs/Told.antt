-- What a reading tells leaves nothing of it untold: each field of it is made again of what it tells.
-- Assumes nothing.
use mathlib.Core.Path.{◌≡◌, refl, ap}
use Prim.Native.Nat.{ℕ}
use Rattle.std.specs.Prelude.{Some, None}
use Rattle.std.specs.Option.{option_map}
use Rattle.std.specs.declared.option.Option.{Option}
use Rattle.clock.specs.declared.reference.Reference.{Reference}
use Rattle.packet.specs.Part.{Span}
use Rattle.packet.specs.Extension.{LegalWindow, SeamlessSplice}
use Rattle.packet.specs.Adaptation.{AdaptationField, told_field}
use Rattle.packet.specs.Packet.{Contents, told_packet}
use Rattle.packet.specs.declared.adaptation.Part.{Part}
use Rattle.packet.specs.declared.adaptation.Adaptation.{Adaptation}
use Rattle.packet.specs.declared.extension.Window.{Window}
use Rattle.packet.specs.declared.extension.Splice.{Splice}
use Rattle.packet.specs.declared.Packet.{Packet}

-- what may be missing is made again where what is there is
back_option : {A B : Type 0} (f : A → B) (g : B → A) → ((x : A) → g (f x) ≡ x) → (x : Option A) → option_map g (option_map f x) ≡ x
back_option f g h None = refl
back_option f g h (Some x) = ap Some (h x)

abbrev clock_made : ℕ → Reference
clock_made v = record { 0 = v }

abbrev part_made : Span → Part
part_made s = record { start = s.start; size = s.size }

abbrev window_made : LegalWindow → Window
window_made w = record { valid = w.valid; offset = w.offset }

abbrev splice_made : SeamlessSplice → Splice
splice_made x = record { splice_type = x.splice_type; stamp = record { 0 = x.stamp } }

abbrev field_made : AdaptationField → Adaptation
field_made f =
    record {
      length = f.size;
      discontinuity = f.discontinuity;
      random_access = f.random_access;
      stream_priority = f.stream_priority;
      pcr = option_map clock_made f.pcr;
      opcr = option_map clock_made f.opcr;
      countdown = f.countdown;
      private_data = option_map part_made f.private_data;
      extension = option_map part_made f.extension;
      window = option_map window_made f.window;
      rate = f.rate;
      splice = option_map splice_made f.splice;
    }

back_field : (a : Adaptation) → field_made (told_field a) ≡ a
back_field a =
    rw (
      back_option _ clock_made (λ v. refl) a.pcr,
      back_option _ clock_made (λ v. refl) a.opcr,
      back_option _ part_made (λ p. refl) a.private_data,
      back_option _ part_made (λ p. refl) a.extension,
      back_option _ window_made (λ w. refl) a.window,
      back_option _ splice_made (λ x. refl) a.splice,
    )

abbrev pub packet_made : Contents → Packet
packet_made p =
    record {
      unit_start = p.unit_start;
      priority = p.priority;
      pid = record { 0 = p.pid };
      scrambling = p.scrambling;
      control = p.control;
      counter = p.counter;
      field = field_made p.field;
    }

pub back_packet : (p : Packet) → packet_made (told_packet p) ≡ p
back_packet p = rw (back_field p.field)
