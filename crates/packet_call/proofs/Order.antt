-- The packet call's order: each test that applies decides, and between the first ones and the last three the packet's area does.
-- Assumes nothing.
use mathlib.Core.Path.{◌≡◌, sym, ◌∙◌, ap}
use mathlib.Core.Bool.{Bool, true, false, not, ◌||◌}
use mathlib.Core.List.{List}
use Prim.Native.Nat.{ℕ, ◌≤◌, ◌<◌}
use borrow.Author.Tests.{le-leb, lt-leb, ltb-false, eq-eqb, ne_eqb, eqb-true, not-false}
use lib.Dec.{eqb, ltb}
use lib.ListN.{length}
use Rattle.ground.specs.Answer.{refused, given}
use Rattle.ground.specs.Refusal.{Silent}
use Rattle.ground.proofs.Judged.{refused_by}
use Rattle.ground.proofs.Refused as table
use Rattle.ground.proofs.Test.{neither}
use Rattle.packet.specs.Packet.{contents, read_packet, packet_refusals}
use Rattle.packet.specs.Payload.{payload_of}
use Rattle.gather.specs.Rule.{leaves_none}
use Rattle.gather.specs.Memory.{contradicts_of}
use Rattle.state.specs.State.{area_of, area_start}
use Rattle.state.specs.declared.State.{State}
use Rattle.sound.specs.Sound.{sound}
use Rattle.packet_call.specs.Packet.{packet_of, as_given, unwanted, is_wrong_size, pid_of, held_in, outcome, put_back, after_reading, after_tests}

module _ (s : State) (p store out sets : List ℕ) where
  pub packet_unsound : sound s ≡ false → packet_of s p store out sets ≡ as_given s store out sets (refused 1)
  unfolding packet_of
  packet_unsound e = rw e

  pub packet_sizes : sound s ≡ true → is_wrong_size store out sets ≡ true → packet_of s p store out sets ≡ as_given s store out sets (refused 3)
  unfolding packet_of
  packet_sizes e w = rw (e, w)

  pub packet_refused : (n : ℕ) → sound s ≡ true → is_wrong_size store out sets ≡ false → read_packet p ≡ refused n → packet_of s p store out sets ≡ as_given s store out sets (refused n)
  unfolding packet_of
  packet_refused n e w r =
      rw (e, w)
      (table.refused (λ n. as_given s store out sets (refused n)) (after_reading s (area_of (pid_of p) s.areas) p store out sets) n (packet_refusals p) (refused_by (packet_refusals p) (contents p) n r))

  pub packet_read : sound s ≡ true → is_wrong_size store out sets ≡ false → Silent (packet_refusals p)
      → packet_of s p store out sets ≡ after_reading s (area_of (pid_of p) s.areas) p store out sets
  unfolding packet_of
  packet_read e w r = rw (e, w) (table.accepted (λ n. as_given s store out sets (refused n)) (after_reading s (area_of (pid_of p) s.areas) p store out sets) (packet_refusals p) r)

-- the area decides whether the packet is wanted
module _ (s : State) (i : ℕ) (p store out sets : List ℕ) where
  pub reading_unwanted : length s.areas ≤ i → after_reading s i p store out sets ≡ as_given s store out sets (given unwanted)
  reading_unwanted h = rw (le-leb (length s.areas) i h)

  pub reading_wanted : i < length s.areas → after_reading s i p store out sets ≡ after_tests s i p store out sets
  reading_wanted h = rw (lt-leb (length s.areas) i h)

-- the last three tests of a wanted packet
module _ (s : State) (i : ℕ) (p store out sets : List ℕ) where
  abbrev contradicts : Bool
  contradicts = contradicts_of (held_in i s) store (area_start i)

  abbrev scrambling : ℕ
  scrambling = (contents p).scrambling

  pub contradicts_told : {n : ℕ} {r : Bool} → n ≡ held_in i s → r ≡ contradicts_of n store (area_start i) → contradicts ≡ r
  contradicts_told h e = ap (λ (n : ℕ). contradicts_of n store (area_start i)) (sym h) ∙ sym e

  pub tests_contradict : contradicts ≡ true → after_tests s i p store out sets ≡ as_given s store out sets (refused 9)
  tests_contradict e = rw e

  pub tests_scrambled : contradicts ≡ false → (scrambling ≡ 0 → ⊥) → after_tests s i p store out sets ≡ as_given s store out sets (refused 10)
  tests_scrambled e n = rw (e, ne_eqb scrambling 0 n)

  pub tests_none_left : contradicts ≡ false → scrambling ≡ 0 → leaves_none (contents p).unit_start (payload_of p) ≡ true
      → after_tests s i p store out sets ≡ as_given s store out sets (refused 11)
  tests_none_left e z l = rw (e, eq-eqb scrambling 0 z, l)

  pub tests_passed : contradicts ≡ false → scrambling ≡ 0 → leaves_none (contents p).unit_start (payload_of p) ≡ false
      → after_tests s i p store out sets ≡ put_back s i (outcome s i p store) store out sets
  tests_passed e z l = rw (e, eq-eqb scrambling 0 z, l)

-- sizes that are not wrong
pub sizes_right : (store out sets : List ℕ) → is_wrong_size store out sets ≡ false → (length store ≡ 32768) × (4278 ≤ length out) × (61 ≤ length sets)
sizes_right store out sets e =
    let all = neither (not (eqb (length store) 32768) || ltb (length out) 4278) (ltb (length sets) 61) e in
    let parts = neither (not (eqb (length store) 32768)) (ltb (length out) 4278) all.0 in
    (eqb-true (length store) 32768 (not-false (eqb (length store) 32768) parts.0), ltb-false (length out) 4278 parts.1, ltb-false (length sets) 61 all.1)
