-- The ways of a call: a refusal leaves everything as it was, and an accepted call passed every row of its table.
-- Assumes nothing.
use mathlib.Core.Path.{◌≡◌, refl}
use mathlib.Core.Bool.{Bool, true, false, cond, not, ◌&&◌}
use mathlib.Core.List.{List, [], ◌∷◌}
use Prim.Native.Nat.{ℕ, ◌/◌, ◌^◌, ◌≤◌, ◌<◌}
use native.Mathlib.Nat.{mod-lt}
use native.Mathlib.Omega.{arith}
use borrow.Author.Tests.{ltb-false, leb-false, leb-true, eqb-true, eqb-false, not-true, not-false}
use lib.Dec.{leb, eqb, lit<}
use lib.ListN.{length}
use Rattle.ground.specs.Answer.{refused, given}
use Rattle.ground.specs.Refusal.{Row, Silent, ◌when◌}
use Rattle.ground.specs.Walk.{Every, all}
use Rattle.ground.proofs.Judged.{judge_ind}
use Rattle.ground.proofs.Test.{both_true}
use Rattle.packet.specs.Packet.{header_of, contents, packet_refusals}
use Rattle.packet.specs.Payload.{payload_of}
use Rattle.packet.proofs.PayloadSize.{at_most_184}
use Rattle.gather.specs.Memory.{contradicts_of}
use Rattle.state.specs.State.{area_of, area_start, free_place_of, place_of}
use Rattle.state.specs.Choice.{sound_choice}
use Rattle.state.specs.declared.Choice.{Choice}
use Rattle.state.specs.declared.State.{State}
use Rattle.sound.specs.Sound.{sound}
use Rattle.open_call.specs.Open as opening
use Rattle.close_call.specs.Close as closing
use Rattle.packet_call.specs.Packet.{AfterPacket, as_given, unwanted, pid_of, held_in, is_wrong_size, first_refusals, last_refusals, outcome, put_back, after_tests, after_reading, packet_of}
use Rattle.packet_call.proofs.Order.{sizes_right}

-- ---- open
-- what an accepted open may rely on
pub record Opens (s : State) (pid : ℕ) (choice : Choice) : Type 0 where
  pub fine : sound s ≡ true
  pub low : pid ≤ 0x1FFE
  pub chosen : sound_choice choice ≡ true
  pub more : s.next ≤ 65535
  pub place : free_place_of s.filters < length s.filters
  pub area : opening.area_for pid s.areas < length s.areas

module _ (s : State) (pid : ℕ) (choice : Choice) (P : opening.AfterOpen → Type 0) where
  pub open_ind : ((n : ℕ) → (n ≡ 1 → sound s ≡ false) → (n ≡ 9 → ⊥) → P (record { answer = refused n; state = s }))
      → (Opens s pid choice → P (record { answer = given (record { number = s.next; place = free_place_of s.filters }); state = opening.opened s pid choice }))
      → P (opening.open_of s pid choice)
  unfolding opening.open_of
  open_ind refuses on =
      judge_ind (λ n. record { answer = refused n; state = s }) P (opening.open_refusals s pid choice) _ (
        λ e. refuses 1 (λ z. not-true (sound s) e) (λ z. absurd (omega arith)),
        (
          λ e. refuses 12 (λ z. absurd (omega arith)) (λ z. absurd (omega arith)),
          (
            λ e. refuses 17 (λ z. absurd (omega arith)) (λ z. absurd (omega arith)),
            (
              λ e. refuses 13 (λ z. absurd (omega arith)) (λ z. absurd (omega arith)),
              (λ e. refuses 14 (λ z. absurd (omega arith)) (λ z. absurd (omega arith)), (λ e. refuses 15 (λ z. absurd (omega arith)) (λ z. absurd (omega arith)), tt)),
            ),
          ),
        ),
      )
      (λ rows.
      on (record {
        fine = not-false (sound s) rows.0;
        low = ltb-false 0x1FFE pid rows.1.0;
        chosen = not-false (sound_choice choice) rows.1.1.0;
        more = ltb-false 65535 s.next rows.1.1.1.0;
        place = leb-false (length s.filters) (free_place_of s.filters) rows.1.1.1.1.0;
        area = leb-false (length s.areas) (opening.area_for pid s.areas) rows.1.1.1.1.1.0;
      }))

-- ---- close
-- what an accepted close may rely on
pub record Closes (s : State) (number : ℕ) : Type 0 where
  pub fine : sound s ≡ true
  pub place : place_of number s.filters < length s.filters

module _ (s : State) (number : ℕ) (P : closing.AfterClose → Type 0) where
  pub close_ind : ((n : ℕ) → (n ≡ 1 → sound s ≡ false) → (n ≡ 9 → ⊥) → P (record { answer = refused n; state = s }))
      → (Closes s number → P (record { answer = given tt; state = closing.without_filter s (place_of number s.filters) }))
      → P (closing.close_of s number)
  unfolding closing.close_of
  close_ind refuses on =
      judge_ind (λ n. record { answer = refused n; state = s }) P (closing.close_refusals s number) _
      (λ e. refuses 1 (λ z. not-true (sound s) e) (λ z. absurd (omega arith)), (λ e. refuses 16 (λ z. absurd (omega arith)) (λ z. absurd (omega arith)), tt))
      (λ rows.
      on (record { fine = not-false (sound s) rows.0; place = leb-false (length s.filters) (place_of number s.filters) rows.1.0 }))

-- ---- packet
-- what an accepted packet of a PID with an area may rely on
pub record Handles (s : State) (p store out sets : List ℕ) : Type 0 where
  pub fine : sound s ≡ true
  pub whole : length store ≡ 32768
  pub room : 4278 ≤ length out
  pub listed : 61 ≤ length sets
  pub area : area_of (pid_of p) s.areas < length s.areas
  pub agrees : contradicts_of (held_in (area_of (pid_of p) s.areas) s) store (area_start (area_of (pid_of p) s.areas)) ≡ false
  pub short : length (payload_of p) ≤ 184
  pub counter : (contents p).counter ≤ 15

counter_small : (p : List ℕ) → (contents p).counter ≤ 15
counter_small p = let l = mod-lt (header_of p / 2 ^ 0) {m = 2 ^ 4} (lit< tt) in omega arith

module _ (s : State) (p store out sets : List ℕ) (P : AfterPacket → Type 0) where
  abbrev own : ℕ
  own = area_of (pid_of p) s.areas

  pub packet_ind :
      ((n : ℕ) → (n ≡ 1 → sound s ≡ false)
      → (n ≡ 9 → (own < length s.areas) × (contradicts_of (held_in own s) store (area_start own) ≡ true)) → P (as_given s store out sets (refused n)))
      → (length s.areas ≤ own → P (as_given s store out sets (given unwanted)))
      → (Handles s p store out sets → P (put_back s own (outcome s own p store) store out sets))
      → P (packet_of s p store out sets)
  unfolding packet_of
  packet_ind refuses none on =
      judge_ind (λ n. as_given s store out sets (refused n)) P (first_refusals s p store out sets) (after_reading s own p store out sets) (
        λ e. refuses 1 (λ z. not-true (sound s) e) (λ z. absurd (omega arith)),
        others ((3 when is_wrong_size store out sets) ∷ packet_refusals p) refl,
      )
      (λ rows. wants rows (leb (length s.areas) own) refl)
    where
      other : (n : ℕ) → (n ≡ 1 → ⊥) → (n ≡ 9 → ⊥) → P (as_given s store out sets (refused n))
      other n a b = refuses n (λ z. absurd (a z)) (λ z. absurd (b z))

      -- every row but the first has another number than 1 and 9
      others : (rows : List Row) → all (λ row. not (eqb row.number 1) && not (eqb row.number 9)) rows ≡ true
          → Every (λ row. row.applies ≡ true → P (as_given s store out sets (refused row.number))) rows
      others [] e = tt
      others (row ∷ rows) e =
          let both = both_true (not (eqb row.number 1) && not (eqb row.number 9)) _ e in
          let numbers = both_true (not (eqb row.number 1)) (not (eqb row.number 9)) both.0 in (
            λ a. other row.number (eqb-false row.number 1 (not-true (eqb row.number 1) numbers.0)) (eqb-false row.number 9 (not-true (eqb row.number 9) numbers.1)),
            others rows both.1,
          )

      wants : Silent (first_refusals s p store out sets) → (b : Bool) → leb (length s.areas) own ≡ b
          → P (cond b (as_given s store out sets (given unwanted)) (after_tests s own p store out sets))
      wants rows true e = none (leb-true (length s.areas) own e)
      wants rows false e =
          judge_ind (λ n. as_given s store out sets (refused n)) P (last_refusals s own p store) (put_back s own (outcome s own p store) store out sets) (
            λ q. refuses 9 (λ z. absurd (omega arith)) (λ z. (leb-false (length s.areas) own e, q)),
            (λ q. other 10 (omega arith) (omega arith), (λ q. other 11 (omega arith) (omega arith), tt)),
          )
          (λ last.
          let sizes = sizes_right store out sets rows.1.0 in
          let long = eqb-true (length p) 188 (not-false (eqb (length p) 188) rows.1.1.0) in
          on (record {
            fine = not-false (sound s) rows.0;
            whole = sizes.0;
            room = sizes.1;
            listed = sizes.2;
            area = leb-false (length s.areas) own e;
            agrees = last.0;
            short = at_most_184 p (contents p).field.size long;
            counter = counter_small p;
          }))
