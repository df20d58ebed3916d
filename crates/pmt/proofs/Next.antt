-- A descriptor by its place is the next of its loop: the loop unrolls by it, and 27 and 26 tell how the loop ends.
-- Assumes nothing.
use mathlib.Core.Path.{◌≡◌, refl, sym, ◌∙◌, ap, ap₂}
use mathlib.Core.Bool.{Bool, true, false}
use mathlib.Core.List.{List, [], ◌∷◌}
use mathlib.Core.Logic.{◌⊎◌, inl, inr, ⊎_elim}
use Prim.Native.Nat.{ℕ, ◌+◌, ◌≤◌}
use native.Mathlib.Nat.{le_refl}
use native.Mathlib.Omega.{arith}
use borrow.Author.Tests.{leb-true, leb-false, ltb-true, ltb-false}
use lib.Dec.{leb, ltb}
use lib.ListN.{length, take, drop, drop_of_length-le}
use lib.Seq.{slice, take_all}
use Rattle.ground.specs.Answer.{Answer, refused, given}
use Rattle.ground.specs.Refusal.{judge, ◌when◌}
use Rattle.ground.proofs.Answer.{given_apart, refused_same}
use Rattle.ground.proofs.Judged.{given_by}
use Rattle.psi.specs.Section.{byte_at}
use Rattle.psi.specs.Loop.{filled, unfilled, onto}
use Rattle.loops.specs.Loop.{descriptors_of}
use Rattle.loops.proofs.Loop as loop
use Rattle.loops.proofs.Unrolls as unrolls
use Rattle.pmt.specs.Answers.{DescriptorPlace}
use Rattle.pmt.specs.Pmt.{next_refusals, next_of}

-- ---- what the number tells of the three tests
abbrev tested : Bool → Bool → Bool → DescriptorPlace → Answer DescriptorPlace
tested a b c p = judge refused ((27 when a) ∷ (26 when b) ∷ (26 when c) ∷ []) (given p)

at_end : (a b c : Bool) (p : DescriptorPlace) → tested a b c p ≡ refused 27 → a ≡ true
at_end true b c p e = refl
at_end false true c p e = let z : ◌≡◌ {A = ℕ} 26 27 = refused_same e in absurd (omega arith)
at_end false false true p e = let z : ◌≡◌ {A = ℕ} 26 27 = refused_same e in absurd (omega arith)
at_end false false false p e = absurd (given_apart e)

overrun : (a b c : Bool) (p : DescriptorPlace) → tested a b c p ≡ refused 26 → (a ≡ false) × ((b ≡ true) ⊎ ((b ≡ false) × (c ≡ true)))
overrun true b c p e = let z : ◌≡◌ {A = ℕ} 27 26 = refused_same e in absurd (omega arith)
overrun false true c p e = (refl, inl refl)
overrun false false true p e = (refl, inr (refl, refl))
overrun false false false p e = absurd (given_apart e)

module _ (bytes : List ℕ) (at : ℕ) where
  abbrev size : ℕ
  size = length bytes

  abbrev own : ℕ
  own = byte_at bytes (at + 1)

  abbrev place : DescriptorPlace
  place = record { tag = byte_at bytes at; start = at + 2; size = own }

  -- the bytes from a place on, as a stretch that ends with them
  to_end : (from : ℕ) → slice from size bytes ≡ drop from bytes
  to_end from = ap (λ (l : List ℕ). drop from l) (take_all size bytes (le_refl size))

  loop_at_lem : descriptors_of at (drop at bytes) ≡ descriptors_of at (slice at size bytes)
  loop_at_lem = ap (descriptors_of at) (sym (to_end at))

  pub next_inside : (p : DescriptorPlace) → next_of bytes at ≡ given p → (p.start ≡ at + 2) × (p.start + p.size ≤ length bytes)
  next_inside p e =
      let g = given_by (next_refusals bytes at) place p e in
      (ap (λ (x : DescriptorPlace). x.start) g.1, rw g.1 (ltb-false size (at + 2 + own) g.0.1.1.0))

  pub next_follows : (p : DescriptorPlace) → next_of bytes at ≡ given p
      → descriptors_of at (drop at bytes)
      ≡ onto (record { at = at; tag = p.tag; bytes = take p.size (drop p.start bytes) }) (descriptors_of (p.start + p.size) (drop (p.start + p.size) bytes))
  next_follows p e =
      let g = given_by (next_refusals bytes at) place p e in
      let two = ltb-false size (at + 2) g.0.1.0 in
      let room = ltb-false size (at + 2 + own) g.0.1.1.0 in
      rw g.1
      (loop_at_lem
      ∙ loop.descriptor bytes at size (le_refl size) two (omega arith)
      ∙ ap₂ (λ (l r : List ℕ). onto (record { at = at; tag = byte_at bytes at; bytes = take own l }) (descriptors_of (at + 2 + own) r)) (to_end (at + 2)) (to_end (at + 2 + own)))

  pub next_ends : next_of bytes at ≡ refused 27 → descriptors_of at (drop at bytes) ≡ filled
  next_ends e =
      let past = leb-true size at (at_end (leb size at) (ltb size (at + 2)) (ltb size (at + 2 + own)) place e) in
      ap (descriptors_of at) (drop_of_length-le bytes past) ∙ unrolls.no_descriptors at

  pub next_overruns : next_of bytes at ≡ refused 26 → descriptors_of at (drop at bytes) ≡ unfilled
  next_overruns e =
      let o = overrun (leb size at) (ltb size (at + 2)) (ltb size (at + 2 + own)) place e in
      let there = leb-false size at o.0 in
      loop_at_lem
      ∙ ⊎_elim (λ b. let short = ltb-true size (at + 2) b in loop.lone_byte bytes at size (le_refl size) (omega arith))
      (λ b.
      let two = ltb-false size (at + 2) b.0 in
      let over = ltb-true size (at + 2 + own) b.1 in
      loop.overrun bytes at size (le_refl size) two (omega arith))
      o.1
