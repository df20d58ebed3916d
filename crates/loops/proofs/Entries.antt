-- The laws of entries by places of the body, one for each kind of start that their bytes can have: the body from a place on is five bytes, the descriptors that they lead, and the rest.
-- Assumes nothing.
use mathlib.Core.Path.{◌≡◌, refl, sym, ◌∙◌, ap, ap₂}
use mathlib.Core.Bool.{Bool, true, false, cond}
use mathlib.Core.List.{List, ◌++◌}
use Prim.Native.Nat.{ℕ, ◌+◌, ◌-◌, ◌/◌, ◌%◌, ◌≤◌, ◌<◌}
use native.Mathlib.Nat.{div-one}
use native.Mathlib.Omega.{arith}
use lib.Dec.{lit<}
use lib.ListN.{length, get_or, take, drop, length-drop, drop_of_length-le, take-append-drop}
use lib.Seq.{slice, get_or-take, get_or-drop, drop-drop, length-take-le}
use Rattle.ground.proofs.Part.{slice_take}
use Rattle.psi.specs.Section.{word_of, word_at}
use Rattle.psi.specs.Loop.{Loop, filled, unfilled, onto}
use Rattle.loops.specs.Loop.{Descriptor, Entry, descriptors_of, entries_of}
use Rattle.loops.specs.Claims.{Leads, length_in, bits_before}
use Rattle.loops.proofs.Unrolls as unrolls

-- the word that has the length of the descriptors of an entry at a place
abbrev pub word_from : List ℕ → ℕ → ℕ
word_from b at = word_of (get_or b (at + 3) 0) (get_or b (at + 4) 0)

pub no_entries : (b : List ℕ) (at : ℕ) → at ≡ length b → entries_of at (drop at b) ≡ filled
no_entries b at e = let h : length b ≤ at = omega arith in ap (entries_of at) (drop_of_length-le b h) ∙ unrolls.no_entries at

module _ (b : List ℕ) (at : ℕ) where
  abbrev bytes : List ℕ
  bytes = drop at b

  pub entry_short : at < length b → length b - at < 5 → entries_of at bytes ≡ unfilled
  entry_short h l = unrolls.entry_cut at bytes (omega (arith, length-drop at b)) (omega (arith, length-drop at b))

  -- five bytes are there
  module _ (h : at + 5 ≤ length b) where
    abbrev lead : List ℕ
    lead = take 5 bytes

    abbrev rest : List ℕ
    rest = drop 5 bytes

    five : Leads lead
    five = length-take-le 5 bytes (omega (arith, length-drop at b))

    word : word_at lead 3 ≡ word_from b at
    word = ap₂ word_of (get_or-take 5 bytes 3 0 (lit< tt) ∙ get_or-drop at b 3 0) (get_or-take 5 bytes 4 0 (lit< tt) ∙ get_or-drop at b 4 0)

    size : length_in lead ≡ word_from b at % 4096
    size = ap (λ (x : ℕ). x % 4096) (div-one (word_at lead 3) ∙ word)

    left : length rest ≡ length b - at - 5
    left = length-drop 5 bytes ∙ ap (λ (n : ℕ). n - 5) (length-drop at b)

    -- what is shown of the five and the rest is shown of the bytes
    of_bytes : {l : Loop Entry} → entries_of at (lead ++ rest) ≡ l → entries_of at bytes ≡ l
    of_bytes e = ap (entries_of at) (sym (take-append-drop 5 bytes)) ∙ e

    pub entry_bits : (word_from b at / 1024 % 4 ≡ 0 → ⊥) → entries_of at bytes ≡ unfilled
    entry_bits l =
        let w : bits_before lead ≡ word_from b at / 1024 % 4 = ap (λ (x : ℕ). x / 1024 % 4) word in
        of_bytes (unrolls.entry_bits at lead rest five (rw w (omega arith)))

    pub entry_over : length b - at - 5 < word_from b at % 4096 → entries_of at bytes ≡ unfilled
    entry_over l = of_bytes (unrolls.entry_overruns at lead rest five (rw (left, size) l))

    -- and so are the descriptors that they lead
    module _ (z : word_from b at / 1024 % 4 ≡ 0) (l : word_from b at % 4096 ≤ length b - at - 5) where
      abbrev n : ℕ
      n = word_from b at % 4096

      abbrev own : List ℕ
      own = take n rest

      abbrev after : List ℕ
      after = drop n rest

      -- the loop, by whether the descriptors fill theirs
      abbrev told : Loop Descriptor → Loop Entry → Loop Entry
      told ds es = cond ds.fills (onto (record { at = at; lead = lead; descriptors = ds.items }) es) unfilled

      long : length own ≡ n
      long = length-take-le n rest (rw left l)

      split : {r : Loop Entry} → entries_of at (lead ++ (own ++ after)) ≡ r → entries_of at bytes ≡ r
      split e = of_bytes (ap (λ (x : List ℕ). entries_of at (lead ++ x)) (sym (take-append-drop n rest)) ∙ e)

      by_fill : (t : Bool) → (descriptors_of (at + 5) own).fills ≡ t
          → entries_of at bytes ≡ cond t (onto (record { at = at; lead = lead; descriptors = (descriptors_of (at + 5) own).items }) (entries_of (at + (5 + length own)) after)) unfilled
      by_fill true e = split (unrolls.entry_follows at lead own after five (size ∙ sym long) (ap (λ (x : ℕ). x / 1024 % 4) word ∙ z) e)
      by_fill false e = split (unrolls.entry_unfilled at lead own after five (size ∙ sym long) e)

      pub entry_on : entries_of at bytes
          ≡ told (descriptors_of (at + 5) (slice (at + 5) (at + 5 + n) b)) (entries_of (at + 5 + n) (drop (at + 5 + n) b))
      entry_on =
          let place : at + (5 + length own) ≡ at + 5 + n = omega (arith, long) in
          let own_is : own ≡ slice (at + 5) (at + 5 + n) b = ap (take n) (drop-drop 5 at b) ∙ sym (slice_take (at + 5) n b) in
          let after_is : after ≡ drop (at + 5 + n) b = ap (drop n) (drop-drop 5 at b) ∙ drop-drop n (at + 5) b in
          by_fill (descriptors_of (at + 5) own).fills refl
          ∙ ap₂ told (ap (descriptors_of (at + 5)) own_is) (ap₂ entries_of place after_is)
