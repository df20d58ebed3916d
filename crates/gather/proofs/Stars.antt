-- Every ★ case of this layer holds: the pointer's bytes are passed over, and what is left is computed.
-- Assumes nothing.
use mathlib.Core.Path.{◌≡◌, refl, ◌∙◌, ap}
use mathlib.Core.Bool.{true, false}
use mathlib.Core.List.{List, [], ◌∷◌, ◌++◌}
use Prim.Native.Nat.{ℕ, ◌+◌}
use native.Mathlib.Omega.{arith}
use lib.ListN.{length, length-append}
use lib.Seq.{drop_at}
use borrow.Author.Tests.{le-leb}
use Rattle.ground.specs.Walk.{Every}
use Rattle.ground.proofs.Write.{put_nil}
use Rattle.gather.specs.Kind.{kind_of, classify}
use Rattle.gather.specs.Rule.{blank, seen, Yield, Outcome, front, back, walk, started, begun_in, taken, rule}
use Rattle.gather.specs.Run.{starts}
use Rattle.gather.specs.Memory.{no_marks, on_memory}
use Rattle.gather.specs.Stars.{Right, cases, length_182, pointer_183, pointer_182, pointer_182_stored}
use Rattle.gather.proofs.Adding.{add_none}
use Rattle.gather.proofs.RuleOnMemory.{rule_taken}
use Rattle.gather.proofs.Stored.{serves}

one_byte : Right length_182
one_byte b = le-leb 1 (b + 1) (omega arith)

past_the_end : Right pointer_183
past_the_end bytes e = rw e

-- the bytes after the pointer's
module _ (bytes : List ℕ) (e : length bytes ≡ 182) where
  last_byte : back (182 ∷ (bytes ++ 0x80 ∷ [])) ≡ 0x80 ∷ []
  last_byte = drop_at bytes (0x80 ∷ []) 182 e

  size : length (bytes ++ 0x80 ∷ []) ≡ 183
  size = length-append bytes (0x80 ∷ []) ∙ rw e

  gives : started [] (182 ∷ (bytes ++ 0x80 ∷ [])) ≡ record { sections = []; held = 0x80 ∷ []; given_up = 0 }
  unfolding started walk classify kind_of
  gives = rw (add_none [] (front (182 ∷ (bytes ++ 0x80 ∷ []))) refl, last_byte)

  begins : begun_in (back (182 ∷ (bytes ++ 0x80 ∷ []))) ≡ 1
  unfolding begun_in classify kind_of
  begins = rw last_byte

  one_held : (counter : ℕ) → rule blank (record { counter = counter; start = true; payload = 182 ∷ (bytes ++ 0x80 ∷ []) })
      ≡ record { next = record { held = 0x80 ∷ []; last = seen counter false }; sections = []; jump = false; repeat = false; given_up = 0; begun = 1 }
  one_held counter =
      let p = starts counter (182 ∷ (bytes ++ 0x80 ∷ [])) in
      rule_taken blank p (λ z. omega arith) refl ∙ ap (λ (y : Yield). taken false p 0 y) gives ∙ rw begins

held : Right pointer_182
held counter bytes e = (rw (size bytes e), one_held bytes e counter)

stored : Right pointer_182_stored
stored counter bytes store base out few e a o =
    serves no_marks counter true (182 ∷ (bytes ++ 0x80 ∷ [])) store base out
    (record { bound = omega arith; short = let s = size bytes e in omega arith; area = a; output = o }) refl few
    ∙ ap (λ (r : Outcome). on_memory r store base out) (one_held bytes e counter)
    ∙ rw (put_nil out 0)

-- every ★ case
pub stars : Every Right cases
stars = (one_byte, (past_the_end, (held, (stored, tt))))
