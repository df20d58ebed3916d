-- A section spread over packets in step is finished whole: before its end its bytes are a part of it, and what follows its end is ignored.
-- Assumes nothing.
use mathlib.Core.Path.{◌≡◌, refl, ◌∙◌, ap}
use mathlib.Core.Bool.{false}
use mathlib.Core.List.{List, [], ◌∷◌, ◌++◌, append_assoc, append-nil}
use Prim.Native.Nat.{ℕ, ◌+◌, ◌%◌}
use native.Mathlib.Omega.{arith}
use lib.ListN.{length, take, length-append}
use lib.Seq.{take_at, take-length}
use borrow.Author.Tests.{eq-eqb, ne_eqb}
use Rattle.ground.specs.Walk.{Every}
use Rattle.gather.specs.declared.kind.Kind.TheVariants.{Part, Whole}
use Rattle.gather.specs.Kind.{classify, join}
use Rattle.gather.specs.Rule.{seen, Packet, Yield, Outcome, add, started, ended, together, repeats, jumps, kept, lost, taken, rule}
use Rattle.gather.specs.Run.{Ran, run, starts, continues, following}
use Rattle.gather.proofs.Classes.{whole_again, part_of}
use Rattle.gather.specs.Claims.{IsWhole, Some, Spread}
use Rattle.gather.proofs.Walk.{walk_kind}
use Rattle.gather.proofs.Adding.{add_kind}
use Rattle.gather.proofs.RuleOnMemory.{rule_taken}
use Rattle.gather.proofs.RuleKeeps.{add_alone, kept_fine}

-- the next counter is never the last one
next_differs : (l : ℕ) → (l + 1) % 16 ≡ l → ⊥
next_differs l e = omega arith

-- so it is no repeat and no jump
next_new : (l : ℕ) → repeats (seen l false) ((l + 1) % 16) ≡ false
next_new l = rw (ne_eqb ((l + 1) % 16) l (next_differs l))

next_step : (l : ℕ) → jumps (seen l false) ((l + 1) % 16) ≡ false
next_step l = rw (ne_eqb ((l + 1) % 16) l (next_differs l), eq-eqb ((l + 1) % 16) ((l + 1) % 16) refl)

-- a packet in step without unit start adds its payload
pub rule_step : (held : List ℕ) (l : ℕ) (b : List ℕ) → Some b
    → rule (record { held = held; last = seen l false }) (continues ((l + 1) % 16) b) ≡ taken false (continues ((l + 1) % 16) b) 0 (add held b)
rule_step held l b n =
    rw (next_step l) at (rule_taken (record { held = held; last = seen l false }) (continues ((l + 1) % 16) b) (λ z. omega arith) (next_new l))

-- the bytes of a whole section before its end are a part of it
pub prefix_part : (a b : List ℕ) → IsWhole (a ++ b) → Some a → Some b → classify a ≡ Part
prefix_part a b w p q =
    rw (take_at a b (length a) refl, append-nil a) at
    (part_of (a ++ b) (length (a ++ b)) (length a) w p (rw length-append (omega arith)))

-- a part of a section right after pointer 0 is held
started_part : (held a : List ℕ) → classify a ≡ Part → started held (0 ∷ a) ≡ together (ended (add held [])) (record { sections = []; held = a; given_up = 0 })
unfolding started
started_part held a e = rw (walk_kind a Part e)

-- what packets give after an outcome
abbrev pub go_on : Outcome → List Packet → Ran
go_on o ps =
    let r = run o.next ps in
    record { next = r.next; sections = o.sections ++ r.sections; given_up = o.given_up + r.given_up; begun = o.begun + r.begun }

run_step : (held : List ℕ) (l : ℕ) (b : List ℕ) (rest : List (List ℕ)) (y : Yield) → Some b → add held b ≡ y
    → run (record { held = held; last = seen l false }) (following l (b ∷ rest)) ≡ go_on (taken false (continues ((l + 1) % 16) b) 0 y) (following ((l + 1) % 16) rest)
run_step held l b rest y n e =
    ap (λ (o : Outcome). go_on o (following ((l + 1) % 16) rest)) (rule_step held l b n ∙ ap (λ (z : Yield). taken false (continues ((l + 1) % 16) b) 0 z) e)

-- a section gathered whole: it alone is finished, none is given up and nothing is held
pub record WholeOf (s : List ℕ) (r : Ran) : Type 0 where
  pub sections : r.sections ≡ s ∷ []
  pub given_up : r.given_up ≡ 0
  pub held : r.next.held ≡ []

-- the rest of a section comes in packets after some of it is held
module _ (c tail : List ℕ) (end : Some c) where
  pub gathers : (bs : List (List ℕ)) (a : List ℕ) (l : ℕ) → Some a → Every Some bs → IsWhole (a ++ (join bs ++ c))
      → WholeOf (a ++ (join bs ++ c)) (run (record { held = a; last = seen l false }) (following l (bs ++ (c ++ tail) ∷ [])))
  gathers [] a l p e w =
      let s = a ++ c in
      let again : classify (a ++ (c ++ tail)) ≡ Whole (length s) = rw (take-length s, append_assoc) at (whole_again s (length s) tail w) in
      let whole : take (length s) (a ++ (c ++ tail)) ≡ s = rw append_assoc at (take_at s tail (length s) refl) in
      let on = run_step a l (c ++ tail) [] _ (rw length-append (omega arith)) (add_kind a (c ++ tail) (Whole (length s)) p again) in
      record {
        sections = ap (λ (r : Ran). r.sections) on ∙ ap (λ (x : List ℕ). x ∷ []) whole;
        given_up = ap (λ (r : Ran). r.given_up) on;
        held = ap (λ (r : Ran). r.next.held) on;
      }
  gathers (b ∷ bs) a l p e w =
      let same : (a ++ b) ++ (join bs ++ c) ≡ a ++ ((b ++ join bs) ++ c) = rw (append_assoc b (join bs) c, append_assoc a b (join bs ++ c)) in
      let s : IsWhole ((a ++ b) ++ (join bs ++ c)) = rw same w in
      let more : Some (join bs ++ c) = rw length-append (omega arith) in
      let both : Some (a ++ b) = rw length-append (omega arith) in
      let on = run_step a l b (bs ++ (c ++ tail) ∷ []) _ e.0 (add_kind a b Part p (prefix_part (a ++ b) (join bs ++ c) s both more)) in
      let r = gathers bs (a ++ b) ((l + 1) % 16) both e.1 s in
      record {
        sections = ap (λ (r : Ran). r.sections) on ∙ r.sections ∙ ap (λ (x : List ℕ). x ∷ []) same;
        given_up = ap (λ (r : Ran). r.given_up) on ∙ rw r.given_up;
        held = ap (λ (r : Ran). r.next.held) on ∙ r.held;
      }

-- from its first byte on: the first packet has unit start and pointer 0; what was held before is given up
pub gathers_whole : Spread
gathers_whole s counter a bs c tail h r p e end w =
    let more : Some (join bs ++ c) = rw length-append (omega arith) in
    let b = jumps s.last counter in
    let held = kept b s.held in
    let rest = following counter (bs ++ (c ++ tail) ∷ []) in
    let first = starts counter (0 ∷ a) in
    ap (λ (o : Outcome). (go_on o rest).sections) (rule_taken s first (λ z. omega arith) r)
    ∙ ap (λ (y : Yield). (go_on (taken b first (lost b s.held) y) rest).sections) (started_part held a (prefix_part a (join bs ++ c) w p more))
    ∙ ap (λ (l : List (List ℕ)). (l ++ []) ++ (run (record { held = a; last = seen counter false }) rest).sections) (add_alone held (kept_fine b s.held h))
    ∙ (gathers c tail end bs a counter p e w).sections
