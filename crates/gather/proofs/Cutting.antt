-- Sections joined and cut again: each is cut after its own 3 + section_length bytes, whatever follows it.
-- Assumes nothing.
use mathlib.Core.Path.{◌≡◌, refl, sym, ◌∙◌, ap}
use mathlib.Core.Bool.{false}
use mathlib.Core.List.{List, [], ◌∷◌, ◌++◌}
use Prim.Native.Nat.{ℕ, ◌+◌}
use native.Mathlib.Omega.{arith}
use lib.ListN.{length, take, length-append}
use lib.Seq.{take_at, drop_at, take-length}
use Rattle.ground.specs.Items.{takes}
use Rattle.ground.specs.Walk.{Every}
use Rattle.ground.proofs.Items.{on_items}
use Rattle.section.specs.Section.{section_length, section_size}
use Rattle.gather.specs.Kind.{contradicting, join, cut}
use Rattle.gather.specs.Rule.{State, Packet, rule}
use Rattle.gather.proofs.Classes.{whole_fits, length_is}
use Rattle.gather.specs.Claims.{IsWhole}
use Rattle.gather.proofs.RuleKeeps.{rule_keeps}

-- a whole section says its own size, whatever follows it
pub says_size : (s t : List ℕ) → IsWhole s → 3 + section_length (s ++ t) ≡ length s
says_size s t w =
    let f = whole_fits s (length s) w in
    let e : section_length (s ++ t) ≡ section_length s = rw (take-length s) at (length_is s t (length s) f.within f.least) in
    rw e (sym f.says)

-- whole sections, joined and cut, are there again
pub cut_join : (ss : List (List ℕ)) → Every IsWhole ss → cut (join ss) ≡ ss
cut_join [] w = refl
cut_join (s ∷ ss) w =
    let f = (whole_fits s (length s) w.0).least in
    let size = length-append s (join ss) in
    on_items ◌∷◌ (λ rest. takes (section_size rest) (take (section_size rest) rest)) [] (s ++ join ss) (length s) s (omega arith) (omega arith)
    (rw (says_size s (join ss) w.0, take_at s (join ss) (length s) refl))
    ∙ ap (λ (rest : List (List ℕ)). s ∷ rest) (ap cut (drop_at s (join ss) (length s) refl) ∙ cut_join ss w.1)

-- so are the sections that the rule finishes: their joined bytes in the output say where each of them is
pub rule_cut : (s : State) (p : Packet) → contradicting s.held ≡ false → cut (join (rule s p).sections) ≡ (rule s p).sections
rule_cut s p h = cut_join (rule s p).sections (rule_keeps s p h).whole
