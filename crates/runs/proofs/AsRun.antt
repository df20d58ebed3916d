-- What the rule remembers and completes with one packet more: the last packet is the end of the run.
-- Assumes nothing.
use mathlib.Core.Path.{◌≡◌, refl, sym, ◌∙◌, ap}
use mathlib.Core.List.{List, [], ◌∷◌, ◌++◌, reverse, reverse-cons, append-nil, append_assoc}
use Prim.Native.Nat.{ℕ, zero, suc}
use lib.ListN.{take, drop}
use Rattle.gather.specs.Rule.{State, Packet, blank, rule}
use Rattle.gather.specs.Run.{run}
use Rattle.runs.specs.History.{remembered, completed}

-- a run over two lists is a run over one and then over the other
run_next : (s : State) (a b : List Packet) → (run s (a ++ b)).next ≡ (run (run s a).next b).next
run_next s [] b = refl
run_next s (p ∷ a) b = run_next (rule s p).next a b

run_sections : (s : State) (a b : List Packet) → (run s (a ++ b)).sections ≡ (run s a).sections ++ (run (run s a).next b).sections
run_sections s [] b = refl
run_sections s (p ∷ a) b =
    ap (λ (x : List (List ℕ)). (rule s p).sections ++ x) (run_sections (rule s p).next a b)
    ∙ sym (append_assoc (rule s p).sections (run (rule s p).next a).sections (run (run (rule s p).next a).next b).sections)

-- ---- what is remembered
pub remembered_none : remembered [] ≡ blank
unfolding remembered
remembered_none = refl

pub remembered_one : (p : Packet) (ps : List Packet) → remembered (p ∷ ps) ≡ (rule (remembered ps) p).next
unfolding remembered
remembered_one p ps = ap (λ (l : List Packet). (run blank l).next) (reverse-cons p ps) ∙ run_next blank (reverse ps) (p ∷ [])

-- the last k packets go on from what the others left
goes_on : (k : ℕ) (ps : List Packet) → (run (remembered (drop k ps)) (reverse (take k ps))).next ≡ remembered ps
goes_on zero ps = refl
goes_on (suc k) [] = refl
goes_on (suc k) (p ∷ ps) =
    ap (λ (l : List Packet). (run (remembered (drop k ps)) l).next) (reverse-cons p (take k ps))
    ∙ run_next (remembered (drop k ps)) (reverse (take k ps)) (p ∷ [])
    ∙ ap (λ (s : State). (rule s p).next) (goes_on k ps)
    ∙ sym (remembered_one p ps)

-- ---- what is completed
pub completed_none : (ps : List Packet) → completed 0 ps ≡ []
unfolding completed
completed_none ps = refl

pub completed_one : (k : ℕ) (p : Packet) (ps : List Packet) → completed (suc k) (p ∷ ps) ≡ completed k ps ++ (rule (remembered ps) p).sections
unfolding completed
completed_one k p ps =
    ap (λ (l : List Packet). (run (remembered (drop k ps)) l).sections) (reverse-cons p (take k ps))
    ∙ run_sections (remembered (drop k ps)) (reverse (take k ps)) (p ∷ [])
    ∙ ap (λ (x : List (List ℕ)). completed k ps ++ x)
    (append-nil (rule (run (remembered (drop k ps)) (reverse (take k ps))).next p).sections ∙ ap (λ (s : State). (rule s p).sections) (goes_on k ps))
