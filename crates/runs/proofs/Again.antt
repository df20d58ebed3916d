-- What the rule completes from a jump on hangs on nothing that came before it, so filters on a fresh area are handed the same.
-- Assumes nothing.
use mathlib.Core.Path.{◌≡◌, refl, sym, ◌∙◌, ap, ap₂}
use mathlib.Core.Bool.{true}
use mathlib.Core.List.{List, [], ◌∷◌, ◌++◌, append-nil, append_assoc}
use Prim.Native.Nat.{ℕ, zero, suc, ◌+◌, ◌≤◌}
use native.Mathlib.Nat.{le_of_suc-le-suc, add-zero, add-suc}
use native.Mathlib.Omega.{arith}
use lib.ListN.{length, drop}
use Rattle.ground.proofs.Walk.{keep_append}
use Rattle.gather.specs.Rule.{State, Packet, Outcome, rule}
use Rattle.gather.proofs.AsNew.{as_new}
use Rattle.section.specs.Section.{table_of}
use Rattle.state.specs.Choice.{lets, through}
use Rattle.runs.specs.Run.{ours}
use Rattle.runs.specs.History.{remembered, completed}
use Rattle.runs.specs.Demand.{history}
use Rattle.runs.specs.AsNew.{packets_for, since_open, Completes, HandedAgain}
use Rattle.runs.proofs.AsRun.{remembered_none, remembered_one, completed_none, completed_one}
use Rattle.runs.proofs.Steps.{ledger}

module _ (earlier : List Packet) (p : Packet) (jump : (rule (remembered earlier) p).jump ≡ true) where
  -- the packet that jumps, and the same to a blank area
  jumps_as_blank : ((rule (remembered earlier) p).next ≡ (rule (remembered []) p).next) × ((rule (remembered earlier) p).sections ≡ (rule (remembered []) p).sections)
  jumps_as_blank =
      let is = as_new.jump.call (remembered earlier) p jump in (
        ap (λ (o : Outcome). o.next) is ∙ ap (λ (s : State). (rule s p).next) (sym remembered_none),
        ap (λ (o : Outcome). o.sections) is ∙ ap (λ (s : State). (rule s p).sections) (sym remembered_none),
      )

  remembered_same : (later : List Packet) → remembered (later ++ p ∷ earlier) ≡ remembered (later ++ p ∷ [])
  remembered_same [] = remembered_one p earlier ∙ jumps_as_blank.0 ∙ sym (remembered_one p [])
  remembered_same (q ∷ later) =
      remembered_one q (later ++ p ∷ earlier) ∙ ap (λ (s : State). (rule s q).next) (remembered_same later) ∙ sym (remembered_one q (later ++ p ∷ []))

  completed_same : (later : List Packet) (k : ℕ) → k ≤ suc (length later) → completed k (later ++ p ∷ earlier) ≡ completed k (later ++ p ∷ [])
  completed_same later zero b = completed_none (later ++ p ∷ earlier) ∙ sym (completed_none (later ++ p ∷ []))
  completed_same [] (suc zero) b =
      completed_one 0 p earlier ∙ ap₂ (λ (x y : List (List ℕ)). x ++ y) (completed_none earlier ∙ sym (completed_none [])) jumps_as_blank.1 ∙ sym (completed_one 0 p [])
  completed_same [] (suc (suc k)) b = absurd (omega arith)
  completed_same (q ∷ later) (suc k) b =
      completed_one k q (later ++ p ∷ earlier)
      ∙ ap₂ (λ (x y : List (List ℕ)). x ++ y) (completed_same later k (le_of_suc-le-suc b)) (ap (λ (s : State). (rule s q).sections) (remembered_same later))
      ∙ sym (completed_one k q (later ++ p ∷ []))

pub completes : Completes
completes earlier later p jump k b = completed_same earlier p jump later k b

-- what is completed with some packets is what is completed with those before the last k, and then with the last k
completed_nothing : (k : ℕ) → completed k [] ≡ []
unfolding completed
completed_nothing zero = refl
completed_nothing (suc k) = refl

completed_both : (n k : ℕ) (ps : List Packet) → completed (n + k) ps ≡ completed n (drop k ps) ++ completed k ps
completed_both n zero ps = ap (λ (m : ℕ). completed m ps) (add-zero n) ∙ sym (ap (λ (x : List (List ℕ)). completed n ps ++ x) (completed_none ps) ∙ append-nil (completed n ps))
completed_both n (suc k) [] = completed_nothing (n + suc k) ∙ sym (ap₂ (λ (x y : List (List ℕ)). x ++ y) (completed_nothing n) (completed_nothing (suc k)))
completed_both n (suc k) (p ∷ ps) =
    ap (λ (m : ℕ). completed m (p ∷ ps)) (add-suc n k)
    ∙ completed_one (n + k) p ps
    ∙ ap (λ (x : List (List ℕ)). x ++ (rule (remembered ps) p).sections) (completed_both n k ps)
    ∙ append_assoc (completed n (drop k ps)) (completed k ps) (rule (remembered ps) p).sections
    ∙ ap (λ (x : List (List ℕ)). completed n (drop k ps) ++ x) (sym (completed_one k p ps))

pub handed_again : HandedAgain ours
handed_again store store₂ whole whole₂ calls calls₂ f g choice came came₂ earlier later p jump own other before few more =
    let h = history ours store calls in
    let h₂ = history ours store₂ calls₂ in
    let k = since_open g h₂ in
    (ledger store whole calls).hands f came
    ∙ ap (λ (n : ℕ). through f.choice (completed n (packets_for f h))) more
    ∙ ap (through f.choice) (completed_both before k (packets_for f h))
    ∙ keep_append (λ x. lets f.choice (table_of x)) (completed before (drop k (packets_for f h))) (completed k (packets_for f h))
    ∙ ap (λ (x : List (List ℕ)). through f.choice (completed before (drop k (packets_for f h))) ++ x)
    (ap₂ through choice (ap (completed k) own ∙ completed_same earlier p jump later k few ∙ ap (completed k) (sym other)) ∙ sym ((ledger store₂ whole₂ calls₂).hands g came₂))
