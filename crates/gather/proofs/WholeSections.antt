-- Sections that a payload holds are the ones that are finished: whole sections and then 0xFF, or nothing, and a section spread over any number of packets.
-- Assumes nothing.
use mathlib.Core.Path.{◌≡◌, refl, ◌∙◌, ap}
use mathlib.Core.Bool.{true}
use mathlib.Core.List.{List, [], ◌∷◌, ◌++◌, append_assoc}
use Prim.Native.Nat.{ℕ}
use native.Mathlib.Numerals.{one-add}
use native.Mathlib.Omega.{arith}
use lib.ListN.{length}
use lib.Seq.{take_at, drop_at, take-length}
use Rattle.ground.specs.Walk.{Every}
use Rattle.gather.specs.declared.kind.Kind.TheVariants.{Nothing, Whole}
use Rattle.gather.specs.Kind.{classify, join}
use Rattle.gather.specs.Rule.{Packet, Yield, Outcome, add, walk, started, ended, together, jumps, kept}
use Rattle.gather.proofs.Classes.{whole_again}
use Rattle.gather.specs.Claims.{IsWhole, Exactly}
use Rattle.gather.proofs.Walk.{walk_kind}
use Rattle.gather.proofs.RuleOnMemory.{rule_taken}
use Rattle.gather.proofs.RuleKeeps.{add_alone, kept_fine}

-- whole sections and then nothing: exactly those
pub walk_exact : (ss : List (List ℕ)) (t : List ℕ) → Every IsWhole ss → classify t ≡ Nothing
    → walk (join ss ++ t) ≡ record { sections = ss; held = []; given_up = 0 }
walk_exact [] t w e = walk_kind t Nothing e
walk_exact (s ∷ ss) t w e =
    let again : classify (s ++ (join ss ++ t)) ≡ Whole (length s) = rw (take-length s) at (whole_again s (length s) (join ss ++ t) w.0) in
    rw append_assoc
    (walk_kind (s ++ (join ss ++ t)) (Whole (length s)) again
    ∙ rw (take_at s (join ss ++ t) (length s) refl, drop_at s (join ss ++ t) (length s) refl, walk_exact ss t w.1 e))

-- the same of a packet with unit start: the p bytes f for the held section, then the sections
pub started_exact : (held f : List ℕ) (ss : List (List ℕ)) (t : List ℕ) → Every IsWhole ss → classify t ≡ Nothing
    → started held (length f ∷ (f ++ (join ss ++ t)))
    ≡ together (ended (add held f)) (record { sections = ss; held = []; given_up = 0 })
unfolding started
started_exact held f ss t w e =
    rw (one-add (length f), take_at f (join ss ++ t) (length f) refl, drop_at f (join ss ++ t) (length f) refl, walk_exact ss t w e)

-- and so of the rule, unless the packet is a repeat
pub rule_exact : Exactly
rule_exact s counter ss t h r w e =
    let p : Packet = record { counter = counter; start = true; payload = 0 ∷ (join ss ++ t) } in
    let b = jumps s.last counter in
    let on = rule_taken s p (λ z. omega arith) r in
    let all = started_exact (kept b s.held) [] ss t w e in (
      ap (λ (o : Outcome). o.sections) on
          ∙ ap (λ (y : Yield). y.sections) all
          ∙ ap (λ (l : List (List ℕ)). l ++ ss) (add_alone (kept b s.held) (kept_fine b s.held h)),
      ap (λ (o : Outcome). o.next.held) on ∙ ap (λ (y : Yield). y.held) all,
    )
