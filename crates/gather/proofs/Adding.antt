-- Bytes added to held ones: one step of the walk on both together, by their kind.
-- Assumes nothing.
use mathlib.Core.Path.{◌≡◌, refl, sym, ◌∙◌, ap}
use mathlib.Core.Bool.{Bool, true, false}
use mathlib.Core.List.{List, [], ◌++◌, append-nil}
use mathlib.Core.Logic.{◌⊎◌, inl, inr}
use Prim.Native.Nat.{ℕ, ◌+◌, ◌-◌, ◌≤◌, ◌<◌}
use native.Mathlib.Omega.{arith}
use lib.Dec.{eqb}
use lib.ListN.{length, take, length-append}
use lib.Seq.{length-take-le, take-length}
use borrow.Author.Tests.{eq-eqb, ne_eqb, eqb-true, eqb-false}
use Rattle.ground.specs.Write.{put}
use Rattle.ground.proofs.Write.{put_nil}
use Rattle.ground.proofs.Part.{length_part, put_after}
use Rattle.gather.specs.declared.kind.Kind.{Kind}
use Rattle.gather.specs.declared.kind.Kind.TheVariants.{Nothing, Part, Overlong, Whole}
use Rattle.gather.specs.Kind.{classify, join}
use Rattle.gather.specs.Rule.{Yield, nothing, first, add}
use Rattle.gather.specs.Memory.{stretch}
use Rattle.gather.proofs.Classes.{whole_fits, part_fits}
use Rattle.gather.proofs.Walk.{Fine, none_fine, first_fine}

-- with no bytes held nothing comes of it
pub add_none : (held new : List ℕ) → length held ≡ 0 → add held new ≡ nothing
unfolding add
add_none held new e = rw (eq-eqb (length held) 0 e)

-- else it is one step on both together
pub add_kind : (held new : List ℕ) (k : Kind) → 0 < length held → classify (held ++ new) ≡ k → add held new ≡ first k (held ++ new) nothing
unfolding add
add_kind held new k h e = rw (ne_eqb (length held) 0 (omega arith), e)

-- a fact of nothing and of one step, whatever the kind, is a fact of `add`
pub add_ind : (P : List ℕ → List ℕ → Yield → Type 0)
    → ((held new : List ℕ) → P held new nothing)
    → ((held new : List ℕ) (k : Kind) → 0 < length held → classify (held ++ new) ≡ k → P held new (first k (held ++ new) nothing))
    → (held new : List ℕ) → P held new (add held new)
add_ind P none step held new = go (eqb (length held) 0) refl
  where
    go : (b : Bool) → eqb (length held) 0 ≡ b → P held new (add held new)
    go true e = rw (add_none held new (eqb-true (length held) 0 e)) (none held new)
    go false e =
        let h = eqb-false (length held) 0 e in
        let l : 0 < length held = omega arith in
        rw (add_kind held new (classify (held ++ new)) l refl) (step held new (classify (held ++ new)) l refl)

pub add_fine : (held new : List ℕ) → Fine (add held new)
add_fine = add_ind (λ held new y. Fine y) (λ held new. none_fine) (λ held new k h e. first_fine (held ++ new) k nothing e none_fine)

-- where the bytes are: the section stands at the start of both together, and what is held is both or nothing
pub record Added (held new : List ℕ) (y : Yield) : Type 0 where
  pub joined : take (length (join y.sections)) (held ++ new) ≡ join y.sections
  pub within : length (join y.sections) ≤ length held + length new
  pub most : length (join y.sections) ≤ 4096
  pub bound : length y.held ≤ 4095
  pub rest : length y.held ≤ length held + length new
  pub kept : (y.held ≡ []) ⊎ ((y.held ≡ held ++ new) × (length (held ++ new) ≤ 4095))

pub add_split : (held new : List ℕ) → Added held new (add held new)
add_split = add_ind Added (λ held new. none_or held new 0) step
  where
    none_or : (held new : List ℕ) (g : ℕ) → Added held new (record { sections = []; held = []; given_up = g })
    none_or held new g = record { joined = refl; within = omega arith; most = omega arith; bound = omega arith; rest = omega arith; kept = inl refl }

    step : (held new : List ℕ) (k : Kind) → 0 < length held → classify (held ++ new) ≡ k → Added held new (first k (held ++ new) nothing)
    step held new Nothing h e = none_or held new 0
    step held new Part h e =
        let f = (part_fits (held ++ new) e).1 in
        record { joined = refl; within = omega arith; most = omega arith; bound = f; rest = rw length-append (omega arith); kept = inr (refl, f) }
    step held new Overlong h e = none_or held new 1
    step held new (Whole n) h e =
        let w = whole_fits (held ++ new) n e in
        let size : length (take n (held ++ new) ++ []) ≡ n = ap length (append-nil (take n (held ++ new))) ∙ length-take-le n (held ++ new) w.within in
        record {
          joined = rw size (sym (append-nil (take n (held ++ new))));
          within = rw size (rw length-append at w.within);
          most = rw size w.most;
          bound = omega arith;
          rest = omega arith;
          kept = inl refl;
        }

-- ---- what is held after bytes were added, written behind what stands in the store
pub put_added : (store : List ℕ) (base n : ℕ) (new : List ℕ) → base + 4096 ≤ length store → n ≤ 4095
    → put store (base + n) (take (length (add (stretch n store base) new).held - n) new) ≡ put store base (add (stretch n store base) new).held
put_added store base n new h m =
    go (add (stretch n store base) new).held (add_split (stretch n store base) new).kept
  where
    size : length (stretch n store base) ≡ n
    size = length_part n store base (omega arith)

    go : (rest_after : List ℕ) → (rest_after ≡ []) ⊎ ((rest_after ≡ stretch n store base ++ new) × (length (stretch n store base ++ new) ≤ 4095))
        → put store (base + n) (take (length rest_after - n) new) ≡ put store base rest_after
    go rest_after (inl e) =
        let z : 0 - n ≡ 0 = omega arith in
        rw (e, z, put_nil store (base + n), put_nil store base)
    go rest_after (inr (e, l)) =
        let sum : length (stretch n store base ++ new) ≡ n + length new = length-append (stretch n store base) new ∙ ap (λ (k : ℕ). k + length new) size in
        let rest : length rest_after - n ≡ length new = let t = ap length e in omega arith in
        rw (rest, take-length new, e) (sym (put_after store base n new (let t = rw sum at l in omega arith)))
