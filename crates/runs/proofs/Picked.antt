-- The sections that a filter is handed by their sets are those that it lets through.
-- Assumes nothing.
use mathlib.Core.Path.{◌≡◌, refl, ◌∙◌, ap, fun_ext}
use mathlib.Core.Bool.{Bool, cond, ◌&&◌}
use mathlib.Core.List.{List, [], ◌∷◌, ◌++◌, map}
use Prim.Native.Nat.{ℕ, ◌+◌, ◌<◌}
use lib.ListN.{length, drop}
use Rattle.ground.specs.Set.{is_in}
use Rattle.ground.specs.Walk.{keep}
use Rattle.ground.specs.Write.{put}
use Rattle.ground.proofs.Set.{in_set}
use Rattle.state.specs.State.{stands_on}
use Rattle.state.specs.Choice.{lets, choice_of, places_of, free_place, is_for, places_for}
use Rattle.state.specs.declared.State.{State}
use Rattle.state.proofs.Chosen.{placed_at}
use Rattle.runs.specs.History.{picked}
use Rattle.runs.proofs.Ledger.{filter_at, code_at}

-- two tests that are the same keep the same
pub keep_same : {p q : List ℕ → Bool} → ((x : List ℕ) → p x ≡ q x) → (l : List (List ℕ)) → keep p l ≡ keep q l
keep_same each l = ap (λ (p : List ℕ → Bool). keep p l) (fun_ext each)

-- sections are picked by the sets that stand for them
by_sets : (place : ℕ) (g : List ℕ → ℕ) (ss : List (List ℕ)) (rest : List ℕ) → picked place (map g ss ++ rest) ss ≡ keep (λ x. is_in place (g x)) ss
by_sets place g [] rest = refl
by_sets place g (s ∷ ss) rest = ap (λ (l : List (List ℕ)). cond (is_in place (g s)) (s ∷ l) l) (by_sets place g ss rest)

pub picked_told : (place : ℕ) (g : List ℕ → ℕ) (ss : List (List ℕ)) (lent : List ℕ) → picked place (put lent 0 (map g ss)) ss ≡ keep (λ x. is_in place (g x)) ss
unfolding put
picked_told place g ss lent = by_sets place g ss (drop (0 + length (map g ss)) lent)

-- a place is in a section's set by what stands there
pub in_places : (s : State) (i table place : ℕ) → place < length s.filters
    → is_in place (places_for i table (places_of s)) ≡ (stands_on i (filter_at s place) && lets (choice_of (code_at s place)) table)
in_places s i table place h =
    in_set (is_for i table) (places_of s) place free_place refl ∙ ap (is_for i table) (placed_at s.filters s.choices place h)
