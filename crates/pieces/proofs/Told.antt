-- A turn and an outcome are told by their parts.
-- Assumes nothing.
use Rattle.std.proofs.Common.{◌≡◌, ℕ, Bool, List, ap, ◌∙◌, ap₂}
use Rattle.text.specs.Text.{Text}
use Rattle.pieces.specs.Input.{Work, Between, Turn}
use Rattle.pieces.specs.Piece.{Held, outcome_of}

pub same_turn : {w w' : Work} {k k' l l' : List ℕ} (on : Bool) → w ≡ w' → k ≡ k' → l ≡ l'
    → ◌≡◌ {A = Turn} (record { between = record { work = w; kept = k }; lines = l; is_on = on }) (record { between = record { work = w'; kept = k' }; lines = l'; is_on = on })
same_turn on work kept lines =
    ap₂ (λ (b : Between) (l : List ℕ). record { between = b; lines = l; is_on = on }) (ap₂ (λ (w : Work) (k : List ℕ). record { work = w; kept = k }) work kept) lines

pub same_outcome : (h : Held) {w w' : Work} {t t' : Text} {piece piece' : List ℕ} (kept : ℕ) (is_on : Bool) → w ≡ w' → t ≡ t' → piece ≡ piece'
    → outcome_of h w t piece kept is_on ≡ outcome_of h w' t' piece' kept is_on
same_outcome h {w} {w'} {t} {t'} {piece} {piece'} kept is_on work text bytes =
    ap₂ (λ (v : Work) (u : Text). outcome_of h v u piece kept is_on) work text ∙ ap (λ (l : List ℕ). outcome_of h w' t' l kept is_on) bytes
