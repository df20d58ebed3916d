-- Turn after turn the whole input is listed, whatever the reads bring.
-- Assumes nothing.
use mathlib.Core.Path.{◌≡◌, refl, sym, ◌∙◌, ap}
use mathlib.Core.Bool.{Bool, true, false, cond, ◌&&◌}
use mathlib.Core.List.{[], ◌++◌}
use Prim.Native.Nat.{◌<◌}
use lib.ListN.{length}
use Rattle.ground.proofs.Test.{both_true}
use Rattle.pieces.specs.Input.{Between, Turn, Reading, more, ended, failed, turn_of, after_read, after_end}
use Rattle.pieces.proofs.Cuts.{read_read, read_none}
use Rattle.listing.specs.Listing.{TakesTurn, ListsInput}

-- ---- a turn that what was brought makes is a turn, and where its lines were not written it is the last
pub takes_turn : (b b₁ : Between) (t : Turn) (r : Reading) (written : Bool) → b₁ ≡ b → t ≡ turn_of b₁ r
    → TakesTurn b (record { between = t.between; lines = t.lines; is_on = t.is_on && written })
takes_turn b b₁ t r written same turn =
    let whole : t ≡ turn_of b r = turn ∙ ap (λ (x : Between). turn_of x r) same in
    record {
      reading = r;
      between = ap (λ (x : Turn). x.between) whole;
      lines = ap (λ (x : Turn). x.lines) whole;
      is_on = λ on. ap (λ (x : Turn). x.is_on) (sym whole) ∙ (both_true t.is_on written on).0;
    }

-- ---- the loop before its first turn
pub lists_none : (b : Between) (is_on : Bool) → length b.kept < 188 → ListsInput b b is_on
lists_none b is_on h = record { input = []; is_ended = false; between = sym (read_none b h); goes_on = λ on. refl }

-- ---- and after one turn more
pub lists_on : (b b₁ : Between) (is_on : Bool) (t : Turn) → is_on ≡ true → ListsInput b b₁ is_on → TakesTurn b₁ t → ListsInput b t.between t.is_on
lists_on b b₁ is_on t on listed taken = go taken.reading taken.between taken.is_on
  where
    so_far : b₁ ≡ after_read b listed.input
    so_far =
        listed.between
        ∙ ap (λ (e : Bool). cond e (after_end (after_read b listed.input)) (after_read b listed.input)) (listed.goes_on on)

    go : (r : Reading) → t.between ≡ (turn_of b₁ r).between → (t.is_on ≡ true → (turn_of b₁ r).is_on ≡ true) → ListsInput b t.between t.is_on
    go (more x) is goes =
        record {
          input = listed.input ++ x;
          is_ended = false;
          between = is ∙ ap (λ (c : Between). after_read c x) so_far ∙ read_read b listed.input x;
          goes_on = λ h. refl;
        }
    go ended is goes =
        record {
          input = listed.input;
          is_ended = true;
          between = is ∙ ap after_end so_far;
          goes_on = λ h. sym (goes h);
        }
    go failed is goes = record { input = listed.input; is_ended = false; between = is ∙ so_far; goes_on = λ h. refl }
