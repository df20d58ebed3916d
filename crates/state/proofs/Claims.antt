-- Each promise is an equation with a definition, so its outcome is one; a search is the definition of what it finds; a choice and its number are read back.
-- Assumes nothing.
use mathlib.Core.Path.{sym}
use Rattle.std.specs.List.{position}
use Rattle.ground.proofs.Outcome.{determined}
use Rattle.state.specs.State.{fresh, has_pid, has_no_users, is_free, has_number}
use Rattle.state.specs.Choice.{placed, places_for}
use Rattle.state.specs.Claims.{Claims}
use Rattle.state.proofs.Chosen.{choice_back, code_back}
use Rattle.state.proofs.Found.{found_at}

pub claims : Claims
claims =
    record {
      makes_fresh = determined fresh;
      finds_area = λ areas pid. determined (position (has_pid pid) areas);
      finds_free_area = λ areas. determined (position has_no_users areas);
      finds_free_place = λ filters. determined (position is_free filters);
      finds_place = λ filters number. determined (position (has_number number) filters);
      tells_places = λ filters choices area table. determined (places_for area table (placed filters choices));
      area_found = λ areas pid. sym (found_at (has_pid pid) areas);
      free_area_found = λ areas. sym (found_at has_no_users areas);
      free_place_found = λ filters. sym (found_at is_free filters);
      place_found = λ filters number. sym (found_at (has_number number) filters);
      choice_back = choice_back;
      code_back = code_back;
    }
