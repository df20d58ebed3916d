-- What the public call promises.
use Rattle.std.specs.Prelude.{◌≡◌, Bool}
use Rattle.state.specs.declared.State.{State}
use Rattle.sound.specs.Sound.{sound}

-- `is_sound`
abbrev pub TellsSoundState : State → Bool → Type 0
TellsSoundState s r = r ≡ sound s
