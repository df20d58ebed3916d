-- Request 10 of document 02, "How many sections can one packet start?": how what is counted of a packet, or of several, adds up.
use Rattle.std.specs.Prelude.{◌≡◌, ℕ, ◌+◌}
use Rattle.gather.specs.Rule.{unfinished_of}

-- "sections begun, plus one if bytes were held before, equal sections finished plus given up, plus one if bytes are held after"; of what is held the number of bytes is given
abbrev pub AddsUp : ℕ → ℕ → ℕ → ℕ → ℕ → Type 0
AddsUp begun before finished given_up after = begun + unfinished_of before ≡ finished + given_up + unfinished_of after
