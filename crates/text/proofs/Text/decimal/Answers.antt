-- The digits that `io` spells are the number's, and go behind the text as a word.
-- Assumes nothing.
use mathlib.Core.Path.{◌∙◌, ap}
use native.Mathlib.Omega.{arith}
use Prim.Native.Nat.{◌<◌, ◌^◌}
use Rattle.text.specs.Text.{told_text, with_bytes}
use Rattle.text.proofs.Digits.{decimal_is}
use Rattle.text.proofs.Text.decimal.Goals as goal

pub returns : goal.returns
returns c =
    let a = c.args in
    let d = c.decimal-size in
    let below : a.n < 10 ^ 20 = omega arith in
    c.word.ensures
    ∙ ap (with_bytes (told_text a.self.now)) (d.ensures.digits ∙ decimal_is d.result a.n below d.ensures.len)
