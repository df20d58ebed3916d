-- What may be missing: "a missing one is not zero".
use Rattle.std.specs.Prelude.{Bool, cond, ℕ, Some, None}
use Rattle.std.specs.declared.option.Option.{Option}

-- there where the test holds
abbrev pub perhaps : {A : Type 0} → Bool → A → Option A
perhaps b x = cond b (Some x) None

-- 1 where it is there, 0 where it is missing
abbrev pub presence : {A : Type 0} → Option A → ℕ
presence (Some x) = 1
presence None = 0
