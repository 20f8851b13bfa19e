-- The limit of slots. The calls that make slots cite it.
use Rattle.std.specs.Prelude.{ℕ}

-- as many slots have a number: 2 ^ 32
abbrev pub slots_limit : ℕ
slots_limit = 4294967296
