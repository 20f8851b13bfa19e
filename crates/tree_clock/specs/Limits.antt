-- The limits of paths and ticks. They are numbers, and not the constants of the code, so that a changed constant is refused.
use Rattle.std.specs.Prelude.{ℕ}

-- the letters that a path may have
abbrev pub path_limit : ℕ
path_limit = 64

-- the greatest tick that a path may have
abbrev pub tick_limit : ℕ
tick_limit = 4294967295
