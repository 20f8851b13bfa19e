-- Characters that terms and triples are written with, by their codes.
use Rattle.std.specs.Prelude.{ℕ}

-- a tab
abbrev pub tab : ℕ
tab = 9

-- LF
abbrev pub line_feed : ℕ
line_feed = 10

-- CR
abbrev pub carriage_return : ℕ
carriage_return = 13

-- a space
abbrev pub space : ℕ
space = 32

-- `"`
abbrev pub quote : ℕ
quote = 34

-- `'`
abbrev pub apostrophe : ℕ
apostrophe = 39

-- `-`
abbrev pub dash : ℕ
dash = 45

-- `.`
abbrev pub dot : ℕ
dot = 46

-- `:`
abbrev pub colon : ℕ
colon = 58

-- `<`
abbrev pub less : ℕ
less = 60

-- `>`
abbrev pub greater : ℕ
greater = 62

-- `@`
abbrev pub at_sign : ℕ
at_sign = 64

-- `\`
abbrev pub backslash : ℕ
backslash = 92

-- `^`
abbrev pub hat : ℕ
hat = 94

-- `U`, `b`, `f`, `n`, `r`, `t` and `u`, which stand behind backslashes
abbrev pub capital_u : ℕ
capital_u = 85

abbrev pub small_b : ℕ
small_b = 98

abbrev pub small_f : ℕ
small_f = 102

abbrev pub small_n : ℕ
small_n = 110

abbrev pub small_r : ℕ
small_r = 114

abbrev pub small_t : ℕ
small_t = 116

abbrev pub small_u : ℕ
small_u = 117
