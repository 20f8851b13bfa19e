-- Ticks, dots and clocks as bytes. A tick has four bytes. A dot is its path and its tick, and a clock the list of its paths, each
-- with its ticks, by path.
use Rattle.std.specs.Prelude.{ℕ, ◌-◌, List, ◌++◌, Option, Some, None, nat_le, length, if◌then◌else◌}
use Rattle.std.specs.List.{slice_get}
use Rattle.mld_bytes.specs.Bytes.{u32_bytes}
use Rattle.tree_clock.specs.Clock.{entry_cmp}
use Rattle.tree_clock.specs.declared.dots.Dot.{Dot}
use Rattle.op_codec.specs.StoredLists.{list_bytes, is_above, read_list}
use Rattle.op_codec.specs.Paths.{path_bytes, read_path}
use Rattle.op_codec.specs.Reading.{Reading, Found, Fault, chain, read_u32}

-- a tick as it is written
abbrev pub tick_bytes : ℕ → List ℕ
tick_bytes tick = u32_bytes tick

-- a tick, of any number
abbrev pub read_any_tick : ℕ → List ℕ → Reading ℕ
read_any_tick place bytes = read_u32 place bytes

-- a tick from 1 on
abbrev pub read_tick : ℕ → List ℕ → Reading ℕ
read_tick place bytes =
    chain (read_any_tick place bytes) (λ tick next rest. if nat_le 1 tick then Found tick next rest else Fault place)

-- a dot as it is written
abbrev pub dot_bytes : Dot → List ℕ
dot_bytes dot = path_bytes dot.path ++ tick_bytes dot.tick

-- a dot
unfoldable pub read_dot : ℕ → List ℕ → Reading Dot
read_dot place bytes =
    chain (read_path place bytes) (λ path next rest.
    chain (read_tick next rest) (λ tick end left. Found (record { path = path; tick = tick }) end left))

-- a path with its ticks as it is written
abbrev pub ticks_bytes : List ℕ × ℕ → List ℕ
ticks_bytes ticks = dot_bytes (record { path = ticks.0; tick = ticks.1 })

-- a path with its ticks
abbrev pub read_ticks : ℕ → List ℕ → Reading (List ℕ × ℕ)
read_ticks place bytes = chain (read_dot place bytes) (λ dot next rest. Found (dot.path, dot.tick) next rest)

-- the path of ticks, where there are any
abbrev pub path_of_ticks : Option (List ℕ × ℕ) → Option (List ℕ)
path_of_ticks None = None
path_of_ticks (Some ticks) = Some ticks.0

-- the last path of a clock, if it has one
abbrev pub last_path : List (List ℕ × ℕ) → Option (List ℕ)
last_path ticks = path_of_ticks (slice_get ticks (length ticks - 1))

-- a clock as it is written
unfoldable pub clock_bytes : List (List ℕ × ℕ) → List ℕ
clock_bytes ticks = list_bytes ticks_bytes ticks

-- a clock
unfoldable pub read_clock : ℕ → List ℕ → Reading (List (List ℕ × ℕ))
read_clock place bytes = read_list read_ticks (is_above entry_cmp) place bytes
