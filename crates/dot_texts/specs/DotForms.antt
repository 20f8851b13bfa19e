-- Dots and clocks as texts write them. `read_dot` and `read_clock` cite it.
use Rattle.std.specs.Prelude.{◌≡◌, ℕ, ◌≤◌, List, [], ◌∷◌, ◌++◌, All, length, map, codes, Option, None, Some}
use Rattle.std.specs.List.{AllByRecursion}
use Rattle.std.specs.declared.cmp.Ordering.TheVariants.{Less}
use Rattle.tree_clock.specs.declared.dots.Dot.{Dot}
use Rattle.tree_clock.specs.Clock.{ClockValue, IsClock}
use Rattle.tree_clock.specs.Dot.{dot_text}
use Rattle.tree_clock.specs.Letters.{IsLetter}
use Rattle.tree_clock.specs.Limits.{path_limit, tick_limit}
use Rattle.tree_clock.specs.Path.{path_cmp}
use Rattle.mld_ops.specs.History.{dot_at}
use Rattle.schedule_text.specs.schedule_model.Lacking.{Lacks}

-- `.`, which stands between the path and the tick of a dot
abbrev pub full_stop : ℕ
full_stop = 46

-- `,`, with which dots are parted
abbrev pub comma : ℕ
comma = 44

-- these are the letters of a path
pub record ArePathLetters (letters : List ℕ) : Type 0 where
  pub each : All IsLetter letters
  pub few : length letters ≤ path_limit

-- a dot may have this tick
pub record MayBeTick (tick : ℕ) : Type 0 where
  pub positive : 1 ≤ tick
  pub within : tick ≤ tick_limit

-- a dot has a path and a tick
pub record MayBeDot (dot : Dot) : Type 0 where
  pub path : ArePathLetters dot.path
  pub tick : MayBeTick dot.tick

-- the text of a dot, as `r01.3`
pub record IsDotText (text : List ℕ) (dot : Dot) : Type 0 where
  pub is : MayBeDot dot
  pub spelled : text ≡ dot_text dot

-- dots, each behind a comma
abbrev pub behind_commas : List Dot → List ℕ
behind_commas [] = []
behind_commas (dot ∷ dots) = comma ∷ (dot_text dot ++ behind_commas dots)

-- dots with a comma between each two, and `-` where there is none
abbrev pub dots_text : List Dot → List ℕ
dots_text [] = codes "-"
dots_text (dot ∷ dots) = dot_text dot ++ behind_commas dots

-- the last dot of each path of a clock, by path
abbrev pub ends_of : List (List ℕ × ℕ) → List Dot
ends_of ticks = map (λ (entry : List ℕ × ℕ). dot_at entry.0 entry.1) ticks

-- the text of a clock: the last dots of its paths, in the order of these
pub record IsClockText (text : List ℕ) (clock : ClockValue) : Type 0 where
  pub ordered : IsClock clock.ticks
  pub each : AllByRecursion MayBeDot (ends_of clock.ticks)
  pub spelled : text ≡ dots_text (ends_of clock.ticks)

-- ---- how they are read

-- what stands up to the first such byte, and the rest behind that, where there is one
abbrev pub behind_mark : ℕ → Option (List ℕ) → List ℕ
behind_mark mark None = []
behind_mark mark (Some rest) = mark ∷ rest

pub record IsFirstPart (mark : ℕ) (text part : List ℕ) (rest : Option (List ℕ)) : Type 0 where
  pub whole : text ≡ part ++ behind_mark mark rest
  pub lacks : Lacks mark part

-- the path is above the last one, if there is one
abbrev pub IsAboveLast : Option (List ℕ) → List ℕ → Type 0
IsAboveLast None path = Unit {0}
IsAboveLast (Some last) path = path_cmp last path ≡ Less
