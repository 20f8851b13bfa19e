-- What the words of the program say: `run` cites `IsGenerate` and `AreUnknown`, and `read_words` `AreSaid`.
use Rattle.std.specs.Prelude.{◌≡◌, ℕ, ◌<◌, ◌≤◌, ◌^◌, List, [], ◌∷◌, codes, map, String, string_bytes}
use Rattle.std.specs.declared.alloc.Global.{Global}
use Rattle.std.specs.Fmt.{decimal}
use Rattle.mld_replay.specs.Ran.{IsReplay}
use Rattle.mld_replay.specs.declared.words.Words.{Words}
use Rattle.mld_replay.specs.declared.words.Words.TheVariants.{Replay, Generate, Unknown}

-- the texts of words
abbrev pub texts_of : List (String Global) → List (List ℕ)
texts_of words = map (λ w. string_bytes w) words

-- how many commands a generated schedule has at most
abbrev pub command_limit : ℕ
command_limit = 10000

-- the words are `gen SEED N`
pub record IsGenerate (words : List (List ℕ)) (seed count : ℕ) : Type 0 where
  pub whole : words ≡ codes "gen" ∷ decimal seed ∷ decimal count ∷ []
  pub small : seed < 2 ^ 64
  pub few : count ≤ command_limit

-- they are neither
pub record AreUnknown (words : List (List ℕ)) : Type 0 where
  pub no_replay : ¬ IsReplay words
  pub no_generate : (seed count : ℕ) → ¬ IsGenerate words seed count

-- what the words say
abbrev pub AreSaid : List (List ℕ) → Words → Type 0
AreSaid words Replay = IsReplay words
AreSaid words (Generate seed count) = IsGenerate words seed count
AreSaid words Unknown = AreUnknown words
