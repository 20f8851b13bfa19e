-- The counts of a generated schedule, and their text: the functions of `src/counts.rt`, `write_counts` and the words of `run_generated` cite these.
use Rattle.std.specs.Prelude.{ℕ, ◌+◌, List, [], ◌∷◌, ◌++◌, length, take, codes}
use Rattle.std.specs.Fmt.{decimal}
use Rattle.net_world.specs.declared.summaries.CloneSummary.{CloneSummary}

-- how many dots a clock has: as many of each path as it has ticks
abbrev pub count_of_dots : List (List ℕ × ℕ) → ℕ
count_of_dots [] = 0
count_of_dots (known ∷ rest) = known.1 + count_of_dots rest

-- the line of a clone: the ranges of its journal, its pairs, and the dots that it knows
abbrev pub clone_line : ℕ → CloneSummary → List ℕ
clone_line number clone =
    codes "clone " ++ (decimal number ++ (codes " ranges " ++ (decimal (length clone.journal.items) ++ (codes " tagged "
    ++ (decimal (length clone.tagged.items) ++ (codes " known " ++ (decimal (count_of_dots clone.known.items) ++ codes "\n")))))))

-- the lines of clones, of which the first has the number
abbrev pub clone_lines : ℕ → List CloneSummary → List ℕ
clone_lines number [] = []
clone_lines number (clone ∷ clones) = clone_line number clone ++ clone_lines (number + 1) clones

-- how many lines a schedule has, and then the lines of the four clones that its domain line founds
abbrev pub counts_text : ℕ → List CloneSummary → List ℕ
counts_text lines clones = (codes "lines " ++ (decimal lines ++ codes "\n")) ++ clone_lines 0 (take 4 clones)
