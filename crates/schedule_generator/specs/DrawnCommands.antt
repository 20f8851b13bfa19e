-- What the command lines of a generated schedule are, whatever is drawn for them.
use Rattle.std.specs.Prelude.{◌≡◌, ℕ, ◌<◌, ◌^◌, List, ◌++◌, codes}
use Rattle.std.specs.Fmt.{decimal}

-- a triple of these numbers, as it is written
abbrev pub drawn_triple : ℕ → ℕ → ℕ → List ℕ
drawn_triple subject predicate text =
    codes "<http://gen.example/s" ++ (decimal subject ++ (codes "> <http://gen.example/#p" ++ (decimal predicate ++ (codes "> \"" ++ (decimal text ++ codes "\" .")))))

-- a line is one of the seven commands, with numbers within these bounds
pub data IsDrawn (line : List ℕ) : Type 0 where
  adds : (clone subject predicate text : ℕ) → clone < 4 → subject < 50 → predicate < 5 → text < 20
      → line ≡ codes "add " ++ (decimal clone ++ (codes " " ++ drawn_triple subject predicate text)) → IsDrawn line
  removes : (clone subject predicate text : ℕ) → clone < 4 → subject < 50 → predicate < 5 → text < 20
      → line ≡ codes "remove " ++ (decimal clone ++ (codes " " ++ drawn_triple subject predicate text)) → IsDrawn line
  delivers : (message clone : ℕ) → message < 2 ^ 64 → clone < 4 → line ≡ codes "deliver " ++ (decimal message ++ (codes " " ++ decimal clone)) → IsDrawn line
  asks : (clone : ℕ) → clone < 4 → line ≡ codes "ask " ++ decimal clone → IsDrawn line
  compacts : (clone : ℕ) → clone < 4 → line ≡ codes "compact " ++ decimal clone → IsDrawn line
  truncates : (clone keep : ℕ) → clone < 4 → keep < 20 → line ≡ codes "truncate " ++ (decimal clone ++ (codes " " ++ decimal keep)) → IsDrawn line
  compares : (clone other : ℕ) → clone < 4 → other < 4 → line ≡ codes "compare " ++ (decimal clone ++ (codes " " ++ decimal other)) → IsDrawn line
