-- The lines of a schedule that is drawn from a seed. Draws come in the order in which what they give is written.
use Rattle.std.specs.Prelude.{ℕ, zero, suc, ◌+◌, ◌*◌, ◌/◌, ◌%◌, ◌^◌, List, [], ◌∷◌, ◌++◌, codes, nat_le, ◌==◌, if◌then◌else◌}
use Rattle.std.specs.List.{flat_map}
use Rattle.std.specs.Fmt.{decimal}
use Rattle.mld_io.specs.Lines.{line_break}

-- the state behind a draw: a linear congruential generator with the factor and the addend of Knuth's MMIX
unfoldable pub next_state : ℕ → ℕ
next_state x = (x * 6364136223846793005 + 1442695040888963407) % 2 ^ 64

-- what a draw of so many gives at a state: a number below that
unfoldable pub drawn : ℕ → ℕ → ℕ
drawn count x = next_state x / 2 ^ 33 % count

-- a line, without its LF, and the state behind its draws
pub record DrawnLine : Type 0 where
  pub line : List ℕ
  pub state : ℕ

-- `add` or `remove`, then a clone of 4 and a triple: a subject of 50, a predicate of 5, a text of 20
unfoldable pub change : List ℕ → ℕ → DrawnLine
change word x =
    let subject : ℕ = next_state x in
    let predicate : ℕ = next_state subject in
    let text : ℕ = next_state predicate in
    record {
      line = word ++ (codes " " ++ (decimal (drawn 4 x) ++ (codes " <http://gen.example/s" ++ (decimal (drawn 50 subject)
          ++ (codes "> <http://gen.example/#p" ++ (decimal (drawn 5 predicate) ++ (codes "> \"" ++ (decimal (drawn 20 text) ++ codes "\" ."))))))));
      state = next_state text;
    }

-- `deliver`, then the number of a message, which is one more than a draw of the line's own number, and a clone of 4
unfoldable pub delivery : ℕ → ℕ → DrawnLine
delivery number x =
    let clone : ℕ = next_state x in
    record { line = codes "deliver " ++ (decimal (drawn number x + 1) ++ (codes " " ++ decimal (drawn 4 clone))); state = next_state clone }

-- `ask` or `compact`, then a clone of 4
unfoldable pub of_clone : List ℕ → ℕ → DrawnLine
of_clone word x = record { line = word ++ (codes " " ++ decimal (drawn 4 x)); state = next_state x }

-- `truncate` or `compare`, then a clone of 4, and a number of so many
unfoldable pub of_clone_and : List ℕ → ℕ → ℕ → DrawnLine
of_clone_and word count x =
    let other : ℕ = next_state x in
    record { line = word ++ (codes " " ++ (decimal (drawn 4 x) ++ (codes " " ++ decimal (drawn count other)))); state = next_state other }

-- one of three commands, by a draw of 3
unfoldable pub one_of_three : ℕ → DrawnLine
one_of_three x =
    let kind : ℕ = drawn 3 x in
    if kind == 0 then of_clone (codes "compact") (next_state x)
    else if kind == 1 then of_clone_and (codes "truncate") 20 (next_state x)
    else of_clone_and (codes "compare") 4 (next_state x)

-- the command line of a number, by a draw of 10, at a state
unfoldable pub drawn_line : ℕ → ℕ → DrawnLine
drawn_line number x =
    let kind : ℕ = drawn 10 x in
    if nat_le kind 4 then change (codes "add") (next_state x)
    else if kind == 5 then change (codes "remove") (next_state x)
    else if nat_le kind 7 then delivery number (next_state x)
    else if kind == 8 then of_clone (codes "ask") (next_state x)
    else one_of_three (next_state x)

-- so many command lines, from the one of a number on, at a state
abbrev pub lines_from : ℕ → ℕ → ℕ → List (List ℕ)
lines_from number x zero = []
lines_from number x (suc count) = (drawn_line number x).line ∷ lines_from (number + 1) (drawn_line number x).state count

-- the lines of a seed and a number: the domain line, and so many command lines, the first of which has the number 1
abbrev pub generated : ℕ → ℕ → List (List ℕ)
generated seed count = codes "domain gen.example clones 4" ∷ lines_from 1 seed count

-- the text of lines: each with its LF
abbrev pub text_of : List (List ℕ) → List ℕ
text_of lines = flat_map (λ line. line ++ line_break ∷ []) lines
