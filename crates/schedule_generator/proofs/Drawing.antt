-- One more line behind those that are drawn.
use Rattle.std.proofs.Common.{◌≡◌, ◌∙◌, ◌<◌, ℕ, suc, ◌+◌, ◌-◌, List, [], ◌∷◌, ◌++◌, ap, arith, sym}
use Rattle.std.proofs.lemmas.List.{append_assoc}
use Rattle.schedule_generator.specs.Generated.{drawn_line, lines_from}

-- the lines that are left, the first of which is drawn next
pub first_left : (number x n i : ℕ) → i < n → lines_from number x (n - i) ≡ (drawn_line number x).line ∷ lines_from (number + 1) (drawn_line number x).state (n - (i + 1))
first_left number x n i below =
    let one : n - i ≡ suc (n - (i + 1)) = omega (arith, below) in
    ap (lines_from number x) one

-- a line was put behind those that stand, and those that are left follow it
pub one_more : (items whole : List (List ℕ)) (x n i : ℕ) → i < n → items ++ lines_from (i + 1) x (n - i) ≡ whole
    → (line : List ℕ) (m next : ℕ) → m ≡ i → line ≡ (drawn_line (m + 1) x).line → next ≡ (drawn_line (m + 1) x).state
    → (items ++ line ∷ []) ++ lines_from (i + 1 + 1) next (n - (i + 1)) ≡ whole
one_more items whole x n i below is line m next same said moves =
    rw (said, moves, same) (append_assoc items ((drawn_line (i + 1) x).line ∷ []) (lines_from (i + 1 + 1) (drawn_line (i + 1) x).state (n - (i + 1)))
    ∙ ap (λ (ls : List (List ℕ)). items ++ ls) (sym (first_left (i + 1) x n i below)) ∙ is)
