-- Laws of the lines of an input.
use Rattle.std.specs.Prelude.{◌≡◌, ◌≢◌, ℕ, ◌+◌, ◌<◌, ◌≤◌, Bool, true, false, List, [], ◌∷◌, ◌++◌, length, ◌==◌}
use Rattle.std.proofs.Common.{refl, sym, ◌∙◌, append-nil, ap, arith, inl, inr, cond, eqb}
use Rattle.std.proofs.lemmas.List.Elements.{All-nil, All-cons, All-head, All-tail}
use Rattle.std.proofs.lemmas.Bool.{ne_eqb}
use Rattle.std.proofs.lemmas.Bool.Decides.{eqb_tells}
use Rattle.mld_io.specs.Lines.{line_break, ended_lines, lines_of, onto_first, first_line, after_line, line_size, HasNoEnd, FirstOfLines}

first_step : (b : ℕ) (bs : List ℕ) (is_end : Bool) → onto_first b (lines_of bs) ≡ (b ∷ first_line bs) ∷ lines_of (after_line bs)
    → cond is_end ([] ∷ lines_of bs) (onto_first b (lines_of bs)) ≡ cond is_end [] (b ∷ first_line bs) ∷ lines_of (cond is_end bs (after_line bs))
first_step b bs true goes_on = refl
first_step b bs false goes_on = goes_on

pub first_of_lines_lem : FirstOfLines
first_of_lines_lem [] some = absurd (some refl)
first_of_lines_lem (b ∷ []) some = first_step b [] (b == line_break) refl
first_of_lines_lem (b ∷ c ∷ cs) some = first_step b (c ∷ cs) (b == line_break) (ap (onto_first b) (first_of_lines_lem (c ∷ cs) (λ e. cc)))

-- a first line has no LF in it
pub HasNoEnd-first_line : (bytes : List ℕ) → HasNoEnd (first_line bytes)
HasNoEnd-first_line [] = All-nil (λ b. b ≢ line_break)
HasNoEnd-first_line (b ∷ bs) = elim (eqb_tells b line_break) [
  | inl h ↦ rw h.0 (All-nil (λ b. b ≢ line_break))
  | inr h ↦ rw h.0 (All-cons (λ b. b ≢ line_break) b (first_line bs) h.1 (HasNoEnd-first_line bs))
]

-- the first line with its LF, and what is left, make up the input
pub length-line_size : (bytes : List ℕ) → line_size bytes + length (after_line bytes) ≡ length bytes
length-line_size [] = refl
length-line_size (b ∷ bs) = elim (eqb_tells b line_break) [
  | inl h ↦ rw h.0 (omega arith)
  | inr h ↦ rw h.0 (omega (arith, length-line_size bs))
]

-- a line takes a byte or more
pub line_size_some : (bytes : List ℕ) → bytes ≢ [] → 0 < line_size bytes
line_size_some [] some = absurd (some refl)
line_size_some (b ∷ bs) some = elim (eqb_tells b line_break) [
  | inl h ↦ rw h.0 (omega arith)
  | inr h ↦ rw h.0 (omega arith)
]

-- what is left after a line is shorter
pub length-after_line : (bytes : List ℕ) → bytes ≢ [] → length (after_line bytes) < length bytes
length-after_line bytes some = omega (arith, length-line_size bytes, line_size_some bytes some)

-- the first line is no longer than what it takes
pub length-first_line : (bytes : List ℕ) → length (first_line bytes) ≤ line_size bytes
length-first_line [] = omega arith
length-first_line (b ∷ bs) = elim (eqb_tells b line_break) [
  | inl h ↦ rw h.0 (omega arith)
  | inr h ↦ rw h.0 (omega (arith, length-first_line bs))
]

-- bytes with no LF go on in the first line
pub first_line-append : (front rest : List ℕ) → HasNoEnd front → first_line (front ++ rest) ≡ front ++ first_line rest
first_line-append [] rest no_end = refl
first_line-append (b ∷ bs) rest no_end =
    let other : eqb b line_break ≡ false = ne_eqb b line_break (All-head (λ b. b ≢ line_break) b bs no_end) in
    rw other (ap (λ l. b ∷ l) (first_line-append bs rest (All-tail (λ b. b ≢ line_break) b bs no_end)))

-- they are no part of what is left after it
pub after_line-append : (front rest : List ℕ) → HasNoEnd front → after_line (front ++ rest) ≡ after_line rest
after_line-append [] rest no_end = refl
after_line-append (b ∷ bs) rest no_end =
    let other : eqb b line_break ≡ false = ne_eqb b line_break (All-head (λ b. b ≢ line_break) b bs no_end) in
    rw other (after_line-append bs rest (All-tail (λ b. b ≢ line_break) b bs no_end))

-- and the line takes them too
pub line_size-append : (front rest : List ℕ) → HasNoEnd front → line_size (front ++ rest) ≡ length front + line_size rest
line_size-append [] rest no_end = omega arith
line_size-append (b ∷ bs) rest no_end =
    let other : eqb b line_break ≡ false = ne_eqb b line_break (All-head (λ b. b ≢ line_break) b bs no_end) in
    rw other (omega (arith, line_size-append bs rest (All-tail (λ b. b ≢ line_break) b bs no_end)))

-- where there is an LF, the first line, that LF and what is left make up the bytes
pub first_line_ends : (bytes : List ℕ) → ¬ HasNoEnd bytes → bytes ≡ first_line bytes ++ line_break ∷ after_line bytes
first_line_ends [] has = absurd (has (All-nil (λ b. b ≢ line_break)))
first_line_ends (b ∷ bs) has = elim (eqb_tells b line_break) [
  | inl h ↦ rw h.0 (ap (λ (x : ℕ). x ∷ bs) h.1)
  | inr h ↦ rw h.0 (ap (λ (l : List ℕ). b ∷ l) (first_line_ends bs (λ none. has (All-cons (λ b. b ≢ line_break) b bs h.1 none))))
]

-- where there is none, nothing is left after the first line
pub after_line_none : (bytes : List ℕ) → HasNoEnd bytes → after_line bytes ≡ []
after_line_none bytes none = ap after_line (sym (append-nil bytes)) ∙ after_line-append bytes [] none

-- as many lines end within two lists as within each of them
pub ended_lines-append : (front rest : List ℕ) → ended_lines (front ++ rest) ≡ ended_lines front + ended_lines rest
ended_lines-append [] rest = omega arith
ended_lines-append (b ∷ bs) rest = elim (eqb_tells b line_break) [
  | inl h ↦ rw h.0 (omega (arith, ended_lines-append bs rest))
  | inr h ↦ rw h.0 (ended_lines-append bs rest)
]

-- and none where there is no LF
pub ended_lines_none : (bytes : List ℕ) → HasNoEnd bytes → ended_lines bytes ≡ 0
ended_lines_none [] none = refl
ended_lines_none (b ∷ bs) none =
    let other : eqb b line_break ≡ false = ne_eqb b line_break (All-head (λ b. b ≢ line_break) b bs none) in
    rw other (ended_lines_none bs (All-tail (λ b. b ≢ line_break) b bs none))
