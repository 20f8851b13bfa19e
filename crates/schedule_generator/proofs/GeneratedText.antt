-- The text of a generated schedule has its lines.
use Rattle.std.proofs.Common.{◌≡◌, ◌≢◌, ◌∙◌, refl, sym, ap, ℕ, zero, suc, ◌+◌, ◌%◌, ◌<◌, ◌≤◌, ◌^◌, List, [], ◌∷◌, ◌++◌, codes, length, length-append, ◌*◌, All, Bool, true, false, arith, subst, inl, inr}
use Rattle.std.specs.Prelude.{◌==◌, if◌then◌else◌}
use Rattle.std.specs.Fmt.{decimal}
use Rattle.std.proofs.lemmas.Bool.{false≢true}
use Rattle.std.proofs.lemmas.Bool.Decides.{eqb_tells}
use Rattle.std.proofs.lemmas.Fmt.{decimal_by_steps, length-decimal-le}
use Rattle.std.proofs.lemmas.List.{append_assoc}
use Rattle.std.proofs.lemmas.List.Elements.{All-nil, All-cons, All-append, All-push, All-head, All-tail, All-weaker}
use Rattle.mld_io.specs.Lines.{line_break, lines_of, onto_first, HasNoEnd}
use Rattle.schedule_generator.specs.Generated.{drawn_line, lines_from, generated, text_of}
use Rattle.schedule_generator.specs.DrawnCommands.{drawn_triple, IsDrawn, adds, removes, delivers, asks, compacts, truncates, compares}
use Rattle.schedule_generator.proofs.DrawnLines.{a_line, all_drawn}

-- a byte is no LF
abbrev IsInLine : ℕ → Type 0
IsInLine b = b ≢ line_break

-- one more byte that is none
then_byte : (b : ℕ) (rest : List ℕ) → b ≢ line_break → HasNoEnd rest → HasNoEnd (b ∷ rest)
then_byte b rest h k = All-cons IsInLine b rest h k

both : (front rest : List ℕ) → HasNoEnd front → HasNoEnd rest → HasNoEnd (front ++ rest)
both front rest h k = All-append IsInLine front rest h k

-- numbers are written without LF
number_in_line : (n : ℕ) → n < 2 ^ 64 → HasNoEnd (decimal n)
number_in_line = decimal_by_steps (λ n ds. HasNoEnd ds) (λ n h. then_byte (48 + n) [] (λ e. omega (arith, e)) (All-nil IsInLine)) (λ n ds h k. All-push IsInLine ds (48 + n % 10) k (λ e. omega (arith, e)))

-- and so are words, by a test of their bytes
abbrev in_line : List ℕ → Bool
in_line [] = true
in_line (b ∷ bs) = if b == line_break then false else in_line bs

word_in_line : (word : List ℕ) → in_line word ≡ true → HasNoEnd word
word_in_line [] h = All-nil IsInLine
word_in_line (b ∷ bs) h = elim (eqb_tells b line_break) [
  | inl is ↦ absurd (false≢true (rw is.0 at h))
  | inr other ↦ then_byte b bs other.1 (word_in_line bs (rw other.0 at h))
]

-- a line, and then the lines behind its LF
line_then : (line rest : List ℕ) → HasNoEnd line → lines_of (line ++ line_break ∷ rest) ≡ line ∷ lines_of rest
line_then [] rest h = refl
line_then (b ∷ line) rest h = elim (eqb_tells b line_break) [
  | inl is ↦ absurd (All-head IsInLine b line h is.1)
  | inr other ↦ rw other.0 (ap (onto_first b) (line_then line rest (All-tail IsInLine b line h)))
]

-- the text of lines that have no LF has just these lines
pub lines_of_text : (lines : List (List ℕ)) → All HasNoEnd lines → lines_of (text_of lines) ≡ lines
lines_of_text [] h = refl
lines_of_text (line ∷ lines) h =
    ap lines_of (append_assoc line (line_break ∷ []) (text_of lines)) ∙ line_then line (text_of lines) (All-head HasNoEnd line lines h)
    ∙ ap (λ (ls : List (List ℕ)). line ∷ ls) (lines_of_text lines (All-tail HasNoEnd line lines h))

-- a triple has none
triple_in_line : (subject predicate text : ℕ) → subject < 50 → predicate < 5 → text < 20 → HasNoEnd (drawn_triple subject predicate text)
triple_in_line subject predicate text s p t =
    both (codes "<http://gen.example/s") _ (word_in_line (codes "<http://gen.example/s") refl) (both (decimal subject) _ (number_in_line subject (omega (arith, s)))
    (both (codes "> <http://gen.example/#p") _ (word_in_line (codes "> <http://gen.example/#p") refl) (both (decimal predicate) _ (number_in_line predicate (omega (arith, p)))
    (both (codes "> \"") _ (word_in_line (codes "> \"") refl) (both (decimal text) _ (number_in_line text (omega (arith, t))) (word_in_line (codes "\" .") refl))))))

-- nor has a word with two parts behind it
two_in_line : (word : List ℕ) (first : ℕ) (rest : List ℕ) → in_line word ≡ true → first < 2 ^ 64 → HasNoEnd rest → HasNoEnd (word ++ (decimal first ++ (codes " " ++ rest)))
two_in_line word first rest w f h =
    both word _ (word_in_line word w) (both (decimal first) _ (number_in_line first f) (both (codes " ") rest (word_in_line (codes " ") refl) h))

-- nor has any command line
drawn_in_line : (line : List ℕ) → IsDrawn line → HasNoEnd line
drawn_in_line line (adds clone subject predicate text c s p t is) =
    subst HasNoEnd (sym is) (two_in_line (codes "add ") clone _ refl (omega (arith, c)) (triple_in_line subject predicate text s p t))
drawn_in_line line (removes clone subject predicate text c s p t is) =
    subst HasNoEnd (sym is) (two_in_line (codes "remove ") clone _ refl (omega (arith, c)) (triple_in_line subject predicate text s p t))
drawn_in_line line (delivers message clone m c is) =
    subst HasNoEnd (sym is) (two_in_line (codes "deliver ") message _ refl m (number_in_line clone (omega (arith, c))))
drawn_in_line line (asks clone c is) = subst HasNoEnd (sym is) (both (codes "ask ") _ (word_in_line (codes "ask ") refl) (number_in_line clone (omega (arith, c))))
drawn_in_line line (compacts clone c is) = subst HasNoEnd (sym is) (both (codes "compact ") _ (word_in_line (codes "compact ") refl) (number_in_line clone (omega (arith, c))))
drawn_in_line line (truncates clone keep c k is) =
    subst HasNoEnd (sym is) (two_in_line (codes "truncate ") clone _ refl (omega (arith, c)) (number_in_line keep (omega (arith, k))))
drawn_in_line line (compares clone other c o is) =
    subst HasNoEnd (sym is) (two_in_line (codes "compare ") clone _ refl (omega (arith, c)) (number_in_line other (omega (arith, o))))

-- the text of a generated schedule has just its lines
pub generated_text : (seed count : ℕ) → count < 2 ^ 32 → lines_of (text_of (generated seed count)) ≡ generated seed count
generated_text seed count few =
    lines_of_text (generated seed count) (All-cons HasNoEnd (codes "domain gen.example clones 4") (lines_from 1 seed count) (word_in_line (codes "domain gen.example clones 4") refl)
    (All-weaker IsDrawn HasNoEnd drawn_in_line (lines_from 1 seed count) (all_drawn count 1 seed (omega arith) (omega (arith, few)))))

-- ---- its length

two_digits : (n : ℕ) → n < 100 → length (decimal n) ≤ 2
two_digits n h = length-decimal-le 2 n (omega arith) (omega (arith, h)) (omega (arith, h))

triple_short : (subject predicate text : ℕ) → subject < 50 → predicate < 5 → text < 20 → length (drawn_triple subject predicate text) ≤ 60
triple_short subject predicate text s p t =
    let first = length-append (decimal subject) (codes "> <http://gen.example/#p" ++ (decimal predicate ++ (codes "> \"" ++ (decimal text ++ codes "\" .")))) in
    let second = length-append (decimal predicate) (codes "> \"" ++ (decimal text ++ codes "\" .")) in
    let third = length-append (decimal text) (codes "\" .") in
    let one = two_digits subject (omega (arith, s)) in
    let two = two_digits predicate (omega (arith, p)) in
    let three = two_digits text (omega (arith, t)) in
    omega (arith, first, second, third, one, two, three)

-- a command line has at most 70 bytes
drawn_short : (line : List ℕ) → IsDrawn line → length line ≤ 70
drawn_short line (adds clone subject predicate text c s p t is) =
    let all = length-append (decimal clone) (codes " " ++ drawn_triple subject predicate text) in
    let one = two_digits clone (omega (arith, c)) in
    let triple = triple_short subject predicate text s p t in
    rw is (omega (arith, all, one, triple))
drawn_short line (removes clone subject predicate text c s p t is) =
    let all = length-append (decimal clone) (codes " " ++ drawn_triple subject predicate text) in
    let one = two_digits clone (omega (arith, c)) in
    let triple = triple_short subject predicate text s p t in
    rw is (omega (arith, all, one, triple))
drawn_short line (delivers message clone m c is) =
    let all = length-append (decimal message) (codes " " ++ decimal clone) in
    let one : length (decimal message) ≤ 20 = length-decimal-le 20 message (omega arith) (omega (arith, m)) m in
    let two = two_digits clone (omega (arith, c)) in
    rw is (omega (arith, all, one, two))
drawn_short line (asks clone c is) = let one = two_digits clone (omega (arith, c)) in rw is (omega (arith, one))
drawn_short line (compacts clone c is) = let one = two_digits clone (omega (arith, c)) in rw is (omega (arith, one))
drawn_short line (truncates clone keep c k is) =
    let all = length-append (decimal clone) (codes " " ++ decimal keep) in
    let one = two_digits clone (omega (arith, c)) in
    let two = two_digits keep (omega (arith, k)) in
    rw is (omega (arith, all, one, two))
drawn_short line (compares clone other c o is) =
    let all = length-append (decimal clone) (codes " " ++ decimal other) in
    let one = two_digits clone (omega (arith, c)) in
    let two = two_digits other (omega (arith, o)) in
    rw is (omega (arith, all, one, two))

-- so many lines have at most 71 bytes each with their LFs
text_short : (count number x : ℕ) → 0 < number → number + count ≤ 2 ^ 64 → length (text_of (lines_from number x count)) ≤ 71 * count
text_short zero number x some small = omega arith
text_short (suc count) number x some small =
    let line = (drawn_line number x).line in
    let rest = text_of (lines_from (number + 1) (drawn_line number x).state count) in
    let all = length-append (line ++ line_break ∷ []) rest in
    let one = length-append line (line_break ∷ []) in
    let short = drawn_short line (a_line number x some (omega (arith, small))) in
    let more = text_short count (number + 1) (drawn_line number x).state (omega arith) (omega (arith, small)) in
    omega (arith, all, one, short, more)

-- and a generated schedule at most 71 more
pub generated_short : (seed count : ℕ) → count < 2 ^ 32 → length (text_of (generated seed count)) ≤ 71 * (count + 1)
generated_short seed count few =
    let lines = text_short count 1 seed (omega arith) (omega (arith, few)) in
    let all = length-append (codes "domain gen.example clones 4" ++ line_break ∷ []) (text_of (lines_from 1 seed count)) in
    omega (arith, all, lines)
