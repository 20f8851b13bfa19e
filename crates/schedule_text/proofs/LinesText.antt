-- A line is split at its first space, or says nothing.
use Rattle.std.proofs.Common.{◌≡◌, ◌≢◌, ℕ, zero, suc, ◌+◌, ◌-◌, ◌<◌, ◌≤◌, List, [], ◌∷◌, ◌++◌, ◌↔◌, length, get_or, take, drop, Bool, IsTrue, refl, sym, ap, subst, ◌∙◌, arith}
use Rattle.std.specs.Str.{IsUtf8}
use Rattle.std.proofs.lemmas.Bool.{false≢true}
use Rattle.std.proofs.lemmas.List.{take_all, length-drop, nil_from_length}
use Rattle.std.specs.Result.{MatchResult, is_ok}
use Rattle.std.specs.declared.result.Result.{Result}
use Rattle.std.specs.declared.result.Result.TheVariants.{Ok, Err}
use Rattle.schedule_model.specs.Characters.{space, hash_mark}
use Rattle.schedule_model.proofs.LackingLaws.{Lacks, Lacks_parts}
use Rattle.schedule_model.specs.Schedule.{IsNothing, empty, comment}

-- ---- spaces

-- a text has a space only where one stands somewhere
pub lacks_space : (line : List ℕ) → ((k : ℕ) → k < length line → get_or line k 0 ≢ space) → Lacks space line
lacks_space [] h = tt
lacks_space (byte ∷ line) h = (h 0 (omega arith), lacks_space line (λ k below. h (suc k) (omega arith)))

-- what stands before the first space has none
pub front_lacks_space : (line : List ℕ) (place : ℕ) → ((k : ℕ) → k < place → get_or line k 0 ≢ space) → place ≤ length line → Lacks space (take place line)
front_lacks_space line zero h below = tt
front_lacks_space [] (suc place) h below = tt
front_lacks_space (byte ∷ line) (suc place) h below = (h 0 (omega arith), front_lacks_space line place (λ k less. h (suc k) (omega arith)) (omega arith))

-- a line is what stands before a space, the space, and what stands behind it
split_there : (line : List ℕ) (place : ℕ) → place < length line → get_or line place 0 ≡ space → line ≡ take place line ++ space ∷ drop (suc place) line
split_there [] place below e = absurd (omega arith)
split_there (byte ∷ line) zero below e = cc
split_there (byte ∷ line) (suc place) below e = ap (λ (rest : List ℕ). byte ∷ rest) (split_there line place (omega arith) e)

-- the same with the rest as the code cuts it
pub split_cut : (line : List ℕ) (place : ℕ) → place < length line → get_or line place 0 ≡ space → line ≡ take place line ++ space ∷ take (length line - (place + 1)) (drop (place + 1) line)
split_cut line place below e =
    let whole : take (length line - (place + 1)) (drop (place + 1) line) ≡ drop (place + 1) line = take_all (length line - (place + 1)) (drop (place + 1) line) (omega (arith, length-drop (place + 1) line)) in
    let one : place + 1 ≡ suc place = omega arith in
    let next : drop (place + 1) line ≡ drop (suc place) line = ap (λ (n : ℕ). drop n line) one in
    split_there line place below e ∙ ap (λ (rest : List ℕ). take place line ++ space ∷ rest) (sym (whole ∙ next))

-- a text that lacks spaces has none
pub has_space : (line front rest : List ℕ) → Lacks space line → line ≡ front ++ space ∷ rest → ⊥
has_space line front rest h e = (Lacks_parts space front (space ∷ rest) (subst (λ (l : List ℕ). Lacks space l) e h)).1.0 refl

-- ---- lines that say nothing

pub nothing_empty : (line : List ℕ) → length line ≡ 0 → IsNothing line
nothing_empty line e = subst (λ (l : List ℕ). IsNothing l) (sym (nil_from_length line e)) empty

nothing_comment : (line : List ℕ) → 0 < length line → get_or line 0 0 ≡ hash_mark → IsUtf8 line → IsNothing line
nothing_comment [] below e text = absurd (omega arith)
nothing_comment (byte ∷ line) below e text = subst (λ (l : List ℕ). IsNothing l) (sym (ap (λ (b : ℕ). b ∷ line) e)) (comment line (subst (λ (b : ℕ). IsUtf8 (b ∷ line)) e text))

nothing_text : (line : List ℕ) → IsNothing line → 0 < length line → (get_or line 0 0 ≡ hash_mark) × IsUtf8 line
nothing_text _ empty below = absurd (omega arith)
nothing_text _ (comment rest text) below = (refl, text)

-- what the test of UTF-8 says
pub text_tested : {T E : Type 0} (A : T → Type 0) (B : E → Type 0) (result : Result T E) (text : List ℕ)
    → MatchResult result (λ t. A t × IsUtf8 text) (λ e. ¬ IsUtf8 text × B e) → IsTrue (is_ok result) ↔ IsUtf8 text
text_tested A B (Ok t) text h = (λ e. h.1, λ k. refl)
text_tested A B (Err e) text h = (λ k. absurd (false≢true k), λ k. absurd (h.0 k))

pub nothing_tested : (line : List ℕ) (test : Bool) → 0 < length line → get_or line 0 0 ≡ hash_mark → IsTrue test ↔ IsUtf8 line → IsTrue test ↔ IsNothing line
nothing_tested line test below e h = (λ k. nothing_comment line below e (h.0 k), λ n. h.1 (nothing_text line n below).1)
