-- Texts of dots: a dot has one text, and a text that is cut at its full stop is one dot.
use Rattle.std.proofs.Common.{◌≡◌, ◌≢◌, ℕ, zero, suc, ◌+◌, ◌-◌, ◌<◌, ◌≤◌, ◌^◌, List, [], ◌∷◌, ◌++◌, Bool, true, false, All, if◌then◌else◌, length, get_or, take, drop, codes, refl, sym, ◌∙◌, ap, subst, inl, inr, arith}
use Rattle.std.specs.Fmt.{decimal}
use Rattle.std.proofs.lemmas.Fmt.{decimal_injective}
use Rattle.std.proofs.lemmas.List.{take_all, take_more, length-drop}
use Rattle.std.proofs.lemmas.List.Elements.{All-push}
use Rattle.tree_clock.specs.declared.dots.Dot.{Dot}
use Rattle.tree_clock.specs.Dot.{dot_text}
use Rattle.tree_clock.specs.Letters.{IsLetter}
use Rattle.tree_clock.specs.Path.{path_text, zero_letter, one_letter}
use Rattle.schedule_text.specs.schedule_model.Lacking.{Lacks}
use Rattle.schedule_text.proofs.of_schedule_model.LackingLaws.{Lacks-append, Lacks_parts, Lacks-decimal, one_split}
use Rattle.dot_texts.specs.DotForms.{ArePathLetters, MayBeTick, MayBeDot, IsDotText, full_stop, comma}

-- ---- texts that lack a byte

pub lacks_byte : (byte : ℕ) (text : List ℕ) → ((k : ℕ) → k < length text → get_or text k 0 ≢ byte) → Lacks byte text
lacks_byte byte [] h = tt
lacks_byte byte (first ∷ text) h = (h 0 (omega arith), lacks_byte byte text (λ k below. h (suc k) (omega (arith, below))))

-- what stands before the first such byte has none
pub front_lacks : (byte : ℕ) (text : List ℕ) (place : ℕ) → ((k : ℕ) → k < place → get_or text k 0 ≢ byte) → place ≤ length text → Lacks byte (take place text)
front_lacks byte text zero h below = tt
front_lacks byte [] (suc place) h below = tt
front_lacks byte (first ∷ text) (suc place) h below = (h 0 (omega arith), front_lacks byte text place (λ k less. h (suc k) (omega (arith, less))) (omega (arith, below)))

-- a text is what stands before a byte, the byte, and what stands behind it
split_there : (byte : ℕ) (text : List ℕ) (place : ℕ) → place < length text → get_or text place 0 ≡ byte → text ≡ take place text ++ byte ∷ drop (suc place) text
split_there byte [] place below e = absurd (omega (arith, below))
split_there byte (first ∷ text) zero below e = ap (λ (b : ℕ). b ∷ text) e
split_there byte (first ∷ text) (suc place) below e = ap (λ (rest : List ℕ). first ∷ rest) (split_there byte text place (omega (arith, below)) e)

-- the same with the rest as the code cuts it
pub split_cut : (byte : ℕ) (text : List ℕ) (place : ℕ) → place < length text → get_or text place 0 ≡ byte
    → text ≡ take place text ++ byte ∷ take (length text - (place + 1)) (drop (place + 1) text)
split_cut byte text place below e =
    let whole : take (length text - (place + 1)) (drop (place + 1) text) ≡ drop (place + 1) text =
    take_all (length text - (place + 1)) (drop (place + 1) text) (omega (arith, length-drop (place + 1) text)) in
    let one : place + 1 ≡ suc place = omega arith in
    let next : drop (place + 1) text ≡ drop (suc place) text = ap (λ (n : ℕ). drop n text) one in
    split_there byte text place below e ∙ ap (λ (rest : List ℕ). take place text ++ byte ∷ rest) (sym (whole ∙ next))

-- the letters of a path lack each lesser byte
letters_lack : (byte : ℕ) → byte < zero_letter → (letters : List ℕ) → All IsLetter letters → Lacks byte letters
letters_lack byte low letters each = lacks_byte byte letters (λ k below e. elim (each k 0 below) [
  | inl zero_is ↦ omega (arith, low, e, zero_is)
  | inr one_is ↦ omega (arith, low, e, one_is)
])

small : {tick : ℕ} → MayBeTick tick → tick < 2 ^ 64
small h = omega (arith, h.within)

pub dot_lacks : (dot : Dot) → MayBeDot dot → Lacks comma (dot_text dot)
dot_lacks dot is =
    Lacks-append comma (path_text dot.path) (codes "." ++ decimal dot.tick)
    ((λ e. omega (arith, e)), letters_lack comma (omega arith) dot.path is.path.each)
    ((λ e. omega (arith, e)), Lacks-decimal comma (λ digit h e. omega (arith, e)) dot.tick (small is.tick))

-- ---- a dot has one text

pub one_dot : (dot other : Dot) → MayBeDot dot → MayBeDot other → dot_text dot ≡ dot_text other → dot ≡ other
one_dot dot other p q e =
    let tails : dot.path ++ full_stop ∷ decimal dot.tick ≡ other.path ++ full_stop ∷ decimal other.tick = ap (drop 1) e in
    let parts = one_split full_stop dot.path other.path (decimal dot.tick) (decimal other.tick) (letters_lack full_stop (omega arith) dot.path p.path.each)
    (letters_lack full_stop (omega arith) other.path q.path.each) tails in
    let ticks : dot.tick ≡ other.tick = decimal_injective dot.tick other.tick (small p.tick) (small q.tick) parts.1 in
    λ i. record { path = parts.0 i; tick = ticks i }

pub one_dot_text : (text : List ℕ) (dot other : Dot) → IsDotText text dot → IsDotText text other → dot ≡ other
one_dot_text text dot other p q = one_dot dot other p.is q.is (sym p.spelled ∙ q.spelled)

-- ---- a text that is no dot

pub no_front : (text : List ℕ) → ((rest : List ℕ) → text ≢ codes "r" ++ rest) → (dot : Dot) → ¬ IsDotText text dot
no_front text none dot h = none (dot.path ++ full_stop ∷ decimal dot.tick) h.spelled

pub no_stop : (text rest : List ℕ) → text ≡ codes "r" ++ rest → Lacks full_stop rest → (dot : Dot) → ¬ IsDotText text dot
no_stop text rest e lacks dot h =
    let tails : rest ≡ dot.path ++ full_stop ∷ decimal dot.tick = ap (drop 1) (sym e ∙ h.spelled) in
    (Lacks_parts full_stop dot.path (full_stop ∷ decimal dot.tick) (subst (λ (t : List ℕ). Lacks full_stop t) tails lacks)).1.0 refl

-- the letters and the number of a text that is cut at its full stop
pub record IsStopped (text letters number : List ℕ) : Type 0 where
  pub whole : text ≡ codes "r" ++ (letters ++ full_stop ∷ number)
  pub lacks : Lacks full_stop letters

pub stopped : (text rest letters number : List ℕ) → text ≡ codes "r" ++ rest → (rest ≡ letters ++ full_stop ∷ number) × Lacks full_stop letters → IsStopped text letters number
stopped text rest letters number e cut = record { whole = e ∙ ap (λ (t : List ℕ). codes "r" ++ t) cut.0; lacks = cut.1 }

dot_parts : (text letters number : List ℕ) (dot : Dot) → IsStopped text letters number → IsDotText text dot → (letters ≡ dot.path) × (number ≡ decimal dot.tick)
dot_parts text letters number dot cut h =
    one_split full_stop letters dot.path number (decimal dot.tick) cut.lacks (letters_lack full_stop (omega arith) dot.path h.is.path.each)
    (ap (drop 1) (sym cut.whole ∙ h.spelled))

pub no_letters : (text letters number : List ℕ) → IsStopped text letters number → ¬ ArePathLetters letters → (dot : Dot) → ¬ IsDotText text dot
no_letters text letters number cut none dot h =
    none (subst (λ (l : List ℕ). ArePathLetters l) (sym (dot_parts text letters number dot cut h).0) h.is.path)

pub no_tick : (text letters number : List ℕ) → IsStopped text letters number → ((tick : ℕ) → MayBeTick tick → number ≢ decimal tick) → (dot : Dot) → ¬ IsDotText text dot
no_tick text letters number cut none dot h = none dot.tick h.is.tick (dot_parts text letters number dot cut h).1

pub dot_read : (text letters number path : List ℕ) (tick : ℕ) → IsStopped text letters number → ArePathLetters letters × (path ≡ letters)
    → MayBeTick tick × (number ≡ decimal tick) → IsDotText text (record { path = path; tick = tick })
dot_read text letters number path tick cut are is = record {
  is = record { path = subst (λ (l : List ℕ). ArePathLetters l) (sym are.1) are.0; tick = is.0 };
  spelled = cut.whole ∙ ap (λ (l : List ℕ). codes "r" ++ (l ++ full_stop ∷ number)) (sym are.1) ∙ ap (λ (n : List ℕ). codes "r" ++ (path ++ full_stop ∷ n)) is.1;
}

-- ---- letters

-- the letters before a place are those of the path that is read so far
pub record ReadsLetters (letters : List ℕ) (place : ℕ) (path : List ℕ) : Type 0 where
  pub same : path ≡ take place letters
  pub each : All IsLetter (take place letters)

letter_is : (byte : ℕ) (one : Bool) → byte ≡ (if one then one_letter else zero_letter) → IsLetter byte
letter_is byte true e = inr e
letter_is byte false e = inl e

pub letter_more : (letters path next : List ℕ) (place : ℕ) (one : Bool) → place < length letters → ReadsLetters letters place path
    → get_or letters place 0 ≡ (if one then one_letter else zero_letter) → next ≡ path ++ (if one then one_letter else zero_letter) ∷ []
    → ReadsLetters letters (place + 1) next
letter_more letters path next place one below reads is pushed =
    let more : take (place + 1) letters ≡ take place letters ++ get_or letters place 0 ∷ [] = take_more letters place 0 below in
    record {
      same = pushed ∙ ap (λ (front : List ℕ). front ++ (if one then one_letter else zero_letter) ∷ []) reads.same
          ∙ ap (λ (byte : ℕ). take place letters ++ byte ∷ []) (sym is) ∙ sym more;
      each = subst (λ (front : List ℕ). All IsLetter front) (sym more)
          (All-push IsLetter (take place letters) (get_or letters place 0) reads.each (letter_is (get_or letters place 0) one is));
    }

pub no_letter : (letters : List ℕ) (place : ℕ) → place < length letters → ¬ IsLetter (get_or letters place 0) → ¬ ArePathLetters letters
no_letter letters place below none are = none (are.each place 0 below)

pub letters_read : (letters path : List ℕ) (place : ℕ) → length letters ≤ place → length letters ≤ 64 → ReadsLetters letters place path
    → ArePathLetters letters × (path ≡ letters)
letters_read letters path place done few reads =
    let all : take place letters ≡ letters = take_all place letters done in
    (record { each = subst (λ (front : List ℕ). All IsLetter front) all reads.each; few = few }, reads.same ∙ all)
