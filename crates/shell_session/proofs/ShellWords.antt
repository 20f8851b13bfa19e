-- Words, and lines that begin with one.
use Rattle.std.proofs.Common.{◌≡◌, ◌≢◌, ℕ, ◌<◌, List, [], ◌∷◌, ◌++◌, ◌↔◌, length, get_or, IsTrue, nat_eq, sym, ◌∙◌, ap, inl, inr, arith}
use Rattle.std.proofs.lemmas.Bool.{eqb-true, eq-eqb}
use Rattle.std.proofs.lemmas.List.{append-nil, append_cancel_left}
use Rattle.schedule_text.specs.schedule_model.Characters.{space}
use Rattle.shell_session.specs.ShellLines.{HasFirstWord}

-- a line that doesn't begin with the word has another first word
pub no_first_word : (line word : List ℕ) → ((rest : List ℕ) → line ≢ word ++ rest) → ¬ HasFirstWord word line
no_first_word line word none (inl e) = none [] (e ∙ sym (append-nil word))
no_first_word line word none (inr h) = none (space ∷ h.0) h.1

-- the word is the whole line
pub whole_word : (line word rest : List ℕ) → line ≡ word ++ rest → length rest ≡ 0 → HasFirstWord word line
whole_word line word [] e none = inl (e ∙ append-nil word)
whole_word line word (byte ∷ rest) e none = absurd (omega arith)

-- something follows the word: it is the first where that is a space
pub word_before : (line word rest : List ℕ) → line ≡ word ++ rest → 0 < length rest → IsTrue (nat_eq (get_or rest 0 0) 32) ↔ HasFirstWord word line
word_before line word [] e some = absurd (omega arith)
word_before line word (byte ∷ rest) e some = (there, back)
  where
    there : IsTrue (nat_eq byte 32) → HasFirstWord word line
    there h = inr (rest, e ∙ ap (λ (b : ℕ). word ++ b ∷ rest) (eqb-true byte 32 h))

    back : HasFirstWord word line → IsTrue (nat_eq byte 32)
    back (inl same) =
        let none : byte ∷ rest ≡ [] = append_cancel_left word (byte ∷ rest) [] (sym e ∙ same ∙ sym (append-nil word)) in
        absurd (cc)
    back (inr h) =
        let tails : byte ∷ rest ≡ space ∷ h.0 = append_cancel_left word (byte ∷ rest) (space ∷ h.0) (sym e ∙ h.1) in
        let first : byte ≡ 32 = cc (tails) in
        eq-eqb byte 32 first
