-- The lines of clones, one more of them, and no more than four.
use Rattle.std.proofs.Common.{◌≡◌, ◌∙◌, ℕ, ◌+◌, ◌<◌, min, suc, List, ◌∷◌, ◌++◌, length, take, drop, get_or, sym, ap, arith, inl, inr}
use Rattle.std.proofs.Math.Seq.{drop-cons}
use Rattle.std.proofs.lemmas.Bool.{cases_lt}
use Rattle.std.proofs.lemmas.List.{append_assoc, take_all}
use Rattle.net_world.specs.declared.summaries.CloneSummary.{CloneSummary}
use Rattle.mld_replay.specs.Counts.{clone_line, clone_lines}

-- the line of a clone was put behind those before it, and those that are left follow it
pub one_more : (text next whole : List ℕ) (clones : List CloneSummary) (number : ℕ) (clone other : CloneSummary) → number < length clones → clone ≡ get_or clones number other
    → text ++ clone_lines number (drop number clones) ≡ whole → next ≡ text ++ clone_line number clone
    → next ++ clone_lines (number + 1) (drop (number + 1) clones) ≡ whole
one_more text next whole clones number clone other below at is put =
    let one : suc number ≡ number + 1 = omega arith in
    let here : drop number clones ≡ clone ∷ drop (number + 1) clones = drop-cons clones number other below ∙ ap (λ (c : CloneSummary). c ∷ drop (suc number) clones) (sym at) ∙ ap (λ (n : ℕ). clone ∷ drop n clones) one in
    rw put (append_assoc text (clone_line number clone) (clone_lines (number + 1) (drop (number + 1) clones)) ∙ (rw here at is))

-- as many as there are, or so many
pub least_front : (xs : List CloneSummary) (n : ℕ) → take (min (length xs) n) xs ≡ take n xs
least_front xs n = elim (cases_lt (length xs) n) [
  | inl short ↦ take_all (min (length xs) n) xs (omega (arith, short)) ∙ sym (take_all n xs (omega (arith, short)))
  | inr long ↦ let same : min (length xs) n ≡ n = omega (arith, long) in ap (λ (m : ℕ). take m xs) same
]
