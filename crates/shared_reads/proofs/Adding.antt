-- The step that adds a mark keeps the rule.
use Rattle.std.proofs.Common.{◌≡◌, ℕ, ◌+◌, ◌<◌, ◌==◌, Bool, true, false, List, [], ◌∷◌, ◌++◌, length, refl, ap, sym, subst, arith, inl, length-append, append-nil, None, MatchBool}
use Rattle.std.proofs.lemmas.Bool.Decides.{nat_tests}
use mathlib.Core.List.{IsPrefix}
use prog.Atomic.{either}
use Rattle.logbook.specs.Pages.{Cell, cell, keeps, no_nib, step, Moves, Goes}
use Rattle.shared_reads.specs.declared.marks.Mark.{Mark}
use Rattle.shared_reads.specs.Fronts.{IsHistory, list_told}
use Rattle.shared_reads.specs.HistoryRule.{IsKeptHistory, AddsMark}
use Rattle.shared_reads.proofs.FrontLaws.{prefix_whole, history_onwards}

abbrev pub shown : List Mark → List Mark
shown log = []

abbrev pub moved : List Mark → List Mark → ℕ → Type 0
moved xs ys n = Unit {0}

pub adds_goes : (log v : List Mark) (mark : Mark) (old : ℕ) → length v ≡ old → (list_told v).finished ≡ false → IsHistory log → IsPrefix v log
    → (b : Bool) → (length log == old) ≡ b
    → Goes IsKeptHistory shown moved 0 (v, (no_nib, None)) (λ n. either (n == old) (old + 1) n) (AddsMark (step 0 old (old + 1) mark) (v, (no_nib, None))) ((length log, true) ∷ (0, true) ∷ []) log
adds_goes log v mark old len going history pre true is =
    let here : length log ≡ old = grind (arith, nat_tests) in
    let same : v ≡ log = prefix_whole v log pre (omega arith) in
    let more : IsHistory (log ++ mark ∷ []) = history_onwards log mark history (subst (λ (ms : List Mark). (list_told ms).finished ≡ false) same going) in
    let n : either (length log == old) (old + 1) (length log) ≡ length (log ++ mark ∷ []) = rw is (omega (arith, length-append log (mark ∷ []))) in (
      keeps,
      mark ∷ [],
      None,
      tt,
      record { words = ap (λ (k : ℕ). (k, true) ∷ (0, true) ∷ []) n; history = more },
      inl (refl, refl),
      rw is (ap (λ (ms : List Mark). ms ++ mark ∷ []) (sym same), more),
    )
adds_goes log v mark old len going history pre false is =
    let all : log ++ [] ≡ log = append-nil log in
    let more : IsHistory (log ++ []) = subst IsHistory (sym all) history in
    let n : either (length log == old) (old + 1) (length log) ≡ length (log ++ []) = rw is (ap length (sym all)) in (
      keeps,
      [],
      None,
      tt,
      record { words = ap (λ (k : ℕ). (k, true) ∷ (0, true) ∷ []) n; history = more },
      inl (refl, refl),
      rw is tt,
    )

-- whatever the book is, the exchange adds the mark to all that was seen, or finds that the history is longer
pub adds_moves : (v : List Mark) (mark : Mark) (old : ℕ) → length v ≡ old → (list_told v).finished ≡ false
    → Moves IsKeptHistory shown moved 0 (v, (no_nib, None)) (λ n. either (n == old) (old + 1) n) (AddsMark (step 0 old (old + 1) mark) (v, (no_nib, None)))
adds_moves v mark old len going cs log kept pre away =
    let P : List Cell → Type 0 = λ c. (0 < length c) × ((cell c 0).1 ≡ true) × Goes IsKeptHistory shown moved 0 (v, (no_nib, None)) (λ n. either (n == old) (old + 1) n) (AddsMark (step 0 old (old + 1) mark) (v, (no_nib, None))) c log in
    subst P (sym kept.words) (omega arith, refl, adds_goes log v mark old len going kept.history pre (length log == old) refl)

-- what a step tells that found what it sought
pub added : (found old : ℕ) (P : Type 0) → found ≡ old → MatchBool (found == old) P (Unit {0}) → P
added found old P same told = let e : (found == old) ≡ true = grind (arith, nat_tests) in subst (λ (b : Bool). MatchBool b P (Unit {0})) e told
