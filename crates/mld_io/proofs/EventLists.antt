-- Events that are given one after another.
use Rattle.std.proofs.Common.{rules, suc, zero, ◌≡◌, ℕ, ◌+◌, ◌≤◌, inl, inr, refl, sym, ◌∙◌, arith, min, List, [], ◌∷◌, length, drop, filter, IsTrue}
use Rattle.std.specs.List.{list_all}
use Rattle.std.proofs.lemmas.Bool.{cases_Bool, cases_lt}
use Rattle.std.proofs.lemmas.List.{drop_all, drop-drop}
use Rattle.mld_io.specs.declared.events.Event.{Event}
use Rattle.mld_io.specs.Wires.{is_event}
use Rattle.mld_io.specs.MemoryWires.{first_event}

-- what is left by a test passes it
pub all_filtered : (xs : List Event) → IsTrue (list_all is_event (filter is_event xs))
all_filtered [] = refl
all_filtered (x ∷ xs) = elim (cases_Bool (is_event x)) [
  | inl t ↦ rw t (rw t (all_filtered xs))
  | inr t ↦ rw t (all_filtered xs)
]

-- so does the next of them
pub first_sized : (at : ℕ) (xs : List Event) → IsTrue (list_all is_event xs) → IsTrue (is_event (first_event (drop at xs)))
first_sized zero [] h = refl
first_sized zero (x ∷ xs) h = search (h, rules)
first_sized (suc n) [] h = refl
first_sized (suc n) (x ∷ xs) h = let rest : IsTrue (list_all is_event xs) = search (h, rules) in first_sized n xs rest

-- once the next was taken, what was behind it is left
pub left_after : (at : ℕ) (xs : List Event) → at ≤ length xs → drop (min (at + 1) (length xs)) xs ≡ drop 1 (drop at xs)
left_after at xs within = elim (cases_lt at (length xs)) [
  | inl more ↦ let here : min (at + 1) (length xs) ≡ at + 1 = omega (arith, more) in rw here (sym (drop-drop 1 at xs))
  | inr none ↦
      let here : min (at + 1) (length xs) ≡ length xs = omega (arith, none) in
      rw here (drop_all (length xs) xs (omega arith) ∙ sym (drop_all (at + 1) xs (omega (arith, none))) ∙ sym (drop-drop 1 at xs))
]
