use Rattle.std.proofs.Common.{◌≡◌, ℕ, List, Some, subst}
use Rattle.std.specs.List.{slice_get}
use Rattle.number_tables.specs.declared.hashed.HashedNumber.{HashedNumber}
use Rattle.number_tables.specs.HashBuckets.{HasSlot, IsVacancy}
use Rattle.number_tables.specs.HashedTerms.{wanted_term}
use Rattle.number_tables.proofs.Lookups.{number_absent_open, number_found, number_in_order}
use Rattle.number_tables.proofs.hash_index.find.Goals as goal

pub returns-in-Some : goal.returns-in-Some
returns-in-Some c =
    number_found c.args.terms.now c.args.index.now.slots.items c.args.index.now.places.elements c.args.hash (wanted_term c.args.wanted.now) c.requires.apart c.requires.is c.requires.hash
    c.in-Some.number c.in-Some.ensures

pub returns-then-is_open : goal.returns-then-is_open
returns-then-is_open c =
    number_absent_open c.args.terms.now c.args.index.now.slots.items c.args.index.now.places.elements c.args.hash (wanted_term c.args.wanted.now) c.requires.apart c.requires.is c.requires.hash
    (subst
    (λ (slots : List HashedNumber). (number : ℕ) → HasSlot slots c.args.hash number → ¬ (slice_get c.args.terms.now number ≡ Some (wanted_term c.args.wanted.now)))
    c.deref.ensures.value c.in_default.ensures)
    (subst (λ (slots : List HashedNumber). (place : ℕ) × IsVacancy slots c.args.hash place) c.deref-2.ensures.value (c.is_open.ensures c.if-is_open.true))

pub returns : goal.returns
returns c =
    number_in_order c.args.terms.now c.args.index.now.slots.items c.args.index.now.places.elements c.args.hash (wanted_term c.args.wanted.now) c.requires.apart c.requires.is c.requires.hash
    (subst
    (λ (slots : List HashedNumber). (number : ℕ) → HasSlot slots c.args.hash number → ¬ (slice_get c.args.terms.now number ≡ Some (wanted_term c.args.wanted.now)))
    c.deref.ensures.value c.in_default.ensures)
    c.find_in_order.result c.find_in_order.ensures
