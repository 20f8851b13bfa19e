use Rattle.std.proofs.Common.{◌≡◌, ◌∙◌, ◌++◌, ◌∷◌, ◌+◌, ◌<◌, ℕ, [], List, length, map, ap, arith, subst, sym}
use Rattle.std.specs.List.{slice_get}
use Rattle.rdf_terms.specs.declared.terms.Term.{Term}
use Rattle.number_tables.specs.HashBuckets.{AreStanding}
use Rattle.number_tables.specs.HashedTerms.{term_hash}
use Rattle.number_tables.proofs.Standings.{number_pushed, own_pushed, standing_pushed, table_pushed}
use Rattle.number_tables.proofs.term_table.add.Goals as goal

pub grow-requires-clause-hashed : goal.grow-requires-clause-hashed
grow-requires-clause-hashed c = c.deref-2.ensures.value ∙ c.requires.is.all_hashed ∙ ap (λ (ts : List Term). map term_hash ts) (sym c.deref.ensures.value)

pub put-requires-clause-is : goal.put-requires-clause-is
put-requires-clause-is c =
    let pushed = c.deref-3.ensures.value ∙ c.push_reserved.ensures.items ∙ ap (λ (l : List Term). l ++ c.args.term ∷ []) c.in_ok-reserve.ensures.items in
    let count : length c.args.terms.now.items ≡ c.len-count.result = omega (arith, c.len-count.ensures) in
    subst (λ (n : ℕ). AreStanding c.deref-3.result.now n c.make_place.new.index.slots.items c.make_place.new.index.places.elements) count
    (standing_pushed c.args.terms.now.items c.deref-3.result.now c.args.term c.grow.new.index.slots.items c.grow.new.index.places.elements pushed
    c.make_place.new.index.slots.items c.make_place.new.index.places.elements c.in_ok-make_place.ensures.slots c.in_ok-make_place.ensures.places
    (subst (λ (ts : List Term). AreStanding ts (length ts) c.grow.new.index.slots.items c.grow.new.index.places.elements) c.deref.ensures.value c.grow.ensures))

pub put-requires-clause-term : goal.put-requires-clause-term
put-requires-clause-term c =
    let pushed = c.deref-3.ensures.value ∙ c.push_reserved.ensures.items ∙ ap (λ (l : List Term). l ++ c.args.term ∷ []) c.in_ok-reserve.ensures.items in
    let count : c.len-count.result ≡ length c.args.terms.now.items = omega (arith, c.len-count.ensures) in (
      c.args.term,
      ap (λ (n : ℕ). slice_get c.deref-3.result.now n) count
          ∙ own_pushed c.args.terms.now.items c.deref-3.result.now c.args.term c.grow.new.index.slots.items c.grow.new.index.places.elements pushed,
      c.requires.hash,
    )

pub returns-clause-is : goal.returns-clause-is
returns-clause-is c =
    let pushed = c.push_reserved.ensures.items ∙ ap (λ (l : List Term). l ++ c.args.term ∷ []) c.in_ok-reserve.ensures.items in
    let more = c.push_reserved-2.ensures.items ∙ ap (λ (l : List ℕ). l ++ c.args.hash ∷ []) c.in_ok-reserve-2.ensures.items in
    let count : c.len-count.result ≡ length c.args.terms.now.items = omega (arith, c.len-count.ensures) in
    let few : c.len-count.result < 4294967295 = omega (arith, c.if-count-ge-TERMS_LIMIT.false) in
    table_pushed c.args.terms.now.items c.push_reserved.new.self.items c.args.term c.put.new.index.slots.items c.put.new.index.places.elements pushed c.args.hashes.now.items
    c.push_reserved-2.new.self.items c.args.hash c.len-count.result c.requires.is.all_hashed c.requires.hash more c.requires.is.apart c.requires.absent count few
    (subst (λ (ts : List Term). AreStanding ts (c.len-count.result + 1) c.put.new.index.slots.items c.put.new.index.places.elements) c.deref-3.ensures.value c.put.ensures)

pub returns-clause-number : goal.returns-clause-number
returns-clause-number c =
    let pushed = c.push_reserved.ensures.items ∙ ap (λ (l : List Term). l ++ c.args.term ∷ []) c.in_ok-reserve.ensures.items in
    let count : c.len-count.result ≡ length c.args.terms.now.items = omega (arith, c.len-count.ensures) in
    number_pushed c.args.terms.now.items c.push_reserved.new.self.items c.args.term c.put.new.index.slots.items c.put.new.index.places.elements pushed
    c.push_reserved-2.new.self.items c.len-count.result count (returns-clause-is c)
