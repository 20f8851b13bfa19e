-- Pairs of one triple stand together, since those with its numbers do.
use Rattle.std.proofs.Common.{◌≡◌, ◌∙◌, ℕ, List, [], ◌∷◌, Some, refl, sym, subst, ap, inl, inr}
use Rattle.rdf_terms.specs.declared.terms.Triple.{Triple}
use Rattle.tree_clock.specs.Lists.{Has}
use Rattle.mld_ops.specs.declared.pair_lists.PairRow.{PairRow}
use Rattle.mld_ops.specs.declared.tagged.Tagged.{Tagged}
use Rattle.pair_orders.specs.Keys.{has_places}
use Rattle.pair_orders.specs.PairEntries.{BeginsAlike, FindsEntries, StandTogether, numbers_of_terms}
use Rattle.pair_orders.specs.declared.keys.Numbers.{Numbers}
use Rattle.pair_orders.specs.declared.keys.Places.{Places}
use Rattle.mld_ops.specs.PairLists.{rows_pairs}
use Rattle.graph_index.specs.Graphs.{entry_pair, pairs_of}
use Rattle.graph_index.specs.TermNumbers.{TablesValue, HaveOwnNumbers, IsOwnEntry, iri_number}
use Rattle.number_tables.specs.TableNumbers.{number_of_term}
use Rattle.graph_index.proofs.Numbers.{same_iri, same_term}
use Rattle.graph_index.proofs.WantedPlaces.{some_injective}
use Rattle.graph_index.proofs.Sorting.{image_has}
use Rattle.graph_index.proofs.Moving.{entries_are}

abbrev terms_of : Numbers × PairRow → ℕ × ℕ × ℕ
terms_of entry = numbers_of_terms entry.0

module _ (tables : TablesValue) where
  -- triples of the same numbers are one triple
  one_triple : (a b : Numbers × PairRow) → IsOwnEntry tables a → IsOwnEntry tables b → terms_of a ≡ terms_of b → a.1.triple ≡ b.1.triple
  one_triple a b h k e =
      let s = same_iri tables.terms a.1.triple.s b.1.triple.s a.0.s h.numbers.s (k.numbers.s ∙ ap (λ (w : ℕ × ℕ × ℕ). Some w.0) (sym e)) in
      let p = same_iri tables.terms a.1.triple.p b.1.triple.p a.0.p h.numbers.p (k.numbers.p ∙ ap (λ (w : ℕ × ℕ × ℕ). Some w.1) (sym e)) in
      let o = same_term tables.terms a.1.triple.o b.1.triple.o a.0.o h.numbers.o (k.numbers.o ∙ ap (λ (w : ℕ × ℕ × ℕ). Some w.2) (sym e)) in
      λ i. record { s = s i; p = p i; o = o i }

  -- and a triple has one list of numbers
  one_list : (a b : Numbers × PairRow) → IsOwnEntry tables a → IsOwnEntry tables b → a.1.triple ≡ b.1.triple → terms_of a ≡ terms_of b
  one_list a b h k e =
      let s = some_injective a.0.s b.0.s (sym h.numbers.s ∙ ap (λ (w : Triple). iri_number tables w.s) e ∙ k.numbers.s) in
      let p = some_injective a.0.p b.0.p (sym h.numbers.p ∙ ap (λ (w : Triple). iri_number tables w.p) e ∙ k.numbers.p) in
      let o = some_injective a.0.o b.0.o (sym h.numbers.o ∙ ap (λ (w : Triple). number_of_term tables.terms w.o) e ∙ k.numbers.o) in
      λ i. (s i, p i, o i)

  begins_alike : (entry : Numbers × PairRow) (entries : List (Numbers × PairRow)) → IsOwnEntry tables entry → HaveOwnNumbers tables entries
      → BeginsAlike terms_of entry entries → BeginsAlike (λ (pair : Tagged). pair.triple) (entry_pair tables.paths entry) (pairs_of tables.paths entries)
  begins_alike entry [] own are h = absurd h
  begins_alike entry (next ∷ entries) own are h = one_triple next entry (are next (inl refl)) own h

  none_alike : (entry : Numbers × PairRow) (entries : List (Numbers × PairRow)) → IsOwnEntry tables entry → HaveOwnNumbers tables entries
      → ((other : Numbers × PairRow) → Has entries other → ¬ (terms_of other ≡ terms_of entry)) → (pair : Tagged) → Has (pairs_of tables.paths entries) pair → ¬ (pair.triple ≡ entry.1.triple)
  none_alike entry entries own are none pair h e =
      let i = image_has (entry_pair tables.paths) entries pair h in
      none i.0 i.1 (one_list i.0 entry (are i.0 i.1) own (ap (λ (w : Tagged). w.triple) i.2 ∙ e))

  pub triples_together : (entries : List (Numbers × PairRow)) → HaveOwnNumbers tables entries → StandTogether terms_of entries → StandTogether (λ (pair : Tagged). pair.triple) (pairs_of tables.paths entries)
  triples_together [] are t = tt
  triples_together (entry ∷ entries) are t =
      let own = are entry (inl refl) in
      let rest : HaveOwnNumbers tables entries = λ x h. are x (inr h) in (
        elim t.0 [
          | inl b ↦ inl (begins_alike entry entries own rest b)
          | inr n ↦ inr (none_alike entry entries own rest n)
        ],
        triples_together entries rest t.1,
      )

  -- so those that are found do
  pub finds_together : (pairs : List (Numbers × PairRow)) (wanted : Places) (found : List PairRow) → HaveOwnNumbers tables pairs → FindsEntries (has_places wanted) pairs found
      → StandTogether (λ (pair : Tagged). pair.triple) (rows_pairs tables.paths found)
  finds_together pairs wanted found are f =
      subst (StandTogether (λ (pair : Tagged). pair.triple)) (entries_are tables.paths f.entries found f.are) (triples_together f.entries (λ e h. are e ((f.members e).0 h).0) f.together)
