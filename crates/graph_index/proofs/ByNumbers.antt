-- What a graph has by the numbers of its terms.
use Rattle.std.proofs.Common.{◌≡◌, ◌∙◌, ℕ, zero, suc, ◌<◌, List, [], ◌∷◌, false, ◌&&◌, nat_eq, length, get_or, map, Option, None, Some, ◌↔◌, IfSome, IfNone, refl, sym, subst, ap, inl, inr, arith}
use Rattle.std.proofs.lemmas.List.Quantifiers.{position-Some}
use Rattle.std.specs.List.{filter, slice_get}
use Rattle.std.specs.Option.{option_map_or}
use Rattle.std.specs.Ordering.{eq_by_cmp}
use Rattle.rdf_terms.specs.declared.terms.Term.{Term}
use Rattle.rdf_terms.specs.declared.terms.Term.TheVariants as terms
use Rattle.rdf_terms.specs.declared.terms.Triple.{Triple}
use Rattle.rdf_terms.specs.Order.{term_cmp, triple_cmp}
use Rattle.rdf_terms.specs.OrderLaws.{triple_total}
use Rattle.tree_clock.specs.Lists.{Has}
use Rattle.mld_ops.specs.declared.pair_lists.PairRow.{PairRow}
use Rattle.mld_ops.specs.declared.tagged.Tagged.{Tagged}
use Rattle.mld_ops.specs.Present.{present}
use Rattle.mld_ops.proofs.AscendingLaws.{has_filter, ascending_filter}
use Rattle.mld_ops.proofs.PresentLaws.{has_present, present_ascends}
use Rattle.pair_orders.specs.declared.keys.Numbers.{Numbers}
use Rattle.pair_orders.specs.declared.keys.Places.{Places}
use Rattle.pair_orders.specs.declared.keys.TermNumbers.{TermNumbers}
use Rattle.pair_orders.specs.Keys as keys
use Rattle.pair_orders.specs.PairEntries.{StandOnce, HasTerms}
use Rattle.pair_orders.specs.TripleEntries.{FindsTriples, term_numbers}
use Rattle.graph_index.specs.GraphParts.{graph_parts}
use Rattle.graph_index.specs.Graphs.{entry_pair}
use Rattle.graph_index.specs.Matching.{HasTriple}
use Rattle.graph_index.specs.Numbered.{term_numbered, iri_of_term, triple_at, triple_numbered, is_wanted_term, has_wanted, StandForOwn, AreAllNumbered, FindsNumbered}
use Rattle.graph_index.specs.TermNumbers.{AreNumbersOf, HaveOwnNumbers, StandApart}
use Rattle.number_tables.specs.TableNumbers.{number_of_term}
use Rattle.graph_index.specs.declared.parts.Parts.{Parts}
use Rattle.graph_index.proofs.Finding.{as_many_by, in_view, nat_decides, numbered_in, same_tests, view_ascends}
use Rattle.number_tables.proofs.Numbers.{placed_term, term_decides}
use Rattle.graph_index.proofs.Once.{once_ascending, once_permutes}
use Rattle.graph_index.proofs.WantedPlaces.{some_injective}

-- ---- images that are all there

module _ {X Y : Type 0} (f : X → Option Y) where
  -- each value of the list has an image
  abbrev pub AllThere : List X → Type 0
  AllThere xs = (x : X) → Has xs x → (y : Y) × (f x ≡ Some y)

  -- those images
  abbrev pub gathered : (xs : List X) → AllThere xs → List Y
  gathered [] h = []
  gathered (x ∷ xs) h = (h x (inl refl)).0 ∷ gathered xs (λ z k. h z (inr k))

  pub gathered_are : (xs : List X) (h : AllThere xs) → map f xs ≡ map (λ y. Some y) (gathered xs h)
  gathered_are [] h = refl
  gathered_are (x ∷ xs) h = let first = (h x (inl refl)).1 in let rest = gathered_are xs (λ z k. h z (inr k)) in λ i. first i ∷ rest i

  pub gathered_has : (xs : List X) (h : AllThere xs) (y : Y) → Has (gathered xs h) y → (x : X) × Has xs x × (f x ≡ Some y)
  gathered_has [] h y k = absurd k
  gathered_has (x ∷ xs) h y (inl e) = (x, inl refl, (h x (inl refl)).1 ∙ ap (λ w. Some w) e)
  gathered_has (x ∷ xs) h y (inr k) = let g = gathered_has xs (λ z k. h z (inr k)) y k in (g.0, inr g.1, g.2)

  pub has_gathered : (xs : List X) (h : AllThere xs) (x : X) (y : Y) → Has xs x → f x ≡ Some y → Has (gathered xs h) y
  has_gathered [] h x y k e = absurd k
  has_gathered (z ∷ xs) h x y (inl q) e = inl (some_injective (h z (inl refl)).0 y (sym (h z (inl refl)).1 ∙ ap f q ∙ e))
  has_gathered (z ∷ xs) h x y (inr k) e = inr (has_gathered xs (λ z k. h z (inr k)) x y k e)

  -- each stands once where no two values have one image
  pub gathered_once : ((a b : X) (y : Y) → f a ≡ Some y → f b ≡ Some y → a ≡ b) → (xs : List X) (h : AllThere xs) → StandOnce xs → StandOnce (gathered xs h)
  gathered_once apart [] h once = tt
  gathered_once apart (x ∷ xs) h once = (
    λ k.
        let g = gathered_has xs (λ z k. h z (inr k)) (h x (inl refl)).0 k in
        once.0 (subst (λ w. Has xs w) (apart g.0 x (h x (inl refl)).0 g.2 (h x (inl refl)).1) g.1),
    gathered_once apart xs (λ z k. h z (inr k)) once.1,
  )

-- ---- terms

read_at : {X : Type 0} (xs : List X) (n : ℕ) (d : X) → n < length xs → slice_get xs n ≡ Some (get_or xs n d)
read_at [] n d l = absurd (none_below l)
  where
    none_below : n < 0 → ⊥
    none_below l = omega (arith, l)
read_at (x ∷ xs) zero d l = refl
read_at (x ∷ xs) (suc n) d l = read_at xs n d (omega (arith, l))

-- the term stands at its place
pub at_number : (list : List Term) (term : Term) (n : ℕ) → number_of_term list term ≡ Some n → slice_get list n ≡ Some term
at_number list term n h =
    let p = position-Some (eq_by_cmp term_cmp term) list n term h in
    read_at list n term p.0 ∙ ap (λ w. Some w) (sym ((term_decides term (get_or list n term)).0 p.1))

-- the parts of a triple that there is
pub parts_are : (s p o : Option Term) (triple : Triple) → triple_at (iri_of_term s) (iri_of_term p) o ≡ Some triple
    → (s ≡ Some (terms.Iri triple.s)) × (p ≡ Some (terms.Iri triple.p)) × (o ≡ Some triple.o)
parts_are None p o triple e = cc
parts_are (Some (terms.Literal l)) p o triple e = cc
parts_are (Some (terms.Iri a)) None o triple e = cc
parts_are (Some (terms.Iri a)) (Some (terms.Literal l)) o triple e = cc
parts_are (Some (terms.Iri a)) (Some (terms.Iri b)) None triple e = cc
parts_are (Some (terms.Iri a)) (Some (terms.Iri b)) (Some c) triple e =
    let q : record { s = a; p = b; o = c } ≡ triple = some_injective (record { s = a; p = b; o = c }) triple e in
    (ap (λ (t : Triple). Some (terms.Iri t.s)) q, ap (λ (t : Triple). Some (terms.Iri t.p)) q, ap (λ (t : Triple). Some t.o) q)

module _ (parts : Parts) (are : HaveOwnNumbers parts.tables parts.numbered.pairs) (apart : StandApart parts.tables.terms parts.tables.paths) where
  -- no two numbers are of one term
  pub stand_for_own : StandForOwn (graph_parts parts)
  stand_for_own n m term h k =
      let itself = (term_decides term term).1 refl in
      some_injective n m
      (sym (placed_term parts.tables.terms n term term apart.terms_apart h itself) ∙ placed_term parts.tables.terms m term term apart.terms_apart k itself)

  pub number_some : (term : Term) (number : Option ℕ) → number ≡ number_of_term parts.tables.terms term → IfSome number (λ n. term_numbered (graph_parts parts) n ≡ Some term)
  number_some term None e = tt
  number_some term (Some n) e = at_number parts.tables.terms term n (sym e)

  pub number_none : (term : Term) (number : Option ℕ) → number ≡ number_of_term parts.tables.terms term → IfNone number ((n : ℕ) → ¬ (term_numbered (graph_parts parts) n ≡ Some term))
  number_none term None e = λ n h. none n (e ∙ placed_term parts.tables.terms n term term apart.terms_apart h ((term_decides term term).1 refl))
    where
      none : (n : ℕ) → None ≡ Some n → ⊥
      none n e = cc
  number_none term (Some n) e = tt

  -- ---- triples

  -- the numbers of a pair are those of its triple
  pub triple_of_own : (pair : Tagged) (numbers : Numbers) → AreNumbersOf parts.tables pair numbers → triple_numbered (graph_parts parts) (term_numbers numbers) ≡ Some pair.triple
  triple_of_own pair numbers own =
      let s = at_number parts.tables.terms (terms.Iri pair.triple.s) numbers.s own.s in
      let p = at_number parts.tables.terms (terms.Iri pair.triple.p) numbers.p own.p in
      let o = at_number parts.tables.terms pair.triple.o numbers.o own.o in
      λ i. triple_at (iri_of_term (s i)) (iri_of_term (p i)) (o i)

  pub all_numbered : AreAllNumbered (graph_parts parts)
  all_numbered pair h =
      let n = numbered_in parts.tables parts.numbered.pairs are (graph_parts parts).pairs refl pair h in
      (term_numbers n.0.0, triple_of_own pair n.0.0 n.2)

  -- no two lists of numbers are of one triple
  pub same_terms : (a b : TermNumbers) (triple : Triple) → triple_numbered (graph_parts parts) a ≡ Some triple → triple_numbered (graph_parts parts) b ≡ Some triple → a ≡ b
  same_terms a b triple h k =
      let f = parts_are (term_numbered (graph_parts parts) a.s) (term_numbered (graph_parts parts) a.p) (term_numbered (graph_parts parts) a.o) triple h in
      let g = parts_are (term_numbered (graph_parts parts) b.s) (term_numbered (graph_parts parts) b.p) (term_numbered (graph_parts parts) b.o) triple k in
      let s = stand_for_own a.s b.s (terms.Iri triple.s) f.0 g.0 in
      let p = stand_for_own a.p b.p (terms.Iri triple.p) f.1 g.1 in
      let o = stand_for_own a.o b.o triple.o f.2 g.2 in
      λ i. record { s = s i; p = p i; o = o i }

  -- some pair has the triple of the numbers exactly where one has the numbers
  pub terms_found : (wanted : TermNumbers) → HasTerms parts.numbered.pairs wanted.s wanted.p wanted.o
      ↔ ((triple : Triple) × (triple_numbered (graph_parts parts) wanted ≡ Some triple) × HasTriple (graph_parts parts).pairs triple)
  terms_found wanted = (
    λ h.
        let own = triple_of_own (entry_pair parts.tables.paths h.0) h.0.0 (are h.0 h.1).numbers in
        let same : term_numbers h.0.0 ≡ wanted = λ i. record { s = h.2 i; p = h.3 i; o = h.4 i } in (
          h.0.1.triple,
          subst (λ (w : TermNumbers). triple_numbered (graph_parts parts) w ≡ Some h.0.1.triple) same own,
          ((entry_pair parts.tables.paths h.0).dot, in_view parts.tables parts.numbered.pairs are (graph_parts parts).pairs refl h.0 h.1),
        ),
    λ h.
        let pair : Tagged = record { triple = h.0; dot = h.2.0 } in
        let n = numbered_in parts.tables parts.numbered.pairs are (graph_parts parts).pairs refl pair h.2.1 in
        let e = same_terms (term_numbers n.0.0) wanted h.0 (triple_of_own pair n.0.0 n.2) h.1 in
        (n.0, n.1, ap (λ (w : TermNumbers). w.s) e, ap (λ (w : TermNumbers). w.p) e, ap (λ (w : TermNumbers). w.o) e),
  )

  -- ---- wanted numbers

  part_wanted : (wanted : Option ℕ) (term : Term) (n : ℕ) → term_numbered (graph_parts parts) n ≡ Some term → is_wanted_term (graph_parts parts) wanted term ≡ keys.is_wanted wanted n
  part_wanted None term n h = refl
  part_wanted (Some m) term n h = by (term_numbered (graph_parts parts) m) refl
    where
      absent : None ≡ Some term → ⊥
      absent e = cc

      by : (own : Option Term) → term_numbered (graph_parts parts) m ≡ own → option_map_or (λ own. eq_by_cmp term_cmp own term) own false ≡ nat_eq m n
      by None e = same_tests false (nat_eq m n) (λ q. cc) (λ q. absurd (absent (sym e ∙ ap (term_numbered (graph_parts parts)) ((nat_decides m n).0 q) ∙ h)))
      by (Some own) e =
          same_tests (eq_by_cmp term_cmp own term) (nat_eq m n)
          (λ q. (nat_decides m n).1 (stand_for_own m n term (e ∙ ap (λ w. Some w) ((term_decides own term).0 q)) h))
          (λ q. (term_decides own term).1 (some_injective own term (sym e ∙ ap (term_numbered (graph_parts parts)) ((nat_decides m n).0 q) ∙ h)))

  -- a pair's triple has the wanted numbers exactly where its own are these
  pub wanted_same : (wanted : Places) (pair : Tagged) (numbers : Numbers) → AreNumbersOf parts.tables pair numbers → has_wanted (graph_parts parts) wanted pair.triple ≡ keys.has_places wanted numbers
  wanted_same wanted pair numbers own =
      let s = part_wanted wanted.s (terms.Iri pair.triple.s) numbers.s (at_number parts.tables.terms (terms.Iri pair.triple.s) numbers.s own.s) in
      let p = part_wanted wanted.p (terms.Iri pair.triple.p) numbers.p (at_number parts.tables.terms (terms.Iri pair.triple.p) numbers.p own.p) in
      let o = part_wanted wanted.o pair.triple.o numbers.o (at_number parts.tables.terms pair.triple.o numbers.o own.o) in
      λ i. s i && (p i && o i)

  -- as many have them
  pub as_many_wanted : (wanted : Places) → StandOnce (map (λ (e : Numbers × PairRow). e.0) parts.numbered.pairs)
      → length (filter (λ (e : Numbers × PairRow). keys.has_places wanted e.0) parts.numbered.pairs)
      ≡ length (filter (λ (pair : Tagged). has_wanted (graph_parts parts) wanted pair.triple) (graph_parts parts).pairs)
  as_many_wanted wanted once =
      as_many_by parts.tables parts.numbered.pairs are (graph_parts parts).pairs refl (λ (pair : Tagged). has_wanted (graph_parts parts) wanted pair.triple) wanted
      (λ pair numbers own. wanted_same wanted pair numbers own) once

  -- ---- what is found

  module _ (wanted : Places) (found : List TermNumbers) (f : FindsTriples (keys.has_places wanted) parts.numbered.pairs found) where
    all_there : AllThere (triple_numbered (graph_parts parts)) found
    all_there n h =
        let m = (f.members n).0 h in
        (m.0.1.triple, subst (λ (w : TermNumbers). triple_numbered (graph_parts parts) w ≡ Some m.0.1.triple) m.3 (triple_of_own (entry_pair parts.tables.paths m.0) m.0.0 (are m.0 m.1).numbers))

    abbrev found_triples : List Triple
    found_triples = gathered (triple_numbered (graph_parts parts)) found all_there

    onward : (triple : Triple) → Has (filter (has_wanted (graph_parts parts) wanted) (present (graph_parts parts).pairs)) triple → Has found_triples triple
    onward triple h =
        let w = (has_filter (has_wanted (graph_parts parts) wanted) (present (graph_parts parts).pairs) triple).0 h in
        let q = (has_present (graph_parts parts).pairs triple).0 w.0 in
        let n = numbered_in parts.tables parts.numbered.pairs are (graph_parts parts).pairs refl q.pair q.stands in
        has_gathered (triple_numbered (graph_parts parts)) found all_there (term_numbers n.0.0) triple
        ((f.members (term_numbers n.0.0)).1 (
          n.0,
          n.1,
          sym (wanted_same wanted q.pair n.0.0 n.2) ∙ ap (has_wanted (graph_parts parts) wanted) q.is ∙ w.1,
          refl,
        ))
        (triple_of_own q.pair n.0.0 n.2 ∙ ap (λ t. Some t) q.is)

    back : (triple : Triple) → Has found_triples triple → Has (filter (has_wanted (graph_parts parts) wanted) (present (graph_parts parts).pairs)) triple
    back triple h =
        let g = gathered_has (triple_numbered (graph_parts parts)) found all_there triple h in
        let m = (f.members g.0).0 g.1 in
        let pair : Tagged = entry_pair parts.tables.paths m.0 in
        let own = (are m.0 m.1).numbers in
        let is : m.0.1.triple ≡ triple = some_injective m.0.1.triple triple
        (sym (triple_of_own pair m.0.0 own) ∙ ap (triple_numbered (graph_parts parts)) m.3 ∙ g.2) in
        (has_filter (has_wanted (graph_parts parts) wanted) (present (graph_parts parts).pairs) triple).1 (
          (has_present (graph_parts parts).pairs triple).1 (record {
            pair = pair;
            stands = in_view parts.tables parts.numbered.pairs are (graph_parts parts).pairs refl m.0 m.1;
            is = is;
          }),
          ap (has_wanted (graph_parts parts) wanted) (sym is) ∙ wanted_same wanted pair m.0.0 own ∙ m.2,
        )

    pub finds_numbered : FindsNumbered (graph_parts parts) wanted found
    finds_numbered = record {
      triples = found_triples;
      are = gathered_are (triple_numbered (graph_parts parts)) found all_there;
      whole =
          once_permutes (filter (has_wanted (graph_parts parts) wanted) (present (graph_parts parts).pairs)) found_triples
          (once_ascending triple_cmp triple_total (filter (has_wanted (graph_parts parts) wanted) (present (graph_parts parts).pairs))
          (ascending_filter triple_cmp (has_wanted (graph_parts parts) wanted) (present (graph_parts parts).pairs)
          (present_ascends (graph_parts parts).pairs (view_ascends parts.tables parts.numbered.pairs are (graph_parts parts).pairs refl))))
          (gathered_once (triple_numbered (graph_parts parts)) (λ a b triple h k. same_terms a b triple h k) found all_there f.once)
          onward back;
    }
