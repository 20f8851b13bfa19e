-- What a pattern finds in a row by numbers of a graph.
use Rattle.std.proofs.Common.{◌≡◌, ◌∙◌, ℕ, List, [], ◌∷◌, ◌↔◌, Bool, true, false, ◌&&◌, Option, None, Some, IsTrue, if◌then◌else◌, map, filter_map, filter, refl, sym, ap, subst}
use Rattle.std.specs.Option.{option_map_or}
use Rattle.std.specs.List.Sorted.{IsPermutation}
use Rattle.jrql_rows.specs.rdf_terms.declared.terms.Term.{Term}
use Rattle.jrql_rows.specs.rdf_terms.declared.terms.Term.TheVariants as terms
use Rattle.jrql_rows.specs.rdf_terms.declared.terms.Triple.{Triple}
use Rattle.jrql_rows.specs.tree_clock.Lists.{IsAscending}
use Rattle.jrql_rows.specs.mld_ops.Present.{present}
use Rattle.jrql_rows.specs.mld_ops.Tagged.{tagged_cmp}
use Rattle.jrql_rows.proofs.of_mld_ops.PresentLaws.{has_present}
use Rattle.jrql_rows.specs.graph_index.Graphs.{GraphValue}
use Rattle.jrql_rows.specs.graph_index.Matching.{HasTriple}
use Rattle.jrql_rows.specs.graph_index.Numbered.{term_numbered, iri_of_term, triple_at, triple_numbered, is_wanted_term, has_wanted, Places, TermNumbers, AreAllNumbered, FindsNumbered}
use Rattle.jrql_rows.specs.jrql_ast.declared.patterns.PatternTriple.{PatternTriple}
use Rattle.jrql_rows.specs.jrql_ast.FilterMeaning.{side_value}
use Rattle.jrql_rows.specs.jrql_ast.Solutions.{agree, is_same_term}
use Rattle.jrql_rows.proofs.of_jrql_ast.BoundSlots.{same_refl, none_some, some_is, agree_before_s, agree_before_p, agree_before_o}
use Rattle.jrql_rows.proofs.of_jrql_ast.Rearranging.{same_list}
use Rattle.jrql_eval.specs.FoundTriples.{FindsFor, IsPlaceOf}
use Rattle.jrql_plans.specs.PlannedGroups.{IsBoundIn}
use Rattle.jrql_eval.specs.Evaluating.{instance_of}
use Rattle.jrql_eval.proofs.Scanned.{none_unless, nothing_found, found_filtered, found_permuted}
use Rattle.jrql_eval.proofs.TripleScans.{checked_by, unchecked}

-- ---- the terms of a triple's numbers
parts_of : (s p : Option (List ℕ)) (o : Option Term) (t : Triple) → triple_at s p o ≡ Some t → (s ≡ Some t.s) × (p ≡ Some t.p) × (o ≡ Some t.o)
parts_of None p o t e = none_some e
parts_of (Some s) None o t e = none_some e
parts_of (Some s) (Some p) None t e = none_some e
parts_of (Some s) (Some p) (Some o) t e =
    let r : record { s = s; p = p; o = o } ≡ t = some_is (record { s = s; p = p; o = o }) t e in
    (ap (λ (z : Triple). Some z.s) r, ap (λ (z : Triple). Some z.p) r, ap (λ (z : Triple). Some z.o) r)

iri_there : (o : Option Term) (iri : List ℕ) → iri_of_term o ≡ Some iri → o ≡ Some (terms.Iri iri)
iri_there None iri e = none_some e
iri_there (Some (terms.Iri own)) iri e = ap (λ x. Some (terms.Iri x)) (some_is own iri e)
iri_there (Some (terms.Literal literal)) iri e = none_some e

-- the numbers are those of the triple's terms
record AreTermsOf (graph : GraphValue) (numbers : TermNumbers) (triple : Triple) : Type 0 where
  pub subject : term_numbered graph numbers.s ≡ Some (terms.Iri triple.s)
  pub predicate : term_numbered graph numbers.p ≡ Some (terms.Iri triple.p)
  pub object : term_numbered graph numbers.o ≡ Some triple.o

terms_numbered : (graph : GraphValue) (numbers : TermNumbers) (triple : Triple) → triple_numbered graph numbers ≡ Some triple → AreTermsOf graph numbers triple
terms_numbered graph numbers triple e =
    let parts = parts_of (iri_of_term (term_numbered graph numbers.s)) (iri_of_term (term_numbered graph numbers.p)) (term_numbered graph numbers.o) triple e in
    record {
      subject = iri_there (term_numbered graph numbers.s) triple.s parts.0;
      predicate = iri_there (term_numbered graph numbers.p) triple.p parts.1;
      object = parts.2;
    }

-- ---- what is found
module _ (graph : GraphValue) (pattern : PatternTriple) (row : List (Option Term)) where
  -- no triple that has numbers agrees
  abbrev pub AgreesNever : Type 0
  AgreesNever = (triple : Triple) (next : List (Option Term)) (numbers : TermNumbers) → agree pattern triple row ≡ Some next → triple_numbered graph numbers ≡ Some triple → ⊥

  pub no_subject : IsPlaceOf graph (side_value pattern.s row) None → AgreesNever
  no_subject place triple next numbers h e =
      place.2 numbers.s ((terms_numbered graph numbers triple e).subject ∙ ap Some (sym (agree_before_s pattern triple row next h place.0 place.1)))

  pub no_predicate : IsPlaceOf graph (side_value pattern.p row) None → AgreesNever
  no_predicate place triple next numbers h e =
      place.2 numbers.p ((terms_numbered graph numbers triple e).predicate ∙ ap Some (sym (agree_before_p pattern triple row next h place.0 place.1)))

  pub no_object : IsPlaceOf graph (side_value pattern.o row) None → AgreesNever
  no_object place triple next numbers h e =
      place.2 numbers.o ((terms_numbered graph numbers triple e).object ∙ ap Some (sym (agree_before_o pattern triple row next h place.0 place.1)))

  pub none_agrees : AreAllNumbered graph → AgreesNever → filter_map (λ t. agree pattern t row) (present graph.pairs) ≡ []
  none_agrees all never =
      nothing_found (λ t. agree pattern t row) (present graph.pairs)
      (λ triple h. none_unless (agree pattern triple row) (λ next k.
      let q = (has_present graph.pairs triple).0 h in
      let n = all q.pair q.stands in
      never triple next n.0 k (n.1 ∙ ap Some q.is)))

  wanted_is : (side : Option Term) (n : Option ℕ) (term : Term) → IsPlaceOf graph side (Some n) → ((x : Term) → side ≡ Some x → x ≡ term) → is_wanted_term graph n term ≡ true
  wanted_is side None term place h = refl
  wanted_is side (Some n) term place h =
      subst (λ (o : Option Term). option_map_or (λ own. is_same_term own term) o false ≡ true) (sym place.2)
      (subst (λ t. is_same_term place.0 t ≡ true) (h place.0 place.1) (same_refl place.0))

  wanted_all : (s p o : Option ℕ) → IsPlaceOf graph (side_value pattern.s row) (Some s) → IsPlaceOf graph (side_value pattern.p row) (Some p) → IsPlaceOf graph (side_value pattern.o row) (Some o)
      → (triple : Triple) (next : List (Option Term)) → agree pattern triple row ≡ Some next → has_wanted graph (record { s = s; p = p; o = o }) triple ≡ true
  wanted_all s p o es ep eo triple next h =
      all_three _ _ _ (wanted_is (side_value pattern.s row) s (terms.Iri triple.s) es (agree_before_s pattern triple row next h))
      (wanted_is (side_value pattern.p row) p (terms.Iri triple.p) ep (agree_before_p pattern triple row next h))
      (wanted_is (side_value pattern.o row) o triple.o eo (agree_before_o pattern triple row next h))
    where
      all_three : (a b c : Bool) → a ≡ true → b ≡ true → c ≡ true → (a && (b && c)) ≡ true
      all_three a b c e f g = rw (e, f, g) refl

  pub finds_none : AreAllNumbered graph → AgreesNever → (found : List TermNumbers) → found ≡ [] → FindsFor pattern (record { graph = graph; row = row }) found
  finds_none all never found e = record {
    triples = [];
    are = ap (map (triple_numbered graph)) e;
    whole = same_list _ _ (none_agrees all never);
  }

  pub finds_for : (s p o : Option ℕ) → IsPlaceOf graph (side_value pattern.s row) (Some s) → IsPlaceOf graph (side_value pattern.p row) (Some p) → IsPlaceOf graph (side_value pattern.o row) (Some o)
      → (found : List TermNumbers) → FindsNumbered graph (record { s = s; p = p; o = o }) found → FindsFor pattern (record { graph = graph; row = row }) found
  finds_for s p o es ep eo found finds = record {
    triples = finds.triples;
    are = finds.are;
    whole =
        subst (λ l. IsPermutation l (filter_map (λ t. agree pattern t row) finds.triples))
        (found_filtered (λ t. agree pattern t row) (has_wanted graph (record { s = s; p = p; o = o })) (wanted_all s p o es ep eo) (present graph.pairs))
        (found_permuted (λ t. agree pattern t row) (filter (has_wanted graph (record { s = s; p = p; o = o })) (present graph.pairs)) finds.triples finds.whole);
  }

  pub finds_for_wanted : (s p o : Option ℕ) → IsPlaceOf graph (side_value pattern.s row) (Some s) → IsPlaceOf graph (side_value pattern.p row) (Some p) → IsPlaceOf graph (side_value pattern.o row) (Some o)
      → (of : GraphValue) (wanted : Places) → of ≡ graph → wanted.s ≡ s → wanted.p ≡ p → wanted.o ≡ o
      → (found : List TermNumbers) → FindsNumbered of wanted found → FindsFor pattern (record { graph = graph; row = row }) found
  finds_for_wanted s p o es ep eo of wanted same is_s is_p is_o found finds =
      finds_for s p o es ep eo found
      (subst (λ (both : GraphValue × Places). FindsNumbered both.0 both.1 found) (λ i. (same i, record { s = is_s i; p = is_p i; o = is_o i })) finds)

  -- whether the triple of a pattern's numbers is there
  pub numbers_checked : (numbers : TermNumbers) → term_numbered graph numbers.s ≡ side_value pattern.s row → term_numbered graph numbers.p ≡ side_value pattern.p row
      → term_numbered graph numbers.o ≡ side_value pattern.o row → IsBoundIn row pattern → IsAscending tagged_cmp graph.pairs
      → (b : Bool) → (IsTrue b ↔ ((triple : Triple) × (triple_numbered graph numbers ≡ Some triple) × HasTriple graph.pairs triple))
      → filter_map (λ t. agree pattern t row) (present graph.pairs) ≡ (if b then row ∷ [] else [])
  numbers_checked numbers es ep eo bound ascending b found = by (triple_numbered graph numbers) refl b found
    where
      same : instance_of pattern row ≡ triple_numbered graph numbers
      same = sym (λ i. triple_at (iri_of_term (es i)) (iri_of_term (ep i)) (eo i))

      none_so : (b : Bool) → (IsTrue b → ⊥) → b ≡ false
      none_so true h = absurd (h refl)
      none_so false h = refl

      by : (o : Option Triple) → triple_numbered graph numbers ≡ o → (b : Bool) → (IsTrue b ↔ ((triple : Triple) × (triple_numbered graph numbers ≡ Some triple) × HasTriple graph.pairs triple))
          → filter_map (λ t. agree pattern t row) (present graph.pairs) ≡ (if b then row ∷ [] else [])
      by None e b found =
          let no : b ≡ false = none_so b (λ h. none_some (sym e ∙ (found.0 h).1)) in
          unchecked graph.pairs pattern row bound (same ∙ e) ∙ ap (λ (c : Bool). if c then row ∷ [] else []) (sym no)
      by (Some triple) e b found =
          checked_by graph.pairs pattern row b triple ascending bound (same ∙ e)
          (λ h. let t = found.0 h in subst (HasTriple graph.pairs) (some_is t.0 triple (sym t.1 ∙ e)) t.2, λ h. found.1 (triple, e, h))
