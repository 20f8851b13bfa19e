-- What is found of numbered pairs by their numbers is what is found of the graph by its terms.
use Rattle.std.proofs.Common.{◌≡◌, ◌∙◌, ℕ, suc, List, [], ◌∷◌, Bool, true, false, ◌&&◌, nat_eq, nat_le, length, map, Option, None, Some, ◌↔◌, cond, refl, sym, subst, ap, inl, inr}
use Rattle.std.proofs.lemmas.Bool.{and_parts, and_from, true≢false, false≢true}
use Rattle.std.proofs.lemmas.Bool.Decides.{eqb_tells}
use Rattle.std.specs.Bool.{Decides}
use Rattle.std.specs.Cmp.Lexicographic.{pointwise, bytes_decides}
use Rattle.std.specs.List.{filter}
use Rattle.std.specs.Option.{option_map}
use Rattle.std.specs.Ordering.{eq_by_cmp, is_eq}
use Rattle.std.specs.declared.cmp.Ordering.{Ordering}
use Rattle.std.specs.declared.cmp.Ordering.TheVariants.{Less, Equal, Greater}
use Rattle.std.proofs.lemmas.Cmp.{tied_itself}
use Rattle.rdf_terms.specs.declared.terms.Term.{Term}
use Rattle.rdf_terms.specs.declared.terms.Triple.{Triple}
use Rattle.rdf_terms.specs.Order.{term_cmp, triple_cmp}
use Rattle.rdf_terms.specs.OrderLaws.{triple_total, triple_exact}
use Rattle.tree_clock.specs.declared.dots.Dot.{Dot}
use Rattle.tree_clock.specs.declared.dots.Range.{Range}
use Rattle.tree_clock.specs.Lists.{Has, IsAscending}
use Rattle.mld_ops.specs.declared.pair_lists.PairRow.{PairRow}
use Rattle.mld_ops.specs.declared.tagged.Tagged.{Tagged}
use Rattle.mld_ops.specs.Tagged.{tagged_cmp}
use Rattle.mld_ops.proofs.AscendingLaws.{has_filter, ascending_filter}
use Rattle.pair_orders.specs.declared.keys.Numbers.{Numbers}
use Rattle.pair_orders.specs.declared.keys.Places.{Places}
use Rattle.pair_orders.specs.Keys.{has_places, is_wanted}
use Rattle.pair_orders.specs.PairEntries.{StandOnce, HasNumbers, HasTerms, FindsEntries, is_of_ticks}
use Rattle.mld_ops.specs.PairLists.{row_pair, rows_pairs}
use Rattle.graph_index.specs.Graphs.{entry_pair, in_order_of, pairs_of}
use Rattle.graph_index.specs.Matching.{has_iri, is_term, matches, is_of, is_within_range, FindsEach, HasTriple}
use Rattle.graph_index.specs.TermNumbers.{TablesValue, AreNumbersOf, HaveOwnNumbers, IsNumbered, iri_number, number_given, ArePlaces, LackNumber}
use Rattle.number_tables.specs.TableNumbers.{number_of_term, number_of_path}
use Rattle.number_tables.proofs.Numbers.{term_decides}
use Rattle.graph_index.proofs.Numbers.{same_iri, same_term, same_path, same_pair, same_numbers}
use Rattle.graph_index.proofs.Moving.{entries_are, once_by_numbers, with_numbers}
use Rattle.graph_index.proofs.WantedPlaces.{some_injective}
use Rattle.graph_index.proofs.Putting.{order_members, order_ascends, order_is, order_count, order_length}
use Rattle.graph_index.proofs.Sorting.{has_image, image_has}

-- ---- one part: that it is the given one, and that its number is the wanted one

pub nat_decides : (a b : ℕ) → (nat_eq a b ≡ true → a ≡ b) × (a ≡ b → nat_eq a b ≡ true)
nat_decides a b = elim (eqb_tells a b) [
  | inl p ↦ (λ h. p.1, λ e. p.0)
  | inr p ↦ (λ h. absurd (true≢false (sym h ∙ p.0)), λ e. absurd (p.1 e))
]

pub same_tests : (b c : Bool) → (b ≡ true → c ≡ true) → (c ≡ true → b ≡ true) → b ≡ c
same_tests true true f g = refl
same_tests true false f g = sym (f refl)
same_tests false true f g = g refl
same_tests false false f g = refl

module _ {X : Type 0} (eq : X → X → Bool) (decides : (a b : X) → Decides (eq a b) (a ≡ b)) (number : X → Option ℕ)
    (same : (a b : X) (n : ℕ) → number a ≡ Some n → number b ≡ Some n → a ≡ b) where
  -- whether a part, where one is given, is this one
  abbrev is_part : Option X → X → Bool
  is_part None x = true
  is_part (Some given) x = eq given x

  no_number : {Y : Type 0} (given : X) → option_map (λ n. Some n) (number given) ≡ None → (n : ℕ) → number given ≡ Some n → Y
  no_number given h n e = absurd (by (number given) h e)
    where
      by : (o : Option ℕ) → option_map (λ n. Some n) o ≡ None → o ≡ Some n → ⊥
      by None h e = cc
      by (Some m) h e = cc

  given_number : (given : X) (wanted : Option ℕ) → option_map (λ n. Some n) (number given) ≡ Some wanted → (n : ℕ) × (number given ≡ Some n) × (wanted ≡ Some n)
  given_number given wanted h = by (number given) refl h
    where
      by : (o : Option ℕ) → number given ≡ o → option_map (λ n. Some n) o ≡ Some wanted → (n : ℕ) × (number given ≡ Some n) × (wanted ≡ Some n)
      by None e h = cc
      by (Some m) e h = (m, e, sym (some_injective (Some m) wanted h))

  pub part_wanted : (given : Option X) (wanted : Option ℕ) (x : X) (n : ℕ) → number_given number given ≡ Some wanted → number x ≡ Some n → is_part given x ≡ is_wanted wanted n
  part_wanted None wanted x n h e = let w : wanted ≡ None = sym (some_injective None wanted h) in ap (λ w. is_wanted w n) (sym w)
  part_wanted (Some given) wanted x n h e =
      let g = given_number given wanted h in
      same_tests (eq given x) (nat_eq g.0 n)
      (λ t. (nat_decides g.0 n).1 (some_injective g.0 n (sym g.1 ∙ ap number ((decides given x).0 t) ∙ e)))
      (λ t. (decides given x).1 (same given x n (g.1 ∙ ap (λ m. Some m) ((nat_decides g.0 n).0 t)) e))
      ∙ ap (λ w. is_wanted w n) (sym g.2)

  pub part_lacks : {Y : Type 0} (given : Option X) (x : X) (n : ℕ) → number_given number given ≡ None → number x ≡ Some n → is_part given x ≡ true → Y
  part_lacks None x n h e t = cc
  part_lacks (Some given) x n h e t = no_number given h n (ap number ((decides given x).0 t) ∙ e)

-- ---- all parts

module _ (tables : TablesValue) (s p : Option (List ℕ)) (o : Option Term) where
  iri_same : (a b : List ℕ) (n : ℕ) → iri_number tables a ≡ Some n → iri_number tables b ≡ Some n → a ≡ b
  iri_same a b n h k = same_iri tables.terms a b n h k

  term_same : (a b : Term) (n : ℕ) → number_of_term tables.terms a ≡ Some n → number_of_term tables.terms b ≡ Some n → a ≡ b
  term_same a b n h k = same_term tables.terms a b n h k

  as_iri : (given : Option (List ℕ)) (x : List ℕ) → has_iri given x ≡ is_part (pointwise nat_eq) bytes_decides (iri_number tables) iri_same given x
  as_iri None x = refl
  as_iri (Some given) x = refl

  as_term : (given : Option Term) (x : Term) → is_term given x ≡ is_part (eq_by_cmp term_cmp) term_decides (number_of_term tables.terms) term_same given x
  as_term None x = refl
  as_term (Some given) x = refl

  -- a pair matches exactly where its numbers are the wanted ones
  pub matches_wanted : (wanted : Places) (pair : Tagged) (numbers : Numbers) → ArePlaces tables s p o wanted → AreNumbersOf tables pair numbers → matches s p o pair ≡ has_places wanted numbers
  matches_wanted wanted pair numbers are own =
      let a = as_iri s pair.triple.s ∙ part_wanted (pointwise nat_eq) bytes_decides (iri_number tables) iri_same s wanted.s pair.triple.s numbers.s are.s_is own.s in
      let b = as_iri p pair.triple.p ∙ part_wanted (pointwise nat_eq) bytes_decides (iri_number tables) iri_same p wanted.p pair.triple.p numbers.p are.p_is own.p in
      let c = as_term o pair.triple.o ∙ part_wanted (eq_by_cmp term_cmp) term_decides (number_of_term tables.terms) term_same o wanted.o pair.triple.o numbers.o are.o_is own.o in
      λ i. a i && (b i && c i)

  -- no pair with numbers matches where a given part has none
  pub matches_none : (pair : Tagged) (numbers : Numbers) → LackNumber tables s p o → AreNumbersOf tables pair numbers → matches s p o pair ≡ true → ⊥
  matches_none pair numbers lack own h =
      let t = and_parts (has_iri s pair.triple.s) (has_iri p pair.triple.p && is_term o pair.triple.o) h in
      let u = and_parts (has_iri p pair.triple.p) (is_term o pair.triple.o) t.1 in
      elim lack [
        | inl n ↦ part_lacks (pointwise nat_eq) bytes_decides (iri_number tables) iri_same s pair.triple.s numbers.s n own.s (sym (as_iri s pair.triple.s) ∙ t.0)
        | inr m ↦ elim m [
          | inl n ↦ part_lacks (pointwise nat_eq) bytes_decides (iri_number tables) iri_same p pair.triple.p numbers.p n own.p (sym (as_iri p pair.triple.p) ∙ u.0)
          | inr n ↦ part_lacks (eq_by_cmp term_cmp) term_decides (number_of_term tables.terms) term_same o pair.triple.o numbers.o n own.o (sym (as_term o pair.triple.o) ∙ u.1)
        ]
      ]

-- ---- a triple's own parts

triple_parts : (a b : Triple) → (pointwise nat_eq a.s b.s && (pointwise nat_eq a.p b.p && eq_by_cmp term_cmp a.o b.o)) ≡ true → a ≡ b
triple_parts a b h =
    let t = and_parts (pointwise nat_eq a.s b.s) (pointwise nat_eq a.p b.p && eq_by_cmp term_cmp a.o b.o) h in
    let u = and_parts (pointwise nat_eq a.p b.p) (eq_by_cmp term_cmp a.o b.o) t.1 in
    let s = (bytes_decides a.s b.s).0 t.0 in
    let p = (bytes_decides a.p b.p).0 u.0 in
    let o = (term_decides a.o b.o).0 u.1 in
    λ i. record { s = s i; p = p i; o = o i }

parts_of_triple : (a b : Triple) → a ≡ b → (pointwise nat_eq a.s b.s && (pointwise nat_eq a.p b.p && eq_by_cmp term_cmp a.o b.o)) ≡ true
parts_of_triple a b e =
    and_from (pointwise nat_eq a.s b.s) (pointwise nat_eq a.p b.p && eq_by_cmp term_cmp a.o b.o) ((bytes_decides a.s b.s).1 (ap (λ (w : Triple). w.s) e))
    (and_from (pointwise nat_eq a.p b.p) (eq_by_cmp term_cmp a.o b.o) ((bytes_decides a.p b.p).1 (ap (λ (w : Triple). w.p) e)) ((term_decides a.o b.o).1 (ap (λ (w : Triple). w.o) e)))

triple_told : (o : Ordering) → is_eq o ≡ true → o ≡ Equal
triple_told Less h = absurd (false≢true h)
triple_told Equal h = refl
triple_told Greater h = absurd (false≢true h)

matches_of : (triple : Triple) (pair : Tagged) → matches (Some triple.s) (Some triple.p) (Some triple.o) pair ≡ is_of triple pair
matches_of triple pair =
    same_tests (matches (Some triple.s) (Some triple.p) (Some triple.o) pair) (is_of triple pair)
    (λ h. let e = triple_parts triple pair.triple h in ap (λ w. is_eq (triple_cmp triple w)) (sym e) ∙ ap is_eq (tied_itself triple_total triple))
    (λ h. parts_of_triple triple pair.triple (triple_exact triple pair.triple (triple_told (triple_cmp triple pair.triple) h)))

matches_itself : (triple : Triple) (dot : Dot) → matches (Some triple.s) (Some triple.p) (Some triple.o) (record { triple = triple; dot = dot }) ≡ true
matches_itself triple dot = parts_of_triple triple triple refl

-- ---- a dot's own path and tick

range_wanted : (tables : TablesValue) (range : Range) (path : ℕ) (pair : Tagged) (numbers : Numbers) → Some path ≡ number_of_path tables.paths range.path → AreNumbersOf tables pair numbers
    → is_within_range range pair.dot ≡ is_of_ticks path range.first range.last numbers
range_wanted tables range path pair numbers number own =
    let p = same_tests (pointwise nat_eq pair.dot.path range.path) (nat_eq numbers.path path)
    (λ h. (nat_decides numbers.path path).1 (some_injective numbers.path path (sym own.path ∙ ap (number_of_path tables.paths) ((bytes_decides pair.dot.path range.path).0 h) ∙ sym number)))
    (λ h. (bytes_decides pair.dot.path range.path).1 (same_path tables.paths pair.dot.path range.path path
    (own.path ∙ ap (λ n. Some n) ((nat_decides numbers.path path).0 h)) (sym number))) in
    let t = sym own.tick in
    λ i. p i && (nat_le range.first (t i) && nat_le (t i) range.last)

once_filter : (test : Numbers × PairRow → Bool) (pairs : List (Numbers × PairRow)) → StandOnce (map (λ (e : Numbers × PairRow). e.0) pairs) → StandOnce (map (λ (e : Numbers × PairRow). e.0) (filter test pairs))
once_filter test [] once = tt
once_filter test (e ∷ pairs) once = by (test e) (once_filter test pairs once.1)
  where
    gone : ¬ Has (map (λ (e : Numbers × PairRow). e.0) (filter test pairs)) e.0
    gone h =
        let i = image_has (λ (e : Numbers × PairRow). e.0) (filter test pairs) e.0 h in
        once.0 (subst (λ (w : Numbers). Has (map (λ (e : Numbers × PairRow). e.0) pairs) w) i.2 (has_image (λ (e : Numbers × PairRow). e.0) pairs i.0 ((has_filter test pairs i.0).0 i.1).0))

    by : (b : Bool) → StandOnce (map (λ (e : Numbers × PairRow). e.0) (filter test pairs)) → StandOnce (map (λ (e : Numbers × PairRow). e.0) (cond b (e ∷ filter test pairs) (filter test pairs)))
    by true rest = (gone, rest)
    by false rest = rest

-- ---- what a scan finds

module _ (tables : TablesValue) (pairs : List (Numbers × PairRow)) (are : HaveOwnNumbers tables pairs) (view : List Tagged) (view_is : in_order_of (pairs_of tables.paths pairs) ≡ view) where
  -- the graph's pairs
  pub view_members : (pair : Tagged) → Has view pair ↔ Has (pairs_of tables.paths pairs) pair
  view_members pair = let m = order_members (pairs_of tables.paths pairs) pair in (
    λ h. m.0 (subst (λ (zs : List Tagged). Has zs pair) (sym view_is) h),
    λ h. subst (λ (zs : List Tagged). Has zs pair) view_is (m.1 h),
  )

  pub view_ascends : IsAscending tagged_cmp view
  view_ascends = subst (IsAscending tagged_cmp) view_is (order_ascends (pairs_of tables.paths pairs))

  -- a pair that the graph has: its row, with its numbers
  pub numbered_in : (pair : Tagged) → Has view pair → (entry : Numbers × PairRow) × Has pairs entry × AreNumbersOf tables pair entry.0 × (entry_pair tables.paths entry ≡ pair)
  numbered_in pair h =
      let i = image_has (entry_pair tables.paths) pairs pair ((view_members pair).0 h) in
      (i.0, i.1, subst (λ (w : Tagged). AreNumbersOf tables w i.0.0) i.2 (are i.0 i.1).numbers, i.2)

  pub in_view : (entry : Numbers × PairRow) → Has pairs entry → Has view (entry_pair tables.paths entry)
  in_view entry h = (view_members (entry_pair tables.paths entry)).1 (has_image (entry_pair tables.paths) pairs entry h)

  pub finds_none : (s p : Option (List ℕ)) (o : Option Term) (rows : List PairRow) → rows ≡ [] → LackNumber tables s p o → FindsEach (matches s p o) view (rows_pairs tables.paths rows)
  finds_none s p o rows e lack = subst (λ (rs : List PairRow). FindsEach (matches s p o) view (rows_pairs tables.paths rs)) (sym e) (record {
    members = λ pair. (
      λ h. absurd h,
      λ h. let n = numbered_in pair h.0 in absurd (matches_none tables s p o pair n.0.0 lack n.2 h.1),
    );
    once = tt;
  })

  pub finds_all : (s p : Option (List ℕ)) (o : Option Term) (wanted : Places) (rows : List PairRow) → ArePlaces tables s p o wanted → FindsEntries (has_places wanted) pairs rows
      → FindsEach (matches s p o) view (rows_pairs tables.paths rows)
  finds_all s p o wanted rows places f = subst (FindsEach (matches s p o) view) (entries_are tables.paths f.entries rows f.are) (record {
    members = λ pair. (
      λ h.
          let i = image_has (entry_pair tables.paths) f.entries pair h in
          let m = (f.members i.0).0 i.1 in
          let own = (are i.0 m.0).numbers in (
            subst (λ (w : Tagged). Has view w) i.2 (in_view i.0 m.0),
            subst (λ (w : Tagged). matches s p o w ≡ true) i.2 (matches_wanted tables s p o wanted (entry_pair tables.paths i.0) i.0.0 places own ∙ m.1),
          ),
      λ h.
          let n = numbered_in pair h.0 in
          subst (λ (w : Tagged). Has (pairs_of tables.paths f.entries) w) n.3 (has_image (entry_pair tables.paths) f.entries n.0
          ((f.members n.0).1 (n.1, sym (matches_wanted tables s p o wanted pair n.0.0 places n.2) ∙ h.1))),
    );
    once = once_by_numbers tables f.entries (λ e h. are e ((f.members e).0 h).0) f.once;
  })

  -- as many pass a test as have the wanted numbers, where it tells these
  pub as_many_by : (test : Tagged → Bool) (wanted : Places) → ((pair : Tagged) (numbers : Numbers) → AreNumbersOf tables pair numbers → test pair ≡ has_places wanted numbers)
      → StandOnce (map (λ (e : Numbers × PairRow). e.0) pairs) → length (filter (λ (e : Numbers × PairRow). has_places wanted e.0) pairs) ≡ length (filter test view)
  as_many_by test wanted tells once =
      counted pairs are ∙ sym (order_count test (pairs_of tables.paths pairs) (once_by_numbers tables pairs are once)) ∙ ap (λ (zs : List Tagged). length (filter test zs)) view_is
    where
      counted : (list : List (Numbers × PairRow)) → HaveOwnNumbers tables list → length (filter (λ (e : Numbers × PairRow). has_places wanted e.0) list) ≡ length (filter test (pairs_of tables.paths list))
      counted [] own = refl
      counted (e ∷ list) own =
          by (has_places wanted e.0) (test (entry_pair tables.paths e)) (sym (tells (entry_pair tables.paths e) e.0 (own e (inl refl)).numbers))
          (filter (λ (e : Numbers × PairRow). has_places wanted e.0) list) (filter test (pairs_of tables.paths list)) (counted list (λ x h. own x (inr h)))
        where
          by : (a b : Bool) → a ≡ b → (xs : List (Numbers × PairRow)) (ys : List Tagged) → length xs ≡ length ys → length (cond a (e ∷ xs) xs) ≡ length (cond b (entry_pair tables.paths e ∷ ys) ys)
          by true true q xs ys l = ap (λ n. suc n) l
          by true false q xs ys l = absurd (true≢false q)
          by false true q xs ys l = absurd (false≢true q)
          by false false q xs ys l = l

  -- as many match as have the wanted numbers
  pub as_many : (s p : Option (List ℕ)) (o : Option Term) (wanted : Places) → ArePlaces tables s p o wanted → StandOnce (map (λ (e : Numbers × PairRow). e.0) pairs)
      → length (filter (λ (e : Numbers × PairRow). has_places wanted e.0) pairs) ≡ length (filter (matches s p o) view)
  as_many s p o wanted places once = as_many_by (matches s p o) wanted (λ pair numbers own. matches_wanted tables s p o wanted pair numbers places own) once

  pub length_is : StandOnce (map (λ (e : Numbers × PairRow). e.0) pairs) → length pairs ≡ length view
  length_is once = mapped pairs ∙ sym (order_length (pairs_of tables.paths pairs) (once_by_numbers tables pairs are once)) ∙ ap length view_is
    where
      mapped : (list : List (Numbers × PairRow)) → length list ≡ length (pairs_of tables.paths list)
      mapped [] = refl
      mapped (e ∷ list) = ap (λ n. suc n) (mapped list)

  -- ---- a triple

  pub triple_found : (triple : Triple) (s p o : ℕ) → iri_number tables triple.s ≡ Some s → iri_number tables triple.p ≡ Some p → number_of_term tables.terms triple.o ≡ Some o
      → HasTerms pairs s p o ↔ HasTriple view triple
  triple_found triple s p o es ep eo = (
    λ h.
        let own = (are h.0 h.1).numbers in
        let a = same_iri tables.terms h.0.1.triple.s triple.s s (own.s ∙ ap (λ n. Some n) h.2) es in
        let b = same_iri tables.terms h.0.1.triple.p triple.p p (own.p ∙ ap (λ n. Some n) h.3) ep in
        let c = same_term tables.terms h.0.1.triple.o triple.o o (own.o ∙ ap (λ n. Some n) h.4) eo in
        let dot : Dot = (entry_pair tables.paths h.0).dot in
        (dot, subst (λ (t : Triple). Has view (record { triple = t; dot = dot })) (λ i. record { s = a i; p = b i; o = c i }) (in_view h.0 h.1)),
    λ h.
        let pair : Tagged = record { triple = triple; dot = h.0 } in
        let n = numbered_in pair h.1 in (
          n.0,
          n.1,
          some_injective n.0.0.s s (sym n.2.s ∙ es),
          some_injective n.0.0.p p (sym n.2.p ∙ ep),
          some_injective n.0.0.o o (sym n.2.o ∙ eo),
        ),
  )

  pub triple_lacks : (triple : Triple) → LackNumber tables (Some triple.s) (Some triple.p) (Some triple.o) → HasTriple view triple → ⊥
  triple_lacks triple lack h =
      let pair : Tagged = record { triple = triple; dot = h.0 } in
      let n = numbered_in pair h.1 in
      matches_none tables (Some triple.s) (Some triple.p) (Some triple.o) pair n.0.0 lack n.2 (matches_itself triple h.0)

  -- ---- a range

  pub range_found : (range : Range) (path : ℕ) (rows : List PairRow) → Some path ≡ number_of_path tables.paths range.path → StandOnce (map (λ (e : Numbers × PairRow). e.0) pairs)
      → rows ≡ map (λ (e : Numbers × PairRow). e.1) (filter (λ (e : Numbers × PairRow). is_of_ticks path range.first range.last e.0) pairs)
      → FindsEach (λ pair. is_within_range range pair.dot) view (rows_pairs tables.paths rows)
  range_found range path rows number once e =
      let test : Numbers × PairRow → Bool = λ (e : Numbers × PairRow). is_of_ticks path range.first range.last e.0 in
      subst (FindsEach (λ pair. is_within_range range pair.dot) view) (entries_are tables.paths (filter test pairs) rows (sym e)) (record {
        members = λ pair. (
          λ h.
              let i = image_has (entry_pair tables.paths) (filter test pairs) pair h in
              let m = (has_filter test pairs i.0).0 i.1 in (
                subst (λ (w : Tagged). Has view w) i.2 (in_view i.0 m.0),
                subst (λ (w : Tagged). is_within_range range w.dot ≡ true) i.2 (range_wanted tables range path (entry_pair tables.paths i.0) i.0.0 number (are i.0 m.0).numbers ∙ m.1),
              ),
          λ h.
              let n = numbered_in pair h.0 in
              subst (λ (w : Tagged). Has (pairs_of tables.paths (filter test pairs)) w) n.3 (has_image (entry_pair tables.paths) (filter test pairs) n.0
              ((has_filter test pairs n.0).1 (n.1, sym (range_wanted tables range path pair n.0.0 number n.2) ∙ h.1))),
        );
        once = once_by_numbers tables (filter test pairs) (λ x h. are x ((has_filter test pairs x).0 h).0) (once_filter test pairs once);
      })

  pub range_lacks : (range : Range) (rows : List PairRow) → rows ≡ [] → None ≡ number_of_path tables.paths range.path → FindsEach (λ pair. is_within_range range pair.dot) view (rows_pairs tables.paths rows)
  range_lacks range rows e none = subst (λ (rs : List PairRow). FindsEach (λ pair. is_within_range range pair.dot) view (rows_pairs tables.paths rs)) (sym e) (record {
    members = λ pair. (
      λ h. absurd h,
      λ h.
          let n = numbered_in pair h.0 in
          let t = and_parts (pointwise nat_eq pair.dot.path range.path) (nat_le range.first pair.dot.tick && nat_le pair.dot.tick range.last) h.1 in
          absurd (apart n.0.0.path (none ∙ ap (number_of_path tables.paths) (sym ((bytes_decides pair.dot.path range.path).0 t.0)) ∙ n.2.path)),
    );
    once = tt;
  })
    where
      apart : (n : ℕ) → None ≡ Some n → ⊥
      apart n e = cc

  -- ---- one pair

  pub has_numbered : (pair : Tagged) (numbers : Numbers) → AreNumbersOf tables pair numbers → HasNumbers pairs numbers ↔ Has view pair
  has_numbered pair numbers own = (
    λ h. subst (λ (w : Tagged). Has view w) (same_pair tables (row_pair tables.paths h.0) pair numbers numbers refl (are (numbers, h.0) h.1).numbers own) (in_view (numbers, h.0) h.1),
    λ h. let n = with_numbers tables pairs pair numbers are own ((view_members pair).0 h) in (n.0, n.1),
  )

  pub has_none : (pair : Tagged) → ¬ IsNumbered tables pair → Has view pair → ⊥
  has_none pair none h = let n = numbered_in pair h in none (n.0.0, n.2)

-- ---- what was found, in order

module _ (view : List Tagged) where
  -- what has all parts of a triple is of it
  pub of_triple_found : (triple : Triple) (found : List Tagged) → FindsEach (matches (Some triple.s) (Some triple.p) (Some triple.o)) view found → FindsEach (is_of triple) view found
  of_triple_found triple found f = record {
    members = λ pair. (
      λ h. let m = (f.members pair).0 h in (m.0, sym (matches_of triple pair) ∙ m.1),
      λ h. (f.members pair).1 (h.0, matches_of triple pair ∙ h.1),
    );
    once = f.once;
  }

  -- it is just what passes, in the order of the graph
  pub found_sorted : (test : Tagged → Bool) (found : List Tagged) → IsAscending tagged_cmp view → FindsEach test view found → in_order_of found ≡ filter test view
  found_sorted test found a f =
      sym (order_is found (filter test view) (ascending_filter tagged_cmp test view a) (λ pair.
      let m = has_filter test view pair in
      (λ h. (f.members pair).1 (m.0 h), λ h. m.1 ((f.members pair).0 h))))
