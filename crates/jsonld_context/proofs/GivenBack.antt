-- Expanding gives back what was compacted.
use Rattle.std.proofs.Common.{◌≡◌, ◌∙◌, ℕ, List, [], ◌∷◌, ◌++◌, Bool, true, false, cond, not, ◌&&◌, Option, Some, None, Result, Ok, Err, IsTrue, nat_cmp, Less, unwrap_or, refl, sym, ap, subst}
use Rattle.std.specs.Cmp.Lexicographic.{slice_cmp}
use Rattle.std.specs.List.{AllByRecursion, find, filter_map, reduce, fold, cons_option}
use Rattle.std.specs.List.Sorted.{IsStrictlySortedBy}
use Rattle.std.specs.Option.{option_map, option_map_or, option_and_then, option_or, is_none}
use Rattle.std.specs.Ordering.{is_lt}
use Rattle.std.proofs.lemmas.Bool.{and_parts, and_from, not-true, not_from_false, both_ways}
use Rattle.text_rules.specs.Iri.{is_absolute}
use Rattle.text_rules.specs.References.{begins_authority}
use Rattle.text_rules.specs.Resolution.{is_empty, resolved}
use Rattle.rdf_terms.specs.Literal.{is_same}
use Rattle.jsonld_context.specs.ShortForms.{rest_behind, if_passes, term_for, plain_key, plain_id, is_rest, compact_by, compact_key, compact_id, lesser, least_compact, key_form, id_form}
use Rattle.jsonld_context.specs.Context.{ContextValue, IsContext, find_term, prefix_iri, prefix_of}
use Rattle.jsonld_context.specs.Expanding.{expand_key, expand_id, key_without_term, key_meant, id_meant, absolute_or_fault, key_iri, id_iri}
use Rattle.jsonld_context.specs.Prefixes.{prefix_at, expanded}
use Rattle.text_rules.specs.TextForms.{has_colon, before_colon, behind_colon, is_term_name, is_plain, plain_end}
use Rattle.jsonld_context.specs.declared.definitions.Definition.{Definition}
use Rattle.jsonld_context.specs.declared.faults.JsonFault.{JsonFault}
use Rattle.jsonld_context.specs.declared.faults.JsonFault.TheVariants as faults
use Rattle.jsonld_context.proofs.TermNames.{AreTerms, names}
use Rattle.jsonld_context.proofs.TextLaws.{same, itself, differ, less_differ, behind_front, plain_no_colon, term_no_colon, joined_colon, joined_front, joined_rest, absolute_colon}

-- ---- options

pub mapped : {X : Type 0} (f : X → List ℕ) (found : Option X) (text : List ℕ) → option_map f found ≡ Some text → (x : X) × (found ≡ Some x) × (f x ≡ text)
mapped f None text h = cc h
mapped f (Some x) text h = (x, refl, cc h)

pub followed : (f : List ℕ → Option (List ℕ)) (found : Option (List ℕ)) (text : List ℕ) → option_and_then f found ≡ Some text
    → (x : List ℕ) × (found ≡ Some x) × (f x ≡ Some text)
followed f None text h = cc h
followed f (Some x) text h = (x, refl, h)

passes_at : (passes : Bool) (text found : List ℕ) → cond passes (Some text) None ≡ Some found → (passes ≡ true) × (text ≡ found)
passes_at true text found h = (refl, cc h)
passes_at false text found h = cc h

pub passing : (test : List ℕ → Bool) (text found : List ℕ) → if_passes test text ≡ Some found → (test text ≡ true) × (text ≡ found)
passing test text found h = passes_at (test text) text found h

-- the first of three that is there, or a last one
pub pick : (P : List ℕ → Type 0) (one two three : Option (List ℕ)) (last : List ℕ) → ((text : List ℕ) → one ≡ Some text → P text)
    → ((text : List ℕ) → two ≡ Some text → P text) → ((text : List ℕ) → three ≡ Some text → P text) → P last
    → P (unwrap_or (option_or one (option_or two three)) last)
pick P (Some text) two three last first second third other = first text refl
pick P None (Some text) three last first second third other = second text refl
pick P None None (Some text) last first second third other = third text refl
pick P None None None last first second third other = other

-- ---- terms

find_at : (Q : Definition → Type 0) (test : Definition → Bool) (passes : Bool) (first found : Definition) (later : Option Definition) → passes ≡ test first → Q first
    → (later ≡ Some found → Q found × (test found ≡ true)) → cond passes (Some first) later ≡ Some found → Q found × (test found ≡ true)
find_at Q test true first found later is here rest h =
    let e : first ≡ found = cc h in
    subst (λ (t : Definition). Q t × (test t ≡ true)) e (here, sym is)
find_at Q test false first found later is here rest h = rest h

-- what is found has what all have, and passes
pub found_has : (Q : Definition → Type 0) (test : Definition → Bool) (terms : List Definition) (found : Definition) → AllByRecursion Q terms
    → find test terms ≡ Some found → Q found × (test found ≡ true)
found_has Q test [] found all h = cc h
found_has Q test (first ∷ terms) found all h =
    find_at Q test (test first) first found (find test terms) refl all.0 (λ later. found_has Q test terms found all.1 later) h

-- a text with a colon is no term
pub no_term : (terms : List Definition) (text : List ℕ) → AreTerms terms → has_colon text ≡ true → find_term terms text ≡ None
no_term [] text are colon = refl
no_term (first ∷ terms) text are colon =
    let apart : is_same first.name text ≡ false =
    differ first.name text (λ e. both_ways (has_colon text) (ap has_colon (sym e) ∙ term_no_colon first.name are.0) colon) in
    ap (λ b. cond b (Some first) (find_term terms text)) apart ∙ no_term terms text are.1 colon

abbrev pub IsFoundIn : List Definition → Definition → Type 0
IsFoundIn terms term = find_term terms term.name ≡ Some term

found_later : (first : Definition) (terms all : List Definition) → AllByRecursion (λ name. slice_cmp nat_cmp first.name name ≡ Less) (names terms)
    → AllByRecursion (IsFoundIn all) terms → AllByRecursion (IsFoundIn (first ∷ all)) terms
found_later first [] all below found = tt
found_later first (term ∷ terms) all below found =
    (ap (λ b. cond b (Some first) (find_term all term.name)) (less_differ first.name term.name below.0) ∙ found.0, found_later first terms all below.1 found.1)

-- each term is found by its name
pub all_found : (terms : List Definition) → IsStrictlySortedBy (slice_cmp nat_cmp) (names terms) → AllByRecursion (IsFoundIn terms) terms
unfolding IsStrictlySortedBy
all_found [] h = tt
all_found (first ∷ terms) h =
    (ap (λ b. cond b (Some first) (find_term terms first.name)) (itself first.name), found_later first terms terms h.0 (all_found terms h.1))

-- ---- the least of some texts

lesser_has : (P : List ℕ → Type 0) (text other : List ℕ) (less : Bool) → P text → P other → P (cond less other text)
lesser_has P text other true one two = two
lesser_has P text other false one two = one

fold_has : (P : List ℕ → Type 0) (texts : List (List ℕ)) (first : List ℕ) → P first → AllByRecursion P texts → P (fold lesser first texts)
fold_has P [] first here all = here
fold_has P (text ∷ texts) first here all =
    fold_has P texts (lesser first text) (lesser_has P first text (is_lt (slice_cmp nat_cmp text first)) here all.0) all.1

pub least_has : (P : List ℕ → Type 0) (texts : List (List ℕ)) (text : List ℕ) → AllByRecursion P texts → reduce lesser texts ≡ Some text → P text
least_has P [] text all h = cc h
least_has P (first ∷ texts) text all h =
    let e : fold lesser first texts ≡ text = cc h in
    subst P e (fold_has P texts first all.0 all.1)

-- ---- expanding

module _ (iri : List ℕ) (absolute : IsTrue (is_absolute iri)) where
  is_ok : (text meant : List ℕ) → meant ≡ iri → absolute_or_fault text meant ≡ Ok iri
  is_ok text meant is =
      let ok : Result (List ℕ) JsonFault = Ok iri in
      let bad : Result (List ℕ) JsonFault = Err (faults.BadIri text) in
      ap (absolute_or_fault text) is ∙ ap (λ b. cond b ok bad) absolute

  module _ (terms : List Definition) (are : AreTerms terms) (scheme : prefix_of terms (before_colon iri) ≡ None) where
    by_prefix : (text front rest : List ℕ) → has_colon text ≡ true → behind_colon text ≡ rest → begins_authority rest ≡ false
        → prefix_of terms (before_colon text) ≡ Some front → front ++ rest ≡ iri → expanded (prefix_of terms) text ≡ iri
    by_prefix text front rest colon behind free found is =
        let compact : (has_colon text && not (begins_authority (behind_colon text))) ≡ true =
        and_from (has_colon text) (not (begins_authority (behind_colon text))) colon (not_from_false (begins_authority (behind_colon text)) (ap begins_authority behind ∙ free)) in
        let at : prefix_at (prefix_of terms) text ≡ Some front = ap (λ b. cond b (prefix_of terms (before_colon text)) None) compact ∙ found in
        ap (λ o. option_map_or (λ start. start ++ behind_colon text) o text) at ∙ (ap (λ end. front ++ end) behind ∙ is)

    whole_at : (compact : Bool) (found : Option (List ℕ)) → found ≡ None
        → option_map_or (λ start. start ++ behind_colon iri) (cond compact found None) iri ≡ iri
    whole_at true found none = ap (λ o. option_map_or (λ start. start ++ behind_colon iri) o iri) none
    whole_at false found none = refl

    -- the IRI itself
    whole : expanded (prefix_of terms) iri ≡ iri
    whole = whole_at (has_colon iri && not (begins_authority (behind_colon iri))) (prefix_of terms (before_colon iri)) scheme

    -- a text with a colon, as a key and as an id
    record Gives (text : List ℕ) : Type 0 where
      colon : has_colon text ≡ true
      meant : expanded (prefix_of terms) text ≡ iri

    gives_whole : Gives iri
    gives_whole = record { colon = absolute_colon iri absolute; meant = whole }

    prefix_at_term : (term : Definition) (front : List ℕ) → IsFoundIn terms term → prefix_iri term ≡ Some front → prefix_of terms term.name ≡ Some front
    prefix_at_term term front found is = ap (option_and_then prefix_iri) found ∙ is

    gives_compact : (term : Definition) → IsTrue (is_term_name term.name) → IsFoundIn terms term → (text : List ℕ) → compact_by iri term ≡ Some text → Gives text
    gives_compact term named found text h =
        let made = mapped (λ rest. term.name ++ 58 ∷ rest) (option_and_then (λ front. option_and_then (if_passes is_rest) (rest_behind front iri)) (prefix_iri term)) text h in
        let fronted = followed (λ front. option_and_then (if_passes is_rest) (rest_behind front iri)) (prefix_iri term) made.0 made.1 in
        let rested = followed (if_passes is_rest) (rest_behind fronted.0 iri) made.0 fronted.2 in
        let passed = passing is_rest rested.0 made.0 rested.2 in
        let split : iri ≡ fronted.0 ++ rested.0 = behind_front fronted.0 iri rested.0 rested.1 in
        let free : begins_authority rested.0 ≡ false =
        not-true (begins_authority rested.0) (and_parts (not (is_empty rested.0)) (not (begins_authority rested.0)) passed.0).1 in
        let none = term_no_colon term.name named in
        let written : term.name ++ 58 ∷ rested.0 ≡ text = ap (λ rest. term.name ++ 58 ∷ rest) passed.1 ∙ made.2 in
        let known : prefix_of terms (before_colon (term.name ++ 58 ∷ rested.0)) ≡ Some fronted.0 =
        ap (prefix_of terms) (joined_front term.name rested.0 none) ∙ prefix_at_term term fronted.0 found fronted.1 in
        subst Gives written
        (record {
          colon = joined_colon term.name rested.0;
          meant = by_prefix (term.name ++ 58 ∷ rested.0) fronted.0 rested.0 (joined_colon term.name rested.0) (joined_rest term.name rested.0 none) free known (sym split);
        })

    filtered_at : (text : Option (List ℕ)) (rest : List (List ℕ)) → ((t : List ℕ) → text ≡ Some t → Gives t) → AllByRecursion Gives rest
        → AllByRecursion Gives (cons_option text rest)
    filtered_at None rest here later = later
    filtered_at (Some text) rest here later = (here text refl, later)

    filtered : (some : List Definition) → AreTerms some → AllByRecursion (IsFoundIn terms) some → AllByRecursion Gives (filter_map (compact_by iri) some)
    filtered [] named found = tt
    filtered (term ∷ some) named found =
        filtered_at (compact_by iri term) (filter_map (compact_by iri) some) (gives_compact term named.0 found.0) (filtered some named.1 found.1)

    module _ (found : AllByRecursion (IsFoundIn terms) terms) where
      gives_least : (text : List ℕ) → least_compact terms iri ≡ Some text → Gives text
      gives_least text h = least_has Gives (filter_map (compact_by iri) terms) text (filtered terms are found) h

      module _ (vocabulary : List ℕ) where
        meant_with_colon : (text : List ℕ) → Gives text → key_meant vocabulary terms text ≡ iri
        meant_with_colon text gives =
            ap (λ o. option_map_or (λ (term : Definition). term.iri) o (key_without_term vocabulary terms text)) (no_term terms text are gives.colon)
            ∙ (ap (λ b. cond b (expanded (prefix_of terms) text) (vocabulary ++ text)) gives.colon ∙ gives.meant)

        meant_by_term : (text : List ℕ) → term_for terms iri ≡ Some text → key_meant vocabulary terms text ≡ iri
        meant_by_term text h =
            let test = λ (term : Definition). is_none term.coercion && is_same term.iri iri in
            let made = mapped (λ (term : Definition). term.name) (find test terms) text h in
            let good = found_has (IsFoundIn terms) test terms made.0 found made.1 in
            let is : made.0.iri ≡ iri = same made.0.iri iri (and_parts (is_none made.0.coercion) (is_same made.0.iri iri) good.1).1 in
            subst (λ (t : List ℕ). key_meant vocabulary terms t ≡ iri) made.2
            (ap (λ o. option_map_or (λ (term : Definition). term.iri) o (key_without_term vocabulary terms made.0.name)) good.0 ∙ is)

        none_found : (found : Option Definition) → is_none found ≡ true → found ≡ None
        none_found None h = refl
        none_found (Some term) h = cc h

        meant_by_vocabulary : (text : List ℕ) → plain_key vocabulary terms iri ≡ Some text → key_meant vocabulary terms text ≡ iri
        meant_by_vocabulary text h =
            let test = λ (t : List ℕ). is_plain t && is_none (find_term terms t) in
            let rested = followed (if_passes test) (rest_behind vocabulary iri) text h in
            let passed = passing test rested.0 text rested.2 in
            let tests = and_parts (is_plain rested.0) (is_none (find_term terms rested.0)) passed.0 in
            let split : iri ≡ vocabulary ++ rested.0 = behind_front vocabulary iri rested.0 rested.1 in
            subst (λ (t : List ℕ). key_meant vocabulary terms t ≡ iri) passed.1
            (ap (λ o. option_map_or (λ (term : Definition). term.iri) o (key_without_term vocabulary terms rested.0)) (none_found (find_term terms rested.0) tests.1)
            ∙ (ap (λ b. cond b (expanded (prefix_of terms) rested.0) (vocabulary ++ rested.0)) (plain_no_colon rested.0 tests.0) ∙ sym split))

        pub key_given_back : key_iri vocabulary terms (key_form vocabulary terms iri) ≡ Ok iri
        unfolding key_iri key_form
        key_given_back =
            is_ok (key_form vocabulary terms iri) (key_meant vocabulary terms (key_form vocabulary terms iri))
            (pick (λ text. key_meant vocabulary terms text ≡ iri) (term_for terms iri) (plain_key vocabulary terms iri) (least_compact terms iri) iri
            meant_by_term meant_by_vocabulary (λ text h. meant_with_colon text (gives_least text h)) (meant_with_colon iri gives_whole))

      module _ (base : List ℕ) where
        id_with_colon : (text : List ℕ) → Gives text → id_meant base terms text ≡ iri
        id_with_colon text gives = ap (λ b. cond b (expanded (prefix_of terms) text) (resolved base text)) gives.colon ∙ gives.meant

        id_by_base : (text : List ℕ) → plain_id base iri ≡ Some text → id_meant base terms text ≡ iri
        id_by_base text h =
            let test = λ (t : List ℕ). is_plain t && is_same (resolved base t) iri in
            let passed = passing test (plain_end iri) text h in
            let tests = and_parts (is_plain (plain_end iri)) (is_same (resolved base (plain_end iri)) iri) passed.0 in
            subst (λ (t : List ℕ). id_meant base terms t ≡ iri) passed.1
            (ap (λ b. cond b (expanded (prefix_of terms) (plain_end iri)) (resolved base (plain_end iri))) (plain_no_colon (plain_end iri) tests.0)
            ∙ same (resolved base (plain_end iri)) iri tests.1)

        pub id_given_back : id_iri base terms (id_form base terms iri) ≡ Ok iri
        unfolding id_iri id_form
        id_given_back =
            is_ok (id_form base terms iri) (id_meant base terms (id_form base terms iri))
            (pick (λ text. id_meant base terms text ≡ iri) None (plain_id base iri) (least_compact terms iri) iri
            (λ text h. cc h) id_by_base (λ text h. id_with_colon text (gives_least text h)) (id_with_colon iri gives_whole))

-- under a context
pub keys_given_back : (context : ContextValue) (iri : List ℕ) → IsContext context → IsTrue (is_absolute iri)
    → prefix_of context.terms (before_colon iri) ≡ None → expand_key context (compact_key context iri) ≡ Ok iri
keys_given_back context iri kept absolute scheme =
    key_given_back iri absolute context.terms kept.names scheme (all_found context.terms kept.ascending) context.vocabulary

pub ids_given_back : (context : ContextValue) (iri : List ℕ) → IsContext context → IsTrue (is_absolute iri)
    → prefix_of context.terms (before_colon iri) ≡ None → expand_id context (compact_id context iri) ≡ Ok iri
ids_given_back context iri kept absolute scheme =
    id_given_back iri absolute context.terms kept.names scheme (all_found context.terms kept.ascending) context.base
