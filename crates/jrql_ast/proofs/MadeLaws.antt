-- What templates make for one solution more.
use Rattle.std.proofs.Common.{◌≡◌, ◌∙◌, ℕ, ◌+◌, ◌*◌, ◌<◌, List, [], ◌∷◌, ◌++◌, Option, None, Some, length, take, get_or, filter_map, refl, sym, ap, append_assoc, append-nil, length-take, arith}
use Rattle.std.specs.Option.{option_to_list}
use Rattle.std.proofs.lemmas.List.{take_more}
use Rattle.std.proofs.lemmas.List.Elements.{filter_map-append}
use Rattle.std.proofs.lemmas.Option.{none-some, same_Some}
use Rattle.rdf_terms.specs.declared.terms.Term.{Term}
use Rattle.rdf_terms.specs.declared.terms.Term.TheVariants as terms
use Rattle.rdf_terms.specs.declared.terms.Triple.{Triple}
use Rattle.tree_clock.specs.declared.dots.Dot.{Dot}
use Rattle.jrql_ast.specs.declared.patterns.PatternTriple.{PatternTriple}
use Rattle.jrql_ast.specs.Templates.{made_for, made_from, triple_from}
use Rattle.jrql_ast.specs.FreshNames.{fresh_iri, fresh_name}
use Rattle.jrql_ast.specs.Naming.{iri_in}

-- what is made of one element more
pub filter_map_more : {X Y : Type 0} (f : X → Option Y) (xs : List X) (i : ℕ) (x : X) → i < length xs → x ≡ get_or xs i x
    → filter_map f (take (i + 1) xs) ≡ filter_map f (take i xs) ++ option_to_list (f x)
filter_map_more f xs i x l is =
    ap (filter_map f) (take_more xs i x l ∙ ap (λ z. take i xs ++ z ∷ []) (sym is)) ∙ filter_map-append f (take i xs) (x ∷ [])
    ∙ ap (λ zs. filter_map f (take i xs) ++ zs) (one (f x))
  where
    one : {Y : Type 0} (o : Option Y) → filter_map {X = Option Y} (λ z. z) (o ∷ []) ≡ option_to_list o
    one None = refl
    one (Some y) = refl

module _ (names : ℕ → ℕ → List ℕ) (templates : List PatternTriple) where
  made_append : (first : ℕ) (rows others : List (List (Option Term)))
      → made_from names templates first (rows ++ others) ≡ made_from names templates first rows ++ made_from names templates (first + length rows) others
  made_append first [] others = ap (λ n. made_from names templates n others) (let e : first ≡ first + 0 = omega arith in e)
  made_append first (row ∷ rows) others =
      ap (λ l. filter_map (made_for (names first) row) templates ++ l) (made_append (first + 1) rows others)
      ∙ ap (λ n. filter_map (made_for (names first) row) templates ++ (made_from names templates (first + 1) rows ++ made_from names templates n others))
      (let e : first + 1 + length rows ≡ first + length (row ∷ rows) = omega arith in e)
      ∙ sym (append_assoc (filter_map (made_for (names first) row) templates) (made_from names templates (first + 1) rows) (made_from names templates (first + length (row ∷ rows)) others))

  pub made_more : (rows : List (List (Option Term))) (i : ℕ) (row : List (Option Term)) → i < length rows → row ≡ get_or rows i row
      → made_from names templates 0 (take (i + 1) rows) ≡ made_from names templates 0 (take i rows) ++ filter_map (made_for (names i) row) templates
  made_more rows i row l is =
      ap (made_from names templates 0) (take_more rows i row l ∙ ap (λ z. take i rows ++ z ∷ []) (sym is))
      ∙ made_append 0 (take i rows) (row ∷ [])
      ∙ ap (λ n. made_from names templates 0 (take i rows) ++ made_from names templates n (row ∷ []))
      (let e = length-take i rows in let f : 0 + length (take i rows) ≡ i = omega (arith, e, l) in f)
      ∙ ap (λ zs. made_from names templates 0 (take i rows) ++ zs) (append-nil (filter_map (made_for (names i) row) templates))

pub one_solution_more : (domain : List ℕ) (dot : Dot) (fresh first : ℕ) (templates : List PatternTriple) (rows : List (List (Option Term))) (i : ℕ) (item row : List (Option Term))
    (before after : List Triple) → i < length rows → item ≡ get_or rows i item → row ≡ item → first ≡ i * fresh
    → before ≡ made_from (fresh_name domain dot fresh) templates 0 (take i rows)
    → after ≡ before ++ filter_map (made_for (λ subject. fresh_iri domain dot (first + subject)) row) templates
    → after ≡ made_from (fresh_name domain dot fresh) templates 0 (take (i + 1) rows)
one_solution_more domain dot fresh first templates rows i item row before after l is same number so_far e =
    e
    ∙ ap (λ zs. zs ++ filter_map (made_for (λ subject. fresh_iri domain dot (first + subject)) row) templates) so_far
    ∙ ap (λ n. made_from (fresh_name domain dot fresh) templates 0 (take i rows) ++ filter_map (made_for (λ subject. fresh_iri domain dot (n + subject)) row) templates) number
    ∙ ap (λ r. made_from (fresh_name domain dot fresh) templates 0 (take i rows) ++ filter_map (made_for (fresh_name domain dot fresh i) r) templates) same
    ∙ sym (made_more (fresh_name domain dot fresh) templates rows i item l is)

-- three terms of which one can't be a triple's
pub without_subject : (s p o : Option Term) → iri_in s ≡ None → triple_from s p o ≡ None
without_subject None p o h = refl
without_subject (Some (terms.Iri iri)) p o h = absurd (none-some iri (sym h))
without_subject (Some (terms.Literal literal)) p o h = refl

pub without_predicate : (s p o : Option Term) → iri_in p ≡ None → triple_from s p o ≡ None
without_predicate None p o h = refl
without_predicate (Some (terms.Literal literal)) p o h = refl
without_predicate (Some (terms.Iri iri)) None o h = refl
without_predicate (Some (terms.Iri iri)) (Some (terms.Iri property)) o h = absurd (none-some property (sym h))
without_predicate (Some (terms.Iri iri)) (Some (terms.Literal literal)) o h = refl

pub without_object : (s p o : Option Term) → o ≡ None → triple_from s p o ≡ None
without_object None p o h = refl
without_object (Some (terms.Literal literal)) p o h = refl
without_object (Some (terms.Iri iri)) None o h = refl
without_object (Some (terms.Iri iri)) (Some (terms.Literal literal)) o h = refl
without_object (Some (terms.Iri iri)) (Some (terms.Iri property)) None h = refl
without_object (Some (terms.Iri iri)) (Some (terms.Iri property)) (Some value) h = absurd (none-some value (sym h))

-- and three that make one
pub with_all : (s p o : Option Term) (subject property : List ℕ) (value : Term) → iri_in s ≡ Some subject → iri_in p ≡ Some property → o ≡ Some value
    → triple_from s p o ≡ Some (record { s = subject; p = property; o = value })
with_all None p o subject property value e f g = absurd (none-some subject e)
with_all (Some (terms.Literal literal)) p o subject property value e f g = absurd (none-some subject e)
with_all (Some (terms.Iri iri)) None o subject property value e f g = absurd (none-some property f)
with_all (Some (terms.Iri iri)) (Some (terms.Literal literal)) o subject property value e f g = absurd (none-some property f)
with_all (Some (terms.Iri iri)) (Some (terms.Iri own)) None subject property value e f g = absurd (none-some value g)
with_all (Some (terms.Iri iri)) (Some (terms.Iri own)) (Some object) subject property value e f g =
    let s = same_Some iri subject e in
    let p = same_Some own property f in
    let o = same_Some object value g in
    λ i. Some (record { s = s i; p = p i; o = o i })
