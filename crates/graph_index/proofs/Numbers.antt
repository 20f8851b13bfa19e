-- Pairs and their numbers: each pair has one list of numbers, and each list of numbers one pair.
use Rattle.std.proofs.Common.{◌≡◌, ◌∙◌, ℕ, zero, suc, ◌<◌, List, [], ◌∷◌, Bool, true, false, get_or, length, nat_eq, Some, Result, Ok, Err, OnOk, OnErr, refl, sym, subst, ap, arith}
use Rattle.std.proofs.lemmas.List.Quantifiers.{position-Some}
use Rattle.std.specs.Bool.{Decides}
use Rattle.std.specs.Cmp.Lexicographic.{pointwise, bytes_decides}
use Rattle.std.specs.Ordering.{eq_by_cmp}
use Rattle.rdf_terms.specs.declared.terms.Term.{Term}
use Rattle.rdf_terms.specs.declared.terms.Term.TheVariants as terms
use Rattle.rdf_terms.specs.declared.terms.Triple.{Triple}
use Rattle.rdf_terms.specs.Order.{term_cmp}
use Rattle.mld_ops.specs.PairLists.{path_numbered, row_pair}
use Rattle.mld_ops.specs.declared.tagged.Tagged.{Tagged}
use Rattle.number_tables.specs.TableNumbers.{number_of_term, number_of_path, with_new_value}
use Rattle.number_tables.proofs.Numbers.{term_decides}
use Rattle.pair_orders.specs.declared.keys.Numbers.{Numbers}
use Rattle.graph_index.specs.TermNumbers.{TablesValue, iri_number, AreNumbersOf, AreTermsOf, IsNumbered, IsOwnEntry, KeepsNumbers}
use Rattle.graph_index.proofs.WantedPlaces.{kept_inserted, same_place, some_injective}

-- terms of one number are one term, and so are paths
pub same_term : (list : List Term) (a b : Term) (n : ℕ) → number_of_term list a ≡ Some n → number_of_term list b ≡ Some n → a ≡ b
same_term list a b n h k = same_place (eq_by_cmp term_cmp) term_decides list a b n h k

pub same_path : (list : List (List ℕ)) (a b : List ℕ) (n : ℕ) → number_of_path list a ≡ Some n → number_of_path list b ≡ Some n → a ≡ b
same_path list a b n h k = same_place (pointwise nat_eq) bytes_decides list a b n h k

-- a path stands at its number
pub path_at_number : (list : List (List ℕ)) (path : List ℕ) (n : ℕ) → number_of_path list path ≡ Some n → path_numbered list n ≡ path
path_at_number list path n h =
    let p = position-Some (pointwise nat_eq path) list n path h in
    same_read list n [] path p.0 ∙ sym ((bytes_decides path (get_or list n path)).0 p.1)
  where
    same_read : (xs : List (List ℕ)) (i : ℕ) (c d : List ℕ) → i < length xs → get_or xs i c ≡ get_or xs i d
    same_read [] i c d l = absurd (none_below i l)
      where
        none_below : (i : ℕ) → i < 0 → ⊥
        none_below i l = omega (arith, l)
    same_read (x ∷ xs) zero c d l = refl
    same_read (x ∷ xs) (suc i) c d l = same_read xs i c d (omega (arith, l))

-- the row of a pair whose path has that number is the pair's
pub row_is : (tables : TablesValue) (pair : Tagged) (numbers : Numbers) → AreNumbersOf tables pair numbers
    → row_pair tables.paths (record { triple = pair.triple; path = numbers.path; tick = pair.dot.tick }) ≡ pair
row_is tables pair numbers own =
    let path = path_at_number tables.paths pair.dot.path numbers.path own.path in
    λ i. record { triple = pair.triple; dot = record { path = path i; tick = pair.dot.tick } }

-- with its numbers it is an own entry
pub row_own : (tables : TablesValue) (pair : Tagged) (numbers : Numbers) → AreNumbersOf tables pair numbers
    → IsOwnEntry tables (numbers, record { triple = pair.triple; path = numbers.path; tick = pair.dot.tick })
row_own tables pair numbers own = record {
  numbers = subst (λ (w : Tagged). AreNumbersOf tables w numbers) (sym (row_is tables pair numbers own)) own;
  path = refl;
}

iri_inside : (a b : List ℕ) → terms.Iri a ≡ terms.Iri b → a ≡ b
iri_inside a b e = cc

pub same_iri : (list : List Term) (a b : List ℕ) (n : ℕ) → number_of_term list (terms.Iri a) ≡ Some n → number_of_term list (terms.Iri b) ≡ Some n → a ≡ b
same_iri list a b n h k = iri_inside a b (same_term list (terms.Iri a) (terms.Iri b) n h k)

-- pairs of the same numbers are one pair
pub same_pair : (tables : TablesValue) (a b : Tagged) (m n : Numbers) → m ≡ n → AreNumbersOf tables a m → AreNumbersOf tables b n → a ≡ b
same_pair tables a b m n e h k =
    let s = same_iri tables.terms a.triple.s b.triple.s m.s h.s (k.s ∙ ap (λ (w : Numbers). Some w.s) (sym e)) in
    let p = same_iri tables.terms a.triple.p b.triple.p m.p h.p (k.p ∙ ap (λ (w : Numbers). Some w.p) (sym e)) in
    let o = same_term tables.terms a.triple.o b.triple.o m.o h.o (k.o ∙ ap (λ (w : Numbers). Some w.o) (sym e)) in
    let path = same_path tables.paths a.dot.path b.dot.path m.path h.path (k.path ∙ ap (λ (w : Numbers). Some w.path) (sym e)) in
    let tick = sym h.tick ∙ ap (λ (w : Numbers). w.tick) e ∙ k.tick in
    λ i. record { triple = record { s = s i; p = p i; o = o i }; dot = record { path = path i; tick = tick i } }

-- and a pair has one list of numbers
pub same_numbers : (tables : TablesValue) (a b : Tagged) (m n : Numbers) → a ≡ b → AreNumbersOf tables a m → AreNumbersOf tables b n → m ≡ n
same_numbers tables a b m n e h k =
    let s = some_injective m.s n.s (sym h.s ∙ ap (λ (w : Tagged). iri_number tables w.triple.s) e ∙ k.s) in
    let p = some_injective m.p n.p (sym h.p ∙ ap (λ (w : Tagged). iri_number tables w.triple.p) e ∙ k.p) in
    let o = some_injective m.o n.o (sym h.o ∙ ap (λ (w : Tagged). number_of_term tables.terms w.triple.o) e ∙ k.o) in
    let path = some_injective m.path n.path (sym h.path ∙ ap (λ (w : Tagged). number_of_path tables.paths w.dot.path) e ∙ k.path) in
    let tick = h.tick ∙ ap (λ (w : Tagged). w.dot.tick) e ∙ sym k.tick in
    λ i. record { s = s i; p = p i; o = o i; path = path i; tick = tick i }

-- ---- tables that grow

pub grown_itself : (tables : TablesValue) → KeepsNumbers tables tables
grown_itself tables = record { terms = λ term number h. h; paths = λ path number h. h }

pub grown_twice : (a b c : TablesValue) → KeepsNumbers a b → KeepsNumbers b c → KeepsNumbers a c
grown_twice a b c f g = record {
  terms = λ term number h. g.terms term number (f.terms term number h);
  paths = λ path number h. g.paths path number (f.paths path number h);
}

-- a pair keeps its numbers
pub kept_numbers : (old new : TablesValue) (pair : Tagged) (numbers : Numbers) → KeepsNumbers old new → AreNumbersOf old pair numbers → AreNumbersOf new pair numbers
kept_numbers old new pair numbers grown are = record {
  s = grown.terms (terms.Iri pair.triple.s) numbers.s are.s;
  p = grown.terms (terms.Iri pair.triple.p) numbers.p are.p;
  o = grown.terms pair.triple.o numbers.o are.o;
  path = grown.paths pair.dot.path numbers.path are.path;
  tick = are.tick;
}

pub kept_numbered : (old new : TablesValue) (pair : Tagged) → KeepsNumbers old new → IsNumbered old pair → IsNumbered new pair
kept_numbered old new pair grown is = (is.0, kept_numbers old new pair is.0 grown is.1)

-- a term, or a path, that gets a number where it has none; where none can be given, nothing has changed
pub grown_term : {T E : Type 0} (tables : TablesValue) (list : List Term) (term : Term) (result : Result T E) → OnOk result (list ≡ with_new_value (eq_by_cmp term_cmp) tables.terms term)
    → OnErr result (list ≡ tables.terms) → KeepsNumbers tables (record { terms = list; paths = tables.paths })
grown_term tables list term (Ok number) ok err = record {
  terms = λ other number h. subst (λ l. number_of_term l other ≡ Some number) (sym ok) (kept_inserted (eq_by_cmp term_cmp) tables.terms term other number h);
  paths = λ path number h. h;
}
grown_term tables list term (Err fault) ok err = record {
  terms = λ other number h. subst (λ l. number_of_term l other ≡ Some number) (sym err) h;
  paths = λ path number h. h;
}

pub grown_path : {T E : Type 0} (tables : TablesValue) (list : List (List ℕ)) (path : List ℕ) (result : Result T E) → OnOk result (list ≡ with_new_value (pointwise nat_eq) tables.paths path)
    → OnErr result (list ≡ tables.paths) → KeepsNumbers tables (record { terms = tables.terms; paths = list })
grown_path tables list path (Ok number) ok err = record {
  terms = λ term number h. h;
  paths = λ other number h. subst (λ l. number_of_path l other ≡ Some number) (sym ok) (kept_inserted (pointwise nat_eq) tables.paths path other number h);
}
grown_path tables list path (Err fault) ok err = record {
  terms = λ term number h. h;
  paths = λ other number h. subst (λ l. number_of_path l other ≡ Some number) (sym err) h;
}

-- the numbers of terms that were given one after another
pub terms_by_parts : (a b c : TablesValue) (triple : Triple) (s p o : ℕ) → KeepsNumbers a b → KeepsNumbers b c
    → iri_number a triple.s ≡ Some s → iri_number b triple.p ≡ Some p → number_of_term c.terms triple.o ≡ Some o → AreTermsOf c triple (s, p, o)
terms_by_parts a b c triple s p o f g hs hp ho = (
  g.terms (terms.Iri triple.s) s (f.terms (terms.Iri triple.s) s hs),
  g.terms (terms.Iri triple.p) p hp,
  ho,
)

-- and those of a pair whose path was given one before them
pub numbers_by_parts : (a b : TablesValue) (pair : Tagged) (s p o path : ℕ) → KeepsNumbers a b → number_of_path a.paths pair.dot.path ≡ Some path → AreTermsOf b pair.triple (s, p, o)
    → AreNumbersOf b pair (record { s = s; p = p; o = o; path = path; tick = pair.dot.tick })
numbers_by_parts a b pair s p o path grown is are = record { s = are.0; p = are.1; o = are.2; path = grown.paths pair.dot.path path is; tick = refl }

-- ---- IRIs as terms

alike_by : (b c : Bool) (P Q : Type 0) → Decides b P → Decides c Q → (P → Q) → (Q → P) → b ≡ c
alike_by true true P Q d e f g = refl
alike_by true false P Q d e f g = sym (e.1 (f (d.0 refl)))
alike_by false true P Q d e f g = d.1 (g (e.0 refl))
alike_by false false P Q d e f g = refl

pub iris_alike : (a b : List ℕ) → pointwise nat_eq b a ≡ eq_by_cmp term_cmp (terms.Iri a) (terms.Iri b)
iris_alike a b =
    alike_by (pointwise nat_eq b a) (eq_by_cmp term_cmp (terms.Iri a) (terms.Iri b)) (b ≡ a) (terms.Iri a ≡ terms.Iri b) (bytes_decides b a) (term_decides (terms.Iri a) (terms.Iri b))
    (λ e. ap terms.Iri (sym e)) (λ e. sym (iri_inside a b e))
