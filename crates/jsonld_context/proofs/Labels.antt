-- Prefixes with their colons: which is the least doesn't depend on what stands behind them.
use Rattle.std.proofs.Common.{◌≡◌, ℕ, List, [], ◌∷◌, ◌++◌, Bool, true, false, cond, ◌&&◌, Ordering, Option, Some, None, Less, Equal, Greater, nat_cmp, IsTrue, MatchOption, option_map, refl, sym, ap, ◌∙◌, subst}
use Rattle.std.specs.Cmp.Lexicographic.{slice_cmp}
use Rattle.std.specs.Ordering.{is_lt, ordering_reverse, ordering_then}
use Rattle.std.proofs.lemmas.Bool.{or_parts}
use Rattle.std.proofs.lemmas.Cmp.{nat_list_cmp_total}
use Rattle.std.proofs.lemmas.Map.Lookups.{exact_unsigned}
use Rattle.text_rules.specs.References.{is_colon}
use Rattle.rdf_terms.specs.Literal.{is_same}
use Rattle.jsonld_context.specs.FormsFound.{label_for, least_label}
use Rattle.jsonld_context.specs.ShortForms.{lesser, least_with}
use Rattle.text_rules.specs.TextForms.{has_colon, is_term_name}
use Rattle.jsonld_context.specs.declared.definitions.Definition.{Definition}
use Rattle.jsonld_context.proofs.LeastTexts.{least_first}
use Rattle.jsonld_context.proofs.TermNames.{AreTerms}
use Rattle.jsonld_context.proofs.TextLaws.{term_no_colon}

abbrev order : List ℕ → List ℕ → Ordering
order = slice_cmp nat_cmp

equal_at : (o : Ordering) → o ≡ ordering_reverse o → o ≡ Equal
equal_at Less h = cc h
equal_at Equal h = refl
equal_at Greater h = cc h

with_itself : (text : List ℕ) → order text text ≡ Equal
with_itself text = equal_at (order text text) (nat_list_cmp_total.antisymm text text)

then_apart : (o x y : Ordering) → (o ≡ Equal → ⊥) → ordering_then o x ≡ ordering_then o y
then_apart Less x y apart = refl
then_apart Equal x y apart = absurd (apart refl)
then_apart Greater x y apart = refl

no_colon : (byte : ℕ) → 58 ≡ byte → is_colon byte ≡ false → ⊥
no_colon byte is h = let at : is_colon 58 ≡ false = subst (λ (b : ℕ). is_colon b ≡ false) (sym is) h in cc at

labels_compared : (rest m n : List ℕ) → has_colon m ≡ false → has_colon n ≡ false
    → order ((m ++ 58 ∷ []) ++ rest) ((n ++ 58 ∷ []) ++ rest) ≡ order (m ++ 58 ∷ []) (n ++ 58 ∷ [])
labels_compared rest [] [] h k = with_itself rest
labels_compared rest [] (b ∷ bs) h k =
    then_apart (nat_cmp 58 b) _ _ (λ e. no_colon b (exact_unsigned 58 b e) (or_parts (is_colon b) (has_colon bs) k).0)
labels_compared rest (a ∷ ms) [] h k =
    then_apart (nat_cmp a 58) _ _ (λ e. no_colon a (sym (exact_unsigned a 58 e)) (or_parts (is_colon a) (has_colon ms) h).0)
labels_compared rest (a ∷ ms) (b ∷ bs) h k =
    ap (ordering_then (nat_cmp a b)) (labels_compared rest ms bs (or_parts (is_colon a) (has_colon ms) h).1 (or_parts (is_colon b) (has_colon bs) k).1)

-- a text without a colon, and one behind it
abbrev pub IsLabel : List ℕ → Type 0
IsLabel text = (name : List ℕ) × (has_colon name ≡ false) × (text ≡ name ++ 58 ∷ [])

abbrev pub IfLabel : Option (List ℕ) → Type 0
IfLabel found = MatchOption found Unit IsLabel

cond_behind : (rest a b : List ℕ) (x : Bool) → cond x (b ++ rest) (a ++ rest) ≡ cond x b a ++ rest
cond_behind rest a b true = refl
cond_behind rest a b false = refl

compared : (rest a b : List ℕ) → IsLabel a → IsLabel b → order (b ++ rest) (a ++ rest) ≡ order b a
compared rest a b one other =
    (λ i. order (other.2 i ++ rest) (one.2 i ++ rest)) ∙ (labels_compared rest other.0 one.0 other.1 one.1 ∙ sym (λ i. order (other.2 i) (one.2 i)))

lesser_behind : (rest a b : List ℕ) → IsLabel a → IsLabel b → lesser (a ++ rest) (b ++ rest) ≡ lesser a b ++ rest
lesser_behind rest a b one other =
    ap (λ o. cond (is_lt o) (b ++ rest) (a ++ rest)) (compared rest a b one other) ∙ cond_behind rest a b (is_lt (order b a))

-- the least with something behind it
pub least_behind_labels : (rest : List ℕ) (x y : Option (List ℕ)) → IfLabel x → IfLabel y
    → option_map (λ text. text ++ rest) (least_with x y) ≡ least_with (option_map (λ text. text ++ rest) x) (option_map (λ text. text ++ rest) y)
least_behind_labels rest None y one other = refl
least_behind_labels rest (Some x) None one other = refl
least_behind_labels rest (Some x) (Some y) one other = ap Some (sym (lesser_behind rest x y one other))

one_of : (a b : List ℕ) (x : Bool) → IsLabel a → IsLabel b → IsLabel (cond x b a)
one_of a b true one other = other
one_of a b false one other = one

with_label : (x y : Option (List ℕ)) → IfLabel x → IfLabel y → IfLabel (least_with x y)
with_label None y one other = other
with_label (Some x) None one other = one
with_label (Some x) (Some y) one other = one_of x y (is_lt (order y x)) one other

label_at : (name : List ℕ) (x : Bool) → IsTrue (is_term_name name) → IfLabel (cond x (Some (name ++ 58 ∷ [])) None)
label_at name true good = (name, term_no_colon name good, refl)
label_at name false good = tt

pub is_label : (front : List ℕ) (term : Definition) → IsTrue (is_term_name term.name) → IfLabel (label_for front term)
is_label front term good = label_at term.name (term.is_prefix && is_same term.iri front) good

pub are_labels : (front : List ℕ) (terms : List Definition) → AreTerms terms → IfLabel (least_label terms front)
are_labels front [] good = tt
are_labels front (term ∷ terms) good =
    subst (λ (found : Option (List ℕ)). IfLabel found) (sym (least_first (label_for front) term terms))
    (with_label (label_for front term) (least_label terms front) (is_label front term good.0) (are_labels front terms good.1))
