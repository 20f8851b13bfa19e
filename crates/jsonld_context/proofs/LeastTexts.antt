-- The least of some texts, in whatever order they come.
use Rattle.std.proofs.Common.{◌≡◌, ℕ, List, [], ◌∷◌, Bool, true, false, cond, Ordering, Option, Some, None, Less, Equal, Greater, nat_cmp, refl, sym, ap, ◌∙◌, subst}
use Rattle.std.specs.Cmp.Lexicographic.{slice_cmp}
use Rattle.std.specs.List.{fold, reduce, filter_map, cons_option}
use Rattle.std.specs.Ordering.{is_lt, ordering_reverse}
use Rattle.std.proofs.lemmas.Cmp.{nat_list_cmp_total}
use Rattle.std.proofs.lemmas.Map.Lookups.{exact_bytes}
use Rattle.jsonld_context.specs.ShortForms.{lesser, least_with}
use Rattle.jsonld_context.specs.declared.definitions.Definition.{Definition}

abbrev order : List ℕ → List ℕ → Ordering
order = slice_cmp nat_cmp

-- ---- the lesser of two

lesser_at : (a b : List ℕ) (o : Ordering) → order b a ≡ o → lesser a b ≡ cond (is_lt o) b a
lesser_at a b o is = ap (λ r. cond (is_lt r) b a) is

reversed : (a b : List ℕ) (o : Ordering) → order b a ≡ o → order a b ≡ ordering_reverse o
reversed a b o is = nat_list_cmp_total.antisymm a b ∙ ap ordering_reverse is

swapped_at : (a b : List ℕ) (o : Ordering) → order b a ≡ o → lesser a b ≡ lesser b a
swapped_at a b Less is = lesser_at a b Less is ∙ sym (lesser_at b a Greater (reversed a b Less is))
swapped_at a b Equal is = lesser_at a b Equal is ∙ (sym (exact_bytes b a is) ∙ sym (lesser_at b a Equal (reversed a b Equal is)))
swapped_at a b Greater is = lesser_at a b Greater is ∙ sym (lesser_at b a Less (reversed a b Greater is))

lesser_swapped : (a b : List ℕ) → lesser a b ≡ lesser b a
lesser_swapped a b = swapped_at a b (order b a) refl

below_below : (a b c : List ℕ) (o p : Ordering) → order b a ≡ o → order c b ≡ p → is_lt o ≡ true → is_lt p ≡ true → is_lt (order c a) ≡ true
below_below a b c Less Less first second x y = ap is_lt (nat_list_cmp_total.trans c b a second first)
below_below a b c Less Equal first second x y = cc y
below_below a b c Less Greater first second x y = cc y
below_below a b c Equal p first second x y = cc x
below_below a b c Greater p first second x y = cc x

above_above : (a b c : List ℕ) (o q : Ordering) → order b a ≡ o → order c a ≡ q → is_lt o ≡ false → is_lt (order c b) ≡ false → is_lt q ≡ false
above_above a b c o Equal first third x y = refl
above_above a b c o Greater first third x y = refl
above_above a b c Less Less first third x y = cc x
above_above a b c Equal Less first third x y =
    let less : order c b ≡ Less = subst (λ (l : List ℕ). order c l ≡ Less) (sym (exact_bytes b a first)) third in
    sym (ap is_lt less) ∙ y
above_above a b c Greater Less first third x y =
    let less : order c b ≡ Less = nat_list_cmp_total.trans c a b third (reversed a b Greater first) in
    sym (ap is_lt less) ∙ y

grouped_at : (a b c : List ℕ) (x y z : Bool) → (x ≡ true → y ≡ true → z ≡ true) → (x ≡ false → y ≡ false → z ≡ false)
    → is_lt (order b a) ≡ x → is_lt (order c b) ≡ y → is_lt (order c a) ≡ z → lesser (lesser a b) c ≡ lesser a (lesser b c)
grouped_at a b c true true z both neither p q r =
    ap (λ t. lesser t c) (ap (λ t. cond t b a) p)
    ∙ (ap (λ t. cond t c b) q ∙ (sym (ap (λ t. cond t c a) (r ∙ both refl refl)) ∙ sym (ap (lesser a) (ap (λ t. cond t c b) q))))
grouped_at a b c true false z both neither p q r =
    ap (λ t. lesser t c) (ap (λ t. cond t b a) p)
    ∙ (ap (λ t. cond t c b) q ∙ (sym (ap (λ t. cond t b a) p) ∙ sym (ap (lesser a) (ap (λ t. cond t c b) q))))
grouped_at a b c false true z both neither p q r =
    ap (λ t. lesser t c) (ap (λ t. cond t b a) p) ∙ sym (ap (lesser a) (ap (λ t. cond t c b) q))
grouped_at a b c false false z both neither p q r =
    ap (λ t. lesser t c) (ap (λ t. cond t b a) p)
    ∙ (ap (λ t. cond t c a) (r ∙ neither refl refl) ∙ (sym (ap (λ t. cond t b a) p) ∙ sym (ap (lesser a) (ap (λ t. cond t c b) q))))

lesser_grouped : (a b c : List ℕ) → lesser (lesser a b) c ≡ lesser a (lesser b c)
lesser_grouped a b c =
    grouped_at a b c (is_lt (order b a)) (is_lt (order c b)) (is_lt (order c a))
    (below_below a b c (order b a) (order c b) refl refl) (above_above a b c (order b a) (order c a) refl refl) refl refl refl

-- ---- where some may be missing

pub with_none : (a : Option (List ℕ)) → least_with a None ≡ a
with_none None = refl
with_none (Some a) = refl

swapped : (a b : Option (List ℕ)) → least_with a b ≡ least_with b a
swapped None None = refl
swapped None (Some b) = refl
swapped (Some a) None = refl
swapped (Some a) (Some b) = ap Some (lesser_swapped a b)

grouped : (a b c : Option (List ℕ)) → least_with (least_with a b) c ≡ least_with a (least_with b c)
grouped None b c = refl
grouped (Some a) None c = refl
grouped (Some a) (Some b) None = refl
grouped (Some a) (Some b) (Some c) = ap Some (lesser_grouped a b c)

-- the least of four, in two orders
pub crossed : (a b c d : Option (List ℕ)) → least_with (least_with a b) (least_with c d) ≡ least_with (least_with a c) (least_with b d)
crossed a b c d =
    grouped a b (least_with c d)
    ∙ (ap (least_with a) (sym (grouped b c d) ∙ (ap (λ t. least_with t d) (swapped b c) ∙ grouped c b d)) ∙ sym (grouped a c (least_with b d)))

-- ---- in a list

folded : (a b : List ℕ) (texts : List (List ℕ)) → fold lesser (lesser a b) texts ≡ lesser a (fold lesser b texts)
folded a b [] = refl
folded a b (text ∷ texts) = ap (λ t. fold lesser t texts) (lesser_grouped a b text) ∙ folded a (lesser b text) texts

first_of : (a : List ℕ) (texts : List (List ℕ)) → reduce lesser (a ∷ texts) ≡ least_with (Some a) (reduce lesser texts)
first_of a [] = refl
first_of a (text ∷ texts) = ap Some (folded a text texts)

first_option : (a : Option (List ℕ)) (texts : List (List ℕ)) → reduce lesser (cons_option a texts) ≡ least_with a (reduce lesser texts)
first_option None texts = refl
first_option (Some a) texts = first_of a texts

-- the least of what a term gives and of what the others give
pub least_first : (f : Definition → Option (List ℕ)) (term : Definition) (terms : List Definition)
    → reduce lesser (filter_map f (term ∷ terms)) ≡ least_with (f term) (reduce lesser (filter_map f terms))
least_first f term terms = first_option (f term) (filter_map f terms)
