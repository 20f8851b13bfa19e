-- The least compact IRI, found by trying the fronts of an IRI.
use Rattle.std.proofs.Common.{◌≡◌, ℕ, zero, suc, ◌+◌, ◌<◌, List, [], ◌∷◌, ◌++◌, length, take, drop, append_assoc, Bool, true, false, cond, not, ◌&&◌, ◌||◌, Option, Some, None, IsTrue, nat_eq, min, option_map, refl, sym, ap, ◌∙◌, arith}
use Rattle.std.proofs.Math.Seq.{take-append_seam, drop-append_seam}
use Rattle.std.proofs.lemmas.List.{take-append-drop, length-append, length-take}
use Rattle.std.specs.List.{AllByRecursion, starts_with}
use Rattle.std.specs.Option.{option_and_then}
use Rattle.std.proofs.lemmas.Bool.Decides.{Decides-eqb}
use Rattle.std.proofs.lemmas.Slice.Eq.{starts_is}
use Rattle.rdf_terms.specs.Literal.{is_same}
use Rattle.jsonld_context.specs.FormsFound.{label_for, least_label, compact_behind, least_behind, IsDelimited}
use Rattle.jsonld_context.specs.ShortForms.{if_passes, is_rest, rest_behind, compact_by, least_with, least_compact}
use Rattle.text_rules.specs.TextForms.{ends_in_delimiter, is_term_name}
use Rattle.jsonld_context.specs.declared.definitions.Definition.{Definition}
use Rattle.jsonld_context.proofs.Labels.{IfLabel, is_label, are_labels, least_behind_labels}
use Rattle.jsonld_context.proofs.LeastTexts.{with_none, crossed, least_first}
use Rattle.jsonld_context.proofs.TermNames.{AreTerms}
use Rattle.jsonld_context.proofs.TextLaws.{itself, differ}

abbrev Labels : Type 0
Labels = List ℕ → Option (List ℕ)

-- one byte more
pub behind_more : (label : Labels) (iri : List ℕ) (n : ℕ)
    → least_behind label iri (n + 1) ≡ least_with (least_behind label iri n) (compact_behind label iri (n + 1))
behind_more label iri n = let step : n + 1 ≡ suc n = omega arith in ap (least_behind label iri) step

-- where no front gives one
nothing : (label : Labels) (iri : List ℕ) (m : ℕ) → ((n : ℕ) → n < m → compact_behind label iri (n + 1) ≡ None) → least_behind label iri m ≡ None
nothing label iri zero none = refl
nothing label iri (suc m) none =
    (λ i. least_with (nothing label iri m (λ n below. none n (omega arith)) i) (none m (omega arith) i))

-- where one front alone gives one
alone : (label : Labels) (iri : List ℕ) (k m : ℕ) → ((n : ℕ) → n < k + 1 + m → (n ≡ k → ⊥) → compact_behind label iri (n + 1) ≡ None)
    → least_behind label iri (suc k + m) ≡ compact_behind label iri (k + 1)
alone label iri k zero none =
    let size : suc k + 0 ≡ suc k = omega arith in
    rw size (ap (λ t. least_with t (compact_behind label iri (k + 1))) (nothing label iri k (λ n below. none n (omega arith) (λ e. absurd (omega arith)))))
alone label iri k (suc m) none =
    let size : suc k + suc m ≡ suc (suc k + m) = omega arith in
    rw size
    ((λ i. least_with (alone label iri k m (λ n below apart. none n (omega arith) apart) i) (none (suc k + m) (omega arith) (λ e. absurd (omega arith)) i))
    ∙ with_none (compact_behind label iri (k + 1)))

none_at : (b : Bool) (rest : List ℕ) (found : Option (List ℕ)) → found ≡ None → cond b (option_map (λ text. text ++ rest) found) None ≡ None
none_at true rest found none = ap (option_map (λ text. text ++ rest)) none
none_at false rest found none = refl

no_label : (label : Labels) (iri : List ℕ) (size : ℕ) → label (take size iri) ≡ None → compact_behind label iri size ≡ None
no_label label iri size none = none_at (ends_in_delimiter (take size iri) && is_rest (drop size iri)) (drop size iri) (label (take size iri)) none

-- ---- one prefix

begun : (front iri : List ℕ) (n : ℕ) → starts_with nat_eq iri front ≡ false → front ≡ take (n + 1) iri → ⊥
begun front iri n starts e =
    let split : iri ≡ front ++ drop (n + 1) iri = sym (take-append-drop (n + 1) iri) ∙ ap (λ l. l ++ drop (n + 1) iri) (sym e) in
    let on = (starts_is Decides-eqb iri front (starts_with nat_eq iri front) refl).1 (drop (n + 1) iri) split in
    let clash : true ≡ false = sym on ∙ starts in
    cc clash

size_of : (front : List ℕ) → ends_in_delimiter front ≡ true → (k : ℕ) × (length front ≡ k + 1)
size_of [] ends = cc ends
size_of (byte ∷ bytes) ends = (length bytes, omega arith)

module _ (front text : List ℕ) where
  -- the text of one front
  abbrev Single : Labels
  Single other = cond (is_same front other) (Some text) None

  elsewhere : (other : List ℕ) → (front ≡ other → ⊥) → Single other ≡ None
  elsewhere other apart = ap (λ b. cond b (Some text) None) (differ front other apart)

  here : (rest : List ℕ) → ends_in_delimiter front ≡ true → compact_behind Single (front ++ rest) (length front) ≡ cond (is_rest rest) (Some (text ++ rest)) None
  here rest ends =
      (λ i. cond (ends_in_delimiter (take-append_seam front rest i) && is_rest (drop-append_seam front rest i))
      (option_map (λ t. t ++ drop-append_seam front rest i) (Single (take-append_seam front rest i))) None)
      ∙ ((λ i. cond (ends i && is_rest rest) (option_map (λ t. t ++ rest) (cond (itself front i) (Some text) None)) None))

  found : (k : ℕ) (rest : List ℕ) → length front ≡ k + 1 → ends_in_delimiter front ≡ true
      → least_behind Single (front ++ rest) (length (front ++ rest)) ≡ cond (is_rest rest) (Some (text ++ rest)) None
  found k rest size ends =
      let iri = front ++ rest in
      let whole : length iri ≡ length front + length rest = length-append front rest in
      let count : length iri ≡ suc k + length rest = omega arith in
      let others : (n : ℕ) → n < k + 1 + length rest → (n ≡ k → ⊥) → compact_behind Single iri (n + 1) ≡ None =
      λ n below apart. no_label Single iri (n + 1)
      (elsewhere (take (n + 1) iri) (λ e.
      let l : length front ≡ min (n + 1) (length iri) = ap length e ∙ length-take (n + 1) iri in
      apart (omega arith))) in
      ap (least_behind Single iri) count ∙ (alone Single iri k (length rest) others ∙ (ap (compact_behind Single iri) (sym size) ∙ here rest ends))

  missing : (iri : List ℕ) → starts_with nat_eq iri front ≡ false → least_behind Single iri (length iri) ≡ None
  missing iri starts =
      nothing Single iri (length iri)
      (λ n below. no_label Single iri (n + 1) (elsewhere (take (n + 1) iri) (begun front iri n starts)))

-- ---- a term

passed_at : (name rest : List ℕ) (b : Bool) → cond b (Some ((name ++ 58 ∷ []) ++ rest)) None ≡ option_map (λ text. name ++ 58 ∷ text) (cond b (Some rest) None)
passed_at name rest true = ap Some (append_assoc name (58 ∷ []) rest)
passed_at name rest false = refl

module _ (name front : List ℕ) (ends : ends_in_delimiter front ≡ true) where
  front_at : (iri : List ℕ) (b : Bool) → b ≡ starts_with nat_eq iri front
      → least_behind (λ other. cond (is_same front other) (Some (name ++ 58 ∷ [])) None) iri (length iri)
      ≡ option_map (λ rest. name ++ 58 ∷ rest) (option_and_then (if_passes is_rest) (cond b (Some (drop (length front) iri)) None))
  front_at iri true starts =
      let rest = drop (length front) iri in
      let split : iri ≡ front ++ rest = (starts_is Decides-eqb iri front true starts).0 refl in
      let size = size_of front ends in
      ap (λ l. least_behind (λ other. cond (is_same front other) (Some (name ++ 58 ∷ [])) None) l (length l)) split
      ∙ (found front (name ++ 58 ∷ []) size.0 rest size.1 ends ∙ passed_at name rest (is_rest rest))
  front_at iri false starts = missing front (name ++ 58 ∷ []) iri (sym starts)

term_at : (name front iri : List ℕ) (p : Bool) → IsTrue (not p || ends_in_delimiter front)
    → least_behind (λ other. cond (p && is_same front other) (Some (name ++ 58 ∷ [])) None) iri (length iri)
    ≡ option_map (λ rest. name ++ 58 ∷ rest) (option_and_then (λ l. option_and_then (if_passes is_rest) (rest_behind l iri)) (cond p (Some front) None))
term_at name front iri true good = front_at name front good iri (starts_with nat_eq iri front) refl
term_at name front iri false good = nothing (λ other. None) iri (length iri) (λ n below. no_label (λ other. None) iri (n + 1) refl)

-- what the fronts give for one term is its compact IRI
by_term : (iri : List ℕ) (term : Definition) → IsDelimited term → least_behind (λ front. label_for front term) iri (length iri) ≡ compact_by iri term
by_term iri term good = term_at term.name term.iri iri term.is_prefix good

-- ---- all terms

both_at : (b : Bool) (rest : List ℕ) (x y : Option (List ℕ)) → IfLabel x → IfLabel y
    → cond b (option_map (λ text. text ++ rest) (least_with x y)) None
    ≡ least_with (cond b (option_map (λ text. text ++ rest) x) None) (cond b (option_map (λ text. text ++ rest) y) None)
both_at true rest x y one other = least_behind_labels rest x y one other
both_at false rest x y one other = refl

module _ (iri : List ℕ) (term : Definition) (terms : List Definition) (good : IsTrue (is_term_name term.name)) (all_good : AreTerms terms) where
  one_front : (size : ℕ)
      → compact_behind (least_label (term ∷ terms)) iri size
      ≡ least_with (compact_behind (λ front. label_for front term) iri size) (compact_behind (least_label terms) iri size)
  one_front size =
      let front = take size iri in
      let rest = drop size iri in
      ap (λ found. cond (ends_in_delimiter front && is_rest rest) (option_map (λ text. text ++ rest) found) None) (least_first (label_for front) term terms)
      ∙ both_at (ends_in_delimiter front && is_rest rest) rest (label_for front term) (least_label terms front) (is_label front term good) (are_labels front terms all_good)

  fronts : (size : ℕ)
      → least_behind (least_label (term ∷ terms)) iri size
      ≡ least_with (least_behind (λ front. label_for front term) iri size) (least_behind (least_label terms) iri size)
  fronts zero = refl
  fronts (suc size) =
      (λ i. least_with (fronts size i) (one_front (size + 1) i))
      ∙ crossed (least_behind (λ front. label_for front term) iri size) (least_behind (least_label terms) iri size)
      (compact_behind (λ front. label_for front term) iri (size + 1)) (compact_behind (least_label terms) iri (size + 1))

-- the least over the fronts of an IRI is the least over the terms
by_fronts : (iri : List ℕ) (terms : List Definition) → AreTerms terms → AllByRecursion IsDelimited terms
    → least_behind (least_label terms) iri (length iri) ≡ least_compact terms iri
by_fronts iri [] good ends = nothing (least_label []) iri (length iri) (λ n below. no_label (least_label []) iri (n + 1) refl)
by_fronts iri (term ∷ terms) good ends =
    fronts iri term terms good.0 good.1 (length iri)
    ∙ ((λ i. least_with (by_term iri term ends.0 i) (by_fronts iri terms good.1 ends.1 i)) ∙ sym (least_first (compact_by iri) term terms))

-- so is that over what is found by the fronts
pub prefixed : (found : Labels) (terms : List Definition) → AreTerms terms → AllByRecursion IsDelimited terms
    → ((front : List ℕ) → found front ≡ least_label terms front) → (iri : List ℕ) → least_behind found iri (length iri) ≡ least_compact terms iri
prefixed found terms good ends is iri = (λ i. least_behind (λ front. is front i) iri (length iri)) ∙ by_fronts iri terms good ends
