-- IRIs behind one another, each behind one space.
use Rattle.std.proofs.Common.{◌≡◌, ℕ, suc, ◌+◌, ◌<◌, ◌≤◌, List, [], ◌∷◌, ◌++◌, length, codes, IsTrue, Option, Some, None, refl, sym, ◌∙◌, ap, subst, arith}
use Rattle.std.proofs.lemmas.List.{append-nil, append_assoc, length-append}
use Rattle.text_rules.specs.Domain.{is_domain}
use Rattle.schedule_text.specs.schedule_model.Characters.{space}
use Rattle.schedule_text.proofs.of_schedule_model.LackingLaws.{Lacks, one_split}
use Rattle.schedule_text.proofs.of_schedule_model.ScheduleLaws.{domain_lacks, one_property}
use Rattle.schedule_text.proofs.LinesText.{has_space}
use Rattle.shell_session.specs.ReadShell.{tail_of, IsFirstWord}
use Rattle.shell_session.specs.ShellLines.{IsIdWord, IsIriWord, SpellsIris, IsCreation, property_limit}

-- the text is empty, or begins with a space
abbrev BeginsBlank : List ℕ → Type 0
BeginsBlank [] = Unit {0}
BeginsBlank (byte ∷ rest) = byte ≡ space

-- a first word and what follows it are told apart in one way
one_first : (a b x y : List ℕ) → Lacks space a → Lacks space b → BeginsBlank x → BeginsBlank y → a ++ x ≡ b ++ y → (a ≡ b) × (x ≡ y)
one_first [] [] x y h k p q e = (refl, e)
one_first [] (second ∷ b) [] y h k p q e = absurd (cc (e))
one_first [] (second ∷ b) (byte ∷ x) y h k p q e = let same : byte ≡ second = cc (e) in absurd (k.0 (sym same ∙ p))
one_first (first ∷ a) [] x [] h k p q e = absurd (cc (e))
one_first (first ∷ a) [] x (byte ∷ y) h k p q e = let same : first ≡ byte = cc (e) in absurd (h.0 (same ∙ q))
one_first (first ∷ a) (second ∷ b) x y h k p q e =
    let rest : a ++ x ≡ b ++ y = cc (e) in
    let alike : first ≡ second = cc (e) in
    let parts = one_first a b x y h.1 k.1 p q rest in
    (cc (alike, parts.0), parts.1)

tail_blank : (rest : Option (List ℕ)) → BeginsBlank (tail_of rest)
tail_blank None = tt
tail_blank (Some rest) = refl

iris_blank : (text : List ℕ) (iris : List (List ℕ)) → SpellsIris text iris → BeginsBlank text
iris_blank text [] h = subst (λ (t : List ℕ). BeginsBlank t) (sym h) tt
iris_blank text (iri ∷ iris) h = subst (λ (t : List ℕ). BeginsBlank t) (sym h.2) refl

-- a word is one IRI
pub one_iri : (word iri other : List ℕ) → IsIriWord word iri → IsIriWord word other → iri ≡ other
one_iri word iri other p q =
    one_property (codes "single " ++ word) iri other (record { text = word; whole = refl; bytes = p.bytes; is = p.is }) (record { text = word; whole = refl; bytes = q.bytes; is = q.is })

-- and a text spells one list of them
pub one_list : (text : List ℕ) (iris others : List (List ℕ)) → SpellsIris text iris → SpellsIris text others → iris ≡ others
one_list text [] [] p q = refl
one_list text [] (other ∷ others) p q = let none : [] ≡ space ∷ (q.0 ++ q.1) = sym p ∙ q.2 in absurd (cc (none))
one_list text (iri ∷ iris) [] p q = let none : [] ≡ space ∷ (p.0 ++ p.1) = sym q ∙ p.2 in absurd (cc (none))
one_list text (iri ∷ iris) (other ∷ others) p q =
    let whole : space ∷ (p.0 ++ p.1) ≡ space ∷ (q.0 ++ q.1) = sym p.2 ∙ q.2 in
    let tails : p.0 ++ p.1 ≡ q.0 ++ q.1 = cc (whole) in
    let parts = one_first p.0 q.0 p.1 q.1 p.3.spaceless q.3.spaceless (iris_blank p.1 iris p.4) (iris_blank q.1 others q.4) tails in
    let first : iri ≡ other = one_iri q.0 iri other (subst (λ (w : List ℕ). IsIriWord w iri) parts.0 p.3) q.3 in
    let rest : iris ≡ others = one_list q.1 iris others (subst (λ (t : List ℕ). SpellsIris t iris) parts.1 p.4) q.4 in
    cc (first, rest)

-- ---- a list that is read from its front

-- what is read so far of a text, and what is left of it: the lists that the text spells are those read so far, with those that the rest spells
pub record ReadsOn (start now : List ℕ) (so_far : List (List ℕ)) : Type 0 where
  pub there : (more : List (List ℕ)) → SpellsIris now more → SpellsIris start (so_far ++ more)
  pub back : (all : List (List ℕ)) → SpellsIris start all → (more : List (List ℕ)) × (all ≡ so_far ++ more) × SpellsIris now more
  pub few : length so_far ≤ property_limit

pub begun : (start : List ℕ) → ReadsOn start start []
begun start = record { there = λ more h. h; back = λ all h. (all, refl, h); few = omega arith }

-- one IRI more is read
pub one_more : (start text word iri : List ℕ) (rest : Option (List ℕ)) (so_far : List (List ℕ)) → ReadsOn start (space ∷ text) so_far → length so_far < property_limit
    → IsFirstWord text word rest → IsIriWord word iri → ReadsOn start (tail_of rest) (so_far ++ iri ∷ [])
one_more start text word iri rest so_far reads room first is = record {
  there = λ more h. subst (λ (l : List (List ℕ)). SpellsIris start l) (sym (append_assoc so_far (iri ∷ []) more))
      (reads.there (iri ∷ more) (word, tail_of rest, ap (λ (t : List ℕ). space ∷ t) first.whole, is, h));
  back = λ all h. let told = reads.back all h in back all told.0 told.1 told.2;
  few = let long : length (so_far ++ iri ∷ []) ≡ length so_far + 1 = length-append so_far (iri ∷ []) in omega (arith, long, room);
}
  where
    back : (all more : List (List ℕ)) → all ≡ so_far ++ more → SpellsIris (space ∷ text) more
        → (later : List (List ℕ)) × (all ≡ (so_far ++ iri ∷ []) ++ later) × SpellsIris (tail_of rest) later
    back all [] e h = absurd (cc (h))
    back all (other ∷ later) e h =
        let whole : space ∷ text ≡ space ∷ (h.0 ++ h.1) = h.2 in
        let tails : text ≡ h.0 ++ h.1 = cc (whole) in
        let parts = one_first word h.0 (tail_of rest) h.1 first.spaceless h.3.spaceless (tail_blank rest) (iris_blank h.1 later h.4) (sym first.whole ∙ tails) in
        let same : iri ≡ other = one_iri h.0 iri other (subst (λ (w : List ℕ). IsIriWord w iri) parts.0 is) h.3 in
        (later, e ∙ ap (λ (i : List ℕ). so_far ++ i ∷ later) (sym same) ∙ sym (append_assoc so_far (iri ∷ []) later), subst (λ (t : List ℕ). SpellsIris t later) (sym parts.1) h.4)

-- one more would be one too many
pub too_many : (start text : List ℕ) (so_far : List (List ℕ)) → ReadsOn start (space ∷ text) so_far → property_limit ≤ length so_far
    → (iris : List (List ℕ)) → length iris ≤ property_limit → ¬ SpellsIris start iris
too_many start text so_far reads full iris few h = let told = reads.back iris h in go told.0 told.1 told.2
  where
    go : (more : List (List ℕ)) → iris ≡ so_far ++ more → SpellsIris (space ∷ text) more → ⊥
    go [] e k = cc (k)
    go (iri ∷ more) e k =
        let long : length iris ≡ length so_far + suc (length more) = ap (λ (l : List (List ℕ)). length l) e ∙ length-append so_far (iri ∷ more) in
        omega (arith, long, few, full)

-- the next word is none
pub no_next : (start text word : List ℕ) (rest : Option (List ℕ)) (so_far : List (List ℕ)) → ReadsOn start (space ∷ text) so_far → IsFirstWord text word rest
    → ((iri : List ℕ) → ¬ IsIriWord word iri) → (iris : List (List ℕ)) → length iris ≤ property_limit → ¬ SpellsIris start iris
no_next start text word rest so_far reads first none iris few h = let told = reads.back iris h in go told.0 told.1 told.2
  where
    go : (more : List (List ℕ)) → iris ≡ so_far ++ more → SpellsIris (space ∷ text) more → ⊥
    go [] e k = cc (k)
    go (iri ∷ more) e k =
        let whole : space ∷ text ≡ space ∷ (k.0 ++ k.1) = k.2 in
        let tails : text ≡ k.0 ++ k.1 = cc (whole) in
        let parts = one_first word k.0 (tail_of rest) k.1 first.spaceless k.3.spaceless (tail_blank rest) (iris_blank k.1 more k.4) (sym first.whole ∙ tails) in
        none iri (subst (λ (w : List ℕ). IsIriWord w iri) (sym parts.0) k.3)

-- nothing is left
pub all_read : (start : List ℕ) (so_far : List (List ℕ)) → ReadsOn start [] so_far → SpellsIris start so_far × (length so_far ≤ property_limit)
all_read start so_far reads = (subst (λ (l : List (List ℕ)). SpellsIris start l) (append-nil so_far) (reads.there [] refl), reads.few)

-- ---- what follows `create` and a space

-- it has a space
pub no_creation_split : (text : List ℕ) → Lacks space text → (id : List ℕ) (domain : List ℕ) (properties : List (List ℕ)) → ¬ IsCreation text id domain properties
no_creation_split text lacks id domain properties h = has_space text h.word (domain ++ h.rest) lacks h.whole

-- the word before it, and what stands behind it
pub record IsCut (text word behind : List ℕ) : Type 0 where
  pub whole : text ≡ word ++ space ∷ behind
  pub spaceless : Lacks space word

cut_parts : (text word behind id domain : List ℕ) (properties : List (List ℕ)) → IsCut text word behind → (h : IsCreation text id domain properties)
    → (word ≡ h.word) × (behind ≡ domain ++ h.rest)
cut_parts text word behind id domain properties cut h =
    one_split space word h.word behind (domain ++ h.rest) cut.spaceless h.id_word.spaceless (sym cut.whole ∙ h.whole)

pub no_creation_id : (text word behind id domain : List ℕ) (properties : List (List ℕ)) → IsCut text word behind → ((other : List ℕ) → ¬ IsIdWord word other)
    → ¬ IsCreation text id domain properties
no_creation_id text word behind id domain properties cut none h =
    none id (subst (λ (w : List ℕ). IsIdWord w id) (sym (cut_parts text word behind id domain properties cut h).0) h.id_word)

-- the name of a domain, and what stands behind it
named : (text word behind name id domain : List ℕ) (rest : Option (List ℕ)) (properties : List (List ℕ)) → IsCut text word behind → IsFirstWord behind name rest
    → (h : IsCreation text id domain properties) → (name ≡ domain) × (tail_of rest ≡ h.rest)
named text word behind name id domain rest properties cut first h =
    one_first name domain (tail_of rest) h.rest first.spaceless (domain_lacks domain h.name) (tail_blank rest) (iris_blank h.rest properties h.iris)
    (sym first.whole ∙ (cut_parts text word behind id domain properties cut h).1)

pub no_creation_name : (text word behind name id domain : List ℕ) (rest : Option (List ℕ)) (properties : List (List ℕ)) → IsCut text word behind → IsFirstWord behind name rest
    → ¬ IsTrue (is_domain name) → ¬ IsCreation text id domain properties
no_creation_name text word behind name id domain rest properties cut first none h =
    none (subst (λ (d : List ℕ). IsTrue (is_domain d)) (sym (named text word behind name id domain rest properties cut first h).0) h.name)

pub no_creation_iris : (text word behind name id domain : List ℕ) (rest : Option (List ℕ)) (properties : List (List ℕ)) → IsCut text word behind → IsFirstWord behind name rest
    → ((iris : List (List ℕ)) → length iris ≤ property_limit → ¬ SpellsIris (tail_of rest) iris) → ¬ IsCreation text id domain properties
no_creation_iris text word behind name id domain rest properties cut first none h =
    none properties h.few (subst (λ (t : List ℕ). SpellsIris t properties) (sym (named text word behind name id domain rest properties cut first h).1) h.iris)

pub creation_read : (text word behind id domain : List ℕ) (rest : Option (List ℕ)) (properties : List (List ℕ)) → IsCut text word behind → IsFirstWord behind domain rest
    → IsIdWord word id → IsTrue (is_domain domain) → SpellsIris (tail_of rest) properties × (length properties ≤ property_limit) → IsCreation text id domain properties
creation_read text word behind id domain rest properties cut first is name iris = record {
  word = word;
  rest = tail_of rest;
  whole = cut.whole ∙ ap (λ (t : List ℕ). word ++ space ∷ t) first.whole;
  id_word = is;
  name = name;
  iris = iris.0;
  few = iris.1;
}

-- a text is one creation
one_id : (word id other : List ℕ) → IsIdWord word id → IsIdWord word other → id ≡ other
one_id word id other p q = let same : ◌≡◌ {A = Option (List ℕ)} (Some id) (Some other) = sym p.read ∙ q.read in cc (same)

pub one_creation : (text id domain other name : List ℕ) (properties iris : List (List ℕ)) → IsCreation text id domain properties → IsCreation text other name iris
    → (id ≡ other) × (domain ≡ name) × (properties ≡ iris)
one_creation text id domain other name properties iris p q =
    let cut = one_split space p.word q.word (domain ++ p.rest) (name ++ q.rest) p.id_word.spaceless q.id_word.spaceless (sym p.whole ∙ q.whole) in
    let parts = one_first domain name p.rest q.rest (domain_lacks domain p.name) (domain_lacks name q.name) (iris_blank p.rest properties p.iris) (iris_blank q.rest iris q.iris) cut.1 in (
      one_id q.word id other (subst (λ (w : List ℕ). IsIdWord w id) cut.0 p.id_word) q.id_word,
      parts.0,
      one_list q.rest properties iris (subst (λ (t : List ℕ). SpellsIris t properties) parts.1 p.iris) q.iris,
    )
