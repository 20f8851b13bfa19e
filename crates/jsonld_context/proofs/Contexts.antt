-- What contexts keep.
use Rattle.std.proofs.Common.{◌≡◌, ℕ, List, [], Bool, true, false, cond, Option, Some, None, Ok, IsTrue, nat_cmp, is_some, option_map, unwrap_or, codes, refl, sym, ap, ◌∙◌, subst, arith}
use Rattle.std.specs.Option.{option_and_then}
use Rattle.std.specs.Cmp.Lexicographic.{slice_cmp}
use Rattle.std.specs.List.Sorted.{IsStrictlySortedBy}
use Rattle.text_rules.specs.Domain.{is_domain}
use Rattle.text_rules.specs.Iri.{is_absolute}
use Rattle.serde_json.specs.Data.{Data, null, boolean, number, string, array, object, Members}
use Rattle.serde_json.specs.Find.{as_str, get_member}
use Rattle.jsonld_context.specs.ContextReading.{string_at, domain_base, domain_vocabulary, vocabulary_of, vocabulary_given, known_vocabulary, first_fault, fault_of_iri, fault_of_keyword, fault_of_member, fault_of_members, definitions, context_of, unless_fault, read_context}
use Rattle.jsonld_context.specs.Telling.{IsFaultOf, IsToldBy}
use Rattle.jsonld_context.specs.declared.faults.JsonFault.{JsonFault}
use Rattle.jsonld_context.specs.declared.faults.JsonFault.TheVariants as faults
use Rattle.jsonld_context.proofs.Domains.{rooted_absolute}
use Rattle.jsonld_context.proofs.FirstFaults.{none_at, none_at_string}
use Rattle.jsonld_context.proofs.TermNames.{AreTerms, names}
use Rattle.jsonld_context.specs.Context.{IsContext}
use Rattle.jsonld_context.specs.declared.definitions.Definition.{Definition}

bare : (base vocabulary : List ℕ) → IsTrue (is_absolute base) → IsTrue (is_absolute vocabulary)
    → IsContext (record { base = base; vocabulary = vocabulary; terms = [] })
unfolding IsStrictlySortedBy
bare base vocabulary good_base good_vocabulary =
    record { base = good_base; vocabulary = good_vocabulary; names = tt; ascending = tt }

-- a context without terms
pub no_terms : (base vocabulary : List ℕ) (terms : List Definition) → IsTrue (is_absolute base) → IsTrue (is_absolute vocabulary)
    → terms ≡ [] → IsContext (record { base = base; vocabulary = vocabulary; terms = terms })
no_terms base vocabulary terms good_base good_vocabulary none =
    subst (λ (list : List Definition). IsContext (record { base = base; vocabulary = vocabulary; terms = list })) (sym none)
    (bare base vocabulary good_base good_vocabulary)

absolute_at : (written iri : List ℕ) (absolute : Bool) → cond absolute None (Some (faults.BadIri written)) ≡ None → absolute ≡ true
absolute_at written iri true none = refl
absolute_at written iri false none = cc

-- an IRI without a fault is absolute
pub absolute : (written iri : List ℕ) → fault_of_iri written iri ≡ None → IsTrue (is_absolute iri)
absolute written iri none = absolute_at written iri (is_absolute iri) none

said_or_default : (found : Option (List ℕ)) (default : List ℕ) → ((text : List ℕ) → found ≡ Some text → fault_of_iri text text ≡ None)
    → IsTrue (is_absolute default) → IsTrue (is_absolute (unwrap_or found default))
said_or_default None default said good = good
said_or_default (Some text) default said good = absolute text text (said text refl)

-- a known vocabulary is what the members say
known_is : (domain vocabulary : List ℕ) (found : Option Data) → vocabulary_given domain found ≡ Some vocabulary
    → vocabulary ≡ unwrap_or (option_and_then as_str found) (domain_vocabulary domain)
known_is domain vocabulary None known = cc known
known_is domain vocabulary (Some value) known = sym (ap (λ text. unwrap_or text (domain_vocabulary domain)) known)

module _ (domain : List ℕ) (all : Members) (base vocabulary passed : List ℕ) (base_is : base ≡ unwrap_or (string_at (codes "@base") all) (domain_base domain))
    (known : known_vocabulary domain all ≡ Some vocabulary) (passed_is : passed ≡ vocabulary) where
  abbrev Faults : List ℕ → Option JsonFault
  Faults text = first_fault (fault_of_member (Some text) all) all

  vocabulary_is : vocabulary ≡ vocabulary_of domain all
  vocabulary_is = known_is domain vocabulary (get_member (codes "@vocab") all) known

  -- where there is no `@context`, the first fault is that of the members in their order
  faults_are : is_some (get_member (codes "@context") all) ≡ false → fault_of_members domain all ≡ Faults passed
  faults_are off =
      ap (λ b. cond b (Some (faults.BadContext (codes "@context"))) (first_fault (fault_of_member (known_vocabulary domain all) all) all)) off
      ∙ (ap (λ given. first_fault (fault_of_member given all) all) known ∙ ap Faults (sym passed_is))

  -- what is read is what the members say
  pub context_read : is_some (get_member (codes "@context") all) ≡ false → (terms : List Definition)
      → (Faults passed ≡ None) × (terms ≡ definitions passed all all)
      → read_context domain (object all) ≡ Ok (record { base = base; vocabulary = vocabulary; terms = terms })
  unfolding read_context
  context_read off terms h =
      let terms_are : terms ≡ definitions (vocabulary_of domain all) all all = h.1 ∙ ap (λ text. definitions text all all) (passed_is ∙ vocabulary_is) in
      let values : context_of domain all ≡ record { base = base; vocabulary = vocabulary; terms = terms } =
      λ i. record { base = sym base_is i; vocabulary = sym vocabulary_is i; terms = sym terms_are i } in
      ap (λ found. unless_fault found (context_of domain all)) (faults_are off ∙ h.0) ∙ ap Ok values

  -- and the fault is theirs
  pub fault_read : is_some (get_member (codes "@context") all) ≡ false → (told : JsonFault) → IsFaultOf (Faults passed) told
      → IsToldBy (read_context domain (object all)) told
  unfolding read_context
  fault_read off told h = λ named. ap (λ found. unless_fault found (context_of domain all)) (faults_are off ∙ h named)

  -- the base and the vocabulary of members without a fault
  base_said : IsTrue (is_domain domain) → Faults passed ≡ None → IsTrue (is_absolute (unwrap_or (string_at (codes "@base") all) (domain_base domain)))
  base_said good none =
      said_or_default (string_at (codes "@base") all) (domain_base domain)
      (λ text got. none_at_string (fault_of_member (Some passed) all) all (codes "@base") text none got)
      (rooted_absolute domain (codes "/") good refl (omega arith))

  vocabulary_said : IsTrue (is_domain domain) → Faults passed ≡ None → IsTrue (is_absolute (vocabulary_of domain all))
  vocabulary_said good none =
      said_or_default (string_at (codes "@vocab") all) (domain_vocabulary domain)
      (λ text got. none_at_string (fault_of_member (Some passed) all) all (codes "@vocab") text none got)
      (rooted_absolute domain (codes "/#") good refl (omega arith))

  -- the context is one
  pub is_context : IsTrue (is_domain domain) → (terms : List Definition) → Faults passed ≡ None → AreTerms terms → IsStrictlySortedBy (slice_cmp nat_cmp) (names terms)
      → IsContext (record { base = base; vocabulary = vocabulary; terms = terms })
  is_context good terms none are ascend =
      record {
        base = subst (λ (text : List ℕ). IsTrue (is_absolute text)) (sym base_is) (base_said good none);
        vocabulary = subst (λ (text : List ℕ). IsTrue (is_absolute text)) (sym vocabulary_is) (vocabulary_said good none);
        names = are;
        ascending = ascend;
      }

-- a `@context` is the first fault
pub own_context : (domain : List ℕ) (all : Members) (told : JsonFault) → is_some (get_member (codes "@context") all) ≡ true
    → IsFaultOf (Some (faults.BadContext (codes "@context"))) told → IsToldBy (read_context domain (object all)) told
unfolding read_context
own_context domain all told on h =
    λ named. ap (λ b. unless_fault (cond b (Some (faults.BadContext (codes "@context"))) (first_fault (fault_of_member (known_vocabulary domain all) all) all)) (context_of domain all)) on
    ∙ ap (λ found. unless_fault found (context_of domain all)) (h named)

-- without a vocabulary the first fault is that of the members in their order
pub unknown_read : (domain : List ℕ) (all : Members) (told : JsonFault) → is_some (get_member (codes "@context") all) ≡ false
    → known_vocabulary domain all ≡ None → IsFaultOf (first_fault (fault_of_member None all) all) told → IsToldBy (read_context domain (object all)) told
unfolding read_context
unknown_read domain all told off unknown h =
    λ named. ap (λ b. unless_fault (cond b (Some (faults.BadContext (codes "@context"))) (first_fault (fault_of_member (known_vocabulary domain all) all) all)) (context_of domain all)) off
    ∙ (ap (λ given. unless_fault (first_fault (fault_of_member given all) all) (context_of domain all)) unknown ∙ ap (λ found. unless_fault found (context_of domain all)) (h named))

no_string_at : (domain : List ℕ) (found : Option Data) → vocabulary_given domain found ≡ None → option_map as_str found ≡ Some None
no_string_at domain None unknown = cc unknown
no_string_at domain (Some value) unknown = ap Some unknown

-- an unknown vocabulary is a `@vocab` that is no string
pub no_string : (domain : List ℕ) (all : Members) → known_vocabulary domain all ≡ None → option_map as_str (get_member (codes "@vocab") all) ≡ Some None
no_string domain all unknown = no_string_at domain (get_member (codes "@vocab") all) unknown

found_no_string : (found : Option Data) → option_map as_str found ≡ Some None → (value : Data) × (found ≡ Some value) × (as_str value ≡ None)
found_no_string None h = cc h
found_no_string (Some value) h = (value, refl, cc h)

keyword_fault : (value : Data) → as_str value ≡ None → fault_of_keyword (codes "@vocab") value ≡ None → ⊥
keyword_fault null h none = cc none
keyword_fault (boolean b) h none = cc none
keyword_fault (number n) h none = cc none
keyword_fault (string text) h none = cc h
keyword_fault (array items) h none = cc none
keyword_fault (object inner) h none = cc none

-- which is a fault
pub vocabulary_fault : (all : Members) → option_map as_str (get_member (codes "@vocab") all) ≡ Some None → first_fault (fault_of_member None all) all ≡ None → ⊥
vocabulary_fault all h none =
    let found = found_no_string (get_member (codes "@vocab") all) h in
    keyword_fault found.0 found.2 (none_at (fault_of_member None all) all (codes "@vocab") found.0 none found.1)
