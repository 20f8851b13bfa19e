-- Steps of reading a language tag.
use Rattle.std.proofs.Common.{◌≡◌, ◌≢◌, ℕ, suc, ◌+◌, ◌-◌, ◌<◌, ◌≤◌, List, [], ◌∷◌, ◌++◌, length, get_or, take, drop, Bool, true, false, ◌||◌, ◌&&◌, cond, Some, None, refl, sym, ap, ◌∙◌, subst, arith, append_assoc, Result, Ok, Err, MatchResult}
use Rattle.std.specs.Str.{str_to_ascii_lowercase}
use Rattle.std.proofs.lemmas.Bool.{ne_eqb, false≢true}
use Rattle.std.proofs.lemmas.Bool.Decides.{nat_tests}
use Rattle.std.proofs.lemmas.List.{append-nil, drop_all}
use Rattle.text_rules.specs.Iri.{is_letter, is_digit}
use Rattle.rdf_terms.specs.declared.faults.TripleFault.{TripleFault}
use Rattle.rdf_terms.specs.declared.faults.TripleFault.TheVariants.{NotTriple}
use Rattle.rdf_terms.specs.declared.terms.Term.TheVariants as terms
use Rattle.text_rules.specs.Tags.{is_language_tag, is_subtags, is_primary}
use Rattle.rdf_terms.specs.Literal.{Tagged}
use Rattle.rdf_terms.specs.TripleReading.{Tag, Closed, step, verdict, resume, run, Leads, StopsAt}
use Rattle.text_rules.specs.BytePlaces.{HasByte}
use Rattle.rdf_terms.specs.TripleReads.{IsTagEnd, EndsTag}
use Rattle.rdf_terms.proofs.BodyLemmas.{run_longer}
use Rattle.rdf_terms.proofs.Stops.{leads_on, stops_here, stops_at_end, stops_later, byte_is}

-- what may follow a tag's first part, or a part behind a `-`
abbrev pub is_tag_from : Bool → Bool → List ℕ → Bool
is_tag_from dashed full rest = cond dashed (is_subtags full rest) (is_primary full rest)

-- a letter, or a digit behind a `-`
abbrev pub is_tag_character : Bool → ℕ → Bool
is_tag_character dashed byte = is_letter byte || (dashed && is_digit byte)

-- the tag so far, and what may follow it
pub record IsTagSoFar (text : List ℕ) (begin i : ℕ) (dashed full : Bool) : Type 0 where
  pub forward : begin ≤ i
  pub within : i ≤ length text
  pub ascii : full ≡ true → get_or text (i - 1) 0 < 128
  pub some : full ≡ true → begin < i
  pub tag : (rest : List ℕ) → is_language_tag (take (i - begin) (drop begin text) ++ rest) ≡ is_tag_from dashed full rest
  pub leads : (s p lexical : List ℕ) → Leads text begin (Tag s p lexical false false []) i (Tag s p lexical dashed full (take (i - begin) (drop begin text)))

-- no byte of the tag so far
pub tag_begun : (text : List ℕ) (begin : ℕ) → begin ≤ length text → IsTagSoFar text begin begin false false
unfolding is_language_tag
tag_begun text begin within =
    let none : begin - begin ≡ 0 = omega arith in
    record {
      forward = omega arith;
      within = within;
      ascii = λ e. absurd (false≢true e);
      some = λ e. absurd (false≢true e);
      tag = λ rest. rw none refl;
      leads = λ s p lexical. ap (λ n. run (drop begin text) (Tag s p lexical false false (take n (drop begin text)))) (sym none);
    }

-- a byte more of the tag
module _ (text : List ℕ) (begin i byte : ℕ) (dashed full : Bool) (so_far : IsTagSoFar text begin i dashed full) (here : HasByte text i byte) where
  more : (dashed' full' : Bool) → byte < 128 → ((rest : List ℕ) → is_tag_from dashed full (byte ∷ rest) ≡ is_tag_from dashed' full' rest)
      → ((s p lexical tag : List ℕ) → step (Tag s p lexical dashed full tag) byte ≡ Some (Tag s p lexical dashed' full' (tag ++ byte ∷ []))) → IsTagSoFar text begin (i + 1) dashed' full'
  more dashed' full' ascii follows steps =
      let forward : begin ≤ i = so_far.forward in
      let within : i < length text = here.within in
      let back : i + 1 - 1 ≡ i = omega arith in
      let longer = run_longer text begin i byte forward here in
      record {
        forward = omega arith;
        within = omega arith;
        ascii = λ e. rw (back, byte_is text i byte here) ascii;
        some = λ e. omega arith;
        tag = λ rest. ap (λ l. is_language_tag (l ++ rest)) (sym longer) ∙ ap is_language_tag (append_assoc (take (i - begin) (drop begin text)) (byte ∷ []) rest) ∙ so_far.tag (byte ∷ rest) ∙ follows rest;
        leads = λ s p lexical. so_far.leads s p lexical
            ∙ leads_on text i byte (Tag s p lexical dashed full (take (i - begin) (drop begin text))) (Tag s p lexical dashed' full' (take (i - begin) (drop begin text) ++ byte ∷ [])) here
            (steps s p lexical (take (i - begin) (drop begin text)))
            ∙ ap (λ l. run (drop (i + 1) text) (Tag s p lexical dashed' full' l)) longer;
      }

-- a `-` behind a letter or a digit
dash_follows : (dashed : Bool) (rest : List ℕ) → is_tag_from dashed true (45 ∷ rest) ≡ is_tag_from true false rest
dash_follows true rest = refl
dash_follows false rest = refl

dash_steps : (dashed : Bool) (s p lexical tag : List ℕ) → step (Tag s p lexical dashed true tag) 45 ≡ Some (Tag s p lexical true false (tag ++ 45 ∷ []))
unfolding step
dash_steps dashed s p lexical tag = refl

pub dash_more : (text : List ℕ) (begin i : ℕ) (dashed : Bool) → IsTagSoFar text begin i dashed true → HasByte text i 45 → IsTagSoFar text begin (i + 1) true false
dash_more text begin i dashed so_far here = more text begin i 45 dashed true so_far here true false (omega arith) (dash_follows dashed) (dash_steps dashed)

-- a letter or a digit
character_follows : (dashed full : Bool) (byte : ℕ) (rest : List ℕ) → byte ≢ 45 → is_tag_character dashed byte ≡ true → is_tag_from dashed full (byte ∷ rest) ≡ is_tag_from dashed true rest
character_follows true full byte rest other h = rw (ne_eqb byte 45 other, h) refl
character_follows false full byte rest other h = rw (ne_eqb byte 45 other, letter byte h) refl
  where
    letter : (byte : ℕ) → (is_letter byte || false) ≡ true → is_letter byte ≡ true
    letter byte h = grind (arith, nat_tests)

character_steps : (dashed full : Bool) (byte : ℕ) → byte ≢ 45 → is_tag_character dashed byte ≡ true → (s p lexical tag : List ℕ) → step (Tag s p lexical dashed full tag) byte ≡ Some (Tag s p lexical dashed true (tag ++ byte ∷ []))
unfolding step
character_steps dashed full byte other h s p lexical tag = rw (ne_eqb byte 45 other, h) refl

character_small : (dashed : Bool) (byte : ℕ) → is_tag_character dashed byte ≡ true → byte < 128
character_small true byte h = grind (arith, nat_tests)
character_small false byte h = grind (arith, nat_tests)

pub character_more : (text : List ℕ) (begin i byte : ℕ) (dashed full : Bool) → IsTagSoFar text begin i dashed full → HasByte text i byte → byte ≢ 45 → is_tag_character dashed byte ≡ true → IsTagSoFar text begin (i + 1) dashed true
character_more text begin i byte dashed full so_far here other h =
    more text begin i byte dashed full so_far here dashed true (character_small dashed byte h) (λ rest. character_follows dashed full byte rest other h) (character_steps dashed full byte other h)

-- where the tag so far doesn't go on
tag_stops : (text : List ℕ) (begin i : ℕ) (dashed full : Bool) (fault : TripleFault) → IsTagSoFar text begin i dashed full
    → ((s p lexical tag : List ℕ) → StopsAt text i (Tag s p lexical dashed full tag) fault) → EndsTag text begin fault
tag_stops text begin i dashed full fault so_far stops s p lexical =
    stops_later text begin (Tag s p lexical false false []) i (Tag s p lexical dashed full (take (i - begin) (drop begin text))) fault (so_far.leads s p lexical) (stops s p lexical (take (i - begin) (drop begin text)))

dash_refused : (dashed : Bool) (s p lexical tag : List ℕ) → step (Tag s p lexical dashed false tag) 45 ≡ None
unfolding step
dash_refused dashed s p lexical tag = refl

-- a `-` with nothing before it
pub dash_stops : (text : List ℕ) (begin i : ℕ) (dashed : Bool) → IsTagSoFar text begin i dashed false → HasByte text i 45 → EndsTag text begin (NotTriple i)
dash_stops text begin i dashed so_far here = tag_stops text begin i dashed false (NotTriple i) so_far (λ s p lexical tag. stops_here text i 45 (Tag s p lexical dashed false tag) here (dash_refused dashed s p lexical tag))

-- another byte: the tag ends here, if it may
other_steps : (dashed full : Bool) (byte : ℕ) → byte ≢ 45 → is_tag_character dashed byte ≡ false → (s p lexical tag : List ℕ)
    → step (Tag s p lexical dashed full tag) byte ≡ cond full (step (Closed s p (terms.Literal (Tagged lexical (str_to_ascii_lowercase tag)))) byte) None
unfolding step
other_steps dashed full byte other h s p lexical tag = rw (ne_eqb byte 45 other, h) refl

-- reading goes on from the end of a tag as behind an object
record MayEnd (text : List ℕ) (i : ℕ) (dashed : Bool) : Type 0 where
  same : (s p lexical tag : List ℕ) → run (drop i text) (Tag s p lexical dashed true tag) ≡ run (drop i text) (Closed s p (terms.Literal (Tagged lexical (str_to_ascii_lowercase tag))))

may_end_at : (text : List ℕ) (i byte : ℕ) (dashed : Bool) → HasByte text i byte → byte ≢ 45 → is_tag_character dashed byte ≡ false → MayEnd text i dashed
unfolding run
may_end_at text i byte dashed here other h = record {
  same = λ s p lexical tag. ap (λ l. run l (Tag s p lexical dashed true tag)) here.here
      ∙ ap (resume (run (drop (i + 1) text)) (suc (length (drop (i + 1) text)))) (other_steps dashed true byte other h s p lexical tag)
      ∙ sym (ap (λ l. run l (Closed s p (terms.Literal (Tagged lexical (str_to_ascii_lowercase tag))))) here.here);
}

may_end_all : (text : List ℕ) (i : ℕ) (dashed : Bool) → length text ≤ i → MayEnd text i dashed
unfolding run verdict
may_end_all text i dashed past = record { same = λ s p lexical tag. rw (drop_all i text past) refl }

-- the end of a tag
tag_ends : (text : List ℕ) (begin i : ℕ) (dashed : Bool) → IsTagSoFar text begin i dashed true → MayEnd text i dashed → IsTagEnd text begin i
tag_ends text begin i dashed so_far may = record {
  forward = so_far.some refl;
  within = so_far.within;
  ascii = so_far.ascii refl;
  tag = ap is_language_tag (sym (append-nil (take (i - begin) (drop begin text)))) ∙ so_far.tag [] ∙ complete dashed;
  leads = λ s p lexical. so_far.leads s p lexical ∙ may.same s p lexical (take (i - begin) (drop begin text));
}
  where
    complete : (d : Bool) → is_tag_from d true [] ≡ true
    complete true = refl
    complete false = refl

-- the end of a tag, or its refusal there
ends_by : (text : List ℕ) (begin i : ℕ) (dashed full : Bool) (result : Result ℕ TripleFault) → IsTagSoFar text begin i dashed full → (full ≡ true → MayEnd text i dashed)
    → (full ≡ false → (s p lexical tag : List ℕ) → StopsAt text i (Tag s p lexical dashed false tag) (NotTriple i))
    → MatchResult result (λ end. (full ≡ true) × (end ≡ i)) (λ fault. (full ≡ false) × (fault ≡ NotTriple i)) → MatchResult result (IsTagEnd text begin) (EndsTag text begin)
ends_by text begin i dashed full (Ok end) so_far may stops h =
    let full_so_far = subst (λ (f : Bool). IsTagSoFar text begin i dashed f) h.0 so_far in
    subst (λ (n : ℕ). IsTagEnd text begin n) (sym h.1) (tag_ends text begin i dashed full_so_far (may h.0))
ends_by text begin i dashed full (Err fault) so_far may stops h =
    let empty_so_far = subst (λ (f : Bool). IsTagSoFar text begin i dashed f) h.0 so_far in
    subst (λ (f : TripleFault). EndsTag text begin f) (sym h.1) (tag_stops text begin i dashed false (NotTriple i) empty_so_far (stops h.0))

pub ends_at : (text : List ℕ) (begin i byte : ℕ) (dashed full : Bool) (result : Result ℕ TripleFault) → IsTagSoFar text begin i dashed full → HasByte text i byte → byte ≢ 45 → is_tag_character dashed byte ≡ false
    → MatchResult result (λ end. (full ≡ true) × (end ≡ i)) (λ fault. (full ≡ false) × (fault ≡ NotTriple i)) → MatchResult result (IsTagEnd text begin) (EndsTag text begin)
ends_at text begin i byte dashed full result so_far here other h =
    ends_by text begin i dashed full result so_far (λ e. may_end_at text i byte dashed here other h)
    (λ e s p lexical tag. stops_here text i byte (Tag s p lexical dashed false tag) here (other_steps dashed false byte other h s p lexical tag))

pub ends_all : (text : List ℕ) (begin i : ℕ) (dashed full : Bool) (result : Result ℕ TripleFault) → IsTagSoFar text begin i dashed full → length text ≤ i
    → MatchResult result (λ end. (full ≡ true) × (end ≡ i)) (λ fault. (full ≡ false) × (fault ≡ NotTriple i)) → MatchResult result (IsTagEnd text begin) (EndsTag text begin)
unfolding verdict
ends_all text begin i dashed full result so_far past =
    ends_by text begin i dashed full result so_far (λ e. may_end_all text i dashed past)
    (λ e s p lexical tag. stops_at_end text i (Tag s p lexical dashed false tag) so_far.within past refl)
