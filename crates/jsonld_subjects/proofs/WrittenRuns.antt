-- Members that are written in order, that of an id among them.
use Rattle.std.proofs.Common.{◌≡◌, ◌∙◌, ℕ, ◌<◌, Bool, true, false, List, [], ◌∷◌, ◌++◌, map, length, take, drop, get_or, codes, refl, sym, ap, subst, arith}
use Rattle.std.proofs.lemmas.List.{append_assoc}
use Rattle.std.proofs.lemmas.Map.Lookups.{exact_bytes}
use Rattle.std.specs.Cmp.Lexicographic.{slice_cmp}
use Rattle.std.specs.List.Sorted.{IsPermutation, IsSorted}
use Rattle.std.specs.Ordering.{nat_cmp}
use Rattle.std.specs.declared.cmp.Ordering.TheVariants.{Less, Equal, Greater}
use Rattle.json.specs.Token.{Token}
use Rattle.serde_json.specs.Data.{Data, string, object, Members, no_members, member, put}
use Rattle.rdf_terms.specs.declared.terms.Triple.{Triple}
use Rattle.jrql_ast.specs.declared.answers.Described.{Described}
use Rattle.jsonld_context.specs.Context.{ContextValue}
use Rattle.jsonld_context.specs.ShortForms.{compact_id}
use Rattle.jsonld_values.specs.WrittenTokens.{tokens_of_data, tokens_of_members}
use Rattle.jsonld_subjects.specs.KeyRuns.{EndsFirstRun, data_of_keyed, data_of_run}
use Rattle.jsonld_subjects.specs.SubjectTokens.{with_id}
use Rattle.jsonld_subjects.specs.SubjectWriting.{KeyedTerm, keyed_of, keyed_cmp, members_of_keyed, SaysSubject}
use Rattle.jsonld_subjects.proofs.Runs.{run_in_front}

-- a member that is written stands in front of whatever others come behind it
pub in_front : (old new : List Token) (key : List ℕ) (value : Data) → new ≡ old ++ (Token.key key ∷ tokens_of_data value)
    → (behind : Members) → new ++ tokens_of_members behind ≡ old ++ tokens_of_members (member key value behind)
in_front old new key value is behind =
    ap (λ (l : List Token). l ++ tokens_of_members behind) is ∙ append_assoc old (Token.key key ∷ tokens_of_data value) (tokens_of_members behind)

module _ (context : ContextValue) (id key : List ℕ) (value : Data) where
  abbrev named : Data
  named = string (compact_id context id)

  -- where the key is above that of an id, both are written
  pub above_id : (old mid new : List Token) → slice_cmp nat_cmp (codes "@id") key ≡ Less
      → mid ≡ old ++ (Token.key (codes "@id") ∷ tokens_of_data named) → new ≡ mid ++ (Token.key key ∷ tokens_of_data value)
      → (behind : Members) → new ++ tokens_of_members (with_id context id true behind) ≡ old ++ tokens_of_members (with_id context id false (member key value behind))
  above_id old mid new less first second behind =
      rw less (in_front mid new key value second behind ∙ in_front old mid (codes "@id") named first (member key value behind))

  -- where it is that of an id, the id alone
  pub at_id : (old new : List Token) → slice_cmp nat_cmp (codes "@id") key ≡ Equal → new ≡ old ++ (Token.key (codes "@id") ∷ tokens_of_data named)
      → (behind : Members) → new ++ tokens_of_members (with_id context id true behind) ≡ old ++ tokens_of_members (with_id context id false (member key value behind))
  at_id old new equal is behind =
      rw equal (in_front old new (codes "@id") named is behind ∙ ap (λ (k : List ℕ). old ++ tokens_of_members (member k named behind)) (exact_bytes (codes "@id") key equal))

  -- where it is below that, the id comes behind
  pub below_id : (old new : List Token) → slice_cmp nat_cmp (codes "@id") key ≡ Greater → new ≡ old ++ (Token.key key ∷ tokens_of_data value)
      → (behind : Members) → new ++ tokens_of_members (with_id context id false behind) ≡ old ++ tokens_of_members (with_id context id false (member key value behind))
  below_id old new greater is behind = rw greater (in_front old new key value is (put (codes "@id") named behind))

-- one more run is written: the first one of what is left
pub next_run : (context keys : ContextValue) (id : List ℕ) (named after : Bool) (rest run behind : List KeyedTerm) (first : KeyedTerm) (key : List ℕ) (place : ℕ) (old new whole : List Token)
    → keys ≡ context → 0 < length rest → get_or rest 0 first ≡ first → IsSorted keyed_cmp rest → EndsFirstRun rest first.key place → key ≡ first.key
    → run ≡ take place rest → behind ≡ drop place rest
    → ((others : Members) → new ++ tokens_of_members (with_id keys id after others)
    ≡ old ++ tokens_of_members (with_id keys id named (member key (data_of_run (map (data_of_keyed keys) run)) others)))
    → old ++ tokens_of_members (with_id context id named (members_of_keyed context rest)) ≡ whole
    → new ++ tokens_of_members (with_id context id after (members_of_keyed context behind)) ≡ whole
next_run context keys id named after rest run behind first key place old new whole under some is sorted ends key_is front back written so_far =
    let led = run_in_front context rest first place some is sorted ends in
    let step : new ++ tokens_of_members (with_id context id after (members_of_keyed context behind))
    ≡ old ++ tokens_of_members (with_id context id named (member key (data_of_run (map (data_of_keyed context) run)) (members_of_keyed context behind))) =
    subst (λ (c : ContextValue). new ++ tokens_of_members (with_id c id after (members_of_keyed context behind))
    ≡ old ++ tokens_of_members (with_id c id named (member key (data_of_run (map (data_of_keyed c) run)) (members_of_keyed context behind)))) under (written (members_of_keyed context behind)) in
    step
    ∙ (λ i. old ++ tokens_of_members (with_id context id named (member (key_is i) (data_of_run (map (data_of_keyed context) (front i))) (members_of_keyed context (back i)))))
    ∙ ap (λ (ms : Members). old ++ tokens_of_members (with_id context id named ms)) (sym led)
    ∙ so_far

-- the end of what is written
pub end_written : (context : ContextValue) (id : List ℕ) (named : Bool) (rest : List KeyedTerm) (old new whole : List Token) → length rest ≡ 0
    → new ≡ old ++ tokens_of_members (with_id context id named no_members) → old ++ tokens_of_members (with_id context id named (members_of_keyed context rest)) ≡ whole → new ≡ whole
end_written context id named [] old new whole none is so_far = is ∙ so_far
end_written context id named (keyed ∷ rest) old new whole none is so_far = absurd (omega arith)

-- what was written is an object that says the subject
pub subject_written : (context keys : ContextValue) (described : Described) (triples : List Triple) (values shown : List KeyedTerm) (old begun new : List Token)
    → keys ≡ context → triples ≡ described.triples → shown ≡ values → IsPermutation (map (keyed_of context) triples) values → IsSorted keyed_cmp values
    → begun ≡ old ++ Token.begin_object ∷ [] → new ≡ begun ++ tokens_of_members (with_id keys described.id false (members_of_keyed keys shown))
    → (said : Data) × SaysSubject context described said × (new ≡ old ++ tokens_of_data said)
subject_written context keys described triples values shown old begun new under are same permuted sorted opens wrote =
    let members = with_id context described.id false (members_of_keyed context values) in (
      object members,
      record {
        values = values;
        all = subst (λ (l : List Triple). IsPermutation (map (keyed_of context) l) values) are permuted;
        ordered = sorted;
        says = refl;
      },
      wrote
          ∙ (λ i. begun ++ tokens_of_members (with_id (under i) described.id false (members_of_keyed (under i) (same i))))
          ∙ ap (λ (l : List Token). l ++ tokens_of_members members) opens
          ∙ append_assoc old (Token.begin_object ∷ []) (tokens_of_members members),
    )
