-- What is written of rows and of subjects is the text of their answer.
use Rattle.std.proofs.Common.{◌≡◌, ◌∙◌, ℕ, suc, ◌+◌, ◌<◌, List, [], ◌∷◌, ◌++◌, Option, length, map, take, drop, get_or, refl, sym, ap, subst, arith}
use Rattle.std.proofs.lemmas.List.{append_assoc}
use Rattle.std.proofs.Math.Seq.{take-suc}
use Rattle.json.specs.Print.{print}
use Rattle.json.specs.Token.{Token}
use Rattle.json.specs.Written.{Written}
use Rattle.serde_json.specs.Data.{Data, array, object, member, Members}
use Rattle.serde_json.specs.View.{items_of}
use Rattle.serde_json.specs.Written.{compact_text}
use Rattle.serde_json.proofs.Texts.{print-outline}
use Rattle.rdf_terms.specs.declared.terms.Term.{Term}
use Rattle.jrql_ast.specs.declared.answers.Answer.{Answer}
use Rattle.jrql_ast.specs.declared.answers.Answer.TheVariants.{Rows, Subjects}
use Rattle.jrql_ast.specs.declared.answers.Described.{Described}
use Rattle.jrql_ast.specs.declared.queries.Query.{Query}
use Rattle.jrql_ast.specs.declared.queries.Select.{Select}
use Rattle.jrql_ast.specs.declared.queries.What.{What}
use Rattle.jrql_ast.specs.declared.queries.What.TheVariants as kinds
use Rattle.jsonld_context.specs.Context.{ContextValue}
use Rattle.jrql_patterns.specs.jsonld_subjects.SubjectWriting.{SaysSubject}
use Rattle.jrql_patterns.specs.jsonld_values.WrittenTokens.{tokens_of_data, tokens_of_members}
use Rattle.jrql_patterns.proofs.of_jsonld_values.WrittenItems.{HasBegun, one_more}
use Rattle.jrql_reply.specs.AnswerText.{row_data, SaysEach, SaysRows, SaysAnswer, SpellsAnswer}
use Rattle.jrql_reply.specs.AnswerTokens.{WritesAnswer}
use Rattle.jrql_reply.specs.Columns.{ColumnValue, members_by}

-- ---- rows

-- an object is begun, and these columns are left to be written
pub row_begun : (old now : List Token) (members : Members) → now ≡ old ++ Token.begin_object ∷ [] → now ++ tokens_of_members members ≡ old ++ tokens_of_data (object members)
row_begun old now members is = ap (λ (l : List Token). l ++ tokens_of_members members) is ∙ append_assoc old (Token.begin_object ∷ []) (tokens_of_members members)

-- one more column is written
pub column_more : (context : ContextValue) (row : List (Option Term)) (columns : List ColumnValue) (index : ℕ) (column : ColumnValue) (last after : Option (List ℕ)) (old new whole : List Token)
    → drop index columns ≡ column ∷ drop (index + 1) columns
    → ((behind : List ColumnValue) → new ++ tokens_of_members (members_by context row after behind) ≡ old ++ tokens_of_members (members_by context row last (column ∷ behind)))
    → old ++ tokens_of_members (members_by context row last (drop index columns)) ≡ whole
    → new ++ tokens_of_members (members_by context row after (drop (index + 1) columns)) ≡ whole
column_more context row columns index column last after old new whole begins written so_far =
    written (drop (index + 1) columns) ∙ ap (λ (l : List ColumnValue). old ++ tokens_of_members (members_by context row last l)) (sym begins) ∙ so_far

-- all are
pub row_ended : (context : ContextValue) (row : List (Option Term)) (columns : List ColumnValue) (index : ℕ) (last : Option (List ℕ)) (old new whole : List Token)
    → drop index columns ≡ [] → new ≡ old ++ Token.end_object ∷ [] → old ++ tokens_of_members (members_by context row last (drop index columns)) ≡ whole → new ≡ whole
row_ended context row columns index last old new whole none is so_far =
    is ∙ ap (λ (l : List ColumnValue). old ++ tokens_of_members (members_by context row last l)) (sym none) ∙ so_far

-- a key and its value are a member in front of others
pub key_and_value : (old mid new : List Token) (key : List ℕ) (value : Data) → mid ≡ old ++ Token.key key ∷ [] → new ≡ mid ++ tokens_of_data value
    → (behind : Members) → new ++ tokens_of_members behind ≡ old ++ tokens_of_members (member key value behind)
key_and_value old mid new key value first second behind =
    ap (λ (l : List Token). l ++ tokens_of_members behind) second
    ∙ append_assoc mid (tokens_of_data value) (tokens_of_members behind)
    ∙ ap (λ (l : List Token). l ++ (tokens_of_data value ++ tokens_of_members behind)) first
    ∙ append_assoc old (Token.key key ∷ []) (tokens_of_data value ++ tokens_of_members behind)

-- ---- subjects

pub each_more : (context : ContextValue) (subjects : List Described) (subject : Described) (objects : List Data) (said : Data)
    → SaysEach context subjects objects → SaysSubject context subject said → SaysEach context (subjects ++ subject ∷ []) (objects ++ said ∷ [])
each_more context [] subject [] said each is = (is, tt)
each_more context [] subject (one ∷ objects) said each is = absurd each
each_more context (first ∷ subjects) subject [] said each is = absurd each
each_more context (first ∷ subjects) subject (one ∷ objects) said each is = (each.0, each_more context subjects subject objects said each.1 is)

-- one more subject is said, and so many are
pub subject_more : (context : ContextValue) (subjects : List Described) (index : ℕ) (subject : Described) (old now after : List Token) (said : Data)
    → index < length subjects → get_or subjects index subject ≡ subject
    → (objects : List Data) × SaysEach context (take index subjects) objects × HasBegun old now objects
    → SaysSubject context subject said → after ≡ now ++ tokens_of_data said
    → (objects : List Data) × SaysEach context (take (index + 1) subjects) objects × HasBegun old after objects
subject_more context subjects index subject old now after said within is has says more =
    let objects = has.0 in
    let next_index : index + 1 ≡ suc index = omega arith in
    let next : take (index + 1) subjects ≡ take index subjects ++ subject ∷ [] =
    ap (λ (n : ℕ). take n subjects) next_index ∙ take-suc subjects index subject within ∙ ap (λ (s : Described). take index subjects ++ s ∷ []) is in (
      objects ++ said ∷ [],
      subst (λ (l : List Described). SaysEach context l (objects ++ said ∷ [])) (sym next) (each_more context (take index subjects) subject objects said has.1 says),
      one_more old now after objects said has.2 more,
    )

-- ---- answers

-- what was written of rows is their answer
pub rows_written : (context : ContextValue) (query : Query) (answer : Answer) (rows shown : List (List (Option Term))) (select : Select) (names : List (List ℕ)) (variables : List ℕ) (old new : Written)
    → answer ≡ Rows rows → query.what ≡ kinds.Select select → shown ≡ rows → names ≡ query.group.names → variables ≡ select.vars
    → new.tokens ≡ old.tokens ++ tokens_of_data (array (items_of (map (row_data context names variables) shown))) → WritesAnswer context query answer old new
rows_written context query answer rows shown select names variables old new is asks are named listed written =
    let said : Data = array (items_of (map (row_data context names variables) shown)) in
    let same : said ≡ array (items_of (map (row_data context query.group.names select.vars) rows)) =
    λ i. array (items_of (map (row_data context (named i) (listed i)) (are i))) in
    let spelled : SaysRows context query.group.names query.what rows said =
    subst (λ (what : What). SaysRows context query.group.names what rows said) (sym asks) same in
    (said, subst (λ (a : Answer). SaysAnswer context query a said) (sym is) spelled, written)

-- so it is of subjects
pub subjects_written : (context : ContextValue) (query : Query) (answer : Answer) (subjects shown : List Described) (old new : Written)
    → answer ≡ Subjects subjects → shown ≡ subjects
    → (objects : List Data) × SaysEach context shown objects × (new.tokens ≡ old.tokens ++ tokens_of_data (array (items_of objects)))
    → WritesAnswer context query answer old new
subjects_written context query answer subjects shown old new is are has =
    let said : Data = array (items_of has.0) in
    let each : SaysEach context subjects has.0 = subst (λ (l : List Described). SaysEach context l has.0) are has.1 in
    (said, subst (λ (a : Answer). SaysAnswer context query a said) (sym is) (has.0, each, refl), has.2)

-- the text of what was written is that of the answer
pub answer_spelled : (context : ContextValue) (query : Query) (answer : Answer) (begun done : Written) (stood items : List ℕ)
    → begun.before ≡ stood → begun.tokens ≡ [] → done.before ≡ begun.before → items ≡ done.before ++ print done.tokens → WritesAnswer context query answer begun done
    → (text : List ℕ) × SpellsAnswer context query answer text × (items ≡ stood ++ text)
answer_spelled context query answer begun done stood items before none kept printed wrote =
    let said = wrote.0 in
    let tokens : done.tokens ≡ tokens_of_data said = wrote.2 ∙ ap (λ (l : List Token). l ++ tokens_of_data said) none in
    let text : print done.tokens ≡ compact_text said = ap print tokens ∙ print-outline said in
    (compact_text said, (said, wrote.1, refl), printed ∙ (λ i. (kept ∙ before) i ++ text i))
