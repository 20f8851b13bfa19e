-- What is meant by an update, in words of its text: this holds of each text that is read as one, beside the order in which it is read
-- (SPARQL 1.1 Update section 3.1.3, DELETE/INSERT). An object has members (RFC 8259 section 4, Objects).
use Rattle.std.specs.Prelude.{◌≡◌, ◌⊎◌, ℕ, ◌+◌, ◌<◌, List, Ok, IsTrue, codes, if◌then◌else◌}
use Rattle.jrql_ast.specs.FreshNames.{fresh_name}
use Rattle.jrql_ast.specs.QueryAnswers.{solution_limit}
use Rattle.jrql_ast.specs.declared.plans.UpdatePlan.{UpdatePlan}
use Rattle.rdf_terms.specs.Literal.{is_same}
use Rattle.tree_clock.specs.declared.dots.Dot.{Dot}
use Rattle.serde_json.specs.Data.{object, Members, no_members, member}
use Rattle.jrql_patterns.specs.jsonld_subjects.OwnSubjects.{missing_ids}
use Rattle.jrql_patterns.specs.QueryReading.{json_of}
use Rattle.jrql_patterns.specs.QueryMeaning.{HasKey}
use Rattle.jrql_update.specs.UpdateReading.{is_subject_alone, members_beside}

-- something is deleted or inserted: by `@delete` or `@insert`, or the object is itself a subject to insert
abbrev pub HasClause : Members → Type 0
HasClause members = IsTrue (is_subject_alone members) ⊎ (HasKey (codes "@delete") members ⊎ HasKey (codes "@insert") members)

-- how many of the subjects under a key lack an id (JSON-LD 1.1 section 3.3, Node Identifiers)
abbrev pub missing_at : List ℕ → Members → ℕ
missing_at key no_members = 0
missing_at key (member other value rest) = (if is_same other key then missing_ids value else 0) + missing_at key rest

-- beside `@where` each subject of `@delete` has an id, so that no variable without a name stands in what is deleted
abbrev pub DeletesByIds : Members → Type 0
DeletesByIds members = HasKey (codes "@where") members → missing_at (codes "@delete") members ≡ 0

-- how many of the subjects that are inserted lack an id: the object's own, its context aside, or those under `@insert`
abbrev pub missing_inserted : Members → ℕ
missing_inserted members =
    if is_subject_alone members then missing_ids (object (members_beside (codes "@context") members)) else missing_at (codes "@insert") members

-- ---- names of fresh subjects (RDF 1.1 Concepts section 3.5, Replacing Blank Nodes with IRIs)

-- where an update has so many fresh subjects, two that have one name are one subject, of one solution
abbrev pub HaveOwnNames : List ℕ → Dot → ℕ → Type 0
HaveOwnNames domain dot count =
    (solution other subject another : ℕ) → solution < solution_limit → other < solution_limit → subject < count → another < count
    → fresh_name domain dot count solution subject ≡ fresh_name domain dot count other another → (solution ≡ other) × (subject ≡ another)

-- ---- a text

-- a text is an object of which all this holds, and each subject without an id that is inserted is a fresh one of its own
pub record MeansUpdate (bytes : List ℕ) (plan : UpdatePlan) : Type 0 where
  pub members : Members
  pub text : json_of bytes ≡ Ok (object members)
  pub clause : HasClause members
  pub deletes : DeletesByIds members
  pub fresh : plan.fresh ≡ missing_inserted members
