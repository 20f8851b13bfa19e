-- Updates (SPARQL 1.1 Update section 3.1.3, DELETE/INSERT, of which this is a profile written as JSON; JSON-LD 1.1 section 3.1, The
-- Context). Of an object `@context` is read first, then the other members in the byte order of their keys, so `@delete`, `@insert` and
-- `@where`; what is missing, and what breaks a rule of two keys, is found behind all of them.
use Rattle.std.specs.Prelude.{ℕ, List, [], ◌++◌, Bool, false, ◌&&◌, not, nat_lt, Option, Result, Ok, Err, codes, if◌then◌else◌}
use Rattle.std.specs.Option.{option_or}
use Rattle.jrql_ast.specs.declared.patterns.PatternTriple.{PatternTriple}
use Rattle.jrql_ast.specs.declared.plans.UpdatePlan.{UpdatePlan}
use Rattle.rdf_terms.specs.Literal.{is_same}
use Rattle.serde_json.specs.Data.{Data, object, Members, no_members, member}
use Rattle.jsonld_context.specs.Context.{ContextValue}
use Rattle.jsonld_context.specs.ContextReading.{unless_fault}
use Rattle.jsonld_context.specs.declared.faults.JsonFault.{JsonFault}
use Rattle.jsonld_context.specs.declared.faults.JsonFault.TheVariants as faults
use Rattle.jrql_patterns.specs.jsonld_values.Literals.{followed_by, made_of}
use Rattle.jrql_patterns.specs.jsonld_values.Numbering.{plan_read}
use Rattle.jrql_patterns.specs.jsonld_values.ValueObjects.{has_member}
use Rattle.jrql_patterns.specs.jsonld_values.VariableNames.{no_names, variables_met}
use Rattle.jrql_patterns.specs.jsonld_subjects.SubjectReading.{Found, subjects_read}
use Rattle.jrql_patterns.specs.jsonld_subjects.declared.places.Place.TheVariants.{Pattern, Insert}
use Rattle.jrql_patterns.specs.OpenGroups.{OpenGroup, empty_group, with_group_names, group_of, not_under}
use Rattle.jrql_patterns.specs.QueryReading.{context_said, fault_where, json_of}
use Rattle.jrql_patterns.specs.WhereReading.{read_where}

-- what was read of an update so far: the group of `@where`, with the names of the text; the triples of `@delete` and of `@insert`; and
-- whether `@delete` has a variable, and whether it has one without a name, which is a subject without an id
pub record OpenUpdate : Type 0 where
  pub group : OpenGroup
  pub deletes : List PatternTriple
  pub inserts : List PatternTriple
  pub has_variables : Bool
  pub has_hidden : Bool

-- of which nothing was read
abbrev pub empty_update : OpenUpdate
empty_update = record { group = empty_group no_names; deletes = []; inserts = []; has_variables = false; has_hidden = false }

-- ---- members

-- what `@delete` says. It is read before all that may have variables, so those that are met behind it are its own
abbrev pub with_deletes : OpenUpdate → Found → OpenUpdate
with_deletes so_far found =
    record so_far {
      group = with_group_names so_far.group found.names;
      deletes = found.triples;
      has_variables = nat_lt 0 (variables_met found.names);
      has_hidden = nat_lt 0 found.names.hidden;
    }

-- what `@insert` says
abbrev pub with_inserts : OpenUpdate → Found → OpenUpdate
with_inserts so_far found = record so_far { group = with_group_names so_far.group found.names; inserts = found.triples }

-- what `@where` says
abbrev pub with_where : OpenUpdate → OpenGroup → OpenUpdate
with_where so_far group = record so_far { group = group }

-- `@delete` and `@insert` are a subject or an array of subjects, whose triples are deleted and inserted for each solution
abbrev pub read_deleted : ContextValue → Data → OpenUpdate → Result OpenUpdate JsonFault
read_deleted context value so_far = made_of (subjects_read context Pattern so_far.group.names value) (with_deletes so_far)

abbrev pub read_inserted : ContextValue → Data → OpenUpdate → Result OpenUpdate JsonFault
read_inserted context value so_far = made_of (subjects_read context Insert so_far.group.names value) (with_inserts so_far)

-- `@where` is a group, as that of a query
abbrev pub read_matched : ContextValue → Data → OpenUpdate → Result OpenUpdate JsonFault
read_matched context value so_far = made_of (read_where context value so_far.group) (with_where so_far)

-- the member of a key; the context is read before all of them
abbrev pub read_clause : ContextValue → List ℕ → Data → OpenUpdate → Result OpenUpdate JsonFault
read_clause context key value so_far =
    if is_same key (codes "@context") then Ok so_far
    else (if is_same key (codes "@delete") then read_deleted context value so_far
    else (if is_same key (codes "@insert") then read_inserted context value so_far
    else (if is_same key (codes "@where") then read_matched context value so_far
    else Err (faults.BadQuery key))))

abbrev pub read_clauses : ContextValue → Members → OpenUpdate → Result OpenUpdate JsonFault
read_clauses context no_members so_far = Ok so_far
read_clauses context (member key value rest) so_far = followed_by (read_clause context key value so_far) (read_clauses context rest)

-- ---- breaches of rules of two keys

-- beside `@where` no subject of `@delete` is without an id
abbrev pub breaks_delete : Members → OpenUpdate → Bool
breaks_delete members read = has_member (codes "@where") members && read.has_hidden

-- something is deleted or inserted
abbrev pub breaks_insert : Members → Bool
breaks_insert members = not (has_member (codes "@delete") members) && not (has_member (codes "@insert") members)

-- the first such breach, in the byte order of keys
abbrev pub update_breach : Members → OpenUpdate → Option JsonFault
update_breach members read =
    option_or (fault_where (breaks_delete members read) (codes "@delete")) (fault_where (breaks_insert members) (codes "@insert"))

-- ---- the plan

-- the group whose solutions are gone through: that of `@where`. Where there is none, the triples of `@delete` are its patterns if that has
-- a variable; else it has no pattern, and so one solution, which is empty
abbrev pub group_said : Bool → OpenUpdate → OpenGroup
group_said has_where read =
    if not has_where && read.has_variables then record read.group { patterns = read.group.patterns ++ read.deletes } else read.group

-- what is deleted and inserted for each of them
abbrev pub plan_said : Bool → OpenUpdate → UpdatePlan
plan_said has_where read = plan_read read.group.names (group_of (group_said has_where read)) read.deletes read.inserts

-- ---- an object

-- one that is a subject to insert has none of these keys
abbrev pub is_subject_alone : Members → Bool
is_subject_alone members =
    not (has_member (codes "@delete") members) && not (has_member (codes "@insert") members) && not (has_member (codes "@where") members)
    && not (has_member (codes "@select") members) && not (has_member (codes "@describe") members)

-- the plan of a subject to insert
abbrev pub plan_of_subject : ContextValue → Data → Result UpdatePlan JsonFault
plan_of_subject context value = made_of (read_inserted context value empty_update) (plan_said false)

-- the members but that of a key
abbrev pub members_beside : List ℕ → Members → Members
members_beside key no_members = no_members
members_beside key (member other value rest) = if is_same key other then rest else member other value (members_beside key rest)

-- what the members of an object say under a context: one subject to insert, which its own `@context` is no part of; or else one
-- member after another, and then what needs two of them
abbrev pub update_under : ContextValue → Members → Result UpdatePlan JsonFault
update_under context members =
    if is_subject_alone members then plan_of_subject context (object (members_beside (codes "@context") members))
    else followed_by (read_clauses context members empty_update)
    (λ read. unless_fault (update_breach members read) (plan_said (has_member (codes "@where") members) read))

-- ---- a text

-- an update is an object
abbrev pub update_said : List ℕ → Data → Result UpdatePlan JsonFault
update_said domain (object members) = followed_by (context_said domain members) (λ context. update_under context members)
update_said domain other = Err (not_under [] other)

-- what a text says as an update in a domain; or its first fault
unfoldable pub update_read : List ℕ → List ℕ → Result UpdatePlan JsonFault
update_read domain bytes = followed_by (json_of bytes) (update_said domain)
