-- What is written for a subject, as tokens. Words of private contracts.
use Rattle.std.specs.Prelude.{◌≡◌, ℕ, List, ◌++◌, Bool, true, false, codes}
use Rattle.json.specs.Written.{Written}
use Rattle.serde_json.specs.Data.{Data, string, Members, member, put}
use Rattle.jrql_ast.specs.declared.answers.Described.{Described}
use Rattle.jsonld_context.specs.Context.{ContextValue}
use Rattle.jsonld_context.specs.ShortForms.{compact_id}
use Rattle.jsonld_values.specs.WrittenTokens.{tokens_of_members, WritesData}
use Rattle.jsonld_subjects.specs.KeyRuns.{data_of_run}
use Rattle.jsonld_subjects.specs.SubjectWriting.{SaysSubject}

-- members with that of an id among them, unless it is written already
abbrev pub with_id : ContextValue → List ℕ → Bool → Members → Members
with_id context id true members = members
with_id context id false members = put (codes "@id") (string (compact_id context id)) members

-- the member of a key is written in front of whatever others come behind it, and that of an id where it stands so
abbrev pub WritesNext : ContextValue → List ℕ → Bool → List ℕ → List Data → Written → Written → Bool → Type 0
WritesNext context id named key run old new after = (behind : Members)
    → new.tokens ++ tokens_of_members (with_id context id after behind) ≡ old.tokens ++ tokens_of_members (with_id context id named (member key (data_of_run run) behind))

-- a subject is written as an object that says it
abbrev pub WritesSubject : ContextValue → Described → Written → Written → Type 0
WritesSubject context described old new = (said : Data) × SaysSubject context described said × WritesData old new said
