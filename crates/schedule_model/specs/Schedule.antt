-- The grammar of a schedule's lines, as bytes without their LF. `World::found` cites it, and what a line is read as is made of it.
use Rattle.std.specs.Prelude.{◌≡◌, ℕ, ◌^◌, ◌<◌, ◌≤◌, List, [], ◌∷◌, ◌++◌, length, IsTrue, codes, Ok}
use Rattle.std.specs.Str.{IsUtf8}
use Rattle.std.specs.Fmt.{decimal}
use Rattle.mld_io.specs.declared.banks.Leave.{Leave}
use Rattle.mld_io.specs.declared.banks.Leave.TheVariants.{Lose, Keep, Torn}
use Rattle.text_rules.specs.Domain.{is_domain}
use Rattle.rdf_terms.specs.Grammar.{SpellsTriple, IsTripleWithin, IsIriText}
use Rattle.jrql_ast.specs.declared.plans.UpdatePlan.{UpdatePlan}
use Rattle.jrql_update.specs.UpdateReading.{update_read}
use Rattle.jrql_update.specs.jrql_patterns.QueryReading.{query_read}
use Rattle.jrql_update.specs.jrql_patterns.declared.queries.ReadQuery.{ReadQuery}
use Rattle.schedule_model.specs.Characters.{space, hash_mark}
use Rattle.mld_ops.specs.Properties.{AreKept}
use Rattle.mld_model.specs.World.{clone_count}
use Rattle.schedule_model.specs.declared.Command.{Command}
use Rattle.schedule_model.specs.declared.Command.TheVariants.{Add, Remove, Update, Deliver, Show, Query, Compare, Join, Ask, Compact, Truncate, Stop, Open, Crash}
use Rattle.schedule_model.specs.declared.CrashTask.{CrashTask}
use Rattle.schedule_model.specs.Tasks.{command_of}

-- an empty line, or a comment: `#` first, and UTF-8 throughout
pub data IsNothing : List ℕ → Type 0 where
  empty : IsNothing []
  comment : (rest : List ℕ) → IsUtf8 (hash_mark ∷ rest) → IsNothing (hash_mark ∷ rest)

-- what a domain is set up with: its name, its single-valued properties as they were given, and how many clones it begins with
pub record Setup : Type 0 where
  pub domain : List ℕ
  pub properties : List (List ℕ)
  pub count : ℕ

-- each of the given single-valued properties is kept once: those that are kept are the same, in the order of terms
abbrev pub KeepsEachOnce : List (List ℕ) → List (List ℕ) → Type 0
KeepsEachOnce given kept = AreKept given kept

-- how many lines may set a single-valued property, repeats included
abbrev pub single_limit : ℕ
single_limit = 16

-- a setup by which clones may be founded: its domain's name is one, it has as many clones as there may be, and no more lines set a property
-- than may
pub record IsSetup (setup : Setup) : Type 0 where
  pub name : IsTrue (is_domain setup.domain)
  pub some : 1 ≤ setup.count
  pub most : setup.count ≤ clone_count
  pub few : length setup.properties ≤ single_limit

-- `domain D clones N`, which sets no property
pub record SpellsSetup (line : List ℕ) (setup : Setup) : Type 0 where
  pub whole : line ≡ codes "domain " ++ (setup.domain ++ (codes " clones " ++ decimal setup.count))
  pub name : IsTrue (is_domain setup.domain)
  pub some : 1 ≤ setup.count
  pub most : setup.count ≤ clone_count
  pub none : setup.properties ≡ []

-- `single <IRI>`: the line sets a single-valued property, an IRI as it stands in a triple
pub record SpellsSingle (line property : List ℕ) : Type 0 where
  pub text : List ℕ
  pub whole : line ≡ codes "single " ++ text
  pub bytes : IsUtf8 text
  pub is : IsIriText text property

-- a setup with one more property
abbrev pub with_property : Setup → List ℕ → Setup
with_property setup property = record setup { properties = setup.properties ++ property ∷ [] }

-- the line sets a property of a domain that is set up, and it isn't one line too many
pub record SetsProperty (setup : Setup) (line property : List ℕ) : Type 0 where
  pub spells : SpellsSingle line property
  pub room : length setup.properties < single_limit

-- the number of a clone, the first of which is 0
abbrev pub IsCloneNumber : ℕ → Type 0
IsCloneNumber number = number < clone_count

-- the line spells the command, whatever the domain is; a triple is the rest of its line. No query, no plan and no
-- crash line is spelled so
abbrev pub SpellsAnywhere : List ℕ → Command → Type 0
SpellsAnywhere line (Add number triple) =
    (text : List ℕ) × (line ≡ codes "add " ++ (decimal number ++ space ∷ text)) × IsCloneNumber number
    × IsUtf8 text × SpellsTriple text triple × IsTripleWithin triple
SpellsAnywhere line (Remove number triple) =
    (text : List ℕ) × (line ≡ codes "remove " ++ (decimal number ++ space ∷ text)) × IsCloneNumber number
    × IsUtf8 text × SpellsTriple text triple × IsTripleWithin triple
SpellsAnywhere line (Update number plan) = ⊥
SpellsAnywhere line (Deliver message number) =
    (line ≡ codes "deliver " ++ (decimal message ++ space ∷ decimal number)) × (message < 2 ^ 64) × IsCloneNumber number
SpellsAnywhere line (Show number) = (line ≡ codes "show " ++ decimal number) × IsCloneNumber number
SpellsAnywhere line (Query number read) = ⊥
SpellsAnywhere line (Crash call leave task) = ⊥
SpellsAnywhere line (Join number) = (line ≡ codes "join " ++ decimal number) × IsCloneNumber number
SpellsAnywhere line (Ask number) = (line ≡ codes "ask " ++ decimal number) × IsCloneNumber number
SpellsAnywhere line (Compact number) = (line ≡ codes "compact " ++ decimal number) × IsCloneNumber number
SpellsAnywhere line (Truncate number keep) =
    (line ≡ codes "truncate " ++ (decimal number ++ space ∷ decimal keep)) × IsCloneNumber number × (keep < 2 ^ 64)
SpellsAnywhere line (Stop number) = (line ≡ codes "stop " ++ decimal number) × IsCloneNumber number
SpellsAnywhere line (Open number) = (line ≡ codes "open " ++ decimal number) × IsCloneNumber number
SpellsAnywhere line (Compare number other) =
    (line ≡ codes "compare " ++ (decimal number ++ space ∷ decimal other)) × IsCloneNumber number × IsCloneNumber other

-- the rest of the line is a JSON text that says the query in this domain, without a fault
abbrev pub SpellsQuery : List ℕ → List ℕ → ℕ → ReadQuery → Type 0
SpellsQuery domain line number read =
    (text : List ℕ) × (line ≡ codes "query " ++ (decimal number ++ space ∷ text)) × IsCloneNumber number × (query_read domain text ≡ Ok read)

-- the rest of the line is a JSON text that says the plan of an update in this domain, without a fault
abbrev pub SpellsUpdate : List ℕ → List ℕ → ℕ → UpdatePlan → Type 0
SpellsUpdate domain line number plan =
    (text : List ℕ) × (line ≡ codes "update " ++ (decimal number ++ space ∷ text)) × IsCloneNumber number × (update_read domain text ≡ Ok plan)

-- the line spells a plain command in the domain of this name; any but a query and an update is spelled alike in all domains
abbrev pub SpellsPlain : List ℕ → List ℕ → Command → Type 0
SpellsPlain domain line (Query number read) = SpellsQuery domain line number read
SpellsPlain domain line (Update number plan) = SpellsUpdate domain line number plan
SpellsPlain domain line command = SpellsAnywhere line command

-- the word of what a crash leaves of writes that aren't synced
abbrev pub leave_word : Leave → List ℕ
leave_word Lose = codes "lose"
leave_word Keep = codes "keep"
leave_word Torn = codes "torn"

-- `crash K LEAVE COMMAND`: the rest of the line spells the command
pub record SpellsCrash (domain line : List ℕ) (call : ℕ) (leave : Leave) (task : CrashTask) : Type 0 where
  pub text : List ℕ
  pub whole : line ≡ codes "crash " ++ (decimal call ++ space ∷ (leave_word leave ++ space ∷ text))
  pub small : call < 2 ^ 32
  pub spells : SpellsPlain domain text (command_of task)

-- the line spells the command in the domain of this name
abbrev pub SpellsCommand : List ℕ → List ℕ → Command → Type 0
SpellsCommand domain line (Crash call leave task) = SpellsCrash domain line call leave task
SpellsCommand domain line command = SpellsPlain domain line command

-- the line is a crash line, whatever its rest is
abbrev pub IsCrashLine : List ℕ → Type 0
IsCrashLine line = (rest : List ℕ) × (line ≡ codes "crash " ++ rest)
