-- Each line of a schedule is of one kind, and is read in one way.
use Rattle.std.specs.Prelude.{◌≡◌, ℕ, ◌^◌, ◌<◌, List, [], ◌∷◌, ◌++◌, ◌⊎◌, false, ◌&&◌, IsTrue, Option, Some, None, Result, Ok, codes, nat_eq, nat_le, length}
use Rattle.std.specs.List.{list_all}
use Rattle.std.specs.Fmt.{decimal}
use Rattle.std.proofs.Common.{refl, sym, ◌∙◌, subst, ap, arith, inl, inr, drop}
use Rattle.std.proofs.lemmas.Bool.{and_parts}
use Rattle.std.proofs.lemmas.Fmt.{decimal_injective}
use Rattle.mld_io.specs.declared.banks.Leave.{Leave}
use Rattle.mld_io.specs.declared.banks.Leave.TheVariants.{Lose, Keep, Torn}
use Rattle.text_rules.specs.Domain.{is_domain, is_domain_byte, domain_limit}
use Rattle.rdf_terms.specs.Grammar.{SpellsIri, SpellsTriple}
use Rattle.text_rules.specs.Marks.{dot}
use Rattle.rdf_terms.specs.declared.terms.Term.TheVariants as terms
use Rattle.rdf_terms.specs.declared.terms.Triple.{Triple}
use Rattle.jrql_ast.specs.declared.plans.UpdatePlan.{UpdatePlan}
use Rattle.jrql_ast.specs.InForm.{IsPlanInForm}
use Rattle.jsonld_context.specs.declared.faults.JsonFault.{JsonFault}
use Rattle.jrql_update.specs.UpdateReading.{update_read}
use Rattle.jrql_update.specs.jrql_patterns.QueryReading.{query_read}
use Rattle.jrql_update.specs.jrql_patterns.declared.queries.ReadQuery.{ReadQuery}
use Rattle.schedule_model.specs.Characters.{space, hash_mark}
use Rattle.mld_model.specs.World.{clone_count}
use Rattle.schedule_model.specs.declared.Command.{Command}
use Rattle.schedule_model.specs.declared.Command.TheVariants.{Add, Remove, Update, Deliver, Show, Query, Compare, Join, Ask, Compact, Truncate, Stop, Open, Crash}
use Rattle.schedule_model.specs.declared.CrashTask.{CrashTask}
use Rattle.schedule_model.specs.declared.CrashTask.TheVariants as tasks
use Rattle.schedule_model.specs.Schedule.{IsNothing, empty, comment, Setup, SpellsSetup, SpellsSingle, SpellsPlain, leave_word, SpellsCrash, SpellsCommand, IsCrashLine}
use Rattle.schedule_model.proofs.LackingLaws.{Lacks, Lacks-from_test, one_split, apart, no_space}
use Rattle.rdf_terms.proofs.Complete.{one_spelled}
use Rattle.schedule_model.specs.Tasks.{command_of, number_of_task}
use Rattle.schedule_model.specs.Step.{HasCloneNumbers, IsTaskInForm, IsCrash}
use Rattle.schedule_model.specs.Laws.{OneKind, OneSetup, OneProperty, OneCommand}
use Rattle.schedule_model.proofs.PlansRead.{update_in_form}

-- ---- what a line begins with

-- a line that says nothing is empty, or begins with `#`
nothing_begins : {line : List ℕ} → IsNothing line → (line ≡ []) ⊎ ((rest : List ℕ) × (line ≡ hash_mark ∷ rest))
nothing_begins empty = inl refl
nothing_begins (comment rest text) = inr (rest, refl)

-- so it isn't a line that begins with another byte
nothing_apart : {line rest : List ℕ} {byte : ℕ} → IsNothing line → line ≡ byte ∷ rest → nat_eq hash_mark byte ≡ false → ⊥
nothing_apart h e other = elim (nothing_begins h) [
  | inl none ↦ cc
  | inr some ↦ apart some.1 e other
]

-- the first byte of a command: `a`, `r`, `u`, `d`, `s`, `q`, `j`, `o`, `c` or `t`
begins : Command → ℕ
begins (Add number triple) = 97
begins (Remove number triple) = 114
begins (Update number plan) = 117
begins (Deliver message number) = 100
begins (Show number) = 115
begins (Query number read) = 113
begins (Join number) = 106
begins (Ask number) = 97
begins (Compact number) = 99
begins (Truncate number keep) = 116
begins (Stop number) = 115
begins (Open number) = 111
begins (Compare number other) = 99
begins (Crash call leave task) = 99

-- a command begins with that byte
command_begins : (domain line : List ℕ) (command : Command) → SpellsCommand domain line command → (rest : List ℕ) × (line ≡ begins command ∷ rest)
unfolding begins
command_begins domain line (Add number triple) h = (_, h.1)
command_begins domain line (Remove number triple) h = (_, h.1)
command_begins domain line (Update number plan) h = (_, h.1)
command_begins domain line (Deliver message number) h = (_, h.0)
command_begins domain line (Show number) h = (_, h.0)
command_begins domain line (Query number read) h = (_, h.1)
command_begins domain line (Join number) h = (_, h.0)
command_begins domain line (Ask number) h = (_, h.0)
command_begins domain line (Compact number) h = (_, h.0)
command_begins domain line (Truncate number keep) h = (_, h.0)
command_begins domain line (Stop number) h = (_, h.0)
command_begins domain line (Open number) h = (_, h.0)
command_begins domain line (Compare number other) h = (_, h.0)
command_begins domain line (Crash call leave task) h = (_, h.whole)

-- no command begins with `#`
begins_apart : (command : Command) → nat_eq hash_mark (begins command) ≡ false
unfolding begins
begins_apart (Add number triple) = refl
begins_apart (Remove number triple) = refl
begins_apart (Update number plan) = refl
begins_apart (Deliver message number) = refl
begins_apart (Show number) = refl
begins_apart (Query number read) = refl
begins_apart (Join number) = refl
begins_apart (Ask number) = refl
begins_apart (Compact number) = refl
begins_apart (Truncate number keep) = refl
begins_apart (Stop number) = refl
begins_apart (Open number) = refl
begins_apart (Compare number other) = refl
begins_apart (Crash call leave task) = refl

-- ---- numbers

-- the number of a clone is a small number
small : {number : ℕ} → number < clone_count → number < 2 ^ 64
small h = omega arith

-- the number of the clone in the command of a crash line is one of a clone that there is
task_number : (domain text : List ℕ) (task : CrashTask) → SpellsPlain domain text (command_of task) → number_of_task task < clone_count
task_number domain text (tasks.Add number triple) h = h.2
task_number domain text (tasks.Remove number triple) h = h.2
task_number domain text (tasks.Update number plan) h = h.2
task_number domain text (tasks.Deliver message number) h = h.2
task_number domain text (tasks.Compact number) h = h.1
task_number domain text (tasks.Truncate number keep) h = h.1
task_number domain text (tasks.Open number) h = h.1

-- the numbers of clones in a command that a line spells are those of clones that there are
pub spells_numbers : (domain line : List ℕ) (command : Command) → SpellsCommand domain line command → HasCloneNumbers command
spells_numbers domain line (Add number triple) h = h.2
spells_numbers domain line (Remove number triple) h = h.2
spells_numbers domain line (Update number plan) h = h.2
spells_numbers domain line (Deliver message number) h = h.2
spells_numbers domain line (Show number) h = h.1
spells_numbers domain line (Query number read) h = h.2
spells_numbers domain line (Join number) h = h.1
spells_numbers domain line (Ask number) h = h.1
spells_numbers domain line (Compact number) h = h.1
spells_numbers domain line (Truncate number keep) h = h.1
spells_numbers domain line (Stop number) h = h.1
spells_numbers domain line (Open number) h = h.1
spells_numbers domain line (Compare number other) h = (h.1, h.2)
spells_numbers domain line (Crash call leave task) h = task_number domain h.text task h.spells

-- a number and what stands behind the space after it
one_number : (m n : ℕ) (x y : List ℕ) → m < 2 ^ 64 → n < 2 ^ 64 → decimal m ++ space ∷ x ≡ decimal n ++ space ∷ y → (m ≡ n) × (x ≡ y)
one_number m n x y p q e =
    let parts = one_split space (decimal m) (decimal n) x y (no_space m p) (no_space n q) e in
    (decimal_injective m n p q parts.0, parts.1)

-- ---- domain lines and commands

-- no domain line is a command
setup_command : (domain line : List ℕ) (setup : Setup) (command : Command) → SpellsSetup line setup → ¬ SpellsCommand domain line command
setup_command domain line setup (Add number triple) p q = apart p.whole q.1 refl
setup_command domain line setup (Remove number triple) p q = apart p.whole q.1 refl
setup_command domain line setup (Update number plan) p q = apart p.whole q.1 refl
setup_command domain line setup (Deliver message number) p q = apart (ap (drop 1) p.whole) (ap (drop 1) q.0) refl
setup_command domain line setup (Show number) p q = apart p.whole q.0 refl
setup_command domain line setup (Query number read) p q = apart p.whole q.1 refl
setup_command domain line setup (Join number) p q = apart p.whole q.0 refl
setup_command domain line setup (Ask number) p q = apart p.whole q.0 refl
setup_command domain line setup (Compact number) p q = apart p.whole q.0 refl
setup_command domain line setup (Truncate number keep) p q = apart p.whole q.0 refl
setup_command domain line setup (Stop number) p q = apart p.whole q.0 refl
setup_command domain line setup (Open number) p q = apart p.whole q.0 refl
setup_command domain line setup (Compare number other) p q = apart p.whole q.0 refl
setup_command domain line setup (Crash call leave task) p q = apart p.whole q.whole refl

-- no line that sets a property is one
single_command : (domain line property : List ℕ) (command : Command) → SpellsSingle line property → ¬ SpellsCommand domain line command
single_command domain line property (Add number triple) p q = apart p.whole q.1 refl
single_command domain line property (Remove number triple) p q = apart p.whole q.1 refl
single_command domain line property (Update number plan) p q = apart p.whole q.1 refl
single_command domain line property (Deliver message number) p q = apart p.whole q.0 refl
single_command domain line property (Show number) p q = apart (ap (drop 1) p.whole) (ap (drop 1) q.0) refl
single_command domain line property (Query number read) p q = apart p.whole q.1 refl
single_command domain line property (Join number) p q = apart p.whole q.0 refl
single_command domain line property (Ask number) p q = apart p.whole q.0 refl
single_command domain line property (Compact number) p q = apart p.whole q.0 refl
single_command domain line property (Truncate number keep) p q = apart p.whole q.0 refl
single_command domain line property (Stop number) p q = apart (ap (drop 1) p.whole) (ap (drop 1) q.0) refl
single_command domain line property (Open number) p q = apart p.whole q.0 refl
single_command domain line property (Compare number other) p q = apart p.whole q.0 refl
single_command domain line property (Crash call leave task) p q = apart p.whole q.whole refl

-- each line is of at most one kind
pub one_kind : OneKind
one_kind line = record {
  nothing_setup = λ h setup spells. nothing_apart h spells.whole refl;
  nothing_command = λ h domain command spells. let first = command_begins domain line command spells in nothing_apart h first.1 (begins_apart command);
  nothing_single = λ h property spells. nothing_apart h spells.whole refl;
  setup_single = λ setup spells property sets. apart spells.whole sets.whole refl;
  single_command = λ property sets domain command. single_command domain line property command sets;
  setup_command = λ setup spells domain command. setup_command domain line setup command spells;
}

-- no name of a domain has a space
pub domain_lacks : (domain : List ℕ) → IsTrue (is_domain domain) → Lacks space domain
unfolding is_domain
domain_lacks domain h = Lacks-from_test is_domain_byte space refl domain (and_parts (nat_le 1 (length domain) && nat_le (length domain) domain_limit) (list_all is_domain_byte domain) h).1

-- a domain line spells one setup
pub one_setup : OneSetup
one_setup line setup other p q =
    let tails : setup.domain ++ space ∷ (codes "clones " ++ decimal setup.count) ≡ other.domain ++ space ∷ (codes "clones " ++ decimal other.count) = ap (drop 7) (sym p.whole ∙ q.whole) in
    let parts = one_split space setup.domain other.domain _ _ (domain_lacks setup.domain p.name) (domain_lacks other.domain q.name) tails in
    let counts = decimal_injective setup.count other.count (omega (arith, p.most)) (omega (arith, q.most)) (ap (drop 7) parts.1) in
    let none : setup.properties ≡ other.properties = p.none ∙ sym q.none in
    λ i. record { domain = parts.0 i; properties = none i; count = counts i }

-- a triple of one IRI, whose text it spells three times
abbrev triple_of_one : List ℕ → Triple
triple_of_one iri = record { s = iri; p = iri; o = terms.Iri iri }

spelled_thrice : (text iri : List ℕ) → SpellsIri text iri → SpellsTriple (text ++ (text ++ (text ++ dot ∷ []))) (triple_of_one iri)
unfolding SpellsTriple
spelled_thrice text iri spelled = (
  record { before = []; subject = text; after_subject = []; predicate = text; after_predicate = []; object = text; after_object = []; after_dot = [] },
  record { blanks = refl; subject = spelled; predicate = spelled; object = spelled; whole = refl },
)

-- so a text spells one IRI
one_iri : (text iri other : List ℕ) → SpellsIri text iri → SpellsIri text other → iri ≡ other
one_iri text iri other p q =
    ap (λ (triple : Triple). triple.s) (one_spelled (text ++ (text ++ (text ++ dot ∷ []))) (triple_of_one iri) (triple_of_one other) (spelled_thrice text iri p) (spelled_thrice text other q))

-- and a line sets one property
pub one_property : OneProperty
one_property line property other p q =
    one_iri q.text property other (subst (λ (text : List ℕ). SpellsIri text property) (ap (drop 7) (sym p.whole ∙ q.whole)) p.is.spelled) q.is.spelled

-- a reading gives one query
one_read : (read other : ReadQuery) → ◌≡◌ {A = Result ReadQuery JsonFault} (Ok read) (Ok other) → read ≡ other
one_read read other same = cc

-- and one plan
one_plan : (plan other : UpdatePlan) → ◌≡◌ {A = Result UpdatePlan JsonFault} (Ok plan) (Ok other) → plan ≡ other
one_plan plan other same = cc

-- what is updated by is a plan in form
abbrev pub HasPlanInForm : Command → Type 0
HasPlanInForm (Update number plan) = IsPlanInForm plan
HasPlanInForm (Crash call leave task) = IsTaskInForm task
HasPlanInForm command = Unit {0}

task_in_form : (domain text : List ℕ) (task : CrashTask) → SpellsPlain domain text (command_of task) → IsTaskInForm task
task_in_form domain text (tasks.Update number plan) h = update_in_form domain h.0 plan h.3
task_in_form domain text task h = tt

-- and so is that of a crash line's command
pub task_has_plan : (task : CrashTask) → IsTaskInForm task → HasPlanInForm (command_of task)
task_has_plan (tasks.Update number plan) form = form
task_has_plan task form = tt

pub spells_in_form : (domain line : List ℕ) (command : Command) → SpellsCommand domain line command → HasPlanInForm command
spells_in_form domain line (Update number plan) h = update_in_form domain h.0 plan h.3
spells_in_form domain line (Crash call leave task) h = task_in_form domain h.text task h.spells
spells_in_form domain line command h = tt

-- a line spells one plain command
one_plain : (domain line : List ℕ) (command other : Command) → SpellsPlain domain line command → SpellsPlain domain line other → command ≡ other
unfolding begins
one_plain domain line (Add number triple) (Add other second) p q =
    let parts = one_number number other p.0 q.0 (small p.2) (small q.2) (ap (drop 4) (sym p.1 ∙ q.1)) in
    let same = one_spelled q.0 triple second (subst (λ (text : List ℕ). SpellsTriple text triple) parts.1 p.4) q.4 in
    cc (parts.0, same)
one_plain domain line (Remove number triple) (Remove other second) p q =
    let parts = one_number number other p.0 q.0 (small p.2) (small q.2) (ap (drop 7) (sym p.1 ∙ q.1)) in
    let same = one_spelled q.0 triple second (subst (λ (text : List ℕ). SpellsTriple text triple) parts.1 p.4) q.4 in
    cc (parts.0, same)
one_plain domain line (Deliver message number) (Deliver other second) p q =
    let parts = one_number message other (decimal number) (decimal second) p.1 q.1 (ap (drop 8) (sym p.0 ∙ q.0)) in
    let same = decimal_injective number second (small p.2) (small q.2) parts.1 in
    cc (parts.0, same)
one_plain domain line (Show number) (Show other) p q =
    ap Show (decimal_injective number other (small p.1) (small q.1) (ap (drop 5) (sym p.0 ∙ q.0)))
one_plain domain line (Query number read) (Query other second) p q =
    let parts = one_number number other p.0 q.0 (small p.2) (small q.2) (ap (drop 6) (sym p.1 ∙ q.1)) in
    let same : read ≡ second = one_read read second (sym p.3 ∙ ap (query_read domain) parts.1 ∙ q.3) in
    cc (parts.0, same)
one_plain domain line (Update number plan) (Update other second) p q =
    let parts = one_number number other p.0 q.0 (small p.2) (small q.2) (ap (drop 7) (sym p.1 ∙ q.1)) in
    let same : plan ≡ second = one_plan plan second (sym p.3 ∙ ap (update_read domain) parts.1 ∙ q.3) in
    cc (parts.0, same)
one_plain domain line (Join number) (Join other) p q =
    ap Join (decimal_injective number other (small p.1) (small q.1) (ap (drop 5) (sym p.0 ∙ q.0)))
one_plain domain line (Ask number) (Ask other) p q =
    ap Ask (decimal_injective number other (small p.1) (small q.1) (ap (drop 4) (sym p.0 ∙ q.0)))
one_plain domain line (Compact number) (Compact other) p q =
    ap Compact (decimal_injective number other (small p.1) (small q.1) (ap (drop 8) (sym p.0 ∙ q.0)))
one_plain domain line (Truncate number keep) (Truncate other second) p q =
    let parts = one_number number other (decimal keep) (decimal second) (small p.1) (small q.1) (ap (drop 9) (sym p.0 ∙ q.0)) in
    let same = decimal_injective keep second p.2 q.2 parts.1 in
    cc (parts.0, same)
one_plain domain line (Add number triple) (Ask other) p q = absurd (apart (ap (drop 1) p.1) (ap (drop 1) q.0) refl)
one_plain domain line (Ask number) (Add other triple) p q = absurd (apart (ap (drop 1) p.0) (ap (drop 1) q.1) refl)
one_plain domain line (Compare number with) (Compact other) p q = absurd (apart (ap (drop 5) p.0) (ap (drop 5) q.0) refl)
one_plain domain line (Compact number) (Compare other second) p q = absurd (apart (ap (drop 5) p.0) (ap (drop 5) q.0) refl)
one_plain domain line (Stop number) (Stop other) p q =
    ap Stop (decimal_injective number other (small p.1) (small q.1) (ap (drop 5) (sym p.0 ∙ q.0)))
one_plain domain line (Open number) (Open other) p q =
    ap Open (decimal_injective number other (small p.1) (small q.1) (ap (drop 5) (sym p.0 ∙ q.0)))
one_plain domain line (Show number) (Stop other) p q = absurd (apart (ap (drop 1) p.0) (ap (drop 1) q.0) refl)
one_plain domain line (Stop number) (Show other) p q = absurd (apart (ap (drop 1) p.0) (ap (drop 1) q.0) refl)
one_plain domain line (Compare number with) (Compare other second) p q =
    let parts = one_number number other (decimal with) (decimal second) (small p.1) (small q.1) (ap (drop 8) (sym p.0 ∙ q.0)) in
    let same = decimal_injective with second (small p.2) (small q.2) parts.1 in
    cc (parts.0, same)
one_plain domain line (Crash call leave task) other p q = absurd p
one_plain domain line command (Crash call leave task) p q = absurd q
one_plain domain line command other p q = absurd (apart (command_begins domain line command p).1 (command_begins domain line other q).1 refl)

-- ---- crash lines

-- no crash line spells a plain command
crash_apart : (domain line rest : List ℕ) (command : Command) → line ≡ codes "crash " ++ rest → ¬ SpellsPlain domain line command
unfolding begins
crash_apart domain line rest (Compact number) w q = apart (ap (drop 1) w) (ap (drop 1) q.0) refl
crash_apart domain line rest (Compare number other) w q = apart (ap (drop 1) w) (ap (drop 1) q.0) refl
crash_apart domain line rest (Crash call leave task) w q = absurd q
crash_apart domain line rest command w q = apart w (command_begins domain line command q).1 refl

-- a line that spells one is a crash line
pub spells_crash : (domain line : List ℕ) (command : Command) → SpellsCommand domain line command → IsCrash command → IsCrashLine line
spells_crash domain line (Crash call leave task) h is = (_, h.whole)
spells_crash domain line command h is = absurd is

-- the word of what a crash leaves has no space
leave_lacks : (leave : Leave) → Lacks space (leave_word leave)
leave_lacks Lose = Lacks-from_test (nat_le 97) space refl (codes "lose") refl
leave_lacks Keep = Lacks-from_test (nat_le 97) space refl (codes "keep") refl
leave_lacks Torn = Lacks-from_test (nat_le 97) space refl (codes "torn") refl

-- and is that of one
one_leave : (leave other : Leave) → leave_word leave ≡ leave_word other → leave ≡ other
one_leave Lose Lose e = refl
one_leave Lose Keep e = absurd (apart refl e refl)
one_leave Lose Torn e = absurd (apart refl e refl)
one_leave Keep Lose e = absurd (apart refl e refl)
one_leave Keep Keep e = refl
one_leave Keep Torn e = absurd (apart refl e refl)
one_leave Torn Lose e = absurd (apart refl e refl)
one_leave Torn Keep e = absurd (apart refl e refl)
one_leave Torn Torn e = refl

-- the command of a crash line is that of one
task_of : Command → Option CrashTask
task_of (Add number triple) = Some (tasks.Add number triple)
task_of (Remove number triple) = Some (tasks.Remove number triple)
task_of (Update number plan) = Some (tasks.Update number plan)
task_of (Deliver message number) = Some (tasks.Deliver message number)
task_of (Compact number) = Some (tasks.Compact number)
task_of (Truncate number keep) = Some (tasks.Truncate number keep)
task_of (Open number) = Some (tasks.Open number)
task_of command = None

is_task : (task : CrashTask) → task_of (command_of task) ≡ Some task
unfolding task_of
is_task (tasks.Add number triple) = refl
is_task (tasks.Remove number triple) = refl
is_task (tasks.Update number plan) = refl
is_task (tasks.Deliver message number) = refl
is_task (tasks.Compact number) = refl
is_task (tasks.Truncate number keep) = refl
is_task (tasks.Open number) = refl

some_task : (task other : CrashTask) → ◌≡◌ {A = Option CrashTask} (Some task) (Some other) → task ≡ other
some_task task other same = cc

one_task : (task other : CrashTask) → command_of task ≡ command_of other → task ≡ other
one_task task other same = some_task task other (sym (is_task task) ∙ ap task_of same ∙ is_task other)

-- a crash line spells one
one_crash : (domain line : List ℕ) (call second : ℕ) (leave left : Leave) (task other : CrashTask) → SpellsCrash domain line call leave task
    → SpellsCrash domain line second left other → (call ≡ second) × (leave ≡ left) × (task ≡ other)
one_crash domain line call second leave left task other p q =
    let numbers = one_number call second (leave_word leave ++ space ∷ p.text) (leave_word left ++ space ∷ q.text) (omega (arith, p.small)) (omega (arith, q.small))
    (ap (drop 6) (sym p.whole ∙ q.whole)) in
    let words = one_split space (leave_word leave) (leave_word left) p.text q.text (leave_lacks leave) (leave_lacks left) numbers.1 in
    let commands = one_plain domain q.text (command_of task) (command_of other)
    (subst (λ (text : List ℕ). SpellsPlain domain text (command_of task)) words.1 p.spells) q.spells in
    (numbers.0, one_leave leave left words.0, one_task task other commands)

-- a line spells one command
pub one_command : OneCommand
one_command domain line (Crash call leave task) (Crash second left other) p q =
    let same = one_crash domain line call second leave left task other p q in
    λ i. Crash (same.0 i) (same.1 i) (same.2 i)
one_command domain line (Crash call leave task) other p q = absurd (crash_apart domain line _ other p.whole q)
one_command domain line command (Crash call leave task) p q = absurd (crash_apart domain line _ command q.whole p)
one_command domain line command other p q = one_plain domain line command other p q
