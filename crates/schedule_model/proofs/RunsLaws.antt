-- A line acts in one way at each stage, a run has one end, and the lines of a schedule have one verdict.
use Rattle.std.specs.Prelude.{◌≡◌, ℕ, suc, ◌+◌, List, [], ◌∷◌, ◌++◌, Bool, false, length}
use Rattle.std.proofs.Common.{refl, sym, ◌∙◌, subst, subst₂, ap, arith}
use Rattle.schedule_model.specs.declared.Command.{Command}
use Rattle.mld_ops.specs.Properties.{AreKept}
use Rattle.mld_ops.proofs.PropertiesLaws.{kept_same}
use Rattle.mld_model.specs.World.{World, founded}
use Rattle.mld_model.specs.Reply.{Reply, Ready}
use Rattle.schedule_model.specs.ReplyText.{reply_text}
use Rattle.schedule_model.specs.Step.{Step, StepBy}
use Rattle.schedule_model.specs.Schedule.{Setup, with_property, SpellsCommand, IsCrashLine}
use Rattle.schedule_model.specs.Runs.{Stage, Waiting, SetUp, Running, IsFoundedBy, IsWorldOf, SetsUp, SetsOne, CommandsBy, ActsBy, Acts, says_nothing, sets_up, sets_property, commands, Runs, first_choice, later_choices, RunsBy, IsBad, IsBadRest, bad_line, no_domain, Outcome, Finished, BadLine, Verdict, VerdictBy}
use Rattle.schedule_model.specs.Laws.{OneAct, OneOutcome, ChooseAlike, HasNoCrash, OneRun, RunsByChoices, OneVerdict, VerdictsByChoices, AreOfOneKind, OneKindOfVerdict, OnePlainVerdict}
use Rattle.schedule_model.proofs.ScheduleLaws.{one_kind, one_setup, one_property, one_command, spells_in_form, spells_crash}
use Rattle.schedule_model.proofs.ChangesLaws.{step_keeps_domain}
use Rattle.schedule_model.proofs.CrashedDurable.{step_once, steps_by_choice}

-- ---- lines

-- the domain line sets up in one way
sets_up_once : (line text other : List ℕ) (next after : Stage) → SetsUp line text next → SetsUp line other after → (text ≡ other) × (next ≡ after)
sets_up_once line text other next after p q =
    let same = one_setup line p.setup q.setup p.spells q.spells in
    (p.replies ∙ ap (λ (setup : Setup). reply_text (Ready setup.count)) same ∙ sym q.replies, p.changes ∙ ap SetUp same ∙ sym q.changes)

-- a line sets one property
sets_one_once : (setup : Setup) (line text other : List ℕ) (next after : Stage) → SetsOne setup line text next → SetsOne setup line other after → (text ≡ other) × (next ≡ after)
sets_one_once setup line text other next after p q =
    let same = one_property line p.property q.property p.sets.spells q.sets.spells in
    (p.replies ∙ sym q.replies, p.changes ∙ ap (λ (property : List ℕ). SetUp (with_property setup property)) same ∙ sym q.changes)

-- a setup founds one world
founded_once : (setup : Setup) (world other : World) → IsFoundedBy setup world → IsFoundedBy setup other → world ≡ other
founded_once setup world other p q =
    let both : AreKept q.kept p.kept = record {
      ascending = p.each.ascending;
      members = λ property. (
        λ has. (q.each.members property).1 ((p.each.members property).0 has),
        λ has. (p.each.members property).1 ((q.each.members property).0 has),
      );
    } in
    let same : p.kept ≡ q.kept = kept_same q.kept p.kept both q.each.ascending in
    p.is ∙ ap (λ (kept : List (List ℕ)). founded setup.domain kept setup.count) same ∙ sym q.is

-- the clones of a stage are founded in one world
world_once : (stage : Stage) (world other : World) → IsWorldOf stage world → IsWorldOf stage other → world ≡ other
world_once Waiting world other p q = absurd p
world_once (SetUp setup) world other p q = founded_once setup world other p q
world_once (Running now) world other p q = p ∙ sym q

-- a command line makes one step
commands_once : (choice second : Bool) (stage : Stage) (line text other : List ℕ) (next after : Stage) → (IsCrashLine line → choice ≡ second)
    → CommandsBy (StepBy choice) stage line text next → CommandsBy (StepBy second) stage line other after → (text ≡ other) × (next ≡ after)
commands_once choice second stage line text other next after same p q =
    let world = world_once stage p.world q.world p.founds q.founds in
    let spells = subst (λ (world : World). SpellsCommand world.domain line p.command) world p.spells in
    let command = one_command q.world.domain line p.command q.command spells q.spells in
    let once = step_once choice second q.world q.command p.reply q.reply p.after q.after (spells_in_form q.world.domain line q.command q.spells)
    (λ is. same (spells_crash q.world.domain line q.command q.spells is))
    (subst₂ (λ (world : World) (command : Command). StepBy choice world command p.reply p.after) world command p.steps) q.steps in
    (p.replies ∙ ap reply_text once.0 ∙ sym q.replies, p.changes ∙ ap Running once.1 ∙ sym q.changes)

-- a line adds one text to what is written, and leads to one stage
pub one_act : OneAct
one_act choice second stage line text other next after same (says_nothing h none is) (says_nothing k too was) = (none ∙ sym too, is ∙ sym was)
one_act choice second stage line text other next after same (says_nothing h none is) (sets_up q) = absurd ((one_kind line).nothing_setup h q.setup q.spells)
one_act choice second stage line text other next after same (says_nothing h none is) (sets_property q) = absurd ((one_kind line).nothing_single h q.property q.sets.spells)
one_act choice second stage line text other next after same (says_nothing h none is) (commands q) = absurd ((one_kind line).nothing_command h q.world.domain q.command q.spells)
one_act choice second stage line text other next after same (sets_up p) (says_nothing k too was) = absurd ((one_kind line).nothing_setup k p.setup p.spells)
one_act choice second stage line text other next after same (sets_up p) (sets_up q) = sets_up_once line text other next after p q
one_act choice second stage line text other next after same (sets_up p) (commands q) = absurd q.founds
one_act choice second stage line text other next after same (sets_property p) (says_nothing k too was) = absurd ((one_kind line).nothing_single k p.property p.sets.spells)
one_act choice second (SetUp setup) line text other next after same (sets_property p) (sets_property q) = sets_one_once setup line text other next after p q
one_act choice second stage line text other next after same (sets_property p) (commands q) = absurd ((one_kind line).single_command p.property p.sets.spells q.world.domain q.command q.spells)
one_act choice second stage line text other next after same (commands p) (says_nothing k too was) = absurd ((one_kind line).nothing_command k p.world.domain p.command p.spells)
one_act choice second stage line text other next after same (commands p) (sets_up q) = absurd p.founds
one_act choice second stage line text other next after same (commands p) (sets_property q) = absurd ((one_kind line).single_command q.property q.sets.spells p.world.domain p.command p.spells)
one_act choice second stage line text other next after same (commands p) (commands q) = commands_once choice second stage line text other next after same p q

-- by other steps too
act_by : (One Other : World → Command → Reply → World → Type 0) → ((world : World) (command : Command) (reply : Reply) (next : World) → One world command reply next → Other world command reply next)
    → (stage : Stage) (line text : List ℕ) (next : Stage) → ActsBy One stage line text next → ActsBy Other stage line text next
act_by One Other as_well stage line text next (says_nothing h none is) = says_nothing h none is
act_by One Other as_well stage line text next (sets_up p) = sets_up p
act_by One Other as_well stage line text next (sets_property p) = sets_property p
act_by One Other as_well stage line text next (commands p) = commands (record {
  world = p.world;
  founds = p.founds;
  command = p.command;
  reply = p.reply;
  after = p.after;
  spells = p.spells;
  steps = as_well p.world p.command p.reply p.after p.steps;
  replies = p.replies;
  changes = p.changes;
})

-- what acts by a choice acts
act_chosen : (choice : Bool) (stage : Stage) (line text : List ℕ) (next : Stage) → ActsBy (StepBy choice) stage line text next → Acts stage line text next
act_chosen choice = act_by (StepBy choice) Step (λ world command reply next p. (steps_by_choice world command reply next).1 (choice, p))

-- and what acts acts by some choice
choice_of_act : (stage : Stage) (line text : List ℕ) (next : Stage) → Acts stage line text next → (choice : Bool) × ActsBy (StepBy choice) stage line text next
choice_of_act stage line text next (says_nothing h none is) = (false, says_nothing h none is)
choice_of_act stage line text next (sets_up p) = (false, sets_up p)
choice_of_act stage line text next (sets_property p) = (false, sets_property p)
choice_of_act stage line text next (commands p) =
    let by = (steps_by_choice p.world p.command p.reply p.after).0 p.steps in (
      by.0,
      commands (record {
        world = p.world;
        founds = p.founds;
        command = p.command;
        reply = p.reply;
        after = p.after;
        spells = p.spells;
        steps = by.1;
        replies = p.replies;
        changes = p.changes;
      }),
    )

-- ---- the outcomes of a line

-- what acts isn't outside the grammar
module _ (Steps : World → Command → Reply → World → Type 0) where
  acts_bad : (stage : Stage) (line text : List ℕ) (next : Stage) → ActsBy Steps stage line text next → ¬ IsBad stage line
  acts_bad stage line text next (says_nothing h none is) bad = bad.0 h
  acts_bad stage line text next (sets_up p) bad = bad.1 p.setup p.spells
  acts_bad (SetUp setup) line text next (sets_property p) bad = bad.1.0 p.property p.sets
  acts_bad Waiting line text next (commands p) bad = absurd p.founds
  acts_bad (SetUp setup) line text next (commands p) bad =
      bad.1.1 p.command (subst (λ (world : World). SpellsCommand world.domain line p.command) p.founds.is p.spells)
  acts_bad (Running world) line text next (commands p) bad =
      bad.1 p.command (subst (λ (world : World). SpellsCommand world.domain line p.command) p.founds p.spells)

-- so each line has at most one of these outcomes at each stage
pub one_outcome : OneOutcome
one_outcome stage line text next p = acts_bad Step stage line text next p

-- ---- runs

-- a run over lines writes one text, and leads to one stage
pub one_run : OneRun
one_run choices others stage [] text other next after same p q = (p.0 ∙ sym q.0, p.1 ∙ sym q.1)
one_run choices others stage (line ∷ lines) text other next after same p q =
    let first = one_act (first_choice choices) (first_choice others) stage line p.0 q.0 p.2 q.2 same.0 p.3 q.3 in
    let rest = one_run (later_choices choices) (later_choices others) q.2 lines p.1 q.1 next after same.1
    (subst (λ (stage : Stage). RunsBy (later_choices choices) stage lines p.1 next) first.1 p.4) q.4 in
    (cc (p.5, q.5, first.0, rest.0), rest.1)

-- a run by choices is a run, and each run is one by some
run_chosen : (choices : List Bool) (stage : Stage) (lines : List (List ℕ)) (text : List ℕ) (next : Stage) → RunsBy choices stage lines text next → Runs stage lines text next
run_chosen choices stage [] text next p = p
run_chosen choices stage (line ∷ lines) text next p = (
  p.0,
  p.1,
  p.2,
  act_chosen (first_choice choices) stage line p.0 p.2 p.3,
  run_chosen (later_choices choices) p.2 lines p.1 next p.4,
  p.5,
)

choices_of_run : (stage : Stage) (lines : List (List ℕ)) (text : List ℕ) (next : Stage) → Runs stage lines text next
    → (choices : List Bool) × RunsBy choices stage lines text next
choices_of_run stage [] text next p = ([], p)
choices_of_run stage (line ∷ lines) text next p =
    let first = choice_of_act stage line p.0 p.2 p.3 in
    let rest = choices_of_run p.2 lines p.1 next p.4 in
    (first.0 ∷ rest.0, (p.0, p.1, p.2, first.1, rest.1, p.5))

pub runs_by_choices : RunsByChoices
runs_by_choices stage lines text next = (choices_of_run stage lines text next, λ p. run_chosen p.0 stage lines text next p.1)

-- ---- verdicts

-- the outcome where the lines come after one more, which wrote the text
later : List ℕ → Outcome → Outcome
later front (Finished text world) = Finished (front ++ text) world
later front (BadLine number text stage) = BadLine (suc number) (front ++ text) stage

-- one line, and the lines after it
record ReadsOn (choice : Bool) (stage : Stage) (line : List ℕ) (after : Stage → Outcome → Type 0) (outcome : Outcome) : Type 0 where
  front : List ℕ
  middle : Stage
  rest : Outcome
  acts : ActsBy (StepBy choice) stage line front middle
  goes : after middle rest
  is : outcome ≡ later front rest

-- what becomes of a line and those after it
data ReadsLine (choice : Bool) (stage : Stage) (line : List ℕ) (after : Stage → Outcome → Type 0) (outcome : Outcome) : Type 0 where
  stops_bad : IsBad stage line → outcome ≡ BadLine 1 [] stage → ReadsLine choice stage line after outcome
  reads_on : ReadsOn choice stage line after outcome → ReadsLine choice stage line after outcome

-- what becomes of lines that are read from the stage on, by the lines
abbrev Reads : List Bool → List (List ℕ) → Stage → Outcome → Type 0
Reads choices [] Waiting outcome = outcome ≡ BadLine 1 [] Waiting
Reads choices [] (SetUp setup) outcome = (world : World) × IsFoundedBy setup world × (outcome ≡ Finished [] world)
Reads choices [] (Running world) outcome = outcome ≡ Finished [] world
Reads choices (line ∷ lines) stage outcome = ReadsLine (first_choice choices) stage line (Reads (later_choices choices) lines) outcome

-- lines are read in one way
reads_once : (choices others : List Bool) (lines : List (List ℕ)) (stage : Stage) (outcome other : Outcome) → ChooseAlike lines choices others
    → Reads choices lines stage outcome → Reads others lines stage other → outcome ≡ other
reads_once choices others [] Waiting outcome other same p q = p ∙ sym q
reads_once choices others [] (SetUp setup) outcome other same p q = p.2 ∙ ap (λ (world : World). Finished [] world) (founded_once setup p.0 q.0 p.1 q.1) ∙ sym q.2
reads_once choices others [] (Running world) outcome other same p q = p ∙ sym q
reads_once choices others (line ∷ lines) stage outcome other same (stops_bad bad is) (stops_bad too was) = is ∙ sym was
reads_once choices others (line ∷ lines) stage outcome other same (stops_bad bad is) (reads_on q) = absurd (acts_bad (StepBy (first_choice others)) stage line q.front q.middle q.acts bad)
reads_once choices others (line ∷ lines) stage outcome other same (reads_on p) (stops_bad bad was) = absurd (acts_bad (StepBy (first_choice choices)) stage line p.front p.middle p.acts bad)
reads_once choices others (line ∷ lines) stage outcome other same (reads_on p) (reads_on q) =
    let first = one_act (first_choice choices) (first_choice others) stage line p.front q.front p.middle q.middle same.0 p.acts q.acts in
    let rest = reads_once (later_choices choices) (later_choices others) lines q.middle p.rest q.rest same.1
    (subst (λ (stage : Stage). Reads (later_choices choices) lines stage p.rest) first.1 p.goes) q.goes in
    cc (p.is, q.is, first.0, rest)

-- at the end the world of the stage is the one that is read
reads_end : (choices : List Bool) (stage : Stage) (text : List ℕ) (world : World) → text ≡ [] → IsWorldOf stage world → Reads choices [] stage (Finished text world)
reads_end choices Waiting text world none is = absurd is
reads_end choices (SetUp setup) text world none founds = (world, founds, ap (λ (t : List ℕ). Finished t world) none)
reads_end choices (Running other) text world none is = cc (none, is)

-- a run over all lines reads them
reads_finished : (choices : List Bool) (lines : List (List ℕ)) (stage : Stage) (text : List ℕ) (last : Stage) (world : World)
    → RunsBy choices stage lines text last → IsWorldOf last world → Reads choices lines stage (Finished text world)
unfolding later
reads_finished choices [] stage text last world h is = reads_end choices stage text world h.0 (subst (λ (stage : Stage). IsWorldOf stage world) h.1 is)
reads_finished choices (line ∷ lines) stage text last world h is = reads_on (record {
  front = h.0;
  middle = h.2;
  rest = Finished h.1 world;
  acts = h.3;
  goes = reads_finished (later_choices choices) lines h.2 h.1 last world h.4 is;
  is = ap (λ (text : List ℕ). Finished text world) h.5;
})

-- what is bad at once is read as that
ends_now : (choices : List Bool) (rest : List (List ℕ)) (stage : Stage) → IsBadRest rest stage → Reads choices rest stage (BadLine 1 [] stage)
ends_now choices rest stage (bad_line line first bad) =
    subst (λ (rest : List (List ℕ)). Reads choices rest stage (BadLine 1 [] stage)) (sym first.1) (stops_bad bad refl)
ends_now choices rest stage (no_domain none waits) =
    subst (λ (rest : List (List ℕ)). Reads choices rest stage (BadLine 1 [] stage)) (sym none)
    (subst (λ (stage : Stage). Reads choices [] stage (BadLine 1 [] stage)) (sym waits) refl)

-- a run over the lines before a bad one reads as far as that one
reads_bad : (choices : List Bool) (front rest : List (List ℕ)) (stage : Stage) (text : List ℕ) (next : Stage) → RunsBy choices stage front text next → IsBadRest rest next
    → Reads choices (front ++ rest) stage (BadLine (length front + 1) text next)
unfolding later
reads_bad choices [] rest stage text next runs h =
    subst (λ (text : List ℕ). Reads choices rest stage (BadLine 1 text next)) (sym runs.0)
    (subst (λ (stage : Stage). Reads choices rest stage (BadLine 1 [] next)) runs.1 (ends_now choices rest next h))
reads_bad choices (line ∷ front) rest stage text next runs h = reads_on (record {
  front = runs.0;
  middle = runs.2;
  rest = BadLine (length front + 1) runs.1 next;
  acts = runs.3;
  goes = reads_bad (later_choices choices) front rest runs.2 runs.1 next runs.4 h;
  is = let counted : suc (length front) + 1 ≡ suc (length front + 1) = omega arith in cc (counted, runs.5);
})

-- a verdict says how the lines are read
verdict_reads : (choices : List Bool) (lines : List (List ℕ)) (outcome : Outcome) → VerdictBy choices lines outcome → Reads choices lines Waiting outcome
unfolding VerdictBy
verdict_reads choices lines (Finished text world) h = reads_finished choices lines Waiting text h.0 world h.1 h.2
verdict_reads choices lines (BadLine number text stage) h =
    let before = h.before in
    subst₂ (λ (lines : List (List ℕ)) (number : ℕ). Reads choices lines Waiting (BadLine number text stage)) (sym before.whole) (sym before.counted)
    (reads_bad choices before.front before.rest Waiting text stage before.runs h.bad)

-- the lines of a schedule have one verdict
pub one_verdict : OneVerdict
one_verdict choices others lines outcome other same p q =
    reads_once choices others lines Waiting outcome other same (verdict_reads choices lines outcome p) (verdict_reads others lines other q)

-- each verdict is one by some choices
verdict_chosen : (choices : List Bool) (lines : List (List ℕ)) (outcome : Outcome) → VerdictBy choices lines outcome → Verdict lines outcome
unfolding Verdict VerdictBy
verdict_chosen choices lines (Finished text world) h = (h.0, run_chosen choices Waiting lines text h.0 h.1, h.2)
verdict_chosen choices lines (BadLine number text stage) h = record {
  before = record {
    front = h.before.front;
    rest = h.before.rest;
    whole = h.before.whole;
    counted = h.before.counted;
    runs = run_chosen choices Waiting h.before.front text stage h.before.runs;
  };
  bad = h.bad;
}

choices_of_verdict : (lines : List (List ℕ)) (outcome : Outcome) → Verdict lines outcome → (choices : List Bool) × VerdictBy choices lines outcome
unfolding Verdict VerdictBy
choices_of_verdict lines (Finished text world) h =
    let by = choices_of_run Waiting lines text h.0 h.1 in
    (by.0, (h.0, by.1, h.2))
choices_of_verdict lines (BadLine number text stage) h =
    let by = choices_of_run Waiting h.before.front text stage h.before.runs in (
      by.0,
      record {
        before = record { front = h.before.front; rest = h.before.rest; whole = h.before.whole; counted = h.before.counted; runs = by.1 };
        bad = h.bad;
      },
    )

pub verdicts_by_choices : VerdictsByChoices
verdicts_by_choices lines outcome = (choices_of_verdict lines outcome, λ h. verdict_chosen h.0 lines outcome h.1)

-- without a crash line all choices are alike
no_choice : (lines : List (List ℕ)) (choices others : List Bool) → HasNoCrash lines → ChooseAlike lines choices others
no_choice [] choices others none = tt
no_choice (line ∷ lines) choices others none = (λ is. absurd (none.0 is), no_choice lines (later_choices choices) (later_choices others) none.1)

-- so such lines have one verdict
pub one_plain_verdict : OnePlainVerdict
one_plain_verdict lines outcome other none p q =
    let one = choices_of_verdict lines outcome p in
    let two = choices_of_verdict lines other q in
    one_verdict one.0 two.0 lines outcome other (no_choice lines one.0 two.0 none) one.1 two.1

-- ---- whatever the choices are

-- two stages are alike: what is bad at one is bad at the other
abbrev AreAlike : Stage → Stage → Type 0
AreAlike Waiting Waiting = Unit {0}
AreAlike (SetUp setup) (SetUp other) = setup ≡ other
AreAlike (Running world) (Running other) = world.domain ≡ other.domain
AreAlike stage other = ⊥

bad_alike : (stage other : Stage) (line : List ℕ) → AreAlike stage other → IsBad stage line → IsBad other line
bad_alike Waiting Waiting line alike bad = bad
bad_alike (SetUp setup) (SetUp other) line alike bad = subst (λ (s : Setup). IsBad (SetUp s) line) alike bad
bad_alike (Running world) (Running other) line alike bad =
    (bad.0, λ command spells. bad.1 command (subst (λ (domain : List ℕ). SpellsCommand domain line command) (sym alike) spells))
bad_alike stage other line alike bad = absurd alike

-- the worlds of alike stages have one domain
domain_alike : (stage other : Stage) (world second : World) → AreAlike stage other → IsWorldOf stage world → IsWorldOf other second → world.domain ≡ second.domain
domain_alike Waiting other world second alike p q = absurd p
domain_alike (SetUp setup) (SetUp other) world second alike p q =
    ap (λ (w : World). w.domain) p.is ∙ ap (λ (s : Setup). s.domain) alike ∙ sym (ap (λ (w : World). w.domain) q.is)
domain_alike (Running now) (Running other) world second alike p q =
    ap (λ (w : World). w.domain) p ∙ alike ∙ sym (ap (λ (w : World). w.domain) q)
domain_alike stage other world second alike p q = absurd alike

-- a step by a choice keeps the domain
keeps_domain : (choice : Bool) (world : World) (command : Command) (reply : Reply) (next : World) → StepBy choice world command reply next → next.domain ≡ world.domain
keeps_domain choice world command reply next p = (step_keeps_domain world command reply next ((steps_by_choice world command reply next).1 (choice, p))).0

-- a command leads from alike stages to alike ones
commands_alike : (choice second : Bool) (stage other : Stage) (line text told : List ℕ) (next after : Stage) → AreAlike stage other
    → CommandsBy (StepBy choice) stage line text next → CommandsBy (StepBy second) other line told after → AreAlike next after
commands_alike choice second stage other line text told next after alike p q =
    let domain : p.after.domain ≡ q.after.domain =
    keeps_domain choice p.world p.command p.reply p.after p.steps ∙ domain_alike stage other p.world q.world alike p.founds q.founds
    ∙ sym (keeps_domain second q.world q.command q.reply q.after q.steps) in
    subst₂ AreAlike (sym p.changes) (sym q.changes) domain

-- and so does a line
act_alike : (choice second : Bool) (stage other : Stage) (line text told : List ℕ) (next after : Stage) → AreAlike stage other
    → ActsBy (StepBy choice) stage line text next → ActsBy (StepBy second) other line told after → AreAlike next after
act_alike choice second stage other line text told next after alike (says_nothing h none is) (says_nothing k too was) = subst₂ AreAlike (sym is) (sym was) alike
act_alike choice second stage other line text told next after alike (says_nothing h none is) (sets_up q) = absurd ((one_kind line).nothing_setup h q.setup q.spells)
act_alike choice second stage other line text told next after alike (says_nothing h none is) (sets_property q) =
    absurd ((one_kind line).nothing_single h q.property q.sets.spells)
act_alike choice second stage other line text told next after alike (says_nothing h none is) (commands q) =
    absurd ((one_kind line).nothing_command h q.world.domain q.command q.spells)
act_alike choice second stage other line text told next after alike (sets_up p) (says_nothing k too was) = absurd ((one_kind line).nothing_setup k p.setup p.spells)
act_alike choice second stage other line text told next after alike (sets_up p) (sets_up q) =
    subst₂ AreAlike (sym p.changes) (sym q.changes) (one_setup line p.setup q.setup p.spells q.spells)
act_alike choice second stage other line text told next after alike (sets_up p) (sets_property q) = absurd alike
act_alike choice second stage other line text told next after alike (sets_up p) (commands q) =
    absurd ((one_kind line).setup_command p.setup p.spells q.world.domain q.command q.spells)
act_alike choice second stage other line text told next after alike (sets_property p) (says_nothing k too was) =
    absurd ((one_kind line).nothing_single k p.property p.sets.spells)
act_alike choice second stage other line text told next after alike (sets_property p) (sets_up q) = absurd alike
act_alike choice second (SetUp setup) (SetUp other) line text told next after alike (sets_property p) (sets_property q) =
    subst₂ AreAlike (sym p.changes) (sym q.changes)
    (λ i. with_property (alike i) (one_property line p.property q.property p.sets.spells q.sets.spells i))
act_alike choice second stage other line text told next after alike (sets_property p) (commands q) =
    absurd ((one_kind line).single_command p.property p.sets.spells q.world.domain q.command q.spells)
act_alike choice second stage other line text told next after alike (commands p) (says_nothing k too was) =
    absurd ((one_kind line).nothing_command k p.world.domain p.command p.spells)
act_alike choice second stage other line text told next after alike (commands p) (sets_up q) =
    absurd ((one_kind line).setup_command q.setup q.spells p.world.domain p.command p.spells)
act_alike choice second stage other line text told next after alike (commands p) (sets_property q) =
    absurd ((one_kind line).single_command q.property q.sets.spells p.world.domain p.command p.spells)
act_alike choice second stage other line text told next after alike (commands p) (commands q) =
    commands_alike choice second stage other line text told next after alike p q

-- the kind of an outcome is that of the outcome of the lines behind the first
later_alike : (front told : List ℕ) (outcome other : Outcome) → AreOfOneKind outcome other → AreOfOneKind (later front outcome) (later told other)
unfolding later
later_alike front told (Finished text world) (Finished second after) alike = tt
later_alike front told (BadLine number text stage) (BadLine second after last) alike = ap (λ (n : ℕ). suc n) alike
later_alike front told outcome other alike = absurd alike

-- so lines that are read from alike stages end in one kind
reads_alike : (choices others : List Bool) (lines : List (List ℕ)) (stage second : Stage) (outcome other : Outcome) → AreAlike stage second
    → Reads choices lines stage outcome → Reads others lines second other → AreOfOneKind outcome other
reads_alike choices others [] Waiting Waiting outcome other alike p q = subst₂ AreOfOneKind (sym p) (sym q) refl
reads_alike choices others [] (SetUp setup) (SetUp second) outcome other alike p q = subst₂ AreOfOneKind (sym p.2) (sym q.2) tt
reads_alike choices others [] (Running world) (Running second) outcome other alike p q = subst₂ AreOfOneKind (sym p) (sym q) tt
reads_alike choices others (line ∷ lines) stage second outcome other alike (stops_bad bad is) (stops_bad too was) = subst₂ AreOfOneKind (sym is) (sym was) refl
reads_alike choices others (line ∷ lines) stage second outcome other alike (stops_bad bad is) (reads_on q) =
    absurd (acts_bad (StepBy (first_choice others)) second line q.front q.middle q.acts (bad_alike stage second line alike bad))
reads_alike choices others (line ∷ lines) stage second outcome other alike (reads_on p) (stops_bad bad was) =
    absurd (acts_bad (StepBy (first_choice choices)) stage line p.front p.middle p.acts (bad_alike second stage line (turned stage second alike) bad))
  where
    turned : (stage other : Stage) → AreAlike stage other → AreAlike other stage
    turned Waiting Waiting alike = tt
    turned (SetUp setup) (SetUp other) alike = sym alike
    turned (Running world) (Running other) alike = sym alike
    turned stage other alike = absurd alike
reads_alike choices others (line ∷ lines) stage second outcome other alike (reads_on p) (reads_on q) =
    let middle : AreAlike p.middle q.middle =
    act_alike (first_choice choices) (first_choice others) stage second line p.front q.front p.middle q.middle alike p.acts q.acts in
    subst₂ AreOfOneKind (sym p.is) (sym q.is)
    (later_alike p.front q.front p.rest q.rest
    (reads_alike (later_choices choices) (later_choices others) lines p.middle q.middle p.rest q.rest middle p.goes q.goes))
reads_alike choices others [] stage second outcome other alike p q = absurd alike

-- whatever the choices are, the lines are finished or have the same first bad line
pub one_kind_of_verdict : OneKindOfVerdict
one_kind_of_verdict lines outcome other p q =
    let one = choices_of_verdict lines outcome p in
    let two = choices_of_verdict lines other q in
    reads_alike one.0 two.0 lines Waiting Waiting outcome other tt (verdict_reads one.0 lines outcome one.1) (verdict_reads two.0 lines other two.1)
