-- Crash lines, a part at a time.
use Rattle.std.proofs.Common.{◌≡◌, ◌≢◌, ◌↔◌, ℕ, ◌<◌, ◌^◌, List, ◌∷◌, ◌++◌, codes, Option, Some, None, MatchOption, refl, sym, ◌∙◌, subst, ap, drop}
use Rattle.std.specs.Prelude.{nat_le}
use Rattle.std.specs.Fmt.{decimal}
use Rattle.mld_io.specs.declared.banks.Leave.{Leave}
use Rattle.mld_io.specs.declared.banks.Leave.TheVariants.{Lose, Keep, Torn}
use Rattle.schedule_model.specs.Characters.{space}
use Rattle.schedule_model.specs.declared.Command.{Command}
use Rattle.schedule_model.specs.declared.Command.TheVariants.{Add, Remove, Update, Deliver, Show, Query, Compare, Join, Ask, Compact, Truncate, Stop, Open, Crash}
use Rattle.schedule_model.specs.declared.CrashTask.{CrashTask}
use Rattle.schedule_model.specs.Schedule.{SpellsPlain, SpellsCommand, leave_word}
use Rattle.schedule_model.specs.Tasks.{command_of}
use Rattle.schedule_model.proofs.LackingLaws.{Lacks, Lacks-from_test, no_space, one_split, apart}
use Rattle.schedule_model.proofs.ScheduleLaws.{one_command}
use Rattle.schedule_text.specs.ReadLines.{IsArming, IsCrashRest}
use Rattle.schedule_text.proofs.LinesText.{has_space}
use Rattle.schedule_text.proofs.LinesNumbers.{small_call, number_first}

-- ---- what follows the first word

crash_there : (domain line rest : List ℕ) → line ≡ codes "crash " ++ rest → (command : Command) → IsCrashRest domain rest command → SpellsCommand domain line command
crash_there domain line rest e command h =
    subst (λ (k : Command). SpellsCommand domain line k) (sym h.3)
    (record { text = h.4.text; whole = e ∙ ap (λ (r : List ℕ). codes "crash " ++ r) h.4.arms.whole; small = h.4.arms.small; spells = h.4.spells })

crash_back : (domain line rest : List ℕ) → line ≡ codes "crash " ++ rest → (command : Command) → SpellsCommand domain line command → IsCrashRest domain rest command
crash_back domain line rest e (Crash call leave task) h =
    (call, leave, task, refl, record { text = h.text; arms = record { whole = ap (drop 6) (sym e ∙ h.whole); small = h.small }; spells = h.spells })
crash_back domain line rest e (Add number triple) h = absurd (apart e h.1 refl)
crash_back domain line rest e (Remove number triple) h = absurd (apart e h.1 refl)
crash_back domain line rest e (Update number plan) h = absurd (apart e h.1 refl)
crash_back domain line rest e (Deliver message number) h = absurd (apart e h.0 refl)
crash_back domain line rest e (Show number) h = absurd (apart e h.0 refl)
crash_back domain line rest e (Query number read) h = absurd (apart e h.1 refl)
crash_back domain line rest e (Compare number other) h = absurd (apart (ap (drop 1) e) (ap (drop 1) h.0) refl)
crash_back domain line rest e (Join number) h = absurd (apart e h.0 refl)
crash_back domain line rest e (Ask number) h = absurd (apart e h.0 refl)
crash_back domain line rest e (Compact number) h = absurd (apart (ap (drop 1) e) (ap (drop 1) h.0) refl)
crash_back domain line rest e (Truncate number keep) h = absurd (apart e h.0 refl)
crash_back domain line rest e (Stop number) h = absurd (apart e h.0 refl)
crash_back domain line rest e (Open number) h = absurd (apart e h.0 refl)

pub crash_behind : (domain line rest : List ℕ) → line ≡ codes "crash " ++ rest → (command : Command) → IsCrashRest domain rest command ↔ SpellsCommand domain line command
crash_behind domain line rest e command = (crash_there domain line rest e command, crash_back domain line rest e command)

-- any other line spells a plain command, if any
pub not_crash : (domain line : List ℕ) → ((rest : List ℕ) → line ≢ codes "crash " ++ rest) → (command : Command) → SpellsPlain domain line command ↔ SpellsCommand domain line command
not_crash domain line none (Crash call leave task) = (λ h. absurd h, λ h. absurd (none _ h.whole))
not_crash domain line none (Add number triple) = (λ h. h, λ h. h)
not_crash domain line none (Remove number triple) = (λ h. h, λ h. h)
not_crash domain line none (Update number plan) = (λ h. h, λ h. h)
not_crash domain line none (Deliver message number) = (λ h. h, λ h. h)
not_crash domain line none (Show number) = (λ h. h, λ h. h)
not_crash domain line none (Query number read) = (λ h. h, λ h. h)
not_crash domain line none (Compare number other) = (λ h. h, λ h. h)
not_crash domain line none (Join number) = (λ h. h, λ h. h)
not_crash domain line none (Ask number) = (λ h. h, λ h. h)
not_crash domain line none (Compact number) = (λ h. h, λ h. h)
not_crash domain line none (Truncate number keep) = (λ h. h, λ h. h)
not_crash domain line none (Stop number) = (λ h. h, λ h. h)
not_crash domain line none (Open number) = (λ h. h, λ h. h)

-- ---- what a crash leaves

-- none of the words has a space
leave_lacks : (leave : Leave) → Lacks space (leave_word leave)
leave_lacks Lose = Lacks-from_test (nat_le 97) space refl (codes "lose") refl
leave_lacks Keep = Lacks-from_test (nat_le 97) space refl (codes "keep") refl
leave_lacks Torn = Lacks-from_test (nat_le 97) space refl (codes "torn") refl

-- ---- what stands before the command

pub no_arming_split : (rest : List ℕ) → Lacks space rest → (call : ℕ) (leave : Leave) (text : List ℕ) → ¬ IsArming rest call leave text
no_arming_split rest lacks call leave text h = has_space rest (decimal call) (leave_word leave ++ space ∷ text) lacks h.whole

-- what is cut off is the number of the call
arming_cut : (rest front behind : List ℕ) (call : ℕ) (leave : Leave) (text : List ℕ) → rest ≡ front ++ space ∷ behind → Lacks space front → IsArming rest call leave text
    → (front ≡ decimal call) × (behind ≡ leave_word leave ++ space ∷ text)
arming_cut rest front behind call leave text e lacks h = number_first rest front behind (leave_word leave ++ space ∷ text) call lacks e (small_call h.small) h.whole

pub no_arming_call : (rest front behind : List ℕ) → rest ≡ front ++ space ∷ behind → Lacks space front → ((call : ℕ) → call < 2 ^ 32 → front ≢ decimal call)
    → (call : ℕ) (leave : Leave) (text : List ℕ) → ¬ IsArming rest call leave text
no_arming_call rest front behind e lacks none call leave text h = none call h.small (arming_cut rest front behind call leave text e lacks h).0

pub no_arming_word : (rest front behind : List ℕ) → rest ≡ front ++ space ∷ behind → Lacks space front → Lacks space behind
    → (call : ℕ) (leave : Leave) (text : List ℕ) → ¬ IsArming rest call leave text
no_arming_word rest front behind e lacks none call leave text h = has_space behind (leave_word leave) text none (arming_cut rest front behind call leave text e lacks h).1

-- a text that is cut at two spaces: what is spelled of it is cut there too
pub record IsTwiceCut (rest front word last : List ℕ) : Type 0 where
  pub behind : List ℕ
  pub first : rest ≡ front ++ space ∷ behind
  pub spaceless : Lacks space front
  pub second : behind ≡ word ++ space ∷ last
  pub wordless : Lacks space word

arming_parts : (rest front word last : List ℕ) (call : ℕ) (leave : Leave) (text : List ℕ) → IsTwiceCut rest front word last → IsArming rest call leave text
    → (word ≡ leave_word leave) × (last ≡ text)
arming_parts rest front word last call leave text cut h =
    one_split space word (leave_word leave) last text cut.wordless (leave_lacks leave)
    (sym cut.second ∙ (arming_cut rest front cut.behind call leave text cut.first cut.spaceless h).1)

pub no_arming_leave : (rest front word last : List ℕ) → IsTwiceCut rest front word last → ((leave : Leave) → word ≢ leave_word leave)
    → (call : ℕ) (leave : Leave) (text : List ℕ) → ¬ IsArming rest call leave text
no_arming_leave rest front word last cut none call leave text h = none leave (arming_parts rest front word last call leave text cut h).0

-- the text behind them is one
arms_one : (rest : List ℕ) (call second : ℕ) (leave left : Leave) (text other : List ℕ) → IsArming rest call leave text → IsArming rest second left other → text ≡ other
arms_one rest call second leave left text other h k =
    let cut : IsTwiceCut rest (decimal call) (leave_word leave) text = record {
      behind = leave_word leave ++ space ∷ text;
      first = h.whole;
      spaceless = no_space call (small_call h.small);
      second = refl;
      wordless = leave_lacks leave;
    } in
    (arming_parts rest (decimal call) (leave_word leave) text second left other cut k).1

pub no_task : (domain rest text : List ℕ) (call : ℕ) (leave : Leave) → IsArming rest call leave text → ((task : CrashTask) → ¬ SpellsPlain domain text (command_of task))
    → (command : Command) → ¬ IsCrashRest domain rest command
no_task domain rest text call leave arms none command h =
    none h.2 (subst (λ (t : List ℕ). SpellsPlain domain t (command_of h.2)) (sym (arms_one rest call h.0 leave h.1 text h.4.text arms h.4.arms)) h.4.spells)

-- ---- the command

-- what is spelled without a crash is spelled
spelled : (domain line : List ℕ) (command : Command) → SpellsPlain domain line command → SpellsCommand domain line command
spelled domain line (Crash call leave task) h = absurd h
spelled domain line command h = h

-- what was read without a crash is the command of a crash line, where it may be
pub task_found : (domain text : List ℕ) (command : Command) (found : Option CrashTask) → SpellsPlain domain text command
    → MatchOption found ((task : CrashTask) → command_of task ≢ command) (λ task. command_of task ≡ command)
    → MatchOption found ((task : CrashTask) → ¬ SpellsPlain domain text (command_of task)) (λ task. SpellsPlain domain text (command_of task))
task_found domain text command None spells h =
    λ task other. h task (one_command domain text (command_of task) command (spelled domain text (command_of task) other) (spelled domain text command spells))
task_found domain text command (Some task) spells h = subst (λ (k : Command). SpellsPlain domain text k) (sym h) spells
