-- Crash lines worked by hand: `crash K LEAVE add C TRIPLE` at a clone that isn't down, by the call K.
use Rattle.std.specs.Prelude.{◌≡◌, ℕ, ◌+◌, ◌<◌, ◌≤◌, [], ◌∷◌, ◌++◌, Bool, true, false, codes}
use Rattle.std.specs.Fmt.{decimal}
use Rattle.std.proofs.Common.{refl, sym, ap, subst, arith}
use Rattle.rdf_terms.specs.declared.terms.Triple.{Triple}
use Rattle.tree_clock.specs.declared.dots.Dot.{Dot}
use Rattle.tree_clock.specs.Dot.{dot_text}
use Rattle.mld_ops.specs.History.{Operation}
use Rattle.schedule_model.specs.declared.Command.TheVariants.{Add}
use Rattle.schedule_model.specs.declared.CrashTask.TheVariants as tasks
use Rattle.mld_model.specs.Clone.{Clone, Absent, Asking, Empty, Down, Live}
use Rattle.mld_model.specs.World.{World, clone_at}
use Rattle.mld_model.specs.Reply.{Did, Crashed, ThenCrashed}
use Rattle.mld_model.specs.Durable.{AppendsMade}
use Rattle.mld_model.specs.CrashFronts.{with_clone_down, after_crash}
use Rattle.schedule_model.specs.Characters.{line_end}
use Rattle.schedule_model.specs.ReplyText.{reply_text}
use Rattle.schedule_model.specs.PlainStep.{PlainStep}
use Rattle.schedule_model.specs.Crashing.{IsArmed, opening_calls, task_calls, Deed, Crashes, is_caught, isnt_caught}

-- an `add` opens nothing
opens_none : (clone : Clone) (number : ℕ) (triple : Triple) → opening_calls clone (tasks.Add number triple) ≡ 0
opens_none Absent number triple = refl
opens_none Asking number triple = refl
opens_none Empty number triple = refl
opens_none (Down stored) number triple = refl
opens_none (Live stored held) number triple = refl

-- an `add` whose reply is `did`
module _ (world next : World) (number : ℕ) (triple : Triple) (dot : Dot) (message : ℕ) (operation : Operation)
    (armed : IsArmed (clone_at world number) (tasks.Add number triple)) (does : PlainStep world (Add number triple) (Did dot message) next)
    (joined : next.history ≡ operation ∷ world.history) where
  abbrev adds : Deed world (Add number triple)
  adds = record {
    reply = Did dot message;
    after = next;
    does = does;
    steps = AppendsMade operation ∷ [];
    are = record { operation = operation; joined = joined; one = refl };
  }

  -- it makes four calls
  four_calls : task_calls (clone_at world number) (tasks.Add number triple) (AppendsMade operation ∷ []) ≡ 4
  four_calls = ap (λ (opening : ℕ). opening + 4) (opens_none (clone_at world number) number triple)

  comes : (call : ℕ) → call < 4 → call < task_calls (clone_at world number) (tasks.Add number triple) (AppendsMade operation ∷ [])
  comes call before = subst (λ (calls : ℕ). call < calls) (sym four_calls) before

  -- at its first call nothing stands, whatever the choice is
  at_first : (choice : Bool) → Crashes choice 0 world (tasks.Add number triple) [] Crashed (after_crash world number [])
  at_first choice = is_caught armed adds (comes 0 (omega arith)) refl refl refl

  -- at the write of its gate the choice says whether it stands, and at the last call too
  chosen_third : Crashes true 2 world (tasks.Add number triple) (AppendsMade operation ∷ []) Crashed (after_crash world number (AppendsMade operation ∷ []))
  chosen_third = is_caught armed adds (comes 2 (omega arith)) refl refl refl

  left_third : Crashes false 2 world (tasks.Add number triple) [] Crashed (after_crash world number [])
  left_third = is_caught armed adds (comes 2 (omega arith)) refl refl refl

  chosen_last : Crashes true 3 world (tasks.Add number triple) (AppendsMade operation ∷ []) Crashed (after_crash world number (AppendsMade operation ∷ []))
  chosen_last = is_caught armed adds (comes 3 (omega arith)) refl refl refl

  -- where it stands its operation has joined the history
  made_third : (after_crash world number (AppendsMade operation ∷ [])).history ≡ operation ∷ world.history
  made_third = refl

  -- there is no fifth call: the reply is that of the command, and then its clone is down
  behind_last : (choice : Bool) → Crashes choice 4 world (tasks.Add number triple) (AppendsMade operation ∷ []) (ThenCrashed (Did dot message)) (with_clone_down next number)
  behind_last choice = isnt_caught armed adds (subst (λ (calls : ℕ). calls ≤ 4) (sym four_calls) (omega arith)) refl refl refl

-- the lines of that reply
told_then : (dot : Dot) (message : ℕ)
    → reply_text (ThenCrashed (Did dot message)) ≡ (codes "did " ++ (dot_text dot ++ (codes " m" ++ (decimal message ++ line_end ∷ [])))) ++ codes "crashed\n"
unfolding reply_text
told_then dot message = refl
