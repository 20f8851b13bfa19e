-- What banks read to after some of their changes stands for what the model's clone keeps after a front of the durable steps.
use Rattle.std.proofs.Common.{◌≡◌, ℕ, ◌-◌, ◌<◌, ◌≤◌, List, [], ◌∷◌, ◌++◌, refl, sym, ◌∙◌, ap, arith, subst, Option}
use Rattle.mld_io.specs.Arm.{Arm, Armed}
use Rattle.mld_io.specs.Disk.{Sides}
use Rattle.mld_io.specs.declared.banks.Leave.{Leave}
use Rattle.mld_ops.specs.History.{Operation}
use Rattle.clone_core.specs.journal_sides.Pairs.{PairReading, read_banks}
use Rattle.mld_model.specs.Clone.{Stored}
use Rattle.mld_model.specs.Durable.{DurableStep, AppendsMade, AppendsTaken, AppendsFork, Creates, Swaps, kept_after_step, kept_after, history_after}
use Rattle.mld_model.specs.CrashFronts.{durable_calls, standing_front}
use Rattle.mld_model.proofs.FrontLaws.{IsChosen, ComesWithin, front_chosen}
use Rattle.clone_core.specs.clone_parts.KeptSteps.{KeptStep, after_step, after_steps, calls_of_all, ReadsSome, CatchesIn, ReadsCaught}
use Rattle.crash_laws.specs.CarriedSteps.{Owner, StandsRead, Carries, StandsAfter, StandsSome, StandsCaught}

-- the history after one step and those behind it
history_next : (history : List Operation) (step : DurableStep) (steps : List DurableStep)
    → history_after (history_after history (step ∷ [])) steps ≡ history_after history (step ∷ steps)
history_next history (AppendsMade operation) steps = refl
history_next history (AppendsTaken range) steps = refl
history_next history AppendsFork steps = refl
history_next history (Creates stored) steps = refl
history_next history (Swaps stored) steps = refl

module _ (owner : Owner) where
  -- at first what is read stands for what is kept
  pub carried_first : (history : List Operation) (reading : PairReading) (kept : Option Stored) (steps : List KeptStep) (durable : List DurableStep)
      → Carries owner history reading kept steps durable → StandsRead owner history reading kept
  carried_first history reading kept [] [] c = c
  carried_first history reading kept (step ∷ steps) (one ∷ durable) c = c.0
  carried_first history reading kept [] (one ∷ durable) c = absurd c
  carried_first history reading kept (step ∷ steps) [] c = absurd c

  -- as many calls are made
  pub carried_calls : (history : List Operation) (reading : PairReading) (kept : Option Stored) (steps : List KeptStep) (durable : List DurableStep)
      → Carries owner history reading kept steps durable → calls_of_all steps ≡ durable_calls durable
  carried_calls history reading kept [] [] c = refl
  carried_calls history reading kept (step ∷ steps) (one ∷ durable) c =
      let more : calls_of_all steps ≡ durable_calls durable =
      carried_calls (history_after history (one ∷ [])) (after_step step reading) (kept_after_step kept one) steps durable c.2 in
      omega (arith, c.1, more)
  carried_calls history reading kept [] (one ∷ durable) c = absurd c
  carried_calls history reading kept (step ∷ steps) [] c = absurd c

  -- a front of the changes goes together with one of the durable steps, and so does what is behind them
  pub record CarriesFront (history : List Operation) (reading : PairReading) (kept : Option Stored) (front rest : List KeptStep) (durable : List DurableStep) : Type 0 where
    pub first : List DurableStep
    pub behind : List DurableStep
    pub whole : first ++ behind ≡ durable
    pub calls : calls_of_all front ≡ durable_calls first
    pub carries : Carries owner (history_after history first) (after_steps front reading) (kept_after kept first) rest behind

  pub carried_front : (front rest : List KeptStep) (durable : List DurableStep) (history : List Operation) (reading : PairReading) (kept : Option Stored)
      → Carries owner history reading kept (front ++ rest) durable → CarriesFront history reading kept front rest durable
  carried_front [] rest durable history reading kept c = record { first = []; behind = durable; whole = refl; calls = refl; carries = c }
  carried_front (step ∷ front) rest (one ∷ durable) history reading kept c =
      let more : CarriesFront (history_after history (one ∷ [])) (after_step step reading) (kept_after_step kept one) front rest durable =
      carried_front front rest durable (history_after history (one ∷ [])) (after_step step reading) (kept_after_step kept one) c.2 in
      record {
        first = one ∷ more.first;
        behind = more.behind;
        whole = ap (λ (steps : List DurableStep). one ∷ steps) more.whole;
        calls = omega (arith, c.1, more.calls);
        carries = subst (λ (h : List Operation). Carries owner h (after_steps (step ∷ front) reading) (kept_after kept (one ∷ more.first)) rest more.behind)
            (history_next history one more.first) more.carries;
      }
  carried_front (step ∷ front) rest [] history reading kept c = absurd c

  -- the front of the durable steps that goes together with what an image reads to, which stands for what is kept after it
  pub record StandsFront (history : List Operation) (reading : PairReading) (kept : Option Stored) (front rest : List KeptStep) (durable : List DurableStep) (image : Sides) : Type 0 where
    pub found : CarriesFront history reading kept front rest durable
    pub stands : StandsAfter owner history kept found.first image

  stands_front : (history : List Operation) (reading : PairReading) (kept : Option Stored) (front rest steps : List KeptStep) (durable : List DurableStep) (image : Sides)
      → Carries owner history reading kept steps durable → front ++ rest ≡ steps → read_banks image ≡ after_steps front reading
      → StandsFront history reading kept front rest durable image
  stands_front history reading kept front rest steps durable image c whole reads =
      let f : CarriesFront history reading kept front rest durable =
      carried_front front rest durable history reading kept (subst (λ (s : List KeptStep). Carries owner history reading kept s durable) (sym whole) c) in
      let then : StandsRead owner (history_after history f.first) (after_steps front reading) (kept_after kept f.first) =
      carried_first (history_after history f.first) (after_steps front reading) (kept_after kept f.first) rest f.behind f.carries in
      record { found = f; stands = subst (λ (r : PairReading). StandsRead owner (history_after history f.first) r (kept_after kept f.first)) (sym reads) then }

  -- what an image reads to after some of the changes
  pub carried_some : (history : List Operation) (reading : PairReading) (kept : Option Stored) (steps : List KeptStep) (durable : List DurableStep) (arm : Arm) (image : Sides)
      → Carries owner history reading kept steps durable → ReadsSome reading steps arm image → StandsSome owner history kept durable image
  carried_some history reading kept steps durable arm image c reads =
      let s : StandsFront history reading kept reads.front reads.rest durable image =
      stands_front history reading kept reads.front reads.rest steps durable image c reads.whole reads.reads in
      record { front = s.found.first; rest = s.found.behind; whole = s.found.whole; stands = s.stands }

  -- the caught call comes before those of the step behind the front are all done
  comes_within : (history : List Operation) (reading : PairReading) (kept : Option Stored) (call : ℕ) (leave : Leave) (front rest : List KeptStep)
      (first behind : List DurableStep) → calls_of_all front ≡ durable_calls first → Carries owner history reading kept rest behind
      → CatchesIn (Armed call leave) front rest → ComesWithin call first behind
  comes_within history reading kept call leave front [] first [] calls c within = tt
  comes_within history reading kept call leave front (step ∷ rest) first (one ∷ behind) calls c within = omega (arith, calls, c.1, within)
  comes_within history reading kept call leave front [] first (one ∷ behind) calls c within = absurd c
  comes_within history reading kept call leave front (step ∷ rest) first [] calls c within = absurd c

  -- it stands by some choice
  chosen_front : (history : List Operation) (reading : PairReading) (kept : Option Stored) (front rest : List KeptStep) (durable : List DurableStep)
      (call : ℕ) (leave : Leave) (image : Sides) → StandsFront history reading kept front rest durable image → call < durable_calls durable
      → calls_of_all front - 2 ≤ call → CatchesIn (Armed call leave) front rest → StandsCaught owner history kept call durable image
  chosen_front history reading kept front rest durable call leave image s comes allowed reached =
      let f : CarriesFront history reading kept front rest durable = s.found in
      let within : ComesWithin call f.first f.behind =
      comes_within (history_after history f.first) (after_steps front reading) (kept_after kept f.first) call leave front rest f.first f.behind f.calls f.carries reached in
      let chosen : IsChosen call f.first (f.first ++ f.behind) =
      front_chosen call f.first f.behind (omega (arith, comes, ap durable_calls f.whole)) (omega (arith, allowed, f.calls)) within in
      record {
        choice = chosen.0;
        stands = subst (λ (steps : List DurableStep). StandsAfter owner history kept steps image) (sym (ap (standing_front chosen.0 call) (sym f.whole) ∙ chosen.1)) s.stands;
      }

  -- what it reads to once the call of the number was caught
  pub carried_caught : (history : List Operation) (reading : PairReading) (kept : Option Stored) (steps : List KeptStep) (durable : List DurableStep)
      (call : ℕ) (leave : Leave) (image : Sides)
      → Carries owner history reading kept steps durable → call < calls_of_all steps → ReadsCaught reading steps (Armed call leave) image
      → StandsCaught owner history kept call durable image
  carried_caught history reading kept steps durable call leave image c caught reads =
      chosen_front history reading kept reads.some.front reads.some.rest durable call leave image
      (stands_front history reading kept reads.some.front reads.some.rest steps durable image c reads.some.whole reads.some.reads)
      (omega (arith, caught, carried_calls history reading kept steps durable c)) reads.some.allowed reads.reached
