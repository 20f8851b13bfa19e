-- The generation of what is read is at most one more after some of the changes of one call.
use Rattle.std.proofs.Common.{ℕ, ◌+◌, ◌≤◌, List, [], ◌∷◌, ◌++◌, sym, arith, subst}
use Rattle.mld_io.specs.Arm.{Arm}
use Rattle.mld_io.specs.Disk.{Sides}
use Rattle.clone_core.specs.journal_sides.Pairs.{Kept, PairReading, KeepsNone, Keeps, Damages, read_banks, with_entry, with_fork}
use Rattle.clone_core.specs.journal_store.Calls.{swapped}
use Rattle.clone_core.specs.clone_parts.KeptSteps.{KeptStep, Created, Appended, Forked, Swapped, changed, after_step, after_steps, ReadsSome}
use Rattle.crash_laws.specs.CarriedSteps.{IsUpTo, AreAppends, WritesOnce}

-- a change of what is kept
changed_up_to : (before after : ℕ) (change : Kept → Kept) (reading : PairReading)
    → ((kept : Kept) → kept.generation ≤ before → (change kept).generation ≤ after) → IsUpTo before reading → IsUpTo after (changed change reading)
changed_up_to before after change KeepsNone grows up = tt
changed_up_to before after change (Keeps kept) grows up = grows kept up
changed_up_to before after change (Damages side place) grows up = tt

-- what is put behind it leaves the generation
appends_up_to : (limit : ℕ) (front rest : List KeptStep) (reading : PairReading) → AreAppends (front ++ rest) → IsUpTo limit reading
    → IsUpTo limit (after_steps front reading)
appends_up_to limit [] rest reading are up = up
appends_up_to limit (Appended entry ∷ front) rest reading are up =
    appends_up_to limit front rest (changed (with_entry entry) reading) are (changed_up_to limit limit (with_entry entry) reading (λ kept most. most) up)
appends_up_to limit (Forked ∷ front) rest reading are up =
    appends_up_to limit front rest (changed with_fork reading) are (changed_up_to limit limit with_fork reading (λ kept most. most) up)
appends_up_to limit (Created head ∷ front) rest reading are up = absurd are
appends_up_to limit (Swapped head entries ∷ front) rest reading are up = absurd are

-- any one change adds one at most
next_up_to : (limit : ℕ) (step : KeptStep) (reading : PairReading) → IsUpTo limit reading → IsUpTo (limit + 1) (after_step step reading)
next_up_to limit (Created head) reading up = omega arith
next_up_to limit (Appended entry) reading up = changed_up_to limit (limit + 1) (with_entry entry) reading (λ kept most. omega (arith, most)) up
next_up_to limit Forked reading up = changed_up_to limit (limit + 1) with_fork reading (λ kept most. omega (arith, most)) up
next_up_to limit (Swapped head entries) reading up = changed_up_to limit (limit + 1) (swapped head entries) reading (λ kept most. omega (arith, most)) up

-- and none leaves it
same_up_to : (limit : ℕ) (reading : PairReading) → IsUpTo limit reading → IsUpTo (limit + 1) reading
same_up_to limit KeepsNone up = tt
same_up_to limit (Keeps kept) up = omega (arith, up)
same_up_to limit (Damages side place) up = tt

-- so it is of a front of changes of which only the first writes a side anew
pub front_up_to : (limit : ℕ) (front rest : List KeptStep) (reading : PairReading) → WritesOnce (front ++ rest) → IsUpTo limit reading
    → IsUpTo (limit + 1) (after_steps front reading)
front_up_to limit [] rest reading once up = same_up_to limit reading up
front_up_to limit (step ∷ front) rest reading once up =
    appends_up_to (limit + 1) front rest (after_step step reading) once (next_up_to limit step reading up)

-- and of what sides read to after one
pub image_up_to : (limit : ℕ) (steps : List KeptStep) (reading : PairReading) (arm : Arm) (image : Sides) → WritesOnce steps → IsUpTo limit reading
    → ReadsSome reading steps arm image → IsUpTo (limit + 1) (read_banks image)
image_up_to limit steps reading arm image once up reads =
    subst (λ (r : PairReading). IsUpTo (limit + 1) r) (sym reads.reads)
    (front_up_to limit reads.front reads.rest reading (subst WritesOnce (sym reads.whole) once) up)
