-- Laws of changes of what banks keep, one after another, and of what a crash leaves in the middle of them.
use Rattle.std.specs.Prelude.{◌≡◌, ◌⊎◌, ℕ, ◌+◌, ◌-◌, ◌<◌, ◌≤◌, List, [], ◌∷◌, ◌++◌, Option, Some}
use Rattle.std.proofs.Common.{refl, sym, ◌∙◌, ap, subst, inl, inr, arith, append_assoc, append-nil}
use Rattle.mld_io.specs.Arm.{Arm, Unarmed, Armed, Caught, LowersAtMost, LowersBy}
use Rattle.mld_io.specs.Disk.{Call, Log, Sides, grown_by, seen, MayLeave, IsSettled, LeavesMeanwhile}
use Rattle.mld_io.proofs.DiskLaws.{AtEachMoment-weaken, AtEachMoment-last, LeavesMeanwhile-then}
use Rattle.mld_ops.specs.Entry.{EntryValue}
use Rattle.journal_store.specs.journal_sides.Pairs.{PairReading, read_banks}
use Rattle.journal_store.specs.Crashes.{Gate, Allows, LeavesEither, ReadsEither}
use Rattle.journal_store.proofs.DeviceLaws.{allows_then}
use Rattle.clone_parts.specs.KeptSteps.{KeptStep, Appended, after_step, after_steps, calls_of, calls_of_all, appends, ReadsSome, CatchesIn, ReadsCaught, LeavesSome}

-- ---- lists of changes

pub after_more : (first then : List KeptStep) (before : PairReading) → after_steps (first ++ then) before ≡ after_steps then (after_steps first before)
after_more [] then before = refl
after_more (step ∷ first) then before = after_more first then (after_step step before)

pub calls_more : (first then : List KeptStep) → calls_of_all (first ++ then) ≡ calls_of_all first + calls_of_all then
calls_more [] then = omega arith
calls_more (step ∷ first) then = let more = calls_more first then in omega (arith, more)

pub appends_more : (first then : List EntryValue) → appends (first ++ then) ≡ appends first ++ appends then
appends_more [] then = refl
appends_more (entry ∷ first) then = ap (λ (steps : List KeptStep). Appended entry ∷ steps) (appends_more first then)

-- ---- arms

pub allows_less : (less more : ℕ) (arm : Arm) → less ≤ more → Allows more arm → Allows less arm
allows_less less more Unarmed fits a = tt
allows_less less more (Armed number leave) fits a = omega (arith, fits, a)
allows_less less more Caught fits a = omega (arith, fits, a)

allows_none : (arm : Arm) → Allows 0 arm
allows_none Unarmed = tt
allows_none (Armed number leave) = omega arith
allows_none Caught = refl

-- ---- what a crash leaves

-- no change was made
pub reads_before : (before : PairReading) (steps : List KeptStep) (arm : Arm) (image : Sides) → read_banks image ≡ before → ReadsSome before steps arm image
reads_before before steps arm image reads = record { front = []; rest = steps; whole = refl; allowed = allows_none arm; reads = reads }

-- more changes were to come
pub reads_more : (before : PairReading) (steps more : List KeptStep) (arm : Arm) (image : Sides) → ReadsSome before steps arm image → ReadsSome before (steps ++ more) arm image
reads_more before steps more arm image some = record {
  front = some.front;
  rest = some.rest ++ more;
  whole = sym (append_assoc some.front some.rest more) ∙ ap (λ (all : List KeptStep). all ++ more) some.whole;
  allowed = some.allowed;
  reads = some.reads;
}

-- all changes were made, and a front of more
pub reads_then : (before : PairReading) (first then : List KeptStep) (was mid : Arm) (image : Sides) → LowersBy (calls_of_all first) was mid → ReadsSome (after_steps first before) then mid image
    → ReadsSome before (first ++ then) was image
reads_then before first then was mid image lowered some =
    let fits : calls_of_all (first ++ some.front) - 2 ≤ calls_of_all first + (calls_of_all some.front - 2) = omega (arith, calls_more first some.front) in
    record {
      front = first ++ some.front;
      rest = some.rest;
      whole = append_assoc first some.front some.rest ∙ ap (λ (all : List KeptStep). first ++ all) some.whole;
      allowed = allows_less (calls_of_all (first ++ some.front) - 2) (calls_of_all first + (calls_of_all some.front - 2)) was fits
          (allows_then (calls_of_all first) (calls_of_all some.front - 2) was mid lowered some.allowed);
      reads = some.reads ∙ sym (after_more first some.front before);
    }

catches_then : (first front rest : List KeptStep) (was mid : Arm) → LowersBy (calls_of_all first) was mid → CatchesIn mid front rest → CatchesIn was (first ++ front) rest
catches_then first front rest Unarmed mid lowered catches = tt
catches_then first front [] (Armed number leave) mid lowered catches = tt
catches_then first front (step ∷ rest) (Armed number leave) mid lowered catches =
    let less : number - calls_of_all first < calls_of_all front + calls_of step = subst (λ (arm : Arm). CatchesIn arm front (step ∷ rest)) lowered.1 catches in
    omega (arith, lowered.0, less, calls_more first front)
catches_then first front rest Caught mid lowered catches = tt

catches_more : (front rest steps more : List KeptStep) (was : Arm) → front ++ rest ≡ steps → LowersAtMost (calls_of_all steps) was Caught → CatchesIn was front rest → CatchesIn was front (rest ++ more)
catches_more front rest steps more Unarmed whole few catches = tt
catches_more front [] steps [] (Armed number leave) whole few catches = tt
catches_more front [] steps (step ∷ more) (Armed number leave) whole few catches =
    let same : calls_of_all steps ≡ calls_of_all front = ap calls_of_all (sym whole ∙ append-nil front) in
    omega (arith, few, same)
catches_more front (next ∷ rest) steps more (Armed number leave) whole few catches = catches
catches_more front rest steps more Caught whole few catches = tt

-- what a crash leaves of a log that is told, at each moment and once the device has caught a call

-- nothing was changed
pub some_none : (log : Log) (now : Option Log) (before : PairReading) (steps : List KeptStep) (was is : Arm) → now ≡ Some log → IsSettled log → read_banks (seen log) ≡ before
    → (is ≡ Caught → (was ≡ Caught) ⊎ (steps ≡ [])) → LeavesSome log now before steps was is
unfolding reads_before
some_none log now before steps was is told settled reads caught = record {
  moments = record { added = []; now_is = told; each = λ image left. reads_before before steps was image (at image left) };
  caught = λ c l e image left.
      let same : l ≡ log = cc (told, e) in
      record {
        some = reads_before before steps was image (at image (subst (λ (m : Log). MayLeave m image) same left));
        reached = by was (caught c);
      };
} where
  at : (image : Sides) → MayLeave log image → read_banks image ≡ before
  at image left = ap read_banks (settled image left) ∙ reads

  by : (arm : Arm) → (arm ≡ Caught) ⊎ (steps ≡ []) → CatchesIn arm [] steps
  by arm (inl e) = subst (λ (a : Arm). CatchesIn a [] steps) (sym e) tt
  by arm (inr e) = subst (λ (all : List KeptStep). CatchesIn arm [] all) (sym e) (none arm) where
    none : (a : Arm) → CatchesIn a [] []
    none Unarmed = tt
    none (Armed number leave) = tt
    none Caught = tt

-- one change
pub some_one : (old : Log) (now : Option Log) (before : PairReading) (step : KeptStep) (was is : Arm) (gate : Gate) → calls_of_all (step ∷ []) - 2 ≡ gate.before
    → LeavesEither old now before (after_step step before) was gate → LowersAtMost (calls_of step) was is → LeavesSome old now before (step ∷ []) was is
unfolding reads_before
some_one old now before step was is gate calls moments few = record {
  moments = record { added = moments.added; now_is = moments.now_is; each = AtEachMoment-weaken old moments.added (ReadsEither before (after_step step before) was gate) (λ cs image. ReadsSome before (step ∷ []) was image) reads moments.each };
  caught = λ c log e image left.
      let same : log ≡ grown_by moments.added old = cc (moments.now_is, e) in
      caught_one image (AtEachMoment-last old moments.added (ReadsEither before (after_step step before) was gate) moments.each image (subst (λ (m : Log). MayLeave m image) same left)) (subst (LowersAtMost (calls_of step) was) c few);
} where
  reads : (cs : List Call) (image : Sides) → ReadsEither before (after_step step before) was gate cs image → ReadsSome before (step ∷ []) was image
  reads cs image (inl e) = reads_before before (step ∷ []) was image e
  reads cs image (inr h) = record { front = step ∷ []; rest = []; whole = refl; allowed = subst (λ (n : ℕ). Allows n was) (sym calls) h.0.allowed; reads = h.1 }

  first_caught : (arm : Arm) → LowersAtMost (calls_of step) arm Caught → CatchesIn arm [] (step ∷ [])
  first_caught Unarmed few' = tt
  first_caught (Armed number leave) few' = omega (arith, few')
  first_caught Caught few' = tt

  none_caught : (arm : Arm) → CatchesIn arm (step ∷ []) []
  none_caught Unarmed = tt
  none_caught (Armed number leave) = tt
  none_caught Caught = tt

  caught_one : {cs : List Call} (image : Sides) → ReadsEither before (after_step step before) was gate cs image → LowersAtMost (calls_of step) was Caught → ReadsCaught before (step ∷ []) was image
  caught_one {cs} image (inl e) few' = record { some = reads cs image (inl e); reached = first_caught was few' }
  caught_one {cs} image (inr h) few' = record { some = reads cs image (inr h); reached = none_caught was }

-- more changes were to come
pub some_more : (old : Log) (now : Option Log) (before : PairReading) (steps more : List KeptStep) (was is : Arm) → LowersAtMost (calls_of_all steps) was is → LeavesSome old now before steps was is
    → LeavesSome old now before (steps ++ more) was is
unfolding reads_more
some_more old now before steps more was is few leaves = record {
  moments = record {
    added = leaves.moments.added;
    now_is = leaves.moments.now_is;
    each = AtEachMoment-weaken old leaves.moments.added (λ cs image. ReadsSome before steps was image) (λ cs image. ReadsSome before (steps ++ more) was image) (λ cs image. reads_more before steps more was image) leaves.moments.each;
  };
  caught = λ c log e image left.
      let at = leaves.caught c log e image left in
      record {
        some = reads_more before steps more was image at.some;
        reached = catches_more at.some.front at.some.rest steps more was at.some.whole (subst (LowersAtMost (calls_of_all steps) was) c few) at.reached;
      };
}

-- all of some changes were made, and then more were begun
pub some_then : (old mid : Log) (now : Option Log) (before : PairReading) (first then : List KeptStep) (was half is : Arm) → LeavesSome old (Some mid) before first was half → LowersBy (calls_of_all first) was half
    → LeavesSome mid now (after_steps first before) then half is → LeavesSome old now before (first ++ then) was is
unfolding reads_then
some_then old mid now before first then was half is one lowered two = record {
  moments = LeavesMeanwhile-then old one.moments.added (λ cs image. ReadsSome before (first ++ then) was image) now
      (AtEachMoment-weaken old one.moments.added (λ cs image. ReadsSome before first was image) (λ cs image. ReadsSome before (first ++ then) was image) (λ cs image. reads_more before first then was image) one.moments.each)
      (subst (λ (l : Log). LeavesMeanwhile l now (λ cs image. ReadsSome before (first ++ then) was image)) mid_is (record {
        added = two.moments.added;
        now_is = two.moments.now_is;
        each = AtEachMoment-weaken mid two.moments.added (λ cs image. ReadsSome (after_steps first before) then half image) (λ cs image. ReadsSome before (first ++ then) was image) (λ cs image. reads_then before first then was half image lowered) two.moments.each;
      }));
  caught = λ c log e image left.
      let at = two.caught c log e image left in
      record {
        some = reads_then before first then was half image lowered at.some;
        reached = catches_then first at.some.front at.some.rest was half lowered at.reached;
      };
} where
  mid_is : mid ≡ grown_by one.moments.added old
  mid_is = cc (one.moments.now_is)
