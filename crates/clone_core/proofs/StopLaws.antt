-- Laws of what a clone's calls leave that were refused.
use Rattle.std.proofs.Common.{◌≡◌, ◌∙◌, ◌+◌, ◌⊎◌, Bool, true, false, Option, None, Some, inl, inr, refl, ap, subst}
use Rattle.mld_io.specs.Arm.{Meter}
use Rattle.mld_io.specs.Disk.{Log}
use Rattle.journal_store.specs.Closing.{ClosesFor, MayTurn, LeavesRefused}
use Rattle.journal_store.specs.Standing.{JournalValue}
use Rattle.journal_store.specs.declared.faults.Why.{Why}
use Rattle.journal_store.specs.declared.faults.Why.TheVariants as why
use Rattle.mld_model.specs.Local.{LocalClone}
use Rattle.clone_core.specs.Banked.{BankedClone}
use Rattle.clone_parts.specs.CloneFaults.{update_fault_of, receive_fault_of, keep_fault_of}
use Rattle.clone_core.specs.CloneClosing.{ShutsClone, LeavesClone, update_stop, receive_stop, keep_stop}
use Rattle.clone_core.specs.CallParts.{StopsClone}

-- a clone on its journal
abbrev pub banked : {B : Type 0} → LocalClone → JournalValue B → BankedClone B
banked local journal = record { local = local; generation = journal.generation; closed = journal.closed; banks = journal.banks }

-- a generation that stays, or turns, where the call may have swapped
turned : {B : Type 0} {Swaps : Type 0} (swaps : Bool) (before behind : JournalValue B) → (swaps ≡ true → Swaps) → MayTurn swaps before behind
    → (behind.generation ≡ before.generation) ⊎ (Swaps × (behind.generation ≡ before.generation + 1))
turned false before behind may h = inl h.1
turned true before behind may (inl h) = inl h.1
turned true before behind may (inr h) = inr (may refl, h.1)

module _ {B : Type 0} (log : B → Option Log) (meter : B → Meter) {Due Swaps : Type 0} (due : Due) (swaps : Bool) (may : swaps ≡ true → Swaps) (before behind : JournalValue B)
    (local : LocalClone) (old : BankedClone B) (same : banked local before ≡ old) where
  shuts : (reason : Why) → ClosesFor log meter swaps reason before behind → ShutsClone log meter Due Swaps old reason (banked local behind)
  shuts reason h =
      subst (λ (clone : BankedClone B). ShutsClone log meter Due Swaps clone reason (banked local behind)) same
      (record { was = h.was; due = due; now = h.now; called = h.called; local = refl; generation = turned swaps before behind may h.turned })

  stays : behind ≡ before → banked local behind ≡ old
  stays j = ap (banked local) j ∙ same

  -- appends were refused
  pub refused_leaves : (told : Why) → LeavesRefused log meter swaps before behind told → LeavesClone log meter Due Swaps old (banked local behind) (Some told)
  refused_leaves why.Device h = shuts why.Device h
  refused_leaves why.NoMemory (inl j) = inl (stays j)
  refused_leaves why.NoMemory (inr h) = inr (shuts why.NoMemory h)

  -- so it is of the parts that append
  pub receive_stops : (told : Why) → LeavesRefused log meter swaps before behind told → StopsClone log meter Due Swaps old (banked local behind) (receive_stop (receive_fault_of told))
  receive_stops why.Device h = refused_leaves why.Device h
  receive_stops why.NoMemory h = refused_leaves why.NoMemory h

  pub update_stops : (told : Why) → LeavesRefused log meter swaps before behind told → StopsClone log meter Due Swaps old (banked local behind) (update_stop (update_fault_of told))
  update_stops why.Device h = refused_leaves why.Device h
  update_stops why.NoMemory h = refused_leaves why.NoMemory h

  pub keep_stops : (told : Why) → LeavesRefused log meter swaps before behind told → StopsClone log meter Due Swaps old (banked local behind) (keep_stop (keep_fault_of told))
  keep_stops why.Device h = refused_leaves why.Device h
  keep_stops why.NoMemory h = refused_leaves why.NoMemory h

-- ---- what a part of a call leaves, where there is something to do
pub stops_due : {B : Type 0} (log : B → Option Log) (meter : B → Meter) (Due : Type 0) (old new : BankedClone B) (stop : Option Why) → Due
    → StopsClone log meter (Unit {0}) ⊥ old new stop → StopsClone log meter Due ⊥ old new stop
stops_due log meter Due old new None due h = h
stops_due log meter Due old new (Some why.Device) due s =
    record { was = s.was; due = due; now = s.now; called = s.called; local = s.local; generation = s.generation }
stops_due log meter Due old new (Some why.NoMemory) due (inl same) = inl same
stops_due log meter Due old new (Some why.NoMemory) due (inr s) =
    inr (record { was = s.was; due = due; now = s.now; called = s.called; local = s.local; generation = s.generation })

-- a part that was stopped leaves what the call leaves, where there is as much to do for the call
pub stops_leave : {B : Type 0} (log : B → Option Log) (meter : B → Meter) (Part Due : Type 0) (old new : BankedClone B) (stop : Option Why) → (Part → Due)
    → StopsClone log meter Part ⊥ old new stop → LeavesClone log meter Due ⊥ old new stop
stops_leave log meter Part Due old new None due h = absurd h
stops_leave log meter Part Due old new (Some why.Device) due h =
    record { was = h.was; due = due h.due; now = h.now; called = h.called; local = h.local; generation = h.generation }
stops_leave log meter Part Due old new (Some why.NoMemory) due (inl h) = inl h
stops_leave log meter Part Due old new (Some why.NoMemory) due (inr h) =
    inr (record { was = h.was; due = due h.due; now = h.now; called = h.called; local = h.local; generation = h.generation })
