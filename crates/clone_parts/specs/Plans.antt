-- The plan of a delivery: which entries are taken, in which order, and what taking all of them does to the pairs. `prepare_plan` cites it.
use Rattle.std.specs.Prelude.{◌≡◌, ℕ, List, [], ◌∷◌, ◌++◌, Option, None, Some}
use Rattle.std.specs.List.{AllByRecursion}
use Rattle.tree_clock.specs.declared.dots.Range.{Range}
use Rattle.tree_clock.specs.Clock.{RaisesTo}
use Rattle.tree_clock.specs.Lists.{IsAscending}
use Rattle.mld_ops.specs.declared.tagged.Tagged.{Tagged}
use Rattle.mld_ops.specs.Applies.{Applies}
use Rattle.mld_ops.specs.Entry.{EntryValue, IsEntry}
use Rattle.mld_ops.specs.Held.{ranges_of}
use Rattle.mld_ops.specs.Ready.{last_dot}
use Rattle.mld_ops.specs.Tagged.{tagged_cmp}
use Rattle.mld_model.specs.Local.{LeadsTo, LocallyReleases}
use Rattle.clone_parts.specs.declared.plans.Growing.{Growing}
use Rattle.clone_parts.specs.declared.plans.Plan.{Plan}

-- taking these entries in order leads from the clock and the pairs to another clock and to what a cut leaves of the pairs, and their
-- ranges are told
pub record LeadByCut (ticks : List (List ℕ × ℕ)) (pairs : List Tagged) (entries : List EntryValue) (after : List (List ℕ × ℕ)) (drops adds : List Tagged) (told : List Range) : Type 0 where
  pub are_entries : AllByRecursion IsEntry entries
  pub leads : (new : List Tagged) → Applies drops adds pairs new → LeadsTo ticks pairs entries after new
  pub ranges : told ≡ ranges_of entries

-- the plan's entries lead from the clock and the pairs to its clock, by its cut
abbrev pub IsPlanFrom : List (List ℕ × ℕ) → List Tagged → Plan → Type 0
IsPlanFrom ticks pairs plan = LeadByCut ticks pairs plan.entries.items plan.clock.ticks plan.cut.drops.items plan.cut.adds.items plan.ranges

-- what is held back then: the list of the plan, or where it has none, as before
abbrev pub left_of : Option (List EntryValue) → List EntryValue → List EntryValue
left_of None held = held
left_of (Some left) held = left

-- the plan takes the entry and then those held back that this releases
pub record IsPlanOf (ticks : List (List ℕ × ℕ)) (pairs : List Tagged) (held : List EntryValue) (entry : EntryValue) (plan : Plan) : Type 0 where
  pub leads : IsPlanFrom ticks pairs plan
  pub taken : List EntryValue
  pub entries : plan.entries.items ≡ entry ∷ taken
  pub raised : List (List ℕ × ℕ)
  pub clock : RaisesTo ticks raised (last_dot entry.range)
  pub releases : LocallyReleases raised held taken plan.clock.ticks (left_of plan.left held)

-- ---- a plan that grows

-- the entries so far lead from the clock and the pairs to the clock so far, by what is dropped and added so far
abbrev pub IsGrownFrom : List (List ℕ × ℕ) → List Tagged → Growing → Type 0
IsGrownFrom ticks pairs plan = LeadByCut ticks pairs plan.entries.items plan.clock.ticks plan.drops plan.adds plan.ranges

-- nothing is taken so far
pub record TakesNothing (ticks : List (List ℕ × ℕ)) (plan : Growing) : Type 0 where
  pub clock : plan.clock.ticks ≡ ticks
  pub entries : plan.entries.items ≡ []
  pub drops : plan.drops ≡ []
  pub adds : plan.adds ≡ []
  pub ranges : plan.ranges ≡ []

-- a plan for ascending pairs goes on as one
abbrev pub StaysPlan : List Tagged → Growing → Growing → Type 0
StaysPlan pairs old new = (ticks : List (List ℕ × ℕ)) → IsAscending tagged_cmp pairs → IsGrownFrom ticks pairs old → IsGrownFrom ticks pairs new

-- the plan has grown by the entry
pub record PlansEntry (pairs : List Tagged) (old : Growing) (entry : EntryValue) (new : Growing) : Type 0 where
  pub leads : StaysPlan pairs old new
  pub entries : new.entries.items ≡ old.entries.items ++ entry ∷ []
  pub clock : RaisesTo old.clock.ticks new.clock.ticks (last_dot entry.range)

-- the plan has grown by the entries that its clock released of those held back
pub record PlansReleases (pairs : List Tagged) (old : Growing) (held : List EntryValue) (new : Growing) (left : List EntryValue) : Type 0 where
  pub leads : StaysPlan pairs old new
  pub taken : List EntryValue
  pub entries : new.entries.items ≡ old.entries.items ++ taken
  pub releases : LocallyReleases old.clock.ticks held taken new.clock.ticks left
