-- The pairs that an entry adds, as the list that the program makes.
use Rattle.std.proofs.Common.{◌≡◌, ℕ, List, ◌↔◌, subst}
use Rattle.tree_clock.specs.Lists.{Has}
use Rattle.mld_ops.specs.declared.tagged.Tagged.{Tagged}
use Rattle.mld_ops.specs.Entry.{EntryValue, IsEntry}
use Rattle.mld_ops.specs.Cut.{IsAdded}
use Rattle.op_fusion.specs.Cutting.{AreCuts}
use Rattle.op_fusion.specs.FusionPairs.{InsertsWithin}
use Rattle.op_fusion.proofs.Staying.{inserted_behind}

-- what the entry inserts at ticks that aren't known
pub adds_behind : (entry : EntryValue) (known : ℕ) (adds : List Tagged) → IsEntry entry
    → ((pair : Tagged) → Has adds pair ↔ InsertsWithin entry known entry.range.last pair) → (pair : Tagged) → Has adds pair ↔ IsAdded entry known pair
adds_behind entry known adds e a pair = (
  λ h. let i : InsertsWithin entry known entry.range.last pair = (a pair).0 h in record { path = i.at; above = i.above; inserts = i.stands },
  λ i. (a pair).1 (inserted_behind entry known pair e i.path i.above i.inserts),
)

-- the same last known tick
pub cuts_at : (entry : EntryValue) (known other : ℕ) (state drops adds : List Tagged) → known ≡ other → AreCuts entry known state drops adds → AreCuts entry other state drops adds
cuts_at entry known other state drops adds e c = let P : ℕ → Type 0 = λ n. AreCuts entry n state drops adds in subst P e c
