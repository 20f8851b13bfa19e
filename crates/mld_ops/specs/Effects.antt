-- The effect of an update: what it deletes and what it inserts (in the manner of SPARQL 1.1 Update, with tagged triples), the operation
-- that is made by it, and the entry of that operation.
use Rattle.std.specs.Prelude.{◌≡◌, ℕ, ◌+◌, List, [], ◌∷◌, map, ◌↔◌}
use Rattle.rdf_terms.specs.declared.terms.Triple.{Triple}
use Rattle.rdf_terms.specs.Order.{triple_cmp}
use Rattle.tree_clock.specs.declared.dots.Dot.{Dot}
use Rattle.tree_clock.specs.declared.dots.Range.{Range}
use Rattle.tree_clock.specs.Clock.{ticks_of, Covers}
use Rattle.tree_clock.specs.Lists.{Has, IsAscending}
use Rattle.mld_ops.specs.declared.tagged.Tagged.{Tagged}
use Rattle.mld_ops.specs.Tagged.{tagged_cmp}
use Rattle.mld_ops.specs.Effect.{range_of, PairsAfter}
use Rattle.mld_ops.specs.Entry.{EntryValue}
use Rattle.mld_ops.specs.History.{Operation}
use Rattle.mld_ops.specs.InOrder.{IsPutInOrder}

-- an effect as contracts see it: the pairs that are deleted, and the triples that are inserted
pub record EffectValue : Type 0 where
  pub deletes : List Tagged
  pub inserts : List Triple

-- both lists ascend, so each pair and each triple stands once
pub record IsInOrder (effect : EffectValue) : Type 0 where
  pub deletes : IsAscending tagged_cmp effect.deletes
  pub inserts : IsAscending triple_cmp effect.inserts

-- the effect of the pairs and the triples of two lists, whatever their order and however often each stands there
pub record IsEffectOf (deletes : List Tagged) (inserts : List Triple) (effect : EffectValue) : Type 0 where
  pub deletes_kept : IsPutInOrder tagged_cmp deletes effect.deletes
  pub inserts_kept : IsPutInOrder triple_cmp inserts effect.inserts

-- nothing is deleted, and nothing is inserted: no operation is made
pub record ChangesNothing (effect : EffectValue) : Type 0 where
  pub deletes : effect.deletes ≡ []
  pub inserts : effect.inserts ≡ []

-- ---- two cases

-- one triple is inserted
abbrev pub inserting : Triple → EffectValue
inserting triple = record { deletes = []; inserts = triple ∷ [] }

-- pairs are deleted
abbrev pub deleting : List Tagged → EffectValue
deleting pairs = record { deletes = pairs; inserts = [] }

-- of a list of pairs those of a triple, ascending
pub record ArePairsOf (triple : Triple) (pairs found : List Tagged) : Type 0 where
  pub ascending : IsAscending tagged_cmp found
  pub members : (pair : Tagged) → Has found pair ↔ (Has pairs pair × (pair.triple ≡ triple))

-- all pairs of one triple are deleted
pub record DeletesAll (triple : Triple) (pairs : List Tagged) (effect : EffectValue) : Type 0 where
  pub found : List Tagged
  pub are : ArePairsOf triple pairs found
  pub is : effect ≡ deleting found

-- ---- what is made by an effect

-- the effect may be made at the dot by one who knows these ticks: the dot is the next one of its path, and the ticks have the dots of the
-- pairs that are deleted
pub record MayMake (ticks : List (List ℕ × ℕ)) (dot : Dot) (effect : EffectValue) : Type 0 where
  pub ordered : IsInOrder effect
  pub next : dot.tick ≡ ticks_of ticks dot.path + 1
  pub covered : (pair : Tagged) → Has effect.deletes pair → Covers ticks pair.dot

-- the operation of the effect at a dot, behind its causes
abbrev pub operation_of : Dot → List Range → EffectValue → Operation
operation_of dot causes effect = record { dot = dot; causes = causes; deletes = effect.deletes; inserts = effect.inserts }

-- the pairs behind the effect at a dot: those before it that it doesn't delete, and its triples with that dot
abbrev pub IsAfterEffect : EffectValue → Dot → List Tagged → List Tagged → Type 0
IsAfterEffect effect dot before after =
    PairsAfter before effect.deletes (λ pair. (pair.dot ≡ dot) × Has effect.inserts pair.triple) after

-- the entry of the effect at a dot, with what is known then
abbrev pub effect_entry : Dot → List (List ℕ × ℕ) → EffectValue → EntryValue
effect_entry dot time effect = record {
  range = range_of dot;
  time = time;
  deletes = effect.deletes;
  inserts = map (λ (triple : Triple). (triple, dot.tick)) effect.inserts;
}
