-- What follows of an update of a clone, by what became of it.
use Rattle.std.proofs.Common.{◌≡◌, ℕ, List}
use Rattle.tree_clock.specs.declared.dots.Dot.{Dot}
use Rattle.tree_clock.specs.declared.dots.Range.{Range}
use Rattle.tree_clock.specs.Lists.{Has}
use Rattle.mld_ops.specs.declared.tagged.Tagged.{Tagged}
use Rattle.mld_ops.specs.Effects.{EffectValue}
use Rattle.mld_ops.specs.History.{dot_at}
use Rattle.mld_ops.specs.Meaning.{IsMeaning}
use Rattle.mld_model.specs.Clone.{Clone, Live, Stored, known_of}
use Rattle.mld_model.specs.CloneStep.{Answers, IsNextTick, Updates, UpdatesOver, is_too_large, has_effect, UpdatesBy}
use Rattle.mld_model.specs.Reply.{Reply, TooMany}
use Rattle.mld_model.specs.World.{World}
use Rattle.mld_model.proofs.StateLaws.{IsState, if_live}

-- an effect by the rule deletes pairs that are present
abbrev pub DeletesPresent : (Dot → List Tagged → EffectValue → Type 0) → Type 0
DeletesPresent rule = (dot : Dot) (pairs : List Tagged) (effect : EffectValue) → rule dot pairs effect
    → (pair : Tagged) → Has effect.deletes pair → Has pairs pair

-- what holds where the clone replies with its state, or that the update has too many solutions, and nothing changes, and where it is live
-- with these pairs and its update has an effect, holds whatever became of the update
module _ (C : Type 0) (world : World) (number : ℕ) (too_large : List Tagged → Type 0) (rule : Dot → List Tagged → EffectValue → Type 0) (clone : Clone) (reply : Reply) (next : World)
    (state : (answer : Reply) → IsState answer → Answers world answer reply next → C) (many : Answers world TooMany reply next → C)
    (does : (stored : Stored) (held : List Range) (pairs : List Tagged) (tick : ℕ) (effect : EffectValue) → clone ≡ Live stored held
    → IsMeaning world.history (known_of stored) pairs → IsNextTick (known_of stored) stored.path tick → rule (dot_at stored.path tick) pairs effect
    → Updates world number stored held pairs effect reply next → C) where
  over : (stored : Stored) (held : List Range) (pairs : List Tagged) → clone ≡ Live stored held → IsMeaning world.history (known_of stored) pairs
      → UpdatesOver world number stored held pairs (too_large pairs) (λ dot effect. rule dot pairs effect) reply next → C
  over stored held pairs live meant (is_too_large large p) = many p
  over stored held pairs live meant (has_effect tick is_next effect has p) = does stored held pairs tick effect live meant is_next has p

  pub if_updates : UpdatesBy world number too_large rule clone reply next → C
  if_updates = if_live C world clone reply next _ state (λ stored held live p. over stored held p.0 live p.1 p.2)
