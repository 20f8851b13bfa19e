use Rattle.std.specs.Prelude.{◌≡◌, ◌∷◌, map, take}
use Rattle.std.specs.String.{string_bytes}
use Rattle.node_run.specs.Words.{node_name}
use Rattle.node_run.proofs.node.named_words.Given as goal

abbrev pub invariant-loop-word : goal.invariant-loop-word
invariant-loop-word l = map (λ w. w.now) l.named.items ≡ node_name ∷ map (λ w. string_bytes w) (take l.word-index l.words.items)
