use Rattle.std.specs.Prelude.{◌≡◌, ◌∷◌, map, take}
use Rattle.std.specs.String.{string_bytes}
use Rattle.shell_run.specs.FolderWords.{shell_name}
use Rattle.shell_run.proofs.folder.named_words.Given as goal

abbrev pub invariant-loop-word : goal.invariant-loop-word
invariant-loop-word l = map (λ w. w.now) l.named.items ≡ shell_name ∷ map (λ w. string_bytes w) (take l.word-index l.words.items)
