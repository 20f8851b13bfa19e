use Rattle.std.proofs.Common.{◌≡◌, ℕ, List, map, take}
use Rattle.mld_ops.proofs.pair_lists.front_paths.Given as goal

abbrev pub invariant-loop-path : goal.invariant-loop-path
invariant-loop-path l = l.paths.items ≡ map (λ (ticks : List ℕ × ℕ). ticks.0) (take l.path-index l.list)
