use Rattle.std.proofs.Common.{◌+◌, ◌≤◌, List, ℕ, MatchBool, [], drop, length, sym, ap, subst, arith, length-drop, if◌then◌else◌}
use Rattle.tree_clock.specs.Path.{zero_letter, one_letter}
use Rattle.tree_clock.specs.Trees.{ticks_at, IsWithinBut, ExceedsBut}
use Rattle.tree_clock.proofs.TreeLemmas.{drop_letter, IsWithinBut-sons}
use Rattle.tree_clock.proofs.trees.Tree.+leq_elsewhere.Goals as goal

pub returns-then-own : goal.returns-then-own
returns-then-own t c = (
  [],
  λ e.
      let long = ap length e in
      let rest = length-drop c.args.depth c.args.path.now in
      absurd (omega arith),
  omega arith,
)

pub returns-then-leq : goal.returns-then-leq
returns-then-leq t c =
    let a = c.args.self.now in
    let b = c.args.other.now in
    let r = c.leq_elsewhere.result in
    let root : ticks_at a [] ≤ ticks_at b [] = omega arith in
    let led = drop_letter c.args.path.now c.args.depth (if c.letter-one.result then one_letter else zero_letter) (omega arith) c.letter-one.ensures in
    subst (λ (but : List ℕ). MatchBool r (IsWithinBut but a b) (ExceedsBut but a b)) (sym led)
    (IsWithinBut-sons c.letter-one.result r a b c.son.result.now c.son-2.result.now c.son-then-leq.result.now c.son-there.result.now (drop (c.args.depth + 1) c.args.path.now)
    root c.son.ensures c.son-2.ensures c.if-leq.ensures c.son-then-leq.ensures c.son-there.ensures c.leq_elsewhere.ensures)
