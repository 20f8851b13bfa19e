use Rattle.std.proofs.Common.{◌≡◌, ℕ, List, [], ◌∷◌, ◌++◌, true, ap, ◌∙◌}
use Rattle.tree_clock.specs.Path.{path_cmp}
use Rattle.op_codec.specs.Clocks.{last_path}
use Rattle.op_codec.specs.StoredLists.{is_above_one}
use Rattle.op_codec.proofs.ClockReading.{raised_last}
use Rattle.op_codec.proofs.clocks.add_last.Goals as goal

pub returns : goal.returns
returns c =
    let same : c.reserve.new.self.ticks ≡ c.args.clock.now.ticks = c.reserve.ensures.ticks in
    let above : is_above_one path_cmp (last_path c.reserve.new.self.ticks) c.args.dot.now.path ≡ true =
    ap (λ (ticks : List (List ℕ × ℕ)). is_above_one path_cmp (last_path ticks) c.args.dot.now.path) same ∙ c.requires.above in
    raised_last c.reserve.new.self.ticks c.raise.new.self.ticks c.args.dot.now c.ticks-before.ensures.clock c.raise.ensures.clock c.raise.ensures.raised above c.requires.positive
    ∙ ap (λ (ticks : List (List ℕ × ℕ)). ticks ++ (c.args.dot.now.path, c.args.dot.now.tick) ∷ []) same
