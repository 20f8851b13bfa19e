use Rattle.std.proofs.Common.{◌≡◌, ◌∙◌, ℕ, ◌-◌, List, length, take, ap, arith}
use Rattle.mld_ops.specs.Entry.{EntryValue}
use Rattle.clone_parts.proofs.Turning.{turned_front}
use Rattle.clone_parts.proofs.memory.drop_front.Goals as goal

pub returns : goal.returns
returns c =
    let entries = c.args.entries.now.items in
    let count : c.len.result - c.args.count ≡ length entries - c.args.count = omega (arith, c.len.ensures) in
    c.truncate.ensures.items ∙ ap (λ (n : ℕ). take n c.rotate_left.new.self.items) count
    ∙ ap (λ (es : List EntryValue). take (length entries - c.args.count) es) c.rotate_left.ensures.items ∙ turned_front c.args.count entries
