-- The body of a side that is written anew.
use Rattle.std.proofs.Common.{◌∙◌, ◌<◌, ◌^◌, ◌++◌, ap, List, ℕ, arith}
use Rattle.journal_sides.specs.Heads.{head_value, head_bytes}
use Rattle.journal_sides.proofs.WrittenLaws.{volume_written, volume_stored, good_short}
use Rattle.journal_sides.proofs.head_writing.side_body.Goals as goal

pub append_blocks-requires : goal.append_blocks-requires
append_blocks-requires c = good_short _ c.args.entries.now c.requires.entries

pub returns-clause-ok : goal.returns-clause-ok
returns-clause-ok c =
    volume_written c.args.generation (head_value c.args.head.now) c.args.entries.now c.append_head.new.out.items c.append_blocks.new.out.items c.put_u8.new.out.items
    (c.in_ok-append_head.ensures.ok ∙ ap (λ (l : List ℕ). l ++ head_bytes (record { generation = c.args.generation; head = head_value c.args.head.now })) c.new-body.ensures.items)
    c.in_ok-append_blocks.ensures.ok c.in_ok-put_u8.ensures.ok

pub returns-clause-stored : goal.returns-clause-stored
returns-clause-stored c =
    let fits : c.args.generation < 2 ^ 64 = omega (arith, c.ranges.generation) in
    volume_stored c.args.generation (head_value c.args.head.now) c.args.entries.now fits c.in_ok-append_head.ensures.stored c.requires.entries c.in_ok-append_blocks.ensures.stored
