use Rattle.std.proofs.Common.{◌+◌, length, refl}
use Rattle.wire_frames.proofs.WrittenFrames.{extended, part_written}
use Rattle.wire_frames.proofs.writing.append_part.Goals as goal

pub returns-clause-ok : goal.returns-clause-ok
returns-clause-ok c =
    extended c.extend_from_slice.result c.put_u32-4.new.out.items c.args.piece.now c.extend_from_slice.new.self.items c.extend_from_slice.ensures.items
    (part_written c.args.out.now.items c.put_u8.new.out.items c.put_u32.new.out.items c.put_u32-2.new.out.items c.put_u32-3.new.out.items c.put_u32-4.new.out.items c.extend_from_slice.new.self.items
    c.args.number c.args.index c.args.count (12 + length c.args.piece.now) c.args.piece.now refl c.in_ok-put_u8.ensures.ok c.in_ok-put_u32.ensures.ok c.in_ok-put_u32-2.ensures.ok c.in_ok-put_u32-3.ensures.ok c.in_ok-put_u32-4.ensures.ok)
