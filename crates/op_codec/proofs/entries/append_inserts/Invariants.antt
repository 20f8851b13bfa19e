use Rattle.op_codec.specs.Stored.{HasInsertShape}
use Rattle.op_codec.proofs.Shapes.{EachBelow}
use Rattle.op_codec.specs.Entries.{insert_bytes}
use Rattle.op_codec.proofs.Appending.{HasItems}
use Rattle.op_codec.proofs.entries.append_inserts.Given as goal

abbrev pub invariant-loop-triple : goal.invariant-loop-triple
invariant-loop-triple l = record { items : HasItems insert_bytes l.inserts l.fn.out.items l.triple-index l.out.items; shape : EachBelow HasInsertShape l.inserts l.triple-index }
