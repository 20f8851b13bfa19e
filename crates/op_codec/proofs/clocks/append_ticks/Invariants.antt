use Rattle.op_codec.specs.Stored.{HaveShape}
use Rattle.op_codec.proofs.Shapes.{EachBelow}
use Rattle.op_codec.specs.Clocks.{ticks_bytes}
use Rattle.op_codec.proofs.Appending.{HasItems}
use Rattle.op_codec.proofs.clocks.append_ticks.Given as goal

abbrev pub invariant-loop-path : goal.invariant-loop-path
invariant-loop-path l = record { items : HasItems ticks_bytes l.list l.fn.out.items l.path-index l.out.items; shape : EachBelow HaveShape l.list l.path-index }
