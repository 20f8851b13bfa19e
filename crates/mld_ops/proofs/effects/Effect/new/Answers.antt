use Rattle.rdf_terms.specs.OrderLaws.{triple_exact}
use Rattle.mld_ops.proofs.TaggedLaws.{tagged_exact}
use Rattle.mld_ops.proofs.effects.Effect.new.Goals as goal

pub invariant_of-result : goal.invariant_of-result
invariant_of-result c = record {
  deletes = (c.put_in_order.ensures tagged_exact).ascending;
  inserts = (c.put_in_order-2.ensures triple_exact).ascending;
}

pub returns : goal.returns
returns c = record { deletes_kept = c.put_in_order.ensures tagged_exact; inserts_kept = c.put_in_order-2.ensures triple_exact }
