use Rattle.std.proofs.Common.{ℕ, List, length, get_or, ◌<◌, sym, subst, ◌∙◌, arith}
use Rattle.text_rules.specs.BytePlaces.{HasByte}
use Rattle.rdf_terms.proofs.BodyLemmas.{pass_more}
use Rattle.rdf_terms.proofs.Stops.{byte_here}
use Rattle.rdf_terms.proofs.bodies.pass_plain.Goals as goal

pub loop-i-preserved : goal.loop-i-preserved
loop-i-preserved c =
    let inv = c.loop-i.invariant in
    let text = c.args.text.now in
    let i = c.loop-i.i in
    let bytes = c.as_bytes-bytes.result.now in
    let inside : i < length text = omega arith in
    let here = subst (λ (l : List ℕ). HasByte text i (get_or l i 0)) (sym c.as_bytes-bytes.ensures.value) (byte_here text i inside) in
    record {
      forward = omega arith;
      within = omega arith;
      leads = pass_more text c.args.at i (get_or bytes i 0) c.args.spot c.loop-i.spot c.in-Some.next inv.forward here c.if-byte-eq92.false
          (sym c.is_closed_by.ensures ∙ c.if-is_closed_by.false) (sym c.in-Some.ensures) inv.leads;
    }
