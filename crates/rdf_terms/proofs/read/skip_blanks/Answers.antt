use Rattle.std.proofs.Common.{length, get_or, ◌<◌, sym, ◌∙◌, arith}
use Rattle.rdf_terms.proofs.ReadLemmas.{blank_passed}
use Rattle.rdf_terms.proofs.Stops.{byte_of}
use Rattle.rdf_terms.proofs.read.skip_blanks.Goals as goal

pub loop-i-preserved : goal.loop-i-preserved
loop-i-preserved c =
    let text = c.args.text.now in
    let i = c.loop-i.i in
    let inside : i < length text = omega arith in
    let here = byte_of text c.as_bytes-bytes.result.now i c.as_bytes-bytes.ensures.value inside in
    record {
      forward = omega arith;
      within = omega arith;
      leads = blank_passed text c.args.at i (get_or c.as_bytes-bytes.result.now i 0) c.loop-i.invariant.leads here (sym c.is_blank.ensures ∙ c.if-not-is_blank.false);
    }
