use Rattle.std.proofs.Common.{◌<◌, length, arith}
use Rattle.jsonld_values.specs.Numbering.{numbered_triple}
use Rattle.jsonld_values.proofs.Mapped.{more_changed}
use Rattle.jsonld_values.proofs.numbering.number_triples.Goals as goal

pub loop-triple-preserved : goal.loop-triple-preserved
loop-triple-preserved c =
    let within : c.loop-triple.triple-index < length c.args.triples.now = omega arith in
    more_changed (numbered_triple c.args.named) c.args.triples.now c.loop-triple.triples c.loop-triple.triple-index c.triple-item.result c.number_triple.new.triple
    within c.loop-triple.invariant c.number_triple.ensures
