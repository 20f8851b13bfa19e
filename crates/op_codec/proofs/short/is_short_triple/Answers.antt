use Rattle.std.proofs.Common.{refl}
use Rattle.op_codec.proofs.ShortTriples.{short_iri}
use Rattle.op_codec.proofs.short.is_short_triple.Goals as goal

pub returns-in-Iri : goal.returns-in-Iri
returns-in-Iri c = (λ h. short_iri c.args.triple.now c.kept.ensures.within c.in-Iri.field-0 c.in-Iri.is, λ h. refl)
