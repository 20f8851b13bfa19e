use Rattle.jrql_eval.proofs.EffectsByPlan as effects
use Rattle.jrql_eval.proofs.effects.one_effect.Goals as goal

pub returns : goal.returns
returns c = effects.one_effect
