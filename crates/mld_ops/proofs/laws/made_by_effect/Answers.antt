use Rattle.mld_ops.proofs.EffectLaws as laws
use Rattle.mld_ops.proofs.laws.made_by_effect.Goals as goal

pub returns-clause-one : goal.returns-clause-one
returns-clause-one c = laws.one_effect

pub returns-clause-insertion : goal.returns-clause-insertion
returns-clause-insertion c = laws.inserting_ordered

pub returns-clause-deletion : goal.returns-clause-deletion
returns-clause-deletion c = laws.deleting_ordered

pub returns-clause-entry : goal.returns-clause-entry
returns-clause-entry c = laws.effect_is_entry

pub returns-clause-carried : goal.returns-clause-carried
returns-clause-carried c = laws.effect_carried
