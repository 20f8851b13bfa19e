use Rattle.std.proofs.Common.{◌≡◌, ◌∙◌, ap, replicate, arith}
use Rattle.disk_model.specs.BankSteps.{blank_bank}
use Rattle.disk_model.proofs.banks.blank_banks.Goals as goal

pub returns : goal.returns
returns c = let at_end : c.loop.counter ≡ c.args.count = omega (arith, c.loop-test.false, c.loop.auto.counter-end) in c.loop.invariant.0 ∙ ap (λ n. replicate n blank_bank) at_end
