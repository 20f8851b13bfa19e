use Rattle.std.proofs.Common.{◌≡◌, ◌≤◌}
use Rattle.std.specs.Prelude.{replicate, vec_len, vec_capacity}
use Rattle.disk_model.specs.BankSteps.{blank_bank}
use Rattle.disk_model.proofs.banks.blank_banks.Given as goal

-- as many blank ones as were counted, with room for all
abbrev pub invariant-loop : goal.invariant-loop
invariant-loop l = (l.banks.items ≡ replicate l.counter blank_bank) × (vec_len l.banks ≡ l.counter) × (l.count ≤ vec_capacity l.banks)
