-- The meter of a device that can't be made to crash.
use Rattle.std.proofs.Common.{rules, ◌≡◌, ℕ, ◌-◌, ◌^◌, ◌≤◌, inr, refl, arith, Result, Ok, Err, IsOk}
use Rattle.mld_io.specs.declared.faults.IoFault.{IoFault}
use Rattle.mld_io.specs.declared.faults.IoFault.TheVariants as io
use Rattle.mld_io.specs.Arm.{Metered}
use Rattle.mld_io.specs.Faults.{counted}
use Rattle.mld_io.specs.Files.{unarmed}

-- calls that were done
pub metered_done : {T : Type 0} (calls count : ℕ) (value : T)
    → Metered calls (unarmed count) (unarmed count) (IsOk {E = IoFault} (Ok value)) (◌≡◌ {A = Result T IoFault} (Ok value) (Err io.Failed))
metered_done calls count value = record {
  later = omega arith;
  real_later = omega arith;
  lowered = refl;
  done = λ _. record { lowered = refl; faults_are = refl; real_faults_are = refl };
  failed = λ e. search (e, rules);
  cause = λ e. search (e, rules);
  quiet = λ _. (refl, refl);
  caught = λ _. refl;
}

-- calls of which one failed
pub metered_failed : {T : Type 0} (calls count : ℕ) → count ≤ 2 ^ 64 - 1
    → Metered calls (unarmed count) (unarmed (counted count)) (IsOk {T = T} (Err io.Failed)) (◌≡◌ {A = Result T IoFault} (Err io.Failed) (Err io.Failed))
metered_failed calls count fits = record {
  later = omega (arith, fits);
  real_later = omega (arith, fits);
  lowered = refl;
  done = λ d. search (d, rules);
  failed = λ _. refl;
  cause = λ _. inr refl;
  quiet = λ fine. absurd (fine refl);
  caught = λ e. search (e, rules);
}
