-- Laws of how many calls of the device were made.
use Rattle.std.proofs.Common.{◌≡◌, ℕ, ◌+◌, ◌-◌, ◌*◌, refl, ap, subst, arith}
use Rattle.mld_io.specs.Arm.{Arm, Unarmed, Armed, Caught, Meter, LowersBy, Metered}
use Rattle.mld_io.proofs.ArmLaws.{LowersAtMost-none, Metered-then}
use Rattle.journal_store.proofs.Reading.{metered_as}

-- no call was made
none_lowers : (arm : Arm) → LowersBy 0 arm arm
none_lowers Unarmed = refl
none_lowers (Armed number leave) = let e : number ≡ number - 0 = omega arith in (omega arith, ap (λ (k : ℕ). Armed k leave) e)
none_lowers Caught = (refl, refl)

pub Metered-none : {D F : Type 0} (meter : Meter) → ¬ F → Metered 0 meter meter D F
Metered-none meter not_failed = record {
  later = omega arith;
  real_later = omega arith;
  lowered = LowersAtMost-none 0 meter.arm;
  done = λ d. record { lowered = none_lowers meter.arm; faults_are = refl; real_faults_are = refl };
  failed = λ f. absurd (not_failed f);
  cause = λ f. absurd (not_failed f);
  quiet = λ none. (refl, refl);
  caught = λ e. refl;
}

-- the same calls, told otherwise
-- one append more was done
pub append_done : {D F : Type 0} (i : ℕ) (before mid now : Meter) → Metered (4 * i) before mid (Unit {0}) ⊥ → Metered 4 mid now D F → D → ¬ F → Metered (4 * (i + 1)) before now (Unit {0}) ⊥
append_done i before mid now first second done not_failed =
    let e : 4 * i + 4 ≡ 4 * (i + 1) = omega arith in
    subst (λ n. Metered n before now (Unit {0}) ⊥) e
    (metered_as (4 * i + 4) before now (λ u. done) (λ f. absurd f) not_failed (Metered-then (4 * i) 4 before mid now first tt second))
