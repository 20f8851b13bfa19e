-- The counts of faults of a session's line.
use Rattle.std.proofs.Common.{◌≡◌, ◌⊎◌, ℕ, inl, inr, sym, ◌∙◌, ap, arith, subst}
use Rattle.mld_io.specs.Arm.{Arm, Unarmed, Armed, Caught, Meter, LowersAtMost, Metered}
use Rattle.mld_io.specs.Faults.{counted}
use Rattle.shell_session.specs.SessionLines.{Meters}

lowers_unarmed : (calls : ℕ) (before now : Arm) → before ≡ Unarmed → LowersAtMost calls before now → now ≡ Unarmed
lowers_unarmed calls before now is lowers = let at : LowersAtMost calls Unarmed now = subst (λ (a : Arm). LowersAtMost calls a now) is lowers in at

abbrev is_caught : Arm → Type 0
is_caught Unarmed = ⊥
is_caught (Armed number leave) = ⊥
is_caught Caught = Unit {0}

own_fault : (calls : ℕ) (before now : Meter) → LowersAtMost calls before.arm now.arm → before.arm ≡ Unarmed
    → (now.arm ≡ Caught) ⊎ (now.real_faults ≡ counted before.real_faults) → now.real_faults ≡ counted before.real_faults
own_fault calls before now lowers is (inl caught) =
    absurd (subst is_caught (sym caught ∙ lowers_unarmed calls before.arm now.arm is lowers) tt)
own_fault calls before now lowers is (inr real) = real

-- the calls of a device, of which one failed where the line tells it, and only there
pub meters_of : {Done Failed Told : Type 0} (calls : ℕ) (before now : Meter) → (Told → Failed) → (Failed → Told) → Metered calls before now Done Failed
    → Meters before now Told
meters_of calls before now failed told metered = record {
  later = metered.later;
  real_later = metered.real_later;
  unarmed = λ is. lowers_unarmed calls before.arm now.arm is metered.lowered;
  failed = λ tell. metered.failed (failed tell);
  cause = λ tell is. own_fault calls before now metered.lowered is (metered.cause (failed tell));
  quiet = λ none. metered.quiet (λ fault. none (told fault));
}

-- no call of a device
pub meters_none : {Told : Type 0} (before now : Meter) → now ≡ before → ¬ Told → Meters before now Told
meters_none before now same none = record {
  later = omega (arith, ap (λ (m : Meter). m.faults) same);
  real_later = omega (arith, ap (λ (m : Meter). m.real_faults) same);
  unarmed = λ is. ap (λ (m : Meter). m.arm) same ∙ is;
  failed = λ tell. absurd (none tell);
  cause = λ tell is. absurd (none tell);
  quiet = λ told. (ap (λ (m : Meter). m.faults) same, ap (λ (m : Meter). m.real_faults) same);
}

-- what is told by other words
pub meters_as : {One Other : Type 0} (before now : Meter) → (Other → One) → (One → Other) → Meters before now One → Meters before now Other
meters_as before now into from meters = record {
  later = meters.later;
  real_later = meters.real_later;
  unarmed = meters.unarmed;
  failed = λ tell. meters.failed (into tell);
  cause = λ tell is. meters.cause (into tell) is;
  quiet = λ none. meters.quiet (λ one. none (from one));
}

-- calls that were done, and then more
pub meters_then : {First Told : Type 0} (before mid now : Meter) → ¬ First → Meters before mid First → Meters mid now Told → Meters before now Told
meters_then before mid now fine first second =
    let quiet = first.quiet fine in
    record {
      later = omega (arith, quiet.0, second.later);
      real_later = omega (arith, quiet.1, second.real_later);
      unarmed = λ is. second.unarmed (first.unarmed is);
      failed = λ tell. second.failed tell ∙ ap counted quiet.0;
      cause = λ tell is. second.cause tell (first.unarmed is) ∙ ap counted quiet.1;
      quiet = λ none. let q = second.quiet none in (q.0 ∙ quiet.0, q.1 ∙ quiet.1);
    }
