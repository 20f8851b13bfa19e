-- Laws that thread a meter through calls, one after another.
use Rattle.std.specs.Prelude.{◌≡◌, ◌⊎◌, ℕ, ◌+◌, ◌-◌, ◌≤◌}
use Rattle.std.proofs.Common.{refl, ◌∙◌, arith, ap, subst}
use Rattle.mld_io.specs.Faults.{counted}
use Rattle.mld_io.specs.Arm.{Arm, Unarmed, Armed, Caught, Meter, LowersAtMost, LowersBy, Metered}

-- calls that were done, and then more of which some may not have been
pub LowersAtMost-then : (m n : ℕ) (before mid now : Arm) → LowersBy m before mid → LowersAtMost n mid now → LowersAtMost (m + n) before now
LowersAtMost-then m n Unarmed mid now first second = let at_mid : LowersAtMost n Unarmed now = subst (λ (a : Arm). LowersAtMost n a now) first second in at_mid
LowersAtMost-then m n (Armed number leave) mid now first second = armed_then now (subst (λ (a : Arm). LowersAtMost n a now) first.1 second) where
  armed_then : (now' : Arm) → LowersAtMost n (Armed (number - m) leave) now' → LowersAtMost (m + n) (Armed number leave) now'
  armed_then Unarmed h = h
  armed_then (Armed left now_leave) h = (omega (arith, h.0, first.0), omega (arith, h.1, first.0), h.2)
  armed_then Caught h = omega (arith, h, first.0)
LowersAtMost-then m n Caught mid now first second = subst (λ (a : Arm). LowersAtMost n a now) first.1 second

-- calls that were done, and then more that were
pub LowersBy-then : (m n : ℕ) (before mid now : Arm) → LowersBy m before mid → LowersBy n mid now → LowersBy (m + n) before now
LowersBy-then m n Unarmed mid now first second = subst (λ (a : Arm). LowersBy n a now) first second
LowersBy-then m n (Armed number leave) mid now first second =
    let h = subst (λ (a : Arm). LowersBy n a now) first.1 second in
    let few : m + n ≤ number = omega (arith, first.0, h.0) in
    let rest : number - m - n ≡ number - (m + n) = omega arith in
    (few, h.1 ∙ ap (λ (k : ℕ). Armed k leave) rest)
LowersBy-then m n Caught mid now first second =
    let h = subst (λ (a : Arm). LowersBy n a now) first.1 second in
    let none : m + n ≡ 0 = omega (arith, first.0, h.0) in
    (none, h.1)

-- fewer calls are within more
pub LowersAtMost-more : (m n : ℕ) (before now : Arm) → LowersAtMost m before now → LowersAtMost (m + n) before now
LowersAtMost-more m n Unarmed now h = h
LowersAtMost-more m n (Armed number leave) Unarmed h = h
LowersAtMost-more m n (Armed number leave) (Armed left now_leave) h = (h.0, omega (arith, h.1), h.2)
LowersAtMost-more m n (Armed number leave) Caught h = omega (arith, h)
LowersAtMost-more m n Caught now h = h

-- no call leaves the arm as it is
pub LowersAtMost-none : (n : ℕ) (arm : Arm) → LowersAtMost n arm arm
LowersAtMost-none n Unarmed = refl
LowersAtMost-none n (Armed number leave) = (omega arith, omega arith, refl)
LowersAtMost-none n Caught = refl

-- calls that were done, and then whatever the next ones answer
pub Metered-then : {D F D' F' : Type 0} (m n : ℕ) (before mid now : Meter) → Metered m before mid D F → D → Metered n mid now D' F' → Metered (m + n) before now D' F'
Metered-then m n before mid now first is_done second =
    let all = first.done is_done in
    record {
      later = omega (arith, all.faults_are, second.later);
      real_later = omega (arith, all.real_faults_are, second.real_later);
      lowered = LowersAtMost-then m n before.arm mid.arm now.arm all.lowered second.lowered;
      done = λ d.
          let more = second.done d in
          record {
            lowered = LowersBy-then m n before.arm mid.arm now.arm all.lowered more.lowered;
            faults_are = more.faults_are ∙ all.faults_are;
            real_faults_are = more.real_faults_are ∙ all.real_faults_are;
          };
      failed = λ f. second.failed f ∙ ap counted all.faults_are;
      cause = λ f. subst (λ (k : ℕ). (now.arm ≡ Caught) ⊎ (now.real_faults ≡ counted k)) all.real_faults_are (second.cause f);
      quiet = λ none. let q = second.quiet none in (q.0 ∙ all.faults_are, q.1 ∙ all.real_faults_are);
      caught = λ e. second.caught e ∙ all.real_faults_are;
    }

-- calls of which one was refused, so that none of those behind it was made
pub Metered-stopped : {D F D' F' : Type 0} (m n : ℕ) (before now : Meter) → Metered m before now D F → ¬ D' → (F' → F) → (F → F') → Metered (m + n) before now D' F'
Metered-stopped m n before now first not_done is_told is_failed = record {
  later = first.later;
  real_later = first.real_later;
  lowered = LowersAtMost-more m n before.arm now.arm first.lowered;
  done = λ d. absurd (not_done d);
  failed = λ f. first.failed (is_told f);
  cause = λ f. first.cause (is_told f);
  quiet = λ none. first.quiet (λ f. none (is_failed f));
  caught = first.caught;
}

-- calls that were refused before the first was made
pub Metered-refused : {D F : Type 0} (n : ℕ) (meter : Meter) → ¬ D → ¬ F → Metered n meter meter D F
Metered-refused n meter not_done not_failed = record {
  later = omega arith;
  real_later = omega arith;
  lowered = LowersAtMost-none n meter.arm;
  done = λ d. absurd (not_done d);
  failed = λ f. absurd (not_failed f);
  cause = λ f. absurd (not_failed f);
  quiet = λ none. (refl, refl);
  caught = λ e. refl;
}
