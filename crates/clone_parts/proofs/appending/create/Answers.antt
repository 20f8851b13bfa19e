-- A journal is made, or isn't: what a crash leaves.
use Rattle.std.proofs.Common.{◌≡◌, ◌∙◌, [], ◌∷◌, Some, refl, ap, subst, inl}
use Rattle.mld_io.specs.declared.banks.Side.TheVariants.{A}
use Rattle.journal_store.specs.journal_sides.Heads.{head_value}
use Rattle.journal_store.specs.journal_sides.Pairs.{KeepsNone, read_banks}
use Rattle.journal_store.specs.Calls.{made_banks}
use Rattle.journal_store.specs.Crashes.{first_gate}
use Rattle.journal_store.proofs.ClosingLaws.{told_same}
use Rattle.clone_parts.specs.KeptSteps.{Created, LeavesSome}
use Rattle.clone_parts.proofs.StepLaws.{some_none, some_one}
use Rattle.clone_parts.proofs.appending.create.Goals as goal

pub returns-clause-moments : goal.returns-clause-moments
returns-clause-moments g c l e =
    some_one l (g.B.Banks.log (made_banks c.create.result)) KeepsNone (Created (head_value c.args.head.now)) (g.B.Banks.meter c.args.blank).arm (g.B.Banks.meter (made_banks c.create.result)).arm
    (first_gate A) refl (c.create.ensures.moments l e) c.create.ensures.meter.lowered

pub returns-then-not-is_short_head-clause-moments : goal.returns-then-not-is_short_head-clause-moments
returns-then-not-is_short_head-clause-moments g c l e =
    let told : g.B.Banks.log c.into_banks.result ≡ Some l = ap g.B.Banks.log c.into_banks.ensures.banks ∙ e in
    let nothing = c.into_banks.ensures.blank l told in
    let arm = (g.B.Banks.meter c.into_banks.result).arm in
    subst (λ (b : g.row.B.Denot). LeavesSome l (g.B.Banks.log c.into_banks.result) KeepsNone (Created (head_value c.args.head.now) ∷ []) (g.B.Banks.meter b).arm arm) c.into_banks.ensures.banks
    (some_none l (g.B.Banks.log c.into_banks.result) KeepsNone (Created (head_value c.args.head.now) ∷ []) arm arm told nothing.settled nothing.none (λ caught. inl caught))

pub returns-then-not-is_short_head-clause-err : goal.returns-then-not-is_short_head-clause-err
returns-then-not-is_short_head-clause-err g c = record {
  moments = λ l e.
      let told : g.B.Banks.log c.into_banks.result ≡ Some l = ap g.B.Banks.log c.into_banks.ensures.banks ∙ e in
      let nothing = c.into_banks.ensures.blank l told in
      record { added = []; now_is = told; each = λ image left. inl (ap read_banks (nothing.settled image left) ∙ nothing.none) };
  told = told_same (g.B.Banks.log c.args.blank) (g.B.Banks.log c.into_banks.result) (ap g.B.Banks.log c.into_banks.ensures.banks);
  called = λ e. inl c.into_banks.ensures.banks;
}
