use Rattle.std.proofs.Common.{◌≡◌, ◌∙◌, ap, sym}
use Rattle.mld_io.specs.declared.faults.LineFault.TheVariants as line_faults
use Rattle.input_lines.proofs.TakenLemmas.{by_ended, ok_none, not_ended, takes_line, takes_line_none, none_empty, line_ended, line_ended_none, breaks_limits, cut_past, cut_within}
use Rattle.input_lines.proofs.next.next_line.Goals as goal

pub returns-in-Ok-clause-line : goal.returns-in-Ok-clause-line
returns-in-Ok-clause-line g c = λ bytes told.
    by_ended c.args.lines.now.ended
    (λ yes. takes_line_none _ bytes c.in-Ok.line _ _ (ok_none c.in-Ok.line (c.in-Ok.ensures.ended yes).0) (ap (λ s. g.S.Source.left s) (c.in-Ok.ensures.ended yes).1 ∙ told))
    (λ no. takes_line _ bytes c.in-Ok.line _ _ _ c.requires.limits (c.in-Ok.ensures.line no bytes told))

pub returns-in-Ok-clause-at_end : goal.returns-in-Ok-clause-at_end
returns-in-Ok-clause-at_end g c = λ no bytes told none. none_empty _ bytes c.in-Ok.line _ _ _ (c.in-Ok.ensures.line no bytes told) none

pub returns-in-Ok-clause-ended : goal.returns-in-Ok-clause-ended
returns-in-Ok-clause-ended g c = λ bytes told.
    by_ended c.args.lines.now.ended (λ yes. line_ended_none c.in-Ok.line _ bytes (ok_none c.in-Ok.line (c.in-Ok.ensures.ended yes).0)) (λ no. line_ended _ bytes c.in-Ok.line _ _ _ (c.in-Ok.ensures.line no bytes told))

pub returns-in-Err-ReadFault-clause-failed : goal.returns-in-Err-ReadFault-clause-failed
returns-in-Err-ReadFault-clause-failed g c = not_ended c.args.lines.now.ended c.in-Err-ReadFault.field-0 (λ yes. (c.in-Err-ReadFault.ensures.ended yes).0)

pub returns-in-Err-TooLarge-clause-failed : goal.returns-in-Err-TooLarge-clause-failed
returns-in-Err-TooLarge-clause-failed g c = not_ended c.args.lines.now.ended c.in-Err-TooLarge.field-0 (λ yes. (c.in-Err-TooLarge.ensures.ended yes).0)

pub returns-in-Err-NoMemory-clause-failed : goal.returns-in-Err-NoMemory-clause-failed
returns-in-Err-NoMemory-clause-failed g c = not_ended c.args.lines.now.ended c.in-Err-NoMemory.field-0 (λ yes. (c.in-Err-NoMemory.ensures.ended yes).0)

pub returns-in-Err-TooLarge-clause-large : goal.returns-in-Err-TooLarge-clause-large
returns-in-Err-TooLarge-clause-large g c = λ at is. (
  cc (is),
  λ bytes told. breaks_limits c.args.lines.now bytes c.in-Err-TooLarge.field-0 _ _ _ c.requires.limits c.in-Err-TooLarge.field-0-is
      (c.in-Err-TooLarge.ensures.line (not_ended c.args.lines.now.ended c.in-Err-TooLarge.field-0 (λ yes. (c.in-Err-TooLarge.ensures.ended yes).0)) bytes told),
)

pub returns-in-Err-ReadFault-clause-broken_off : goal.returns-in-Err-ReadFault-clause-broken_off
returns-in-Err-ReadFault-clause-broken_off g c = λ bytes told.
    cut_within c.args.lines.now bytes c.in-Err-ReadFault.field-0 _ _ _ c.requires.limits
    (λ is. let same : line_faults.ReadFault ≡ line_faults.TooLarge = sym c.in-Err-ReadFault.field-0-is ∙ is in absurd (cc (same)))
    (c.in-Err-ReadFault.ensures.line (not_ended c.args.lines.now.ended c.in-Err-ReadFault.field-0 (λ yes. (c.in-Err-ReadFault.ensures.ended yes).0)) bytes told)

pub returns-in-Err-TooLarge-clause-broken_off : goal.returns-in-Err-TooLarge-clause-broken_off
returns-in-Err-TooLarge-clause-broken_off g c = λ bytes told.
    cut_past c.args.lines.now bytes c.in-Err-TooLarge.field-0 _ _ _ c.requires.limits c.in-Err-TooLarge.field-0-is
    (c.in-Err-TooLarge.ensures.line (not_ended c.args.lines.now.ended c.in-Err-TooLarge.field-0 (λ yes. (c.in-Err-TooLarge.ensures.ended yes).0)) bytes told)

pub returns-in-Err-NoMemory-clause-broken_off : goal.returns-in-Err-NoMemory-clause-broken_off
returns-in-Err-NoMemory-clause-broken_off g c = λ bytes told.
    cut_within c.args.lines.now bytes c.in-Err-NoMemory.field-0 _ _ _ c.requires.limits
    (λ is. let same : line_faults.NoMemory ≡ line_faults.TooLarge = sym c.in-Err-NoMemory.field-0-is ∙ is in absurd (cc (same)))
    (c.in-Err-NoMemory.ensures.line (not_ended c.args.lines.now.ended c.in-Err-NoMemory.field-0 (λ yes. (c.in-Err-NoMemory.ensures.ended yes).0)) bytes told)
