use Rattle.std.proofs.Common.{◌<◌, ◌+◌, ◌^◌, ℕ, List, Option, None, ap, subst, sym, refl}
use Rattle.mld_io.specs.Lines.{lines_of}
use Rattle.schedule_generator.specs.Generated.{generated}
use Rattle.schedule_generator.proofs.GeneratedText.{generated_text}
use Rattle.schedule_text.specs.schedule_model.Runs.{Verdict}
use Rattle.mld_replay.specs.Ran.{ReplayEnds, says_of}
use Rattle.mld_replay.specs.declared.run.RunFault.TheVariants as faults
use Rattle.mld_replay.proofs.MeterLemmas.{back_same}
use Rattle.mld_replay.proofs.GeneratedLemmas.{report_ends, report_filled, report_untouched, report_back, report_silent, report_counts, report_exact, memory_heeds, counted, seed_never_stops, out_of_text, logs_same}
use Rattle.mld_replay.proofs.generated.run_generated.Goals as goal

-- ---- its text was run

pub returns-in-Ok-clause-ends : goal.returns-in-Ok-clause-ends
returns-in-Ok-clause-ends g c =
    let given : List (List ℕ) = generated c.args.seed c.args.count in
    report_ends c.run_text-ran.result c.report.result (c.from.result + 1) _ (g.K.Sink.held c.args.sink.now) (g.K.Sink.held c.report.new.sink) (g.K.Sink.faults c.args.sink.now)
    (g.K.Sink.faults c.report.new.sink) g.B.Banks.log c.args.banks.items given (seed_never_stops c.args.seed c.args.count c.requires.few) (counted c.args.seed c.args.count c.from.result c.from.ensures) c.run_text-ran.ensures.within
    (subst (λ (t : List ℕ). (left : Option (List ℕ)) × ReplayEnds (says_of g.B.Banks.log c.args.banks.items c.run_text-ran.result) c.run_text-ran.result.fault t left None None) c.in-Ok.ensures c.run_text-ran.ensures.ends)
    (λ same. ap g.K.Sink.held same) c.report.ensures.reports

pub returns-in-Ok-clause-filled : goal.returns-in-Ok-clause-filled
returns-in-Ok-clause-filled g c =
    report_filled c.run_text-ran.result c.report.result (c.from.result + 1) _ (g.K.Sink.held c.args.sink.now) (g.K.Sink.held c.report.new.sink) (g.K.Sink.faults c.args.sink.now) (g.K.Sink.faults c.report.new.sink)
    g.B.Banks.log c.args.banks.items c.run_text-ran.ensures.filled c.report.ensures.reports

pub returns-in-Ok-clause-untouched : goal.returns-in-Ok-clause-untouched
returns-in-Ok-clause-untouched g c = λ clone is.
    report_untouched c.run_text-ran.result c.report.result (c.from.result + 1) _ (g.K.Sink.held c.args.sink.now) (g.K.Sink.held c.report.new.sink) (g.K.Sink.faults c.args.sink.now) (g.K.Sink.faults c.report.new.sink)
    clone c.report.ensures.reports is

pub returns-in-Ok-clause-back : goal.returns-in-Ok-clause-back
returns-in-Ok-clause-back g c =
    report_back c.run_text-ran.result c.report.result (c.from.result + 1) _ (g.K.Sink.held c.args.sink.now) (g.K.Sink.held c.report.new.sink) (g.K.Sink.faults c.args.sink.now) (g.K.Sink.faults c.report.new.sink)
    g.B.Banks.meter c.args.banks.items c.run_text-ran.ensures.back c.report.ensures.reports

pub returns-in-Ok-clause-silent : goal.returns-in-Ok-clause-silent
returns-in-Ok-clause-silent g c =
    report_silent c.run_text-ran.result c.report.result (c.from.result + 1) _ (g.K.Sink.held c.args.sink.now) (g.K.Sink.held c.report.new.sink) (g.K.Sink.faults c.args.sink.now) (g.K.Sink.faults c.report.new.sink)
    c.run_text-ran.ensures.silent c.report.ensures.reports

pub returns-in-Ok-clause-counts : goal.returns-in-Ok-clause-counts
returns-in-Ok-clause-counts g c =
    report_counts c.run_text-ran.result c.report.result (c.from.result + 1) _ (g.K.Sink.held c.args.sink.now) (g.K.Sink.held c.report.new.sink) (g.K.Sink.faults c.args.sink.now) (g.K.Sink.faults c.report.new.sink)
    c.run_text-ran.ensures.within (λ same. ap g.K.Sink.faults same) c.report.ensures.reports

pub returns-in-Ok-clause-exact : goal.returns-in-Ok-clause-exact
returns-in-Ok-clause-exact g c = λ outcome verdict.
    let few : c.args.count < 2 ^ 32 = c.ranges.count.fits in
    let own = sym (generated_text c.args.seed c.args.count few) in
    let here : Verdict (lines_of c.in-Ok.text.items) outcome =
    subst (λ (t : List ℕ). Verdict (lines_of t) outcome) (sym c.in-Ok.ensures) (subst (λ (ls : List (List ℕ)). Verdict ls outcome) own verdict) in
    report_exact c.run_text-ran.result c.report.result (c.from.result + 1) _ (g.K.Sink.held c.args.sink.now) (g.K.Sink.held c.report.new.sink) (g.K.Sink.faults c.args.sink.now) (g.K.Sink.faults c.report.new.sink)
    outcome (c.run_text-ran.ensures.exact outcome here) c.report.ensures.reports

-- ---- there was no memory for its text

pub returns-in-Err-clause-ends : goal.returns-in-Err-clause-ends
returns-in-Err-clause-ends g c =
    out_of_text g.B.Banks.log c.args.banks.items c.end_run.result (generated c.args.seed c.args.count) (g.K.Sink.held c.args.sink.now) (rw c.end_run.ensures.banks (logs_same g.B.Banks.log c.args.banks.items)) c.end_run.ensures.fault

pub returns-in-Err-clause-filled : goal.returns-in-Err-clause-filled
returns-in-Err-clause-filled g c = rw (c.end_run.ensures.fault, c.end_run.ensures.banks) (memory_heeds g.B.Banks.log c.args.banks.items _ refl)

pub returns-in-Err-clause-back : goal.returns-in-Err-clause-back
returns-in-Err-clause-back g c = rw (c.end_run.ensures.fault, c.end_run.ensures.banks) (back_same g.B.Banks.meter c.args.banks.items faults.NoMemory (λ clone is. absurd (cc (is))))

pub returns-in-Err-clause-counts : goal.returns-in-Err-clause-counts
returns-in-Err-clause-counts g c = rw c.end_run.ensures.fault tt

pub returns-in-Err-clause-exact : goal.returns-in-Err-clause-exact
returns-in-Err-clause-exact g c = λ outcome verdict. rw c.end_run.ensures.fault tt
