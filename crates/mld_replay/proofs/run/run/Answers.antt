use Rattle.std.proofs.Common.{refl}
use Rattle.mld_replay.specs.Ran.{says_of}
use Rattle.mld_replay.specs.GeneratedRuns.{of_source, of_seed}
use Rattle.mld_replay.specs.declared.run.RunFault.TheVariants as faults
use Rattle.mld_replay.proofs.MeterLemmas.{back_same}
use Rattle.mld_replay.proofs.SummaryLemmas.{left_alone, usage_heeds}
use Rattle.mld_replay.proofs.GeneratedLemmas.{not_both, generated_known, generated_reads, generated_alone, heeds_as, exact_source, exact_seed, ends_of_seed}
use Rattle.mld_replay.proofs.run.run.Goals as goal

-- ---- a replay

pub returns-in-Replay-clause-usage : goal.returns-in-Replay-clause-usage
returns-in-Replay-clause-usage g c =
    let said = rw c.in-Replay.is at c.read_words.ensures in
    (λ is. absurd (c.run_replay.ensures.known is), λ none. absurd (none.no_replay said))

pub returns-in-Replay-clause-ends : goal.returns-in-Replay-clause-ends
returns-in-Replay-clause-ends g c = λ words. c.run_replay.ensures.ends

pub returns-in-Replay-clause-exact : goal.returns-in-Replay-clause-exact
returns-in-Replay-clause-exact g c = λ lines given outcome verdict.
    let said = rw c.in-Replay.is at c.read_words.ensures in
    exact_source c.run_replay.result.fault _ (g.S.Source.left c.args.source.now) lines said given outcome verdict c.run_replay.ensures.exact

pub returns-in-Replay-clause-generated : goal.returns-in-Replay-clause-generated
returns-in-Replay-clause-generated g c = λ seed count words.
    let said = rw c.in-Replay.is at c.read_words.ensures in
    absurd (not_both _ seed count said words)

-- ---- a generated schedule

pub run_generated-requires-clause-few : goal.run_generated-requires-clause-few
run_generated-requires-clause-few g c = λ κs outlives. let said = rw c.in-Generate.is at c.read_words.ensures in said.few

pub returns-in-Generate-clause-usage : goal.returns-in-Generate-clause-usage
returns-in-Generate-clause-usage g c =
    let said = rw c.in-Generate.is at c.read_words.ensures in
    (λ is. absurd (generated_known _ _ _ _ _ c.run_generated.ensures.ends is), λ none. absurd (none.no_generate _ _ said))

pub returns-in-Generate-clause-untouched : goal.returns-in-Generate-clause-untouched
returns-in-Generate-clause-untouched g c =
    generated_alone _ c.run_generated.result.fault _ _ _ c.args.source.now c.args.sink.now c.run_generated.new.sink _ c.run_generated.ensures.ends c.run_generated.ensures.untouched

pub returns-in-Generate-clause-ends : goal.returns-in-Generate-clause-ends
returns-in-Generate-clause-ends g c = λ words. let said = rw c.in-Generate.is at c.read_words.ensures in absurd (not_both _ _ _ words said)

pub returns-in-Generate-clause-filled : goal.returns-in-Generate-clause-filled
returns-in-Generate-clause-filled g c =
    heeds_as g.B.Banks.log c.args.banks.items c.run_generated.result.banks.items c.run_generated.result.fault _ _ (λ same. record { source_is = refl; sink_is = same }) c.run_generated.ensures.filled

pub returns-in-Generate-clause-counts : goal.returns-in-Generate-clause-counts
returns-in-Generate-clause-counts g c = record { read = generated_reads _ _ _ _ _ _ c.run_generated.ensures.ends; write = c.run_generated.ensures.counts }

pub returns-in-Generate-clause-exact : goal.returns-in-Generate-clause-exact
returns-in-Generate-clause-exact g c = λ lines given outcome verdict.
    let said = rw c.in-Generate.is at c.read_words.ensures in
    exact_seed c.run_generated.result.fault _ (g.S.Source.left c.args.source.now) lines _ _ said given outcome verdict c.run_generated.ensures.exact

pub returns-in-Generate-clause-generated : goal.returns-in-Generate-clause-generated
returns-in-Generate-clause-generated g c = λ seed count words.
    let said = rw c.in-Generate.is at c.read_words.ensures in
    (refl, ends_of_seed (says_of g.B.Banks.log c.args.banks.items c.run_generated.result) c.run_generated.result.fault _ _ _ seed count _ _ said words c.run_generated.ensures.ends)

-- ---- the words are others

pub returns-in-Unknown-clause-usage : goal.returns-in-Unknown-clause-usage
returns-in-Unknown-clause-usage g c = let said = rw c.in-Unknown.is at c.read_words.ensures in (λ _. said, λ _. c.end_run.ensures.fault)

pub returns-in-Unknown-clause-untouched : goal.returns-in-Unknown-clause-untouched
returns-in-Unknown-clause-untouched g c = rw c.end_run.ensures.fault (left_alone c.args.source.now c.args.sink.now, c.end_run.ensures.banks)

pub returns-in-Unknown-clause-ends : goal.returns-in-Unknown-clause-ends
returns-in-Unknown-clause-ends g c = λ words. let said = rw c.in-Unknown.is at c.read_words.ensures in absurd (said.no_replay words)

pub returns-in-Unknown-clause-filled : goal.returns-in-Unknown-clause-filled
returns-in-Unknown-clause-filled g c =
    rw (c.end_run.ensures.fault, c.end_run.ensures.banks) (usage_heeds g.B.Banks.log c.args.banks.items _ (left_alone c.args.source.now c.args.sink.now))

pub returns-in-Unknown-clause-counts : goal.returns-in-Unknown-clause-counts
returns-in-Unknown-clause-counts g c = rw c.end_run.ensures.fault (record { read = refl; write = refl })

pub returns-in-Unknown-clause-back : goal.returns-in-Unknown-clause-back
returns-in-Unknown-clause-back g c =
    rw (c.end_run.ensures.fault, c.end_run.ensures.banks) (back_same g.B.Banks.meter c.args.banks.items faults.Usage (λ clone is. absurd (cc (is))))

pub returns-in-Unknown-clause-exact : goal.returns-in-Unknown-clause-exact
returns-in-Unknown-clause-exact g c = λ lines given outcome verdict.
    let said = rw c.in-Unknown.is at c.read_words.ensures in
    absurd (elim given [
      | of_source bytes words left is ↦ said.no_replay words
      | of_seed seed count words is ↦ said.no_generate seed count words
    ])

pub returns-in-Unknown-clause-generated : goal.returns-in-Unknown-clause-generated
returns-in-Unknown-clause-generated g c = λ seed count words. let said = rw c.in-Unknown.is at c.read_words.ensures in absurd (said.no_generate seed count words)
