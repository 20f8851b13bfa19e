use Rattle.std.proofs.Common.{◌≡◌, ◌∙◌, ◌++◌, ℕ, List, ap, codes, take}
use Rattle.std.specs.Fmt.{decimal}
use Rattle.net_world.specs.declared.summaries.CloneSummary.{CloneSummary}
use Rattle.mld_replay.specs.Counts.{clone_lines}
use Rattle.mld_replay.proofs.Counting.{least_front}
use Rattle.mld_replay.proofs.counts.counts_text.Goals as goal

pub returns : goal.returns
returns c =
    let first : List ℕ = codes "lines " ++ (decimal c.args.lines ++ codes "\n") in
    let head : c.into_bytes-text.result.items ≡ first = ap (λ v. v.items) c.into_bytes-text.ensures.value ∙ c.in_ok-format.ensures.ok in
    let four : take c.min.result c.args.clones.now ≡ take 4 c.args.clones.now = rw c.min.ensures (least_front c.args.clones.now 4) in
    c.in_ok-push_clones.ensures ∙ ap (λ (h : List ℕ). h ++ clone_lines 0 (take c.min.result c.args.clones.now)) head ∙ ap (λ (cs : List CloneSummary). first ++ clone_lines 0 cs) four
