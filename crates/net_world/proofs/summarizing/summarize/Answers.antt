use Rattle.std.proofs.Common.{◌∙◌, ◌++◌, List, arith, ap, sym, subst, map}
use Rattle.std.proofs.lemmas.List.{nil_from_length}
use Rattle.world_commands.specs.WorldBanks.{BankedState, in_memory, banks_of_state}
use Rattle.world_commands.specs.WorldEnds.{KeepAll}
use Rattle.world_commands.proofs.StopLemmas.{keeps_more}
use Rattle.net_world.specs.declared.summaries.CloneSummary.{CloneSummary}
use Rattle.net_world.specs.WorldSummary.{SummarizesAll}
use Rattle.net_world.proofs.SummarizingLaws.{told_more, told_all, banks_more, banks_all}
use Rattle.net_world.proofs.summarizing.summarize.Goals as goal

pub loop-clone-init : goal.loop-clone-init
loop-clone-init g c =
    let all = c.into_iter-clone-iterator.ensures.into_iter_gives.0 in
    record {
      told = λ more tells.
          subst (λ (before : List CloneSummary). SummarizesAll (map in_memory c.args.clones.items) (before ++ more)) (sym c.in_ok-summaries.ensures.items)
          (subst (λ (l : List (BankedState g.row.B.Denot)). SummarizesAll (map in_memory l) more) all tells);
      banks = ap (λ (l : List g.row.B.Denot). l ++ map banks_of_state c.into_iter-clone-iterator.result.rest.items) c.in_ok-banks.ensures.items ∙ ap (λ (l : List (BankedState g.row.B.Denot)). map banks_of_state l) all;
      kept = λ kept. subst (λ (l : List (BankedState g.row.B.Denot)). KeepAll g.B.Banks.log l) all kept;
    }

pub loop-clone-preserved : goal.loop-clone-preserved
loop-clone-preserved g c = record {
  told =
      told_more (map in_memory c.args.clones.items) c.loop-clone.clone-iterator.rest.items c.next.new.self.rest.items c.in-Some.clone c.loop-clone.summaries.items c.add_told.new.summaries.items
      c.in-Some.ensures.steps.0 c.in_ok-add_told.ensures.tells c.loop-clone.invariant.told;
  banks =
      banks_more c.args.clones.items c.loop-clone.clone-iterator.rest.items c.next.new.self.rest.items c.in-Some.clone c.loop-clone.banks.items c.add_told.new.banks.items
      c.in-Some.ensures.steps.0 c.in_ok-add_told.ensures.banks c.loop-clone.invariant.banks;
  kept = keeps_more g.B.Banks.log c.in-Some.clone c.loop-clone.clone-iterator.rest.items c.next.new.self.rest.items c.args.clones.items c.in-Some.ensures.steps.0 c.in_ok-add_told.ensures.kept c.loop-clone.invariant.kept;
}

pub returns-clause-tells : goal.returns-clause-tells
returns-clause-tells g c =
    told_all (map in_memory c.args.clones.items) c.loop-clone.clone-iterator.rest.items c.loop-clone.summaries.items
    (nil_from_length c.loop-clone.clone-iterator.rest.items (omega (arith, c.in-None.ensures.steps.0))) c.loop-clone.invariant.told

pub returns-clause-banks : goal.returns-clause-banks
returns-clause-banks g c =
    banks_all c.args.clones.items c.loop-clone.clone-iterator.rest.items c.loop-clone.banks.items
    (nil_from_length c.loop-clone.clone-iterator.rest.items (omega (arith, c.in-None.ensures.steps.0))) c.loop-clone.invariant.banks

pub returns-clause-kept : goal.returns-clause-kept
returns-clause-kept g c =
    let none = nil_from_length c.loop-clone.clone-iterator.rest.items (omega (arith, c.in-None.ensures.steps.0)) in
    c.loop-clone.invariant.kept (subst (λ (l : List (BankedState g.row.B.Denot)). KeepAll g.B.Banks.log l) (sym none) (λ state has. absurd has))
