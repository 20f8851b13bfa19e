use Rattle.std.proofs.Common.{◌≡◌, ◌∙◌, ◌++◌, [], List, rules, arith, ap, sym, subst, map, length, append_assoc, append-nil}
use Rattle.std.proofs.lemmas.List.{nil_from_length}
use Rattle.world_commands.specs.WorldBanks.{BankedState, banks_of_state}
use Rattle.world_commands.specs.WorldEnds.{KeepAll}
use Rattle.world_commands.proofs.StopLemmas.{keeps_more}
use Rattle.world_commands.proofs.stopping.stop_all.Given as given
use Rattle.world_commands.proofs.stopping.stop_all.Goals as goal

pub loop-clone-init : goal.loop-clone-init
loop-clone-init g c =
    let all = c.into_iter-clone-iterator.ensures.into_iter_gives.0 in (
      ap (λ (l : List (BankedState g.row.B.Denot)). c.args.banks.now.items ++ map banks_of_state l) all,
      omega (arith, c.requires, ap (λ (l : List (BankedState g.row.B.Denot)). length l) all),
      λ kept. subst (λ (l : List (BankedState g.row.B.Denot)). KeepAll g.B.Banks.log l) all kept,
    )

pub loop-clone-preserved : goal.loop-clone-preserved
loop-clone-preserved g c = (
  search (rules, append_assoc),
  search rules,
  keeps_more g.B.Banks.log c.in-Some.clone c.loop-clone.clone-iterator.rest.items c.next.new.self.rest.items c.args.clones.items c.in-Some.ensures.steps.0 c.banks_of_state.ensures.kept c.loop-clone.invariant.2,
)

none_left : (g : given.Over) (c : goal.After-drop-clone-iterator g) → c.loop-clone.clone-iterator.rest.items ≡ []
none_left g c = nil_from_length c.loop-clone.clone-iterator.rest.items (omega (arith, c.in-None.ensures.steps.0))

pub returns-clause-banks : goal.returns-clause-banks
returns-clause-banks g c =
    sym (append-nil c.loop-clone.banks.items)
    ∙ ap (λ (l : List (BankedState g.row.B.Denot)). c.loop-clone.banks.items ++ map banks_of_state l) (sym (none_left g c)) ∙ c.loop-clone.invariant.0

pub returns-clause-kept : goal.returns-clause-kept
returns-clause-kept g c =
    c.loop-clone.invariant.2 (subst (λ (l : List (BankedState g.row.B.Denot)). KeepAll g.B.Banks.log l) (sym (none_left g c)) (λ state has. absurd has))
