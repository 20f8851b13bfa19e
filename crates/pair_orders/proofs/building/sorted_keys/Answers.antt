use Rattle.std.proofs.Common.{List, subst, sym}
use Rattle.pair_orders.specs.KeptPairs.{AreKeysOf}
use Rattle.pair_orders.specs.declared.keys.RankedKey.{RankedKey}
use Rattle.pair_orders.proofs.Lending.{ok_weaker}
use Rattle.pair_orders.proofs.Ranking.{once_ranked, sorted_are}
use Rattle.pair_orders.proofs.building.sorted_keys.Goals as goal

pub returns : goal.returns
returns c =
    let are = sorted_are c.args.shape c.args.keys.now c.in_ok-sorted.sorted.items c.sort_keys.new.keys.items c.in_ok-sorted.ensures c.sort_keys.ensures.ascending c.sort_keys.ensures.same in
    ok_weaker c.from_vec.result (λ list e. subst (λ (ks : List RankedKey). AreKeysOf c.args.shape ks c.args.keys.now) (sym e) are) c.from_vec.ensures

pub sort_keys-requires : goal.sort_keys-requires
sort_keys-requires c = once_ranked c.args.shape c.args.keys.now c.in_ok-sorted.sorted.items c.in_ok-sorted.ensures c.requires
