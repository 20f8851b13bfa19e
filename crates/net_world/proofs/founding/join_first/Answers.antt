use Rattle.std.proofs.Common.{refl, rules}
use Rattle.std.proofs.lemmas.Option.{slice_get_within}
use Rattle.mld_model.specs.declared.CloneState.TheVariants as kinds
use Rattle.world_commands.proofs.Places.{place_read}
use Rattle.net_world.proofs.founding.join_first.Goals as goal

pub returns-clause-joins : goal.returns-clause-joins
returns-clause-joins g c = record {
  was = c.in-Live.first;
  now = c.join.new.first;
  becomes = record {
    was = place_read c.args.clones.now.items 0 0 c.index_mut.result.now (kinds.Live c.in-Live.first) refl (slice_get_within c.args.clones.now.items 0 _ c.requires.1) (search rules) c.in-Live.is;
    now = search rules;
  };
  joins = c.join.ensures;
}
