use Rattle.std.proofs.Common.{ℕ, ap, arith, refl, set}
use Rattle.world_commands.proofs.Places.{place_read}
use Rattle.net_world.proofs.crash.arm_at.Goals as goal

pub returns : goal.returns
returns g c =
    let clones = c.args.clones.now.items in
    let was = c.index_mut.result.now in
    record {
      was = was;
      now = c.arm.new.state;
      becomes = record {
        was = place_read clones c.args.number c.from.result was was c.from.ensures (omega (arith, c.requires)) c.index_mut.ensures.value refl;
        now = ap (λ (k : ℕ). set clones k c.arm.new.state) c.from.ensures;
      };
      is = c.arm.ensures;
    }
