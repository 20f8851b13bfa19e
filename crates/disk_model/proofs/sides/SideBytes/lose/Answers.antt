-- A side from which the writes were taken back has none that isn't synced.
use Rattle.std.proofs.Common.{List, sym, ap, subst, arith}
use Rattle.disk_model.specs.declared.unsynced.Unsynced.{Unsynced}
use Rattle.disk_model.specs.Covered.{AreChained, first_size}
use Rattle.disk_model.proofs.CoveredLaws.{chained_grows}
use Rattle.disk_model.proofs.sides.SideBytes.lose.Goals as goal

pub invariant_of-self : goal.invariant_of-self
invariant_of-self c =
    let s = c.self.inside in
    let i = c.self.invariant in
    let back = c.take_back-self-inside in
    record {
      in_seen = omega (arith, back.ensures.len, back.ensures.size, ap (λ (ws : List Unsynced). first_size ws s.size) c.deref.ensures.value, chained_grows s.writes.items s.size i.chained, i.in_seen);
      chained = subst (λ (ws : List Unsynced). AreChained ws back.result) (sym c.clear.ensures.items) tt;
    }
