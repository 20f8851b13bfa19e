-- The newest write is taken back, and those before it are left.
use Rattle.std.proofs.Common.{◌≡◌, ℕ, List, length, take, sym, ap, ◌∙◌, subst, arith}
use Rattle.mld_io.specs.Disk.{written}
use Rattle.disk_model.specs.declared.unsynced.Unsynced.{Unsynced}
use Rattle.disk_model.specs.Covered.{AreChained, first_size, lost_by}
use Rattle.disk_model.proofs.CoveredLaws.{newest, before_front, lost_newest}
use Rattle.disk_model.proofs.unsynced.take_back.Goals as goal

pub put-requires : goal.put-requires
put-requires c =
    let i = c.loop-write.invariant in
    let n = newest c.in-Some.before.now c.in-Some.write.now c.loop-write.left (subst (λ (ws : List Unsynced). AreChained ws c.loop-write.left) c.in-Some.ensures.cases.0 i.chained) in
    omega (arith, n.fits, n.size_is, i.in_seen, ap length c.as_slice.ensures)

pub loop-write-preserved : goal.loop-write-preserved
loop-write-preserved c =
    let i = c.loop-write.invariant in
    let write = c.in-Some.write.now in
    let before = c.in-Some.before.now in
    let left = c.loop-write.left in
    let seen = c.loop-write.seen.items in
    let all = c.in-Some.ensures.cases.0 in
    let n = newest before write left (subst (λ (ws : List Unsynced). AreChained ws left) all i.chained) in
    let put_is : c.put.new.bytes.items ≡ written write.at write.covered seen = c.put.ensures.written ∙ ap (λ (l : List ℕ). written write.at l seen) c.as_slice.ensures in
    record {
      len = c.put.ensures.len ∙ i.len;
      chained = n.chained;
      in_seen = omega (arith, c.put.ensures.len, i.in_seen, n.size_is);
      first_is = sym n.first_is ∙ ap (λ (ws : List Unsynced). first_size ws left) (sym all) ∙ i.first_is;
      lost = ap (λ (l : List ℕ). lost_by before (take write.size l)) put_is
          ∙ ap (lost_by before) (before_front write left seen n.fits (omega (arith, n.size_is)) (omega (arith, i.in_seen)))
          ∙ sym (lost_newest before write (take left seen)) ∙ ap (λ (ws : List Unsynced). lost_by ws (take left seen)) (sym all) ∙ i.lost;
    }
