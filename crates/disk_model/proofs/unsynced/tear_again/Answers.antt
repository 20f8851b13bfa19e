-- The oldest write is torn, and those behind it are left.
use Rattle.std.proofs.Common.{◌≡◌, ℕ, List, length, take, sym, ap, ◌∙◌, subst, arith}
use Rattle.mld_io.specs.Disk.{written}
use Rattle.disk_model.specs.SideSteps.{torn_piece}
use Rattle.disk_model.specs.declared.unsynced.Unsynced.{Unsynced}
use Rattle.disk_model.specs.Covered.{AreChained, first_size, torn_by}
use Rattle.disk_model.proofs.CoveredLaws.{chained_grows, torn_again}
use Rattle.disk_model.proofs.unsynced.tear_again.Goals as goal

pub put_torn-requires : goal.put_torn-requires
put_torn-requires c =
    let i = c.loop-write.invariant in
    let chained = subst (λ (ws : List Unsynced). AreChained ws c.args.size) c.in-Some.ensures.cases.0 i.chained in
    omega (arith, chained.1, chained_grows c.in-Some.behind.now c.args.size chained.2, i.len, c.requires.in_seen, ap length c.as_slice.ensures)

pub loop-write-preserved : goal.loop-write-preserved
loop-write-preserved c =
    let i = c.loop-write.invariant in
    let write = c.in-Some.write.now in
    let behind = c.in-Some.behind.now in
    let size = c.args.size in
    let seen = c.loop-write.seen.items in
    let all = c.in-Some.ensures.cases.0 in
    let chained = subst (λ (ws : List Unsynced). AreChained ws size) all i.chained in
    let put_is : c.put_torn.new.bytes.items ≡ written write.at (torn_piece write.piece) seen = c.put_torn.ensures.written ∙ ap (λ (l : List ℕ). written write.at (torn_piece l) seen) c.as_slice.ensures in
    record {
      len = c.put_torn.ensures.len ∙ i.len;
      chained = chained.2;
      torn = ap (λ (l : List ℕ). torn_by behind (take (first_size behind size) l)) put_is
          ∙ torn_again write behind size seen chained (omega (arith, i.len, c.requires.in_seen))
          ∙ ap (λ (ws : List Unsynced). torn_by ws (take (first_size ws size) seen)) (sym all) ∙ i.torn;
    }
