-- What a write makes of the bytes, and of what a crash leaves.
use Rattle.std.proofs.Common.{◌≡◌, ℕ, List, ◌+◌, ◌≤◌, [], ◌∷◌, ◌++◌, max, length, take, sym, ap, ◌∙◌, subst, arith}
use Rattle.std.proofs.lemmas.List.{length-take-le}
use Rattle.mld_io.specs.Disk.{written}
use Rattle.mld_io.specs.declared.banks.Leave.TheVariants.{Lose, Keep, Torn}
use Rattle.disk_model.specs.declared.unsynced.Unsynced.{Unsynced}
use Rattle.disk_model.specs.Covered.{CoversBytes, AreChained, lost_by, torn_by}
use Rattle.disk_model.specs.Sides.{SideValue}
use Rattle.disk_model.specs.SideSteps.{torn_piece}
use Rattle.disk_model.proofs.Copies.{grown_length, grown_written}
use Rattle.disk_model.proofs.CoveredLaws.{chained_more, covers_fits, lost_more, torn_more}
use Rattle.disk_model.proofs.sides.SideBytes.write.Goals as goal

pub invariant_of-self-2 : goal.invariant_of-self-2
invariant_of-self-2 c =
    let s = c.self.inside in
    let i = c.self.invariant in
    let at = c.args.at in
    let piece = c.args.piece.now in
    let old = take s.size s.seen.items in
    let write = c.in_ok-write.write in
    let long : length old ≡ s.size = length-take-le s.size s.seen.items (omega (arith, i.in_seen)) in
    let at_in : at ≤ length old = omega (arith, c.requires, ap (λ (v : SideValue). length v.seen) c.self.view_is) in
    let covers : CoversBytes at piece old write = subst (λ (l : List ℕ). CoversBytes at piece (take s.size l) write) c.deref.ensures.value c.in_ok-write.ensures in
    let writes_are : c.push_reserved.new.self.items ≡ s.writes.items ++ write ∷ [] = c.push_reserved.ensures.items ∙ ap (λ (ws : List Unsynced). ws ++ write ∷ []) c.in_ok-reserve.ensures.items in
    let size_is : max s.size (write.at + length write.piece) ≡ c.max-self-inside.result = omega (arith, covers.at_is, ap length covers.piece_is) in
    let chained = chained_more s.writes.items write s.size i.chained (covers.size_is ∙ long) (covers_fits write at piece old covers at_in) in
    record {
      in_seen = omega (arith, i.in_seen, c.put.ensures.len, c.in_ok-grow.ensures.ok, grown_length _ _ c.in_ok-grow.ensures.grows);
      chained = subst (λ (ws : List Unsynced). AreChained ws c.max-self-inside.result) (sym writes_are) (subst (AreChained (s.writes.items ++ write ∷ [])) size_is chained);
    }

pub returns-clause-ok : goal.returns-clause-ok
returns-clause-ok c =
    let s = c.self.inside in
    let i = c.self.invariant in
    let at = c.args.at in
    let piece = c.args.piece.now in
    let old = take s.size s.seen.items in
    let writes = s.writes.items in
    let write = c.in_ok-write.write in
    let more = writes ++ write ∷ [] in
    let long : length old ≡ s.size = length-take-le s.size s.seen.items (omega (arith, i.in_seen)) in
    let at_in : at ≤ length old = omega (arith, c.requires, ap (λ (v : SideValue). length v.seen) c.self.view_is) in
    let covers : CoversBytes at piece old write = subst (λ (l : List ℕ). CoversBytes at piece (take s.size l) write) c.deref.ensures.value c.in_ok-write.ensures in
    let writes_are : c.push_reserved.new.self.items ≡ more = c.push_reserved.ensures.items ∙ ap (λ (ws : List Unsynced). ws ++ write ∷ []) c.in_ok-reserve.ensures.items in
    let size : c.max-self-inside.result ≡ max s.size (at + length piece) = omega arith in
    let now_is : take c.max-self-inside.result c.put.new.bytes.items ≡ written at piece old =
    ap (λ (k : ℕ). take k c.put.new.bytes.items) size
    ∙ grown_written at s.size piece s.seen.items c.grow.new.bytes.items c.put.new.bytes.items c.in_ok-grow.ensures.grows c.put.ensures.written (omega (arith, at_in, long)) (omega (arith, i.in_seen)) in
    elim [
      | Lose ↦ ap (λ (ws : List Unsynced). lost_by ws (take c.max-self-inside.result c.put.new.bytes.items)) writes_are ∙ ap (lost_by more) now_is
          ∙ lost_more writes write at piece old covers at_in ∙ ap (λ (v : SideValue). v.lost) c.self.view_is
      | Keep ↦ now_is ∙ ap (λ (v : SideValue). written at piece v.seen) c.self.view_is
      | Torn ↦ ap (λ (ws : List Unsynced). torn_by ws (lost_by ws (take c.max-self-inside.result c.put.new.bytes.items))) writes_are
          ∙ ap (λ (l : List ℕ). torn_by more (lost_by more l)) now_is
          ∙ torn_more writes write at piece old covers at_in ∙ ap (λ (v : SideValue). written at (torn_piece piece) v.torn) c.self.view_is
    ]
