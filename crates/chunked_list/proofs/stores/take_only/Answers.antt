use Rattle.std.proofs.Common.{◌≡◌, ◌∙◌, ◌<◌, ◌≤◌, ◌+◌, sym, ap, subst, arith, [], length}
use Rattle.std.proofs.lemmas.List.{get_or_default, nil_from_length}
use Rattle.chunked_list.specs.Joined.{joined_chunks}
use Rattle.hinted_chunks.specs.Hinted.{top_key}
use Rattle.chunked_list.specs.Stores.{AreSized}
use Rattle.chunked_list.specs.Room.{excess_of, load_of}
use Rattle.chunked_list.proofs.Loads.{gone_load, last_load, room_given, room_less}
use Rattle.chunked_list.proofs.Splitting.{spare_more}
use Rattle.chunked_list.proofs.Storing.{joined_only, count_remove, excess_remove, length_take, sized_remove}
use Rattle.hinted_chunks.proofs.Sharing.{taken_hinted}
use Rattle.chunked_list.proofs.Starting.{may_shrink_left, moved, starts_remove}
use Rattle.chunked_list.proofs.stores.take_only.Goals as goal

pub shift-requires-clause-fits : goal.shift-requires-clause-fits
shift-requires-clause-fits g c i h l =
    may_shrink_left c.args.store.now.chunks.items c.args.store.now.starts.items c.requires.is.starts c.requires.is.sized (omega (arith, c.requires.is.few)) c.args.place.chunk c.remove-2.new.self.items c.remove-2.ensures.items
    c.requires.element.chunk_is (omega (arith, c.requires.only)) i h (omega (arith, l))

pub returns-then-place-len-clause-is : goal.returns-then-place-len-clause-is
returns-then-place-len-clause-is g c =
    let i = c.remove-chunk.ensures.items in
    let l = c.requires.element.chunk_is in
    let h = excess_remove c.args.store.now.chunks.items c.args.place.chunk l in
    let k = count_remove c.args.store.now.chunks.items c.args.place.chunk l in
    let e = ap excess_of i in
    let n = ap (λ zs. length (joined_chunks zs)) i in
    let v = c.remove-chunk.ensures.value ∙ get_or_default c.args.store.now.chunks.items c.args.place.chunk c.remove-chunk.result [] l in
    let lv = ap length v in
    let lr = ap length c.remove-element.ensures.rest in
    let t = length_take c.remove-chunk.result c.args.place.at (omega (arith, lv, c.requires.element.at_is)) in
    let nil : c.remove-element.new.self ≡ [] = nil_from_length c.remove-element.new.self (omega (arith, lv, lr, t, c.requires.only)) in
    record {
      sized = subst AreSized (sym i) (sized_remove c.args.store.now.chunks.items c.args.place.chunk c.requires.is.sized);
      spare = spare_more c.args.store.now.spare.items c.push_reserved.new.self.items c.remove-element.new.self c.push_reserved.ensures.items nil c.requires.is.spare;
      excess = omega (arith, h, e, c.requires.only, c.requires.is.excess);
      count = omega (arith, k, n, c.requires.only, c.requires.is.count);
      chunk_room = omega (arith, c.remove-chunk.ensures.len, c.remove-chunk.ensures.capacity, c.push_reserved.ensures.len, c.requires.is.chunk_room);
      spare_room = omega (arith, c.remove-chunk.ensures.len, c.push_reserved.ensures.len, c.push_reserved.ensures.capacity, c.requires.is.spare_room);
      tops = taken_hinted (top_key g.T.Keyed.key) c.args.store.now.tops.mark c.args.place.chunk c.args.store.now.chunks.items c.remove-chunk.new.self.items c.args.store.now.tops.numbers.items c.remove.new.self.items
          c.requires.is.tops i c.remove.ensures.items;
      tops_room = omega (arith, c.remove-chunk.ensures.len, c.remove.ensures.capacity, c.push_reserved.ensures.len, c.requires.is.tops_room);
      starts = starts_remove c.args.store.now.chunks.items c.remove-chunk.new.self.items c.args.store.now.starts.items c.shift.new.starts.items c.args.place.chunk c.requires.is.starts l c.requires.only i
          (c.shift.ensures.items ∙ ap (moved 1 0 c.args.place.chunk) c.remove-2.ensures.items);
      starts_room = omega (arith, c.remove-chunk.ensures.len, c.push_reserved.ensures.len, c.remove-2.ensures.capacity, c.shift.ensures.capacity, c.requires.is.starts_room);
      few = omega (arith, c.remove-chunk.ensures.len, c.push_reserved.ensures.len, c.requires.is.few);
    }

pub returns-then-place-len-clause-elements : goal.returns-then-place-len-clause-elements
returns-then-place-len-clause-elements g c =
    ap joined_chunks c.remove-chunk.ensures.items
    ∙ joined_only c.args.store.now.chunks.items c.args.place.chunk c.args.place.at c.requires.element.at_is c.requires.only

pub returns-then-place-len-clause-room : goal.returns-then-place-len-clause-room
returns-then-place-len-clause-room g c =
    let old = c.args.store.now.chunks.items in
    let m : length old ≤ c.args.place.chunk + 1 = omega (arith, c.if-place-len.true, c.len.ensures, c.remove-chunk.ensures.len) in
    room_given _ _ (load_of old) (load_of c.remove-chunk.new.self.items) (omega (arith, c.push_reserved.ensures.len))
    (last_load old c.remove-chunk.new.self.items c.args.place.chunk c.requires.element.chunk_is m c.remove-chunk.ensures.items)

pub returns-else-place-len-clause-is : goal.returns-else-place-len-clause-is
returns-else-place-len-clause-is g c =
    let i = c.remove-chunk.ensures.items in
    let l = c.requires.element.chunk_is in
    let h = excess_remove c.args.store.now.chunks.items c.args.place.chunk l in
    let k = count_remove c.args.store.now.chunks.items c.args.place.chunk l in
    let e = ap excess_of i in
    let n = ap (λ zs. length (joined_chunks zs)) i in
    record {
      sized = subst AreSized (sym i) (sized_remove c.args.store.now.chunks.items c.args.place.chunk c.requires.is.sized);
      spare = c.requires.is.spare;
      excess = omega (arith, h, e, c.requires.only, c.requires.is.excess);
      count = omega (arith, k, n, c.requires.only, c.requires.is.count);
      chunk_room = omega (arith, c.remove-chunk.ensures.len, c.remove-chunk.ensures.capacity, c.requires.is.chunk_room);
      spare_room = omega (arith, c.remove-chunk.ensures.len, c.requires.is.spare_room);
      tops = taken_hinted (top_key g.T.Keyed.key) c.args.store.now.tops.mark c.args.place.chunk c.args.store.now.chunks.items c.remove-chunk.new.self.items c.args.store.now.tops.numbers.items c.remove.new.self.items
          c.requires.is.tops i c.remove.ensures.items;
      tops_room = omega (arith, c.remove-chunk.ensures.len, c.remove.ensures.capacity, c.requires.is.tops_room);
      starts = starts_remove c.args.store.now.chunks.items c.remove-chunk.new.self.items c.args.store.now.starts.items c.shift.new.starts.items c.args.place.chunk c.requires.is.starts l c.requires.only i
          (c.shift.ensures.items ∙ ap (moved 1 0 c.args.place.chunk) c.remove-2.ensures.items);
      starts_room = omega (arith, c.remove-chunk.ensures.len, c.remove-2.ensures.capacity, c.shift.ensures.capacity, c.requires.is.starts_room);
      few = omega (arith, c.remove-chunk.ensures.len, c.requires.is.few);
    }

pub returns-else-place-len-clause-elements : goal.returns-else-place-len-clause-elements
returns-else-place-len-clause-elements g c =
    ap joined_chunks c.remove-chunk.ensures.items
    ∙ joined_only c.args.store.now.chunks.items c.args.place.chunk c.args.place.at c.requires.element.at_is c.requires.only

pub returns-else-place-len-clause-room : goal.returns-else-place-len-clause-room
returns-else-place-len-clause-room g c =
    let old = c.args.store.now.chunks.items in
    let m : c.args.place.chunk + 1 < length old = omega (arith, c.if-place-len.false, c.len.ensures, c.remove-chunk.ensures.len, c.requires.element.chunk_is) in
    room_less _ (load_of old) (load_of c.remove-chunk.new.self.items) (gone_load old c.remove-chunk.new.self.items c.args.place.chunk m c.remove-chunk.ensures.items)
