use Rattle.std.proofs.Common.{◌∙◌, ap, arith, [], length, insert}
use Rattle.std.proofs.lemmas.List.{get_or_default}
use Rattle.chunked_list.specs.Joined.{joined_chunks, chunk_at}
use Rattle.chunked_list.specs.Room.{load_of}
use Rattle.chunked_list.proofs.Storing.{count_bound, excess_bound, excess_at, put_sized, put_excess, put_count, joined_put, length_put}
use Rattle.chunked_list.proofs.Loads.{put_load, room_within}
use Rattle.chunked_list.proofs.Starting.{may_grow, starts_set}
use Rattle.chunked_list.proofs.stores.put_within.Goals as goal

pub shift-requires-clause-fits : goal.shift-requires-clause-fits
shift-requires-clause-fits g c i h l = may_grow c.args.store.now.chunks.items c.args.store.now.starts.items c.requires.is.starts c.requires.is.sized (omega (arith, c.requires.is.few)) i (omega (arith, l))

pub overflow_add-store : goal.overflow_add-store
overflow_add-store g c = let b = count_bound c.args.store.now.chunks.items c.requires.is.sized in omega (arith, b, c.requires.is.count, c.requires.is.few)

pub overflow_sub-store : goal.overflow_sub-store
overflow_sub-store g c =
    let e = c.index.ensures ∙ get_or_default c.args.store.now.chunks.items c.args.place.chunk c.index.result.now [] c.requires.chunk in
    let n = c.len-before.ensures.value ∙ ap length e in
    let x = excess_at c.args.store.now.chunks.items c.args.place.chunk c.requires.chunk in
    omega (arith, n, x, c.over.ensures, c.requires.is.excess)

pub overflow_add-store-2 : goal.overflow_add-store-2
overflow_add-store-2 g c = let b = excess_bound c.args.store.now.chunks.items c.requires.is.sized in omega (arith, b, c.requires.is.excess, c.requires.is.few, c.over-2.ensures, c.len-before.ensures.value, c.len-before.ensures.limit)

pub returns-clause-is : goal.returns-clause-is
returns-clause-is g c =
    let e = c.index.ensures ∙ get_or_default c.args.store.now.chunks.items c.args.place.chunk c.index.result.now [] c.requires.chunk in
    let n = c.len-before.ensures.value ∙ ap length e in
    let x = excess_at c.args.store.now.chunks.items c.args.place.chunk c.requires.chunk in
    let h = put_excess c.args.store.now.chunks.items c.insert_at.new.chunks.items c.args.place.chunk c.args.place.at c.args.element c.requires.chunk c.insert_at.ensures.items in
    let k = put_count c.args.store.now.chunks.items c.insert_at.new.chunks.items c.args.place.chunk c.args.place.at c.args.element c.requires.chunk c.insert_at.ensures.items in
    let p = length_put (chunk_at c.args.store.now.chunks.items c.args.place.chunk) c.args.place.at c.args.element in
    record {
      sized = put_sized c.args.store.now.chunks.items c.insert_at.new.chunks.items c.args.place.chunk c.args.place.at c.args.element c.insert_at.ensures.items c.requires.is.sized c.requires.space;
      spare = c.requires.is.spare;
      excess = omega (arith, h, x, n, c.over.ensures, c.over-2.ensures, c.requires.is.excess);
      count = omega (arith, k, c.requires.is.count);
      chunk_room = omega (arith, c.insert_at.ensures.len, c.insert_at.ensures.capacity, c.requires.is.chunk_room);
      spare_room = omega (arith, c.insert_at.ensures.len, c.requires.is.spare_room);
      tops = c.insert_at.ensures.is;
      tops_room = omega (arith, c.insert_at.ensures.len, c.insert_at.ensures.tops_room, c.requires.is.tops_room);
      starts = starts_set 0 1 c.args.store.now.chunks.items c.insert_at.new.chunks.items c.args.store.now.starts.items c.shift.new.starts.items c.args.place.chunk (insert (chunk_at c.args.store.now.chunks.items c.args.place.chunk) c.args.place.at c.args.element)
          c.requires.is.starts c.requires.chunk c.insert_at.ensures.items (omega arith) (omega (arith, p)) c.shift.ensures.items;
      starts_room = omega (arith, c.insert_at.ensures.len, c.shift.ensures.capacity, c.requires.is.starts_room);
      few = omega (arith, c.insert_at.ensures.len, c.requires.is.few);
    }

pub returns-clause-elements : goal.returns-clause-elements
returns-clause-elements g c =
    ap joined_chunks c.insert_at.ensures.items
    ∙ joined_put c.args.store.now.chunks.items c.args.place.chunk c.args.place.at c.args.element c.requires.chunk

pub returns-clause-room : goal.returns-clause-room
returns-clause-room g c =
    room_within _ (load_of c.args.store.now.chunks.items) (load_of c.insert_at.new.chunks.items)
    (put_load c.args.store.now.chunks.items c.insert_at.new.chunks.items c.args.place.chunk c.args.place.at c.args.element c.requires.chunk c.insert_at.ensures.items)
