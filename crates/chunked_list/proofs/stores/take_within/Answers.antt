use Rattle.std.proofs.Common.{◌∙◌, ap, arith, [], length, remove}
use Rattle.std.proofs.lemmas.List.{get_or_default}
use Rattle.chunked_list.specs.Joined.{joined_chunks, chunk_at}
use Rattle.chunked_list.specs.Room.{load_of}
use Rattle.chunked_list.proofs.Storing.{count_at, excess_at, take_sized, take_excess, take_count, joined_take, back_first, length_take}
use Rattle.chunked_list.proofs.Loads.{take_load, room_less}
use Rattle.chunked_list.proofs.Starting.{may_shrink, starts_set}
use Rattle.chunked_list.proofs.stores.take_within.Goals as goal

pub shift-requires-clause-fits : goal.shift-requires-clause-fits
shift-requires-clause-fits g c i h l =
    may_shrink c.args.store.now.chunks.items c.args.store.now.starts.items c.requires.is.starts c.requires.is.sized (omega (arith, c.requires.is.few)) c.args.place.chunk i c.requires.element.chunk_is (omega (arith, c.requires.others)) (omega (arith, h)) (omega (arith, l))

pub overflow_sub-store : goal.overflow_sub-store
overflow_sub-store g c =
    let b = count_at c.args.store.now.chunks.items c.args.place.chunk c.requires.element.chunk_is in
    omega (arith, b, c.requires.is.count, c.requires.others)

pub overflow_sub-store-2 : goal.overflow_sub-store-2
overflow_sub-store-2 g c =
    let e = c.index.ensures ∙ get_or_default c.args.store.now.chunks.items c.args.place.chunk c.index.result.now [] c.requires.element.chunk_is in
    let n = c.len-before.ensures.value ∙ ap length e in
    let x = excess_at c.args.store.now.chunks.items c.args.place.chunk c.requires.element.chunk_is in
    omega (arith, n, x, c.over.ensures, c.requires.is.excess)

pub returns-clause-is : goal.returns-clause-is
returns-clause-is g c =
    let e = c.index.ensures ∙ get_or_default c.args.store.now.chunks.items c.args.place.chunk c.index.result.now [] c.requires.element.chunk_is in
    let n = c.len-before.ensures.value ∙ ap length e in
    let x = excess_at c.args.store.now.chunks.items c.args.place.chunk c.requires.element.chunk_is in
    let h = take_excess c.args.store.now.chunks.items c.remove_at-element.new.chunks.items c.args.place.chunk c.args.place.at c.requires.element.chunk_is c.requires.element.at_is c.remove_at-element.ensures.items in
    let k = take_count c.args.store.now.chunks.items c.remove_at-element.new.chunks.items c.args.place.chunk c.args.place.at c.requires.element.chunk_is c.requires.element.at_is c.remove_at-element.ensures.items in
    let p = length_take (chunk_at c.args.store.now.chunks.items c.args.place.chunk) c.args.place.at c.requires.element.at_is in
    record {
      sized = take_sized c.args.store.now.chunks.items c.remove_at-element.new.chunks.items c.args.place.chunk c.args.place.at c.requires.element.chunk_is c.requires.element.at_is c.remove_at-element.ensures.items c.requires.is.sized c.requires.others;
      spare = c.requires.is.spare;
      excess = omega (arith, h, x, n, c.over.ensures, c.over-2.ensures, c.requires.is.excess);
      count = omega (arith, k, c.requires.is.count);
      chunk_room = omega (arith, c.remove_at-element.ensures.len, c.remove_at-element.ensures.capacity, c.requires.is.chunk_room);
      spare_room = omega (arith, c.remove_at-element.ensures.len, c.requires.is.spare_room);
      tops = c.remove_at-element.ensures.is;
      tops_room = omega (arith, c.remove_at-element.ensures.len, c.remove_at-element.ensures.tops_room, c.requires.is.tops_room);
      starts = starts_set 1 0 c.args.store.now.chunks.items c.remove_at-element.new.chunks.items c.args.store.now.starts.items c.shift.new.starts.items c.args.place.chunk (remove (chunk_at c.args.store.now.chunks.items c.args.place.chunk) c.args.place.at)
          c.requires.is.starts c.requires.element.chunk_is c.remove_at-element.ensures.items (omega (arith, c.requires.others)) (omega (arith, p)) c.shift.ensures.items;
      starts_room = omega (arith, c.remove_at-element.ensures.len, c.shift.ensures.capacity, c.requires.is.starts_room);
      few = omega (arith, c.remove_at-element.ensures.len, c.requires.is.few);
    }

pub returns-clause-elements : goal.returns-clause-elements
returns-clause-elements g c =
    ap joined_chunks c.remove_at-element.ensures.items
    ∙ joined_take c.args.store.now.chunks.items c.args.place.chunk c.args.place.at c.remove_at-element.result c.requires.element.chunk_is c.requires.element.at_is c.remove_at-element.ensures.value

pub returns-clause-room : goal.returns-clause-room
returns-clause-room g c =
    room_less _ (load_of c.args.store.now.chunks.items) (load_of c.remove_at-element.new.chunks.items)
    (take_load c.args.store.now.chunks.items c.remove_at-element.new.chunks.items c.args.place.chunk c.args.place.at c.requires.element.chunk_is c.requires.element.at_is c.remove_at-element.ensures.items)

pub returns-clause-element : goal.returns-clause-element
returns-clause-element g c =
    back_first c.args.store.now.chunks.items c.args.place.chunk c.args.place.at c.remove_at-element.result c.requires.element.at_is c.remove_at-element.ensures.value
