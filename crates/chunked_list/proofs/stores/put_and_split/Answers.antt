use Rattle.std.proofs.Common.{◌∙◌, ◌<◌, ◌+◌, ap, arith, get_or, insert, length}
use Rattle.chunked_list.specs.Joined.{chunk_at}
use Rattle.chunked_list.specs.Room.{load_of}
use Rattle.chunked_list.proofs.Splitting.{split_count, split_excess, split_sized, split_joined, is_full, spare_left}
use Rattle.chunked_list.proofs.Loads.{split_load, room_taken, no_split}
use Rattle.chunked_list.proofs.Storing.{count_bound, excess_at, length_put}
use Rattle.chunked_list.proofs.Starting.{bounded, moved_front, may_grow, starts_set, starts_split}
use Rattle.chunked_list.proofs.stores.put_and_split.Goals as goal

pub shift-requires-clause-fits : goal.shift-requires-clause-fits
shift-requires-clause-fits g c i h l = may_grow c.args.store.now.chunks.items c.args.store.now.starts.items c.requires.is.starts c.requires.is.sized (omega (arith, c.requires.is.few)) i (omega (arith, l))

pub put_half-requires-clause-fits : goal.put_half-requires-clause-fits
put_half-requires-clause-fits g c =
    let starts = c.args.store.now.starts.items in
    let s = c.requires.is.starts in
    let k = c.args.place.chunk in
    let l : k < length starts = omega (arith, c.requires.chunk, s.len) in
    let b = bounded c.args.store.now.chunks.items starts s c.requires.is.sized (omega (arith, c.requires.is.few)) k l in
    let e = ap (λ ns. get_or ns k 0) c.shift.ensures.items ∙ moved_front 0 1 (k + 1) k starts (omega arith) l in
    omega (arith, b, e)

pub overflow_add-store : goal.overflow_add-store
overflow_add-store g c = let b = count_bound c.args.store.now.chunks.items c.requires.is.sized in omega (arith, b, c.requires.is.count, c.requires.is.few)

pub overflow_sub-store-in-Some : goal.overflow_sub-store-in-Some
overflow_sub-store-in-Some g c =
    let x = excess_at c.args.store.now.chunks.items c.args.place.chunk c.requires.chunk in
    omega (arith, x, c.requires.full, c.requires.is.excess)

pub returns-in-Some-clause-is : goal.returns-in-Some-clause-is
returns-in-Some-clause-is g c =
    let x = excess_at c.args.store.now.chunks.items c.args.place.chunk c.requires.chunk in
    let i = c.insert_at.ensures.items in
    let s = c.split_at.ensures.items in
    let h = split_excess c.args.store.now.chunks.items c.insert_at.new.chunks.items c.split_at.new.chunks.items c.args.place.chunk c.args.place.at c.args.element c.requires.chunk c.requires.full i s in
    let k = split_count c.args.store.now.chunks.items c.insert_at.new.chunks.items c.split_at.new.chunks.items c.args.place.chunk c.args.place.at c.args.element c.requires.chunk i s in
    let old = c.args.store.now.chunks.items in
    let at = c.args.place.chunk in
    let p = length_put (chunk_at old at) c.args.place.at c.args.element in
    let mid = starts_set 0 1 old c.insert_at.new.chunks.items c.args.store.now.starts.items c.shift.new.starts.items at (insert (chunk_at old at) c.args.place.at c.args.element)
    c.requires.is.starts c.requires.chunk i (omega arith) (omega (arith, p)) c.shift.ensures.items in
    let full = is_full old c.insert_at.new.chunks.items c.split_at.new.chunks.items at c.args.place.at c.args.element c.requires.chunk c.requires.full i in
    record {
      sized = split_sized c.args.store.now.chunks.items c.insert_at.new.chunks.items c.split_at.new.chunks.items c.args.place.chunk c.args.place.at c.args.element c.requires.chunk c.requires.full i s c.requires.is.sized;
      spare = spare_left c.args.store.now.spare.items c.pop.new.self.items c.in-Some.spare c.in-Some.ensures.items c.requires.is.spare;
      excess = omega (arith, h, x, c.requires.full, c.requires.is.excess);
      count = omega (arith, k, c.requires.is.count);
      chunk_room = omega (arith, c.insert_at.ensures.len, c.insert_at.ensures.capacity, c.split_at.ensures.len, c.split_at.ensures.capacity, c.in-Some.ensures.cases, c.requires.is.chunk_room);
      spare_room = omega (arith, c.insert_at.ensures.len, c.split_at.ensures.len, c.in-Some.ensures.cases, c.pop.ensures.capacity, c.requires.is.spare_room, c.requires.chunk);
      tops = c.split_at.ensures.is;
      tops_room = omega (arith, c.insert_at.ensures.len, c.insert_at.ensures.tops_room, c.split_at.ensures.len, c.split_at.ensures.tops_room, c.in-Some.ensures.cases, c.requires.is.tops_room);
      starts = starts_split c.insert_at.new.chunks.items c.split_at.new.chunks.items c.shift.new.starts.items c.put_half.new.starts.items at mid
          (omega (arith, c.insert_at.ensures.len, c.requires.chunk)) (omega (arith, full)) s c.put_half.ensures.items;
      starts_room = omega (arith, c.insert_at.ensures.len, c.split_at.ensures.len, c.shift.ensures.capacity, c.put_half.ensures.capacity, c.in-Some.ensures.cases, c.requires.is.starts_room);
      few = omega (arith, c.insert_at.ensures.len, c.split_at.ensures.len, c.in-Some.ensures.cases, c.requires.is.few);
    }

pub returns-in-Some-clause-elements : goal.returns-in-Some-clause-elements
returns-in-Some-clause-elements g c =
    split_joined c.args.store.now.chunks.items c.insert_at.new.chunks.items c.split_at.new.chunks.items c.args.place.chunk c.args.place.at c.args.element c.requires.chunk c.insert_at.ensures.items c.split_at.ensures.items

pub returns-in-Some-clause-room : goal.returns-in-Some-clause-room
returns-in-Some-clause-room g c =
    let h = split_load c.args.store.now.chunks.items c.insert_at.new.chunks.items c.split_at.new.chunks.items c.args.place.chunk c.args.place.at c.args.element c.requires.chunk c.requires.full c.insert_at.ensures.items c.split_at.ensures.items in
    room_taken _ _ (load_of c.args.store.now.chunks.items) (load_of c.split_at.new.chunks.items) (omega (arith, c.in-Some.ensures.cases)) h

pub returns-in_default-clause-elements : goal.returns-in_default-clause-elements
returns-in_default-clause-elements g c = absurd (no_split c.args.store.now.chunks.items c.args.place.chunk _ c.requires.is.sized c.requires.chunk c.requires.full c.in_default.ensures.cases.0 c.requires.room)
