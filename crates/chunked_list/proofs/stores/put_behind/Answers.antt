use Rattle.std.proofs.Common.{◌≡◌, ◌∙◌, ◌++◌, ◌∷◌, [], sym, ap, subst, arith, insert, length}
use Rattle.std.proofs.lemmas.List.Edits.{insert_end}
use Rattle.hinted_chunks.specs.Hinted.{AreHinted, top_key}
use Rattle.chunked_list.specs.Room.{load_of}
use Rattle.chunked_list.proofs.Loads.{behind_load, room_taken}
use Rattle.chunked_list.proofs.Splitting.{behind_sized, behind_excess, behind_joined, behind_count, spare_left, spare_last}
use Rattle.chunked_list.proofs.Storing.{count_bound}
use Rattle.chunked_list.proofs.Starting.{starts_behind}
use Rattle.chunked_list.proofs.stores.put_behind.Goals as goal

pub overflow_add-store : goal.overflow_add-store
overflow_add-store g c = let b = count_bound c.args.store.now.chunks.items c.requires.is.sized in omega (arith, b, c.requires.is.count, c.requires.is.few)

pub returns-in-Some-clause-is : goal.returns-in-Some-clause-is
returns-in-Some-clause-is g c =
    let old = c.args.store.now.chunks.items in
    let new = c.push_reserved.new.self.items in
    let x = c.args.element in
    let chunk = c.insert.new.self in
    let nil = spare_last c.args.store.now.spare.items c.pop.new.self.items c.in-Some.spare c.in-Some.ensures.items c.requires.is.spare in
    let one : chunk ≡ x ∷ [] = c.insert.ensures ∙ ap (λ zs. insert zs 0 x) nil in
    let e : new ≡ old ++ (x ∷ []) ∷ [] = c.push_reserved.ensures.items ∙ ap (λ zs. old ++ zs ∷ []) one in
    let n : c.len.result ≡ length old = omega (arith, c.len.ensures) in
    let h = behind_excess old new x e in
    let k = behind_count old new x e in
    record {
      sized = behind_sized old new x e c.requires.is.sized;
      spare = spare_left c.args.store.now.spare.items c.pop.new.self.items c.in-Some.spare c.in-Some.ensures.items c.requires.is.spare;
      excess = c.requires.is.excess ∙ sym h;
      count = omega (arith, k, c.requires.is.count);
      chunk_room = omega (arith, c.push_reserved.ensures.len, c.push_reserved.ensures.capacity, c.in-Some.ensures.cases, c.requires.is.chunk_room);
      spare_room = omega (arith, c.push_reserved.ensures.len, c.in-Some.ensures.cases, c.pop.ensures.capacity, c.requires.is.spare_room);
      tops = subst (λ zs. AreHinted (top_key g.T.Keyed.key) c.put_hint.new.hints.mark zs c.put_hint.new.hints.numbers.items)
          (ap (λ zs. insert zs c.len.result chunk) c.deref.ensures.value ∙ ap (λ at. insert old at chunk) n ∙ insert_end old chunk ∙ sym c.push_reserved.ensures.items)
          c.put_hint.ensures.is;
      tops_room = omega (arith, c.push_reserved.ensures.len, c.put_hint.ensures.room, c.in-Some.ensures.cases, c.requires.is.tops_room);
      starts = starts_behind old new c.args.store.now.starts.items c.push_reserved-in-Some.new.self.items chunk c.args.store.now.count c.requires.is.starts c.push_reserved.ensures.items c.push_reserved-in-Some.ensures.items c.requires.is.count;
      starts_room = omega (arith, c.push_reserved.ensures.len, c.push_reserved-in-Some.ensures.capacity, c.in-Some.ensures.cases, c.requires.is.starts_room);
      few = omega (arith, c.push_reserved.ensures.len, c.in-Some.ensures.cases, c.requires.is.few);
    }

pub returns-in-Some-clause-elements : goal.returns-in-Some-clause-elements
returns-in-Some-clause-elements g c =
    let old = c.args.store.now.chunks.items in
    let x = c.args.element in
    let nil = spare_last c.args.store.now.spare.items c.pop.new.self.items c.in-Some.spare c.in-Some.ensures.items c.requires.is.spare in
    behind_joined old c.push_reserved.new.self.items x (c.push_reserved.ensures.items ∙ ap (λ zs. old ++ zs ∷ []) (c.insert.ensures ∙ ap (λ zs. insert zs 0 x) nil))

pub returns-in-Some-clause-room : goal.returns-in-Some-clause-room
returns-in-Some-clause-room g c =
    let old = c.args.store.now.chunks.items in
    let x = c.args.element in
    let nil = spare_last c.args.store.now.spare.items c.pop.new.self.items c.in-Some.spare c.in-Some.ensures.items c.requires.is.spare in
    let h = behind_load old c.push_reserved.new.self.items x c.requires.full (c.push_reserved.ensures.items ∙ ap (λ zs. old ++ zs ∷ []) (c.insert.ensures ∙ ap (λ zs. insert zs 0 x) nil)) in
    room_taken _ _ (load_of old) (load_of c.push_reserved.new.self.items) (omega (arith, c.in-Some.ensures.cases)) h
