use Rattle.std.proofs.Common.{List, subst}
use Rattle.number_tables.specs.declared.hashed.HashedNumber.{HashedNumber}
use Rattle.number_tables.specs.HashBuckets.{IsFull, IsVacancy}
use Rattle.number_tables.proofs.Standings.{put_in_bucket, put_in_order}
use Rattle.number_tables.proofs.hash_index.put.Goals as goal

pub insert-requires-clause-room : goal.insert-requires-clause-room
insert-requires-clause-room c = c.requires.room (subst (λ (slots : List HashedNumber). IsFull slots c.args.hash) c.deref.ensures.value c.in-None.ensures.none)

pub returns-in-Some : goal.returns-in-Some
returns-in-Some c =
    put_in_bucket c.args.terms.now c.args.number c.args.index.now.slots.items c.args.index.now.places.elements c.args.hash c.requires.term.0 c.requires.is c.requires.term.1
    c.requires.term.2 c.in-Some.place c.requires.few
    (subst (λ (slots : List HashedNumber). IsVacancy slots c.args.hash c.in-Some.place) c.deref.ensures.value c.in-Some.ensures.some)

pub returns-in-None : goal.returns-in-None
returns-in-None c =
    put_in_order c.args.terms.now c.args.number c.args.index.now.slots.items c.args.index.now.places.elements c.args.hash c.requires.term.0 c.requires.is c.requires.term.1
    c.requires.term.2 c.insert.new.self.elements (subst (λ (slots : List HashedNumber). IsFull slots c.args.hash) c.deref.ensures.value c.in-None.ensures.none)
    c.insert.ensures.ascending c.insert.ensures.members
