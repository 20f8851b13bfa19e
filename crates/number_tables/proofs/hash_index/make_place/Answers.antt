use Rattle.std.proofs.Common.{ℕ, List, subst}
use Rattle.std.proofs.lemmas.Result.{on_ok_weaker}
use Rattle.number_tables.specs.declared.hashed.HashedNumber.{HashedNumber}
use Rattle.number_tables.specs.HashBuckets.{IsVacancy}
use Rattle.number_tables.proofs.hash_index.make_place.Goals as goal

pub returns-then-is_open-clause-room : goal.returns-then-is_open-clause-room
returns-then-is_open-clause-room c =
    let room = subst (λ (slots : List HashedNumber). (place : ℕ) × IsVacancy slots c.args.hash place) c.deref.ensures.value (c.is_open.ensures c.if-is_open.true) in
    λ full. absurd (full room.0 room.1)

pub returns-clause-room : goal.returns-clause-room
returns-clause-room c = on_ok_weaker c.prepare.result (λ l _. l) c.prepare.ensures.ok
