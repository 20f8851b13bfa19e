use Rattle.std.proofs.Common.{rules, ◌<◌, length, get_or}
use Rattle.std.proofs.lemmas.Option.{slice_get-get_or}
use Rattle.number_tables.proofs.Standings.{hash_at}
use Rattle.number_tables.proofs.hash_index.made_anew.Goals as goal

pub put-requires-clause-term : goal.put-requires-clause-term
put-requires-clause-term c =
    let within : c.loop-number.number < length c.args.hashes.now = search rules in
    hash_at c.args.terms.now c.args.hashes.now c.loop-number.number (get_or c.args.hashes.now c.loop-number.number 0) c.requires.hashed
    (slice_get-get_or c.args.hashes.now c.loop-number.number 0 within)
