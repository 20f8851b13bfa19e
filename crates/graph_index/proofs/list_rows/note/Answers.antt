use Rattle.std.proofs.Common.{◌<◌, length, rules}
use Rattle.graph_index.proofs.Listing.{note_told}
use Rattle.graph_index.proofs.list_rows.note.Goals as goal

pub returns-then-at-len : goal.returns-then-at-len
returns-then-at-len c =
    let within : c.args.at < length c.args.noted.now.items = search rules in
    λ other found h. note_told c.args.noted.now.items c.args.at c.args.number other found within h
