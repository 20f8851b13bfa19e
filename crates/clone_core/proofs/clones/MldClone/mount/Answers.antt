use Rattle.std.proofs.Common.{◌∙◌, List, sym, ap, subst}
use Rattle.mld_ops.specs.Entry.{EntryValue}
use Rattle.mld_model.specs.Local.{LeadsTo}
use Rattle.journal_sides.specs.Heads.{head_value}
use Rattle.journal_sides.specs.Pairs.{Keeps, read_banks}
use Rattle.mld_io.specs.Disk.{seen}
use Rattle.clone_core.specs.Banked.{BankedClone}
use Rattle.clone_core.specs.FoundClone.{found_clone}
use Rattle.clone_core.specs.Opening.{IsFoundAs}
use Rattle.clone_core.proofs.Begun.{found_local}
use Rattle.clone_core.proofs.Mounting.{found_kept, mounted_on_banks}
use Rattle.clone_core.proofs.clones.MldClone.mount.Goals as goal

pub found-requires-clause-local : goal.found-requires-clause-local
found-requires-clause-local g c =
    let head = head_value c.in-Found.head in
    let replayed = c.in-Ok.replayed in
    let good = c.in-Found.ensures.good.0 in
    found_local head c.at-leaf.result replayed (record { name = good.name; ascending = good.props_ascend }) c.in-Ok.ensures.clock good.base
    (subst (λ (es : List EntryValue). LeadsTo head.base.ticks head.base.pairs es replayed.clock.ticks replayed.pairs.pairs) (sym c.in-Ok.ensures.entries) c.in-Ok.ensures.leads)
    c.in-Ok.ensures.covered

pub found-requires-clause-banks : goal.found-requires-clause-banks
found-requires-clause-banks g c =
    let head = head_value c.in-Found.head in
    let replayed = c.in-Ok.replayed in
    let journal = c.in-Found.journal in
    let entries = c.in-Found.entries.items in
    mounted_on_banks (g.B.Banks.log c.args.banks) (g.B.Banks.log journal.banks) journal.side journal.generation (found_clone head c.at-leaf.result replayed)
    (record { side = journal.side; generation = journal.generation; head = head; entries = entries }) c.in-Found.ensures.tells c.in-Found.ensures.synced
    c.in-Found.ensures.told (found_kept journal.side journal.generation head entries c.at-leaf.result replayed c.at-leaf.ensures c.in-Ok.ensures.entries)

pub returns-in-Ok-clause-tells : goal.returns-in-Ok-clause-tells
returns-in-Ok-clause-tells g c = λ l told.
    let head = head_value c.in-Found.head in
    let replayed = c.in-Ok.replayed in
    let journal = c.in-Found.journal in
    subst (λ (clone : BankedClone _). IsFoundAs clone (read_banks (seen l))) (sym c.found.ensures)
    (record {
      side = journal.side;
      reads = c.in-Found.ensures.tells l told
          ∙ ap Keeps (found_kept journal.side journal.generation head c.in-Found.entries.items c.at-leaf.result replayed c.at-leaf.ensures c.in-Ok.ensures.entries);
    })
