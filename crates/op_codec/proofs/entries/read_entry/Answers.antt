use Rattle.std.proofs.Common.{arith, sym, subst, refl, drop}
use Rattle.std.proofs.lemmas.Bool.{false≢true}
use Rattle.mld_ops.specs.Entry.{EntryValue}
use Rattle.op_codec.specs.Agreement.{IsRead}
use Rattle.op_codec.specs.Entries.{entry_bytes, read_entry}
use Rattle.op_codec.proofs.EntryLaws.{HasParts, entry_read, entry_missed}
use Rattle.op_codec.specs.Stored.{IsStoredEntry}
use Rattle.op_codec.proofs.EntryTrips.{entry_one}
use Rattle.op_codec.proofs.ReadWritten.{written_if_read}
use Rattle.op_codec.proofs.Shapes.{clock_of_stored}
use Rattle.op_codec.proofs.entries.read_entry.Goals as goal

pub returns-in-Some-clause-agrees : goal.returns-in-Some-clause-agrees
returns-in-Some-clause-agrees c =
    let entry : EntryValue = record { range = c.in_ok-range.range; time = c.in_ok-time.time.ticks; deletes = c.in_ok-deletes.deletes.items; inserts = c.in_ok-inserts.inserts.items } in
    let parts : HasParts c.args.input.now c.args.at entry c.in_ok-inserts.end = record {
      first = c.in_ok-range.next;
      second = c.in_ok-time.next;
      third = c.in_ok-deletes.next;
      range = c.in_ok-range.ensures;
      time = c.in_ok-time.ensures.agrees;
      deletes = c.in_ok-deletes.ensures;
      inserts = c.in_ok-inserts.ensures;
    } in
    subst (λ (e : EntryValue). IsRead (read_entry c.args.at (drop c.args.at c.args.input.now)) c.args.input.now e c.in_ok-inserts.end) (sym c.in-Some.ensures.value)
    (entry_read c.args.input.now c.args.at entry c.in_ok-inserts.end parts (c.in-Some.ensures.some.0 refl))

pub returns-in-None-clause-agrees : goal.returns-in-None-clause-agrees
returns-in-None-clause-agrees c =
    let entry : EntryValue = record { range = c.in_ok-range.range; time = c.in_ok-time.time.ticks; deletes = c.in_ok-deletes.deletes.items; inserts = c.in_ok-inserts.inserts.items } in
    let parts : HasParts c.args.input.now c.args.at entry c.in_ok-inserts.end = record {
      first = c.in_ok-range.next;
      second = c.in_ok-time.next;
      third = c.in_ok-deletes.next;
      range = c.in_ok-range.ensures;
      time = c.in_ok-time.ensures.agrees;
      deletes = c.in_ok-deletes.ensures;
      inserts = c.in_ok-inserts.ensures;
    } in
    entry_missed c.args.input.now c.args.at entry c.in_ok-inserts.end parts (clock_of_stored entry.time c.in_ok-time.ensures.written.value_is) (λ e. false≢true (c.in-None.ensures.some.1 e))

pub returns-in-Some-clause-written : goal.returns-in-Some-clause-written
returns-in-Some-clause-written c =
    written_if_read IsStoredEntry entry_bytes read_entry entry_one c.args.input.now c.args.at (λ k. omega (arith, c.type_inv.input k)) c.in-Some.entry c.in_ok-inserts.end (returns-in-Some-clause-agrees c)
