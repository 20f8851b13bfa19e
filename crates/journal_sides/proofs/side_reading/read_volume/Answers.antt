use Rattle.std.proofs.Common.{[], suc, length, drop, refl, ap, arith}
use Rattle.std.proofs.lemmas.Result.{err_from_is_err_and}
use Rattle.tree_clock.specs.Clock.{ticks_of}
use Rattle.journal_sides.specs.RecordsRead.{Shows}
use Rattle.journal_sides.specs.Heads.{Opening}
use Rattle.journal_sides.specs.Openings.{opening_value}
use Rattle.journal_sides.proofs.SideReading.{volume_refused, head_refused, records_refused, steps_enough, volume_found}
use Rattle.journal_sides.proofs.side_reading.read_volume.Goals as goal

pub returns-in_err-generation-clause-tells : goal.returns-in_err-generation-clause-tells
returns-in_err-generation-clause-tells c =
    let p = err_from_is_err_and c.from_residual.result c.from_residual.ensures.1 in
    rw (p.1, p.2) (volume_refused c.args.input.now c.requires c.args.side c.in_err-generation.field-0.0 (head_refused c.args.input.now c.requires c.in_err-generation.field-0.0 c.in_err-generation.ensures))

pub returns-in_err-stop-clause-tells : goal.returns-in_err-stop-clause-tells
returns-in_err-stop-clause-tells c =
    let p = err_from_is_err_and c.from_residual-in_err-stop.result c.from_residual-in_err-stop.ensures.1 in
    let opening : Opening = opening_value c.in_ok-generation.field-0-0 in
    let shows : Shows opening.head [] c.new.result.items opening.head.path c.in_ok-copy_in.field-0.ticks = record {
      entries_are = c.new.ensures.items;
      path_is = refl;
      ticks_are = λ other. ap (λ ticks. ticks_of ticks other) c.in_ok-copy_in.ensures.ok;
    } in
    rw (p.1, p.2) (volume_refused c.args.input.now c.requires c.args.side c.in_err-stop.field-0.0
    (records_refused c.args.input.now c.requires opening c.in_ok-generation.next c.in_err-stop.field-0.0 c.in_ok-generation.ensures
    (c.in_err-stop.ensures.agrees opening.head (suc (length (drop 1 c.args.input.now))) shows (steps_enough c.args.input.now c.requires opening c.in_ok-generation.next (λ k. omega (arith, c.type_inv.input k)) c.in_ok-generation.ensures))))

pub returns-clause-tells : goal.returns-clause-tells
returns-clause-tells c =
    let opening : Opening = opening_value c.in_ok-generation.field-0-0 in
    let shows : Shows opening.head [] c.new.result.items opening.head.path c.in_ok-copy_in.field-0.ticks = record {
      entries_are = c.new.ensures.items;
      path_is = refl;
      ticks_are = λ other. ap (λ ticks. ticks_of ticks other) c.in_ok-copy_in.ensures.ok;
    } in
    let v = volume_found c.args.input.now c.requires c.args.side opening c.in_ok-generation.next c.in_ok-stop.stop c.take_records.new.progress.entries.items c.take_records.new.progress.path (λ k. omega (arith, c.type_inv.input k))
    c.in_ok-generation.ensures
    (c.in_ok-stop.ensures.agrees opening.head (suc (length (drop 1 c.args.input.now))) shows (steps_enough c.args.input.now c.requires opening c.in_ok-generation.next (λ k. omega (arith, c.type_inv.input k)) c.in_ok-generation.ensures)) in
    (record { volume = v.volume; reads = v.reads; kept = v.kept; stored = v.stored; ends = v.ends }, refl)
