use Rattle.std.proofs.Common.{rules, arith}
use Rattle.std.proofs.lemmas.List.{nil_from_length}
use Rattle.mld_replay.proofs.BlankLemmas.{blanking_first, blanking_next, blanking_more, blanking_stops, blanking_less, blanking_all, blanking_quiet}
use Rattle.mld_replay.proofs.blanks.blanks_of.Goals as goal

pub loop-one-init : goal.loop-one-init
loop-one-init g c = record {
  blanking = blanking_first g.B.Banks.log g.B.Banks.meter c.args.banks.items c.in-Ok.blanks.items c.from_vec-rest.result.items c.in-Ok.ensures.none.0 c.from_vec-rest.ensures.items c.requires.empty;
  count = rw (c.in-Ok.ensures.none.0, c.from_vec-rest.ensures.items) (omega (arith, c.requires.count));
  room = omega (arith, c.in-Ok.ensures.room.0, c.len.ensures, c.requires.count);
}

pub blank_of-requires : goal.blank_of-requires
blank_of-requires g c = (
  c.type_bounds.sync-R,
  blanking_next g.B.Banks.log g.B.Banks.meter c.args.banks.items c.loop-one.blanks.items c.loop-one.rest.items c.pop_front.new.self.items c.in-Some.one c.loop-one.number c.loop-one.invariant.blanking
      c.in-Some.ensures.items,
)

pub returns-in-Err-Some-clause-err : goal.returns-in-Err-Some-clause-err
returns-in-Err-Some-clause-err g c =
    blanking_stops g.B.Banks.log g.B.Banks.meter c.args.banks.items c.loop-one.blanks.items c.loop-one.rest.items c.pop_front.new.self.items c.all_back-banks.result.items c.in-Some.one c.in-Err-Some.one
    c.loop-one.number c.loop-one.invariant.blanking c.in-Some.ensures.items c.all_back-banks.ensures (rw c.in-Err-Some.field-0-is at c.in-Err-Some.ensures.later)
    (rw c.in-Err-Some.field-0-is at c.in-Err-Some.ensures.failed)

pub loop-one-preserved : goal.loop-one-preserved
loop-one-preserved g c = record {
  blanking = blanking_more g.B.Banks.log g.B.Banks.meter g.met.B.CrashBanks.tells c.args.banks.items c.loop-one.blanks.items c.loop-one.rest.items c.pop_front.new.self.items c.push_reserved.new.self.items c.in-Some.one
      c.in-Ok-blank_of.blank c.loop-one.number c.loop-one.invariant.blanking c.in-Some.ensures.items c.push_reserved.ensures.items c.in-Ok-blank_of.ensures.ok c.in-Ok-blank_of.ensures.quiet c.in-Ok-blank_of.ensures.blank c.in-Ok-blank_of.ensures.less;
  count = search (rules, arith);
  room = search (rules, arith);
}

pub returns-clause-well : goal.returns-clause-well
returns-clause-well g c =
    let none = nil_from_length c.loop-one.rest.items (omega (arith, c.in_default-pop_front.ensures.cases.0)) in
    record {
      meters = blanking_all g.B.Banks.log g.B.Banks.meter c.args.banks.items c.loop-one.blanks.items c.loop-one.rest.items c.loop-one.number c.loop-one.invariant.blanking none;
      quiet = blanking_quiet g.B.Banks.log g.B.Banks.meter c.args.banks.items c.loop-one.blanks.items c.loop-one.rest.items c.loop-one.number c.loop-one.invariant.blanking none;
    }

pub returns-clause-blank : goal.returns-clause-blank
returns-clause-blank g c = c.loop-one.invariant.blanking.blank

pub returns-in-Err-Some-clause-left : goal.returns-in-Err-Some-clause-left
returns-in-Err-Some-clause-left g c =
    blanking_less g.B.Banks.log g.B.Banks.meter g.met.B.CrashBanks.tells c.args.banks.items c.loop-one.blanks.items c.loop-one.rest.items c.pop_front.new.self.items c.all_back-banks.result.items c.in-Some.one
    c.in-Err-Some.one c.loop-one.number c.loop-one.invariant.blanking c.in-Some.ensures.items c.all_back-banks.ensures (rw c.in-Err-Some.field-0-is at c.in-Err-Some.ensures.left)
