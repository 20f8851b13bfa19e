use Rattle.mld_replay.proofs.BlankLemmas.{empty_finds_not, mounted_less, mounted_blank}
use Rattle.mld_replay.proofs.blanks.blank_of.Goals as goal

pub unreachable-requires : goal.unreachable-requires
unreachable-requires g c =
    empty_finds_not c.mount.result (g.B.Banks.log c.args.banks) (g.met.B.CrashBanks.tells c.args.banks) c.requires c.mount.ensures.tells
    (rw (c.in-Refused-Damaged-default.is, c.in-Refused-Damaged-default.field-0-is) tt)

pub unreachable-requires-in-Live : goal.unreachable-requires-in-Live
unreachable-requires-in-Live g c =
    empty_finds_not c.mount.result (g.B.Banks.log c.args.banks) (g.met.B.CrashBanks.tells c.args.banks) c.requires c.mount.ensures.tells (rw c.in-Live.is tt)

pub returns-in-Empty-clause-blank : goal.returns-in-Empty-clause-blank
returns-in-Empty-clause-blank g c =
    mounted_blank g.B.Banks.log g.met.B.CrashBanks.tells c.args.banks c.in-Empty.blank (rw c.in-Empty.is at c.mount.ensures.tells) (rw c.in-Empty.is at c.mount.ensures.synced)

pub returns-in-Empty-clause-less : goal.returns-in-Empty-clause-less
returns-in-Empty-clause-less g c = mounted_less g.B.Banks.log c.args.banks c.in-Empty.blank (rw c.in-Empty.is at c.mount.ensures.moments)

pub returns-in-Refused-Device-default-clause-left : goal.returns-in-Refused-Device-default-clause-left
returns-in-Refused-Device-default-clause-left g c = mounted_less g.B.Banks.log c.args.banks c.in-Refused-Device-default.banks (rw c.in-Refused-Device-default.is at c.mount.ensures.moments)
