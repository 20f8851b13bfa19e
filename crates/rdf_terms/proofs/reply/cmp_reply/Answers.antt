use Rattle.std.proofs.Common.{rules, sym}
use Rattle.rdf_terms.proofs.Replies.{two_integers}
use Rattle.rdf_terms.proofs.reply.cmp_reply.Goals as goal

pub returns-in-Some-Some : goal.returns-in-Some-Some
returns-in-Some-Some c =
    rw (two_integers c.args.a.now c.args.b.now c.in-Some-Some.x c.in-Some-Some.y (sym c.in-Some-Some.ensures) (sym c.in-Some-Some.ensures')) (search rules)
