-- What was kept free for the connection is used.
use Rattle.std.proofs.Common.{rules, ◌==◌, not, ◌&&◌, Bool, ap, ◌∙◌, arith, [], ◌∷◌, IsTrue}
use Rattle.std.specs.List.{list_any}
use Rattle.std.proofs.lemmas.List.{reverse-append}
use Rattle.mld_io.specs.declared.events.WireCall.TheVariants.{Closed}
use Rattle.mld_io.proofs.wire_records.WireRecord.shut.Goals as goal

pub invariant_of-self : goal.invariant_of-self
invariant_of-self c =
    let there : IsTrue (list_any (λ y. y == c.args.conn) c.self.inside.open_ones.items) = search rules in
    record {
      room = omega (arith, c.self.invariant.room, c.remove.ensures.fewer there, c.push_reserved.ensures.len, c.push_reserved.ensures.capacity);
      listed = λ conn. rw c.push_reserved.ensures.items (rw (reverse-append c.self.inside.calls.items (Closed c.args.conn ∷ []))
          (c.remove.ensures.listed conn ∙ ap (λ (b : Bool). not (c.args.conn == conn) && b) (c.self.invariant.listed conn)));
    }
