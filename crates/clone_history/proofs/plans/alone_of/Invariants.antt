use Rattle.std.proofs.Common.{ℕ, take}
use Rattle.rdf_terms.specs.declared.terms.Triple.{Triple}
use Rattle.clone_history.specs.UndoParts.{AreTemplates}
use Rattle.clone_history.specs.Undoing.{IsTakenOut}
use Rattle.clone_history.proofs.plans.alone_of.Given as goal

abbrev pub invariant-loop-triple : goal.invariant-loop-triple
invariant-loop-triple l =
    AreTemplates (λ (insert : Triple × ℕ). IsTakenOut l.own l.others.pairs l.pairs.pairs insert.0) (λ insert. insert.0) (take l.triple-index l.inserts) l.templates.items
