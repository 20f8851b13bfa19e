use Rattle.std.proofs.Common.{ℕ, List, IfOk, Vec, Global, subst}
use Rattle.rdf_terms.specs.declared.terms.Triple.{Triple}
use Rattle.tree_clock.specs.declared.dots.Dot.{Dot}
use Rattle.mld_ops.specs.declared.tagged.Tagged.{Tagged}
use Rattle.jrql_ast.specs.declared.patterns.PatternTriple.{PatternTriple}
use Rattle.clone_history.specs.UndoParts.{AreTemplates}
use Rattle.clone_history.specs.Undoing.{IsTakenOut}
use Rattle.clone_history.proofs.plans.taken_out.Goals as goal

pub returns : goal.returns
returns c =
    let R : Dot → List Tagged → List (Triple × ℕ) → Type 0 = λ own deleted inserts. IfOk c.alone_of.result (λ (templates : Vec PatternTriple Global).
    AreTemplates (λ (insert : Triple × ℕ). IsTakenOut own deleted c.args.pairs.now.pairs insert.0) (λ (insert : Triple × ℕ). insert.0) inserts templates.items) in
    let entry = c.args.entry.now in
    subst (λ (own : Dot). R own entry.deletes entry.inserts) c.last_dot.ensures
    (subst (λ (deleted : List Tagged). R c.last_dot.result deleted entry.inserts) c.in_ok-others.ensures
    (subst (λ (inserts : List (Triple × ℕ)). R c.last_dot.result c.in_ok-others.others.pairs inserts) c.inserts.ensures c.alone_of.ensures))
