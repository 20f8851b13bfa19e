use Rattle.std.proofs.Common.{◌∙◌, Some, length, refl, sym, ap}
use Rattle.std.proofs.lemmas.Option.{slice_get_read}
use Rattle.tree_clock.specs.DotLaws.{path_eq-Decides}
use Rattle.mld_ops.proofs.pair_lists.has_number.Goals as goal

pub returns-in-Some : goal.returns-in-Some
returns-in-Some c = λ t.
    slice_get_read c.args.paths.now (length c.args.paths.now) c.args.number c.in-Some.other.now refl c.in-Some.ensures.lookup.3.0 c.in-Some.ensures.lookup.1
    ∙ ap Some ((path_eq-Decides c.in-Some.other.now c.args.path.now).0 (sym c.eq.ensures ∙ t))
