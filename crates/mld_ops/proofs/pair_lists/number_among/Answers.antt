use Rattle.std.proofs.Common.{◌≡◌, ℕ, Some, sym, subst}
use Rattle.std.proofs.lemmas.Option.{IfSome_then}
use Rattle.std.specs.List.{slice_get}
use Rattle.mld_ops.proofs.PairRows.{found_in_front}
use Rattle.mld_ops.proofs.pair_lists.number_among.Goals as goal

pub returns-in-Ok : goal.returns-in-Ok
returns-in-Ok c =
    IfSome_then c.number_of_place.result c.number_of_place.ensures
    (λ number is. subst (λ (n : ℕ). slice_get c.args.paths.now n ≡ Some c.args.path.now) (sym is) (found_in_front c.args.paths.now c.args.ordered c.args.path.now c.in-Ok.place c.in-Ok.ensures.bound c.in-Ok.ensures.ok))
