use Rattle.std.proofs.Common.{◌∙◌, sym}
use Rattle.number_tables.proofs.PathLookups.{path_divides, path_found, path_absent_at, path_absent_behind}
use Rattle.number_tables.proofs.path_table.find.Goals as goal

pub first_from-requires : goal.first_from-requires
first_from-requires c = path_divides c.args.path.now c.args.places.now.elements c.requires.ascending

pub returns-in_err-place : goal.returns-in_err-place
returns-in_err-place c = c.from_residual.ensures ∙ path_absent_behind c.args.paths.now c.args.places.now.elements c.args.path.now c.requires c.in_err-place.ensures

pub returns-then-eq : goal.returns-then-eq
returns-then-eq c = path_found c.args.paths.now c.args.places.now.elements c.in_ok-place.place.now c.args.path.now c.requires c.in_ok-place.ensures (sym c.eq.ensures ∙ c.if-eq.true)

pub returns : goal.returns
returns c = path_absent_at c.args.paths.now c.args.places.now.elements c.in_ok-place.place.now c.args.path.now c.requires c.in_ok-place.ensures (sym c.eq.ensures ∙ c.if-eq.false)
