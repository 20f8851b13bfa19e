use Rattle.std.proofs.Common.{◌≡◌, ℕ, List, Option, None, Some, ap, slice_index_or, subst, sym}
use Rattle.mld_ops.specs.declared.tagged.Tagged.{Tagged}
use Rattle.number_tables.specs.TableNumbers.{number_of_path}
use Rattle.graph_index.proofs.Listing.{noted_kept, noted_more}
use Rattle.graph_index.proofs.Numbers.{grown_itself}
use Rattle.graph_index.proofs.list_rows.give_path_of.Goals as goal

pub returns-in-Some-clause-grown : goal.returns-in-Some-clause-grown
returns-in-Some-clause-grown c = grown_itself c.args.tables.now

pub returns-in-Some-clause-ok : goal.returns-in-Some-clause-ok
returns-in-Some-clause-ok c =
    c.requires c.args.row.now.path c.in-Some.number
    (subst (λ (noted : List (Option ℕ)). slice_index_or noted c.args.row.now.path None ≡ Some c.in-Some.number) c.deref.ensures.value (sym c.in-Some.ensures))

pub returns-clause-ok : goal.returns-clause-ok
returns-clause-ok c =
    subst (λ (path : List ℕ). number_of_path c.give_path.new.self.paths path ≡ Some c.in_ok-number.number) (ap (λ (pair : Tagged). pair.dot.path) c.row_ref.ensures) c.in_ok-number.ensures.ok

pub returns-clause-noted : goal.returns-clause-noted
returns-clause-noted c =
    noted_more c.give_path.new.self c.args.paths.now c.args.noted.now.items c.note.new.noted.items c.args.row.now.path c.in_ok-number.number
    (noted_kept c.args.tables.now c.give_path.new.self c.args.paths.now c.args.noted.now.items c.give_path.ensures.grown c.requires)
    (subst (λ (path : List ℕ). number_of_path c.give_path.new.self.paths path ≡ Some c.in_ok-number.number) (ap (λ (pair : Tagged). pair.dot.path) c.row_ref.ensures) c.in_ok-number.ensures.ok)
    c.note.ensures
