use Rattle.std.proofs.Common.{◌∙◌, ◌++◌, ◌∷◌, ℕ, [], List, ap, sym}
use Rattle.std.proofs.lemmas.Result.{on_ok_weaker}
use Rattle.number_tables.specs.TableNumbers.{number_of_path}
use Rattle.number_tables.proofs.PathLookups.{path_inserted_old, path_inserted_new}
use Rattle.number_tables.proofs.path_table.PathTable.give.Goals as goal

pub returns-in-Some-clause-ok : goal.returns-in-Some-clause-ok
returns-in-Some-clause-ok c =
    path_inserted_old c.args.self.now c.args.path.now c.in-Some.number
    (sym (c.in-Some.ensures ∙ ap (λ (l : List (List ℕ)). number_of_path l c.args.path.now) (c.deref.ensures.value ∙ c.self.view_is)))

pub returns-in-None-clause-ok : goal.returns-in-None-clause-ok
returns-in-None-clause-ok c =
    on_ok_weaker c.add.result
    (λ e. e ∙ ap (λ (l : List (List ℕ)). l ++ c.args.path.now ∷ []) c.self.view_is
    ∙ path_inserted_new c.args.self.now c.args.path.now
    (sym (c.in-None.ensures ∙ ap (λ (l : List (List ℕ)). number_of_path l c.args.path.now) (c.deref.ensures.value ∙ c.self.view_is))))
    c.add.ensures.ok
