use Rattle.std.proofs.Common.{◌∙◌, ◌++◌, ◌∷◌, [], List, ap, sym}
use Rattle.std.proofs.lemmas.Result.{on_ok_weaker}
use Rattle.rdf_terms.specs.declared.terms.Term.{Term}
use Rattle.number_tables.specs.HashedTerms.{wanted_term}
use Rattle.number_tables.specs.TableNumbers.{number_of_term}
use Rattle.number_tables.proofs.Lookups.{inserted_old, inserted_new}
use Rattle.number_tables.proofs.term_table.give_wanted.Goals as goal

pub returns-in-Some-clause-ok : goal.returns-in-Some-clause-ok
returns-in-Some-clause-ok c =
    inserted_old c.args.terms.now.items (wanted_term c.args.wanted.now) c.in-Some.number
    (sym (c.in-Some.ensures ∙ ap (λ (l : List Term). number_of_term l (wanted_term c.args.wanted.now)) c.deref.ensures.value))

pub returns-in_ok-share-in-None-clause-ok : goal.returns-in_ok-share-in-None-clause-ok
returns-in_ok-share-in-None-clause-ok c =
    on_ok_weaker c.add.result
    (λ e. e ∙ ap (λ (t : Term). c.args.terms.now.items ++ t ∷ []) c.in_ok-share-in-None.ensures
    ∙ inserted_new c.args.terms.now.items (wanted_term c.args.wanted.now)
    (sym (c.in-None.ensures ∙ ap (λ (l : List Term). number_of_term l (wanted_term c.args.wanted.now)) c.deref.ensures.value)))
    c.add.ensures.ok
