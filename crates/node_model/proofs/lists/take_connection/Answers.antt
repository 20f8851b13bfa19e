use Rattle.std.proofs.Common.{◌≡◌, List, get_or, None, Some, sym, ◌∙◌, ap, subst}
use Rattle.std.specs.List.{remove}
use Rattle.node_model.specs.declared.connections.Connection.{Connection}
use Rattle.node_model.specs.Connections.{IsRidOf, connection_of, without}
use Rattle.node_model.proofs.PlaceLaws.{none_taken, taken_at, rid_of}
use Rattle.node_model.proofs.lists.take_connection.Goals as goal

pub returns-in_err-place-clause-found : goal.returns-in_err-place-clause-found
returns-in_err-place-clause-found c =
    let none = none_taken c.args.number c.as_slice.result.now c.in_err-place.ensures in
    c.from_residual.ensures ∙ sym (subst (λ (l : List Connection). connection_of c.args.number l ≡ None) c.as_slice.ensures.value none.0)

pub returns-in_err-place-clause-left : goal.returns-in_err-place-clause-left
returns-in_err-place-clause-left c =
    let none = none_taken c.args.number c.as_slice.result.now c.in_err-place.ensures in
    sym (subst (λ (l : List Connection). without c.args.number l ≡ l) c.as_slice.ensures.value none.1)

pub returns-clause-found : goal.returns-clause-found
returns-clause-found c =
    let xs = c.as_slice.result.now in
    let place = c.in_ok-place.place in
    let taken = c.remove.result in
    let found = c.in_ok-place.ensures in
    let at : taken ≡ get_or xs place taken = c.remove.ensures.value ∙ ap (λ (l : List Connection). get_or l place taken) (sym c.as_slice.ensures.value) in
    let both = taken_at c.args.number xs place taken found.0 at found.1 found.2 in
    sym (subst (λ (l : List Connection). connection_of c.args.number l ≡ Some taken) c.as_slice.ensures.value both.0)

pub returns-clause-left : goal.returns-clause-left
returns-clause-left c =
    let xs = c.as_slice.result.now in
    let place = c.in_ok-place.place in
    let taken = c.remove.result in
    let found = c.in_ok-place.ensures in
    let at : taken ≡ get_or xs place taken = c.remove.ensures.value ∙ ap (λ (l : List Connection). get_or l place taken) (sym c.as_slice.ensures.value) in
    let both = taken_at c.args.number xs place taken found.0 at found.1 found.2 in
    c.remove.ensures.items ∙ sym (subst (λ (l : List Connection). without c.args.number l ≡ remove l place) c.as_slice.ensures.value both.1)

pub returns-clause-numbered : goal.returns-clause-numbered
returns-clause-numbered c = λ h.
    subst (λ (l : List Connection). IsRidOf c.args.number l) (sym (returns-clause-left c)) (rid_of c.args.number c.args.list.now.items h)

pub returns-in_err-place-clause-numbered : goal.returns-in_err-place-clause-numbered
returns-in_err-place-clause-numbered c = λ h.
    subst (λ (l : List Connection). IsRidOf c.args.number l) (sym (returns-in_err-place-clause-left c)) (rid_of c.args.number c.args.list.now.items h)
