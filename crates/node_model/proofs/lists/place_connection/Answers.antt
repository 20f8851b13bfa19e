use Rattle.std.proofs.Common.{◌≡◌, ℕ, List, length, unwrap_or, sym, ◌∙◌, ap, subst, arith}
use Rattle.std.specs.List.{insert}
use Rattle.node_model.specs.declared.connections.Connection.{Connection}
use Rattle.node_model.specs.Connections.{AreNumbered, connections_with}
use Rattle.node_model.proofs.PlaceLaws.{placed_first, placed_numbered}
use Rattle.node_model.proofs.lists.place_connection.Goals as goal

pub returns-clause-placed : goal.returns-clause-placed
returns-clause-placed c =
    let xs = c.as_slice.result.now in
    let all : c.len.result ≡ length xs = omega (arith, c.len.ensures, c.as_slice.ensures.len) in
    let place : c.unwrap_or-place.result ≡ unwrap_or c.place_behind.result (length xs) =
    c.unwrap_or-place.ensures ∙ ap (λ (n : ℕ). unwrap_or c.place_behind.result n) all in
    let there = placed_first c.args.one xs c.place_behind.result c.unwrap_or-place.result c.place_behind.ensures place in
    c.in_ok-insert.ensures.items
    ∙ sym (subst (λ (l : List Connection). connections_with c.args.one l ≡ insert l c.unwrap_or-place.result c.args.one) c.as_slice.ensures.value there)

pub returns-clause-numbered : goal.returns-clause-numbered
returns-clause-numbered c = λ h n.
    subst (λ (l : List Connection). AreNumbered l) (sym (returns-clause-placed c)) (placed_numbered c.args.one c.args.list.now.items h n)
