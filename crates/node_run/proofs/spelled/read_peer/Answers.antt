use Rattle.std.proofs.Common.{rules, ◌≡◌, true, is_some, option_map}
use Rattle.node_run.specs.WordSpelling.{IsGiven, IsPeer, SpellsName}
use Rattle.node_run.proofs.Passing.{name_given, passes_on}
use Rattle.node_run.proofs.spelled.read_peer.Goals as goal

pub returns-in_err-read_name : goal.returns-in_err-read_name
returns-in_err-read_name c =
    let some : is_some c.args.given ≡ true = search rules in
    passes_on (IsGiven SpellsName (option_map (λ text. text.now) c.args.given)) (IsPeer (option_map (λ text. text.now) c.args.given))
    c.in_err-read_name.field-0.0 c.from_residual.result (name_given c.args.given some) c.from_residual.ensures.0 c.from_residual.ensures.1
    c.in_err-read_name.ensures
