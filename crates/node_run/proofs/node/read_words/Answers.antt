use Rattle.std.proofs.Common.{rules, ◌≡◌, ◌∷◌, map}
use Rattle.std.specs.String.{string_bytes}
use Rattle.node_run.specs.Words.{node_name}
use Rattle.node_run.proofs.Reading.{words_read, words_refused, words_stopped}
use Rattle.node_run.proofs.node.read_words.Goals as goal

pub returns-in-Ok-clause-ok : goal.returns-in-Ok-clause-ok
returns-in-Ok-clause-ok c =
    let named : map (λ w. w.now) c.as_slice.result.now ≡ node_name ∷ map (λ w. string_bytes w) c.args.words.now.items = search rules in
    words_read _ _ _ named c.in-Ok.ensures.ok c.in-Ok.ensures.kinds c.read_node.result c.read_node.ensures

pub returns-in-Ok-clause-usage : goal.returns-in-Ok-clause-usage
returns-in-Ok-clause-usage c =
    let named : map (λ w. w.now) c.as_slice.result.now ≡ node_name ∷ map (λ w. string_bytes w) c.args.words.now.items = search rules in
    words_refused _ _ _ named c.in-Ok.ensures.ok c.in-Ok.ensures.kinds c.read_node.result c.read_node.ensures

pub returns-clause-usage : goal.returns-clause-usage
returns-clause-usage c =
    let named : map (λ w. w.now) c.as_slice.result.now ≡ node_name ∷ map (λ w. string_bytes w) c.args.words.now.items = search rules in
    words_stopped _ _ c.in-Err.error c.fault_told.result named c.in-Err.ensures.kinds c.fault_told.ensures
