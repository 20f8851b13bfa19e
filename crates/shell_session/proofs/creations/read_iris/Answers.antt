use Rattle.std.proofs.Common.{◌<◌, ℕ, List, ◌∷◌, length, option_map, arith}
use Rattle.schedule_text.specs.schedule_model.Characters.{space}
use Rattle.shell_session.specs.ReadShell.{tail_of}
use Rattle.shell_session.specs.ShellLines.{property_limit}
use Rattle.shell_session.proofs.ShellIris.{ReadsOn, no_next, one_more, all_read}
use Rattle.shell_session.proofs.creations.read_iris.Goals as goal

pub returns-in_default-2 : goal.returns-in_default-2
returns-in_default-2 c =
    let start : List ℕ = tail_of (option_map (λ text. text.now) c.args.rest) in
    let reads : ReadsOn start (space ∷ c.in-Some.text.now) c.loop-left.iris.items = rw c.in-Some.is at c.loop-left.invariant in
    no_next start c.in-Some.text.now c.first_word.result.0.now (option_map (λ text. text.now) c.first_word.result.1) c.loop-left.iris.items reads c.first_word.ensures
    (rw c.in_default-2.is at c.in_ok-iri.ensures)

pub loop-left-preserved : goal.loop-left-preserved
loop-left-preserved c =
    let start : List ℕ = tail_of (option_map (λ text. text.now) c.args.rest) in
    let reads : ReadsOn start (space ∷ c.in-Some.text.now) c.loop-left.iris.items = rw c.in-Some.is at c.loop-left.invariant in
    let room : length c.loop-left.iris.items < property_limit = omega (arith, c.if-len-ge-PROPERTY_LIMIT.false, c.len.ensures) in
    rw c.in_ok-push.ensures.items
    (one_more start c.in-Some.text.now c.first_word.result.0.now c.in-Some-2.iri (option_map (λ text. text.now) c.first_word.result.1) c.loop-left.iris.items reads room c.first_word.ensures
    (rw c.in-Some-2.is at c.in_ok-iri.ensures))

pub returns : goal.returns
returns c = all_read (tail_of (option_map (λ text. text.now) c.args.rest)) c.loop-left.iris.items (rw c.in_default.is at c.loop-left.invariant)
