use Rattle.std.proofs.Common.{◌≡◌, ◌≢◌, ◌∙◌, ℕ, List, [], true, false, sym, subst, rules}
use Rattle.tree_clock.specs.declared.dots.Dot.{Dot}
use Rattle.tree_clock.specs.Clock.{Covers}
use Rattle.clone_core.specs.Joining.{AreGood}
use Rattle.clone_core.proofs.Answering.{result_behind, lacked_answers}
use Rattle.clone_core.proofs.Sending.{carry_good}
use Rattle.clone_core.proofs.clones.MldClone.answer_want.Goals as goal

pub returns-clause-good : goal.returns-clause-good
returns-clause-good g c =
    let sent = c.in_ok-messages.ensures in
    subst AreGood (sym c.from_vec.ensures) (carry_good c.in_ok-messages.messages.items sent.0 sent.2)

pub returns-then-not-leq-clause-ok : goal.returns-then-not-leq-clause-ok
returns-then-not-leq-clause-ok g c =
    let ticks = c.args.known.now.ticks in
    let behind = λ (all : (dot : Dot) → Covers c.args.self.now.local.base dot → Covers ticks dot).
    let no : false ≡ true = sym c.if-not-leq.true
    ∙ c.leq.ensures.dots.1 (subst (λ (ts : List (List ℕ × ℕ)). (dot : Dot) → Covers ts dot → Covers ticks dot) (sym c.base.ensures) all) in
    absurd cc in
    result_behind c.args.self.now.local ticks c.answer_behind.result behind c.answer_behind.ensures.ok

pub returns-clause-ok : goal.returns-clause-ok
returns-clause-ok g c =
    let messages = c.in_ok-messages.messages.items in
    let some : messages ≢ [] = search rules in
    lacked_answers c.args.self.now.local c.args.known.now.ticks c.journal.result.now messages c.from_vec.result
    (λ dot h. c.leq.ensures.dots.0 c.if-not-leq.false dot (subst (λ (ts : List (List ℕ × ℕ)). Covers ts dot) (sym c.base.ensures) h))
    c.journal.ensures c.in_ok-messages.ensures some c.from_vec.ensures
