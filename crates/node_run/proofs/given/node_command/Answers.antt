use Rattle.node_run.proofs.Finding.{added}
use Rattle.node_run.proofs.given.node_command.Goals as goal

pub returns : goal.returns
returns c =
    added c.in_ok-command-8.ensures c.iris.ensures.local c.iris.ensures.rule
    (added c.in_ok-command-7.ensures c.option-7.ensures.local c.option-7.ensures.rule
    (added c.in_ok-command-6.ensures c.option-6.ensures.local c.option-6.ensures.rule
    (added c.in_ok-command-5.ensures c.option-5.ensures.local c.option-5.ensures.rule
    (added c.in_ok-command-4.ensures c.option-4.ensures.local c.option-4.ensures.rule
    (added c.in_ok-command-3.ensures c.option-3.ensures.local c.option-3.ensures.rule
    (added c.in_ok-command-2.ensures c.option-2.ensures.local c.option-2.ensures.rule
    (added c.in_ok-command.ensures c.option.ensures.local c.option.ensures.rule c.new-command.ensures.app)))))))
