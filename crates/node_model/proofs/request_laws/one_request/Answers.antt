use Rattle.node_model.proofs.RequestLaws as laws
use Rattle.node_model.proofs.request_laws.one_request.Goals as goal

pub returns : goal.returns
returns c = laws.one_request c.one_shell_command.ensures.once
