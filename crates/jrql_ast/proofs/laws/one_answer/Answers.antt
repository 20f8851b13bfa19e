use Rattle.jrql_ast.proofs.OneAnswer as answers
use Rattle.jrql_ast.proofs.OneSolutions as solutions
use Rattle.jrql_ast.proofs.laws.one_answer.Goals as goal

pub returns-clause-answer : goal.returns-clause-answer
returns-clause-answer c = answers.one_answer

pub returns-clause-solutions : goal.returns-clause-solutions
returns-clause-solutions c = solutions.one_solutions
