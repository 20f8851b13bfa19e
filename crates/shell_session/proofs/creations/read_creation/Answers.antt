use Rattle.std.proofs.Common.{option_map}
use Rattle.shell_session.proofs.ShellIris.{no_creation_split, no_creation_id, no_creation_name, no_creation_iris}
use Rattle.shell_session.proofs.creations.read_creation.Goals as goal

pub returns-in_default : goal.returns-in_default
returns-in_default c = no_creation_split c.args.text.now c.in_default.ensures

pub returns-in_default-read_id : goal.returns-in_default-read_id
returns-in_default-read_id c = λ id domain properties.
    no_creation_id c.args.text.now c.in-Some.id.now c.in-Some.text.now id domain properties (record { whole = c.in-Some.ensures.0; spaceless = c.in-Some.ensures.1 })
    c.in_default-read_id.ensures

pub returns-in_default-2 : goal.returns-in_default-2
returns-in_default-2 c = λ id domain properties.
    no_creation_name c.args.text.now c.in-Some.id.now c.in-Some.text.now c.first_word.result.0.now id domain (option_map (λ rest. rest.now) c.first_word.result.1) properties
    (record { whole = c.in-Some.ensures.0; spaceless = c.in-Some.ensures.1 }) c.first_word.ensures (rw c.in_default-2.is at c.in_ok-domain.ensures)

pub returns-in_default-3 : goal.returns-in_default-3
returns-in_default-3 c = λ id domain properties.
    no_creation_iris c.args.text.now c.in-Some.id.now c.in-Some.text.now c.first_word.result.0.now id domain (option_map (λ rest. rest.now) c.first_word.result.1) properties
    (record { whole = c.in-Some.ensures.0; spaceless = c.in-Some.ensures.1 }) c.first_word.ensures (rw c.in_default-3.is at c.in_ok-properties.ensures)
