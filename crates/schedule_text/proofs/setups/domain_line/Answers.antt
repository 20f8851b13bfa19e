use Rattle.schedule_text.proofs.LinesSetups.{setup_spaced, setup_counted, setup_domain, setup_number}
use Rattle.schedule_text.proofs.setups.domain_line.Goals as goal

pub returns-in_default-split_at_space : goal.returns-in_default-split_at_space
returns-in_default-split_at_space c = setup_spaced c.args.line.now c.in-Some.rest.now c.in-Some.ensures c.in_default-split_at_space.ensures

pub returns-in_default-behind : goal.returns-in_default-behind
returns-in_default-behind c =
    setup_counted c.args.line.now c.in-Some-split_at_space.name.now c.in-Some-split_at_space.rest.now
    (record { rest = c.in-Some.rest.now; first = c.in-Some.ensures; cut = c.in-Some-split_at_space.ensures.0; spaceless = c.in-Some-split_at_space.ensures.1 })
    c.in_default-behind.ensures

pub returns-in_default-2 : goal.returns-in_default-2
returns-in_default-2 c =
    setup_domain c.args.line.now c.in-Some-split_at_space.name.now c.in-Some-split_at_space.rest.now
    (record { rest = c.in-Some.rest.now; first = c.in-Some.ensures; cut = c.in-Some-split_at_space.ensures.0; spaceless = c.in-Some-split_at_space.ensures.1 })
    (rw c.in_default-2.is at c.in_ok-domain.ensures)

pub returns-in_default-read_count : goal.returns-in_default-read_count
returns-in_default-read_count c =
    setup_number c.args.line.now c.in-Some-split_at_space.name.now c.in-Some-split_at_space.rest.now c.in-Some-behind.number.now
    (record { rest = c.in-Some.rest.now; first = c.in-Some.ensures; cut = c.in-Some-split_at_space.ensures.0; spaceless = c.in-Some-split_at_space.ensures.1 })
    c.in-Some-behind.ensures c.in_default-read_count.ensures
