use Rattle.std.proofs.Common.{ℕ, ◌+◌, subst, arith}
use Rattle.rdf_terms.specs.TripleReading.{Behind, Digits}
use Rattle.text_rules.specs.BytePlaces.{HasByte}
use Rattle.rdf_terms.proofs.EscapeLemmas.{behind_end, short_leads, long_leads, ends_within, letter_stops, letter_escape}
use Rattle.rdf_terms.proofs.escapes.read_escape.Goals as goal

pub returns-in_default : goal.returns-in_default
returns-in_default c = behind_end c.args.text.now c.args.at c.args.spot c.requires c.in_default.ensures

pub returns-in-117 : goal.returns-in-117
returns-in-117 c =
    ends_within c.args.text.now c.args.at (c.args.at + 1) c.args.spot Behind (Digits 4 0) c.read_digits.result (omega arith)
    (λ slot value. short_leads c.args.text.now c.args.at c.args.spot slot value (subst (λ (b : ℕ). HasByte c.args.text.now c.args.at b) c.in-117.is c.in-Some.ensures)) c.read_digits.ensures

pub returns-in-85 : goal.returns-in-85
returns-in-85 c =
    ends_within c.args.text.now c.args.at (c.args.at + 1) c.args.spot Behind (Digits 8 0) c.read_digits-in-85.result (omega arith)
    (λ slot value. long_leads c.args.text.now c.args.at c.args.spot slot value (subst (λ (b : ℕ). HasByte c.args.text.now c.args.at b) c.in-85.is c.in-Some.ensures)) c.read_digits-in-85.ensures

pub returns-in-Some-letter_here : goal.returns-in-Some-letter_here
returns-in-Some-letter_here c =
    letter_escape c.args.text.now c.args.at c.args.spot c.in-Some.byte c.in-Some-letter_here.character c.in-Some.ensures (λ e. omega arith) (λ e. omega arith) c.in-Some-letter_here.ensures

pub returns-in-None : goal.returns-in-None
returns-in-None c =
    letter_stops c.args.text.now c.args.at c.args.spot c.in-Some.byte c.in-Some.ensures (λ e. omega arith) (λ e. omega arith) c.in-None.ensures
