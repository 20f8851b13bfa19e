use Rattle.std.proofs.Common.{◌≡◌, ℕ, List, suc, ◌+◌, ◌-◌, ◌*◌, ◌<◌, ◌≤◌, length, refl, sym, subst, ◌∙◌, arith}
use Rattle.rdf_terms.specs.declared.faults.TripleFault.TheVariants.{NotTriple}
use Rattle.rdf_terms.specs.TripleReading.{Slot, Within, Digits, Leads}
use Rattle.rdf_terms.proofs.EscapeLemmas.{none_stops, more_stops, more_leads, stops_within, ends_within}
use Rattle.rdf_terms.proofs.escapes.read_digits.Goals as goal

pub returns-in_default : goal.returns-in_default
returns-in_default c =
    let inv = c.loop-digits.invariant in
    let e : c.loop-digits.digits ≡ suc (c.loop-digits.digits - 1) = omega arith in
    stops_within c.args.text.now c.args.at c.loop-digits.next c.args.spot (Digits c.args.count 0) (Digits c.loop-digits.digits c.loop-digits.code) (NotTriple c.loop-digits.next) inv.leads
    (none_stops c.args.text.now c.loop-digits.next c.args.spot c.loop-digits.digits (c.loop-digits.digits - 1) c.loop-digits.code e inv.within c.in_default.ensures)

pub returns-then-not-may_begin : goal.returns-then-not-may_begin
returns-then-not-may_begin c =
    let inv = c.loop-digits.invariant in
    let e : c.loop-digits.digits ≡ suc (c.loop-digits.digits - 1) = omega arith in
    let some : 1 ≤ c.loop-digits.digits - 1 = omega arith in
    stops_within c.args.text.now c.args.at c.loop-digits.next c.args.spot (Digits c.args.count 0) (Digits c.loop-digits.digits c.loop-digits.code) (NotTriple c.loop-digits.next) inv.leads
    (more_stops c.args.text.now c.loop-digits.next c.args.spot c.loop-digits.digits (c.loop-digits.digits - 1) c.loop-digits.code c.in-Some.digit (c.loop-digits.code * 16 + c.in-Some.digit)
    e some c.in-Some.ensures refl (sym c.may_begin.ensures.answer ∙ c.if-not-may_begin.true))

pub loop-digits-preserved : goal.loop-digits-preserved
loop-digits-preserved c =
    let inv = c.loop-digits.invariant in
    let e : c.loop-digits.digits ≡ suc (c.loop-digits.digits - 1) = omega arith in
    let left : 1 ≤ c.loop-digits.digits - 1 = omega arith in
    record {
      some = omega arith;
      most = omega arith;
      small = c.if-not-may_begin.ensures.small;
      forward = omega arith;
      within = let found : c.loop-digits.next < length c.args.text.now = c.in-Some.ensures.1.within in omega arith;
      leads = λ slot value. inv.leads slot value
          ∙ more_leads c.args.text.now c.loop-digits.next c.args.spot c.loop-digits.digits (c.loop-digits.digits - 1) c.loop-digits.code c.in-Some.digit (c.loop-digits.code * 16 + c.in-Some.digit) slot value
          e left c.in-Some.ensures refl (sym c.may_begin.ensures.answer ∙ c.if-not-may_begin.false);
    }

pub returns : goal.returns
returns c =
    let inv = c.loop-digits.invariant in
    let one : c.loop-digits.digits ≡ 1 = omega arith in
    ends_within c.args.text.now c.args.at c.loop-digits.next c.args.spot (Digits c.args.count 0) (Digits 1 c.loop-digits.code) c.read_last_digit.result inv.forward
    (subst (λ (n : ℕ). (slot : Slot) (value : List ℕ) → Leads c.args.text.now c.args.at (Within slot c.args.spot (Digits c.args.count 0) value) c.loop-digits.next (Within slot c.args.spot (Digits n c.loop-digits.code) value)) one inv.leads)
    c.read_last_digit.ensures
