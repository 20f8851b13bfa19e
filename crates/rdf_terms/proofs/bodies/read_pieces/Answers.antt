use Rattle.std.proofs.Common.{◌≡◌, ℕ, List, length, ◌+◌, ◌-◌, ◌<◌, ◌≤◌, ◌++◌, take, drop, sym, ap, subst, ◌∙◌, arith}
use Rattle.std.specs.String.{string_bytes}
use Rattle.std.proofs.lemmas.Result.{err_from_is_err_and}
use lib.Utf8.{encode}
use Rattle.rdf_terms.specs.declared.faults.TripleFault.TheVariants.{NotTriple}
use Rattle.text_rules.specs.BytePlaces.{HasByte}
use Rattle.rdf_terms.proofs.BodyLemmas.{LeadsWithin, body_end, body_stops, body_refused, run_passed, escape_passed, escape_stops, closing_leads, boundary_behind}
use Rattle.rdf_terms.proofs.bodies.read_pieces.Goals as goal

pub returns-in_default : goal.returns-in_default
returns-in_default c =
    let inv = c.pieces.invariant in
    let text = c.args.text.now in
    let stop = c.pass_plain-stop.result.0 in
    let here = c.pass_plain-stop.result.1 in
    let longer = string_bytes c.pieces.value ++ take (stop - c.pieces.begun) (drop c.pieces.begun text) in
    body_stops text c.args.at c.args.spot (string_bytes c.args.value.now) stop here longer (NotTriple stop)
    (run_passed text c.args.at c.args.spot (string_bytes c.args.value.now) c.pieces.begun c.pieces.spot (string_bytes c.pieces.value) stop here inv.leads c.pass_plain-stop.ensures)
    (body_end text stop here longer c.pass_plain-stop.ensures.within c.in_default.ensures)

pub returns-else-is_closed_by : goal.returns-else-is_closed_by
returns-else-is_closed_by c =
    let inv = c.pieces.invariant in
    let text = c.args.text.now in
    let stop = c.pass_plain-stop.result.0 in
    let here = c.pass_plain-stop.result.1 in
    let longer = string_bytes c.pieces.value ++ take (stop - c.pieces.begun) (drop c.pieces.begun text) in
    let unclosed = sym c.is_closed_by.ensures ∙ c.if-is_closed_by.false in
    body_stops text c.args.at c.args.spot (string_bytes c.args.value.now) stop here longer (NotTriple stop)
    (run_passed text c.args.at c.args.spot (string_bytes c.args.value.now) c.pieces.begun c.pieces.spot (string_bytes c.pieces.value) stop here inv.leads c.pass_plain-stop.ensures)
    (body_refused text stop c.in-Some.byte here longer c.in-Some.ensures c.if-byte-eq92.false unclosed
    (c.pass_plain-stop.ensures.stops c.in-Some.byte c.in-Some.ensures c.if-byte-eq92.false unclosed))

pub returns-then-is_closed_by : goal.returns-then-is_closed_by
returns-then-is_closed_by c =
    let inv = c.pieces.invariant in
    let text = c.args.text.now in
    let stop = c.pass_plain-stop.result.0 in
    let here = c.pass_plain-stop.result.1 in
    let shut = sym c.is_closed_by.ensures ∙ c.if-is_closed_by.true in
    let longer = string_bytes c.pieces.value ++ take (stop - c.pieces.begun) (drop c.pieces.begun text) in
    let grown : string_bytes c.push_str-then-is_closed_by.new.self ≡ longer = c.in_ok-push_str-2.ensures.bytes ∙ ap (λ l. string_bytes c.pieces.value ++ l) c.range-then-is_closed_by.ensures.value in
    let leads : LeadsWithin text c.args.at c.args.spot (string_bytes c.args.value.now) stop here (string_bytes c.push_str-then-is_closed_by.new.self) =
    subst (λ (l : List ℕ). LeadsWithin text c.args.at c.args.spot (string_bytes c.args.value.now) stop here l) (sym grown)
    (run_passed text c.args.at c.args.spot (string_bytes c.args.value.now) c.pieces.begun c.pieces.spot (string_bytes c.pieces.value) stop here inv.leads c.pass_plain-stop.ensures) in
    let inside : stop < length text = c.in-Some.ensures.within in
    let on : c.pieces.begun ≤ stop = c.pass_plain-stop.ensures.forward in
    let begun : c.args.at ≤ c.pieces.begun = inv.forward in
    record {
      within = omega arith;
      forward = omega arith;
      leads = λ slot. leads slot ∙ closing_leads text stop c.in-Some.byte here slot (string_bytes c.push_str-then-is_closed_by.new.self) c.in-Some.ensures c.if-byte-eq92.false shut;
    }

pub returns-in_err-escape : goal.returns-in_err-escape
returns-in_err-escape c =
    let inv = c.pieces.invariant in
    let text = c.args.text.now in
    let stop = c.pass_plain-stop.result.0 in
    let here = c.pass_plain-stop.result.1 in
    let longer = string_bytes c.pieces.value ++ take (stop - c.pieces.begun) (drop c.pieces.begun text) in
    let found : HasByte text stop 92 = subst (λ (b : ℕ). HasByte text stop b) c.if-byte-eq92.true c.in-Some.ensures in
    let leads : LeadsWithin text c.args.at c.args.spot (string_bytes c.args.value.now) stop here longer =
    run_passed text c.args.at c.args.spot (string_bytes c.args.value.now) c.pieces.begun c.pieces.spot (string_bytes c.pieces.value) stop here inv.leads c.pass_plain-stop.ensures in
    let p = err_from_is_err_and c.from_residual-in_err-escape.result c.from_residual-in_err-escape.ensures.1 in
    rw (p.1, p.2) (escape_stops text c.args.at c.args.spot (string_bytes c.args.value.now) stop here longer c.in_err-escape.field-0.0 leads found c.in_err-escape.ensures)

pub pieces-preserved : goal.pieces-preserved
pieces-preserved c =
    let inv = c.pieces.invariant in
    let text = c.args.text.now in
    let stop = c.pass_plain-stop.result.0 in
    let here = c.pass_plain-stop.result.1 in
    let longer = string_bytes c.pieces.value ++ take (stop - c.pieces.begun) (drop c.pieces.begun text) in
    let escape = c.in_ok-escape.escape in
    let read = c.in_ok-escape.ensures in
    let found : HasByte text stop 92 = subst (λ (b : ℕ). HasByte text stop b) c.if-byte-eq92.true c.in-Some.ensures in
    let leads : LeadsWithin text c.args.at c.args.spot (string_bytes c.args.value.now) stop here longer =
    run_passed text c.args.at c.args.spot (string_bytes c.args.value.now) c.pieces.begun c.pieces.spot (string_bytes c.pieces.value) stop here inv.leads c.pass_plain-stop.ensures in
    let grown : string_bytes c.push.new.self ≡ longer ++ encode escape.character =
    c.in_ok-push.ensures.bytes ∙ ap (λ l. l ++ encode escape.character) (c.in_ok-push_str.ensures.bytes ∙ ap (λ l. string_bytes c.pieces.value ++ l) c.range.ensures.value) in
    let on : c.pieces.begun ≤ stop = c.pass_plain-stop.ensures.forward in
    let begun : c.args.at ≤ c.pieces.begun = inv.forward in
    let after : stop + 1 < escape.next = read.forward in
    record {
      forward = omega arith;
      within = read.within;
      boundary = boundary_behind text escape.next c.utf8.text (omega arith) read.within read.ascii;
      leads = subst (λ (l : List ℕ). LeadsWithin text c.args.at c.args.spot (string_bytes c.args.value.now) escape.next escape.spot l) (sym grown)
          (escape_passed text c.args.at c.args.spot (string_bytes c.args.value.now) stop here longer escape leads found read);
    }
