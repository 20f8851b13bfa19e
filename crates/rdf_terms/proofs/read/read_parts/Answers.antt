use Rattle.std.proofs.Common.{◌∙◌}
use Rattle.std.proofs.lemmas.Result.{err_from_is_err_and}
use Rattle.rdf_terms.specs.Parts.{object_value}
use Rattle.rdf_terms.specs.TripleReading.{Subject, Predicate, Object, Before, Closed, Leads}
use Rattle.rdf_terms.proofs.ReadLemmas.{subject_needs, predicate_needs, subject_skips, predicate_skips, object_skips}
use Rattle.rdf_terms.proofs.Stops.{stops_later}
use Rattle.rdf_terms.proofs.read.read_parts.Goals as goal

pub returns-in_err-s : goal.returns-in_err-s
returns-in_err-s c =
    let text = c.args.text.now in
    let p = err_from_is_err_and c.from_residual.result c.from_residual.ensures.1 in
    let blanks = c.skip_blanks-subject.ensures in
    let stops = c.in_err-s.ensures in
    rw (p.1, p.2) (stops_later text 0 (Before Subject) c.skip_blanks-subject.result (Before Subject) c.in_err-s.field-0.0 (blanks.leads (Before Subject) subject_skips)
    (stops Subject tt (subject_needs text c.skip_blanks-subject.result blanks.stops)))

pub returns-in_err-p : goal.returns-in_err-p
returns-in_err-p c =
    let text = c.args.text.now in
    let e = err_from_is_err_and c.from_residual-in_err-p.result c.from_residual-in_err-p.ensures.1 in
    let before = c.skip_blanks-subject.ensures in
    let subject = c.in_ok-s.ensures in
    let s = c.in_ok-s.s in
    let behind = c.skip_blanks-predicate.ensures in
    let place = c.skip_blanks-predicate.result in
    let leads : Leads text 0 (Before Subject) place (Before (Predicate s)) =
    before.leads (Before Subject) subject_skips ∙ subject.leads Subject tt ∙ behind.leads (Before (Predicate s)) (predicate_skips s) in
    let stops = c.in_err-p.ensures in
    rw (e.1, e.2) (stops_later text 0 (Before Subject) place (Before (Predicate s)) c.in_err-p.field-0.0 leads (stops (Predicate s) tt (predicate_needs text place s behind.stops)))

pub returns-in_err-o : goal.returns-in_err-o
returns-in_err-o c =
    let text = c.args.text.now in
    let e = err_from_is_err_and c.from_residual-in_err-o.result c.from_residual-in_err-o.ensures.1 in
    let before = c.skip_blanks-subject.ensures in
    let subject = c.in_ok-s.ensures in
    let s = c.in_ok-s.s in
    let behind = c.skip_blanks-predicate.ensures in
    let predicate = c.in_ok-p.ensures in
    let p = c.in_ok-p.p in
    let after = c.skip_blanks-object.ensures in
    let place = c.skip_blanks-object.result in
    let leads : Leads text 0 (Before Subject) place (Before (Object s p)) =
    before.leads (Before Subject) subject_skips ∙ subject.leads Subject tt ∙ behind.leads (Before (Predicate s)) (predicate_skips s) ∙ predicate.leads (Predicate s) tt ∙ after.leads (Before (Object s p)) (object_skips s p) in
    let stops = c.in_err-o.ensures in
    rw (e.1, e.2) (stops_later text 0 (Before Subject) place (Before (Object s p)) c.in_err-o.field-0.0 leads (stops s p))

pub returns-in_err-read_end : goal.returns-in_err-read_end
returns-in_err-read_end c =
    let text = c.args.text.now in
    let e = err_from_is_err_and c.from_residual-in_err-read_end.result c.from_residual-in_err-read_end.ensures.1 in
    let before = c.skip_blanks-subject.ensures in
    let subject = c.in_ok-s.ensures in
    let s = c.in_ok-s.s in
    let behind = c.skip_blanks-predicate.ensures in
    let predicate = c.in_ok-p.ensures in
    let p = c.in_ok-p.p in
    let after = c.skip_blanks-object.ensures in
    let object = c.in_ok-o.ensures in
    let o = object_value c.in_ok-o.o in
    let leads : Leads text 0 (Before Subject) c.in_ok-o.at (Closed s p o) =
    before.leads (Before Subject) subject_skips ∙ subject.leads Subject tt ∙ behind.leads (Before (Predicate s)) (predicate_skips s) ∙ predicate.leads (Predicate s) tt ∙ after.leads (Before (Object s p)) (object_skips s p)
    ∙ object.leads s p in
    let stops = c.in_err-read_end.ensures in
    rw (e.1, e.2) (stops_later text 0 (Before Subject) c.in_ok-o.at (Closed s p o) c.in_err-read_end.field-0.0 leads (stops s p o))

pub returns : goal.returns
returns c =
    let before = c.skip_blanks-subject.ensures in
    let subject = c.in_ok-s.ensures in
    let s = c.in_ok-s.s in
    let behind = c.skip_blanks-predicate.ensures in
    let predicate = c.in_ok-p.ensures in
    let p = c.in_ok-p.p in
    let after = c.skip_blanks-object.ensures in
    let object = c.in_ok-o.ensures in
    let o = object_value c.in_ok-o.o in
    let ends = c.in_ok-read_end.ensures in
    before.leads (Before Subject) subject_skips ∙ subject.leads Subject tt ∙ behind.leads (Before (Predicate s)) (predicate_skips s) ∙ predicate.leads (Predicate s) tt ∙ after.leads (Before (Object s p)) (object_skips s p)
    ∙ object.leads s p ∙ ends s p o
