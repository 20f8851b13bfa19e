use Rattle.std.proofs.Common.{◌≡◌, ℕ, false, List, [], ◌∷◌, ◌++◌, length, ap, sym, ◌∙◌}
use Rattle.logbook.specs.Pages.{Book}
use Rattle.shared_reads.specs.declared.marks.Front.{Front}
use Rattle.shared_reads.specs.declared.marks.Mark.{Mark}
use Rattle.shared_reads.specs.Fronts.{Reach, list_told, onwards}
use Rattle.shared_reads.specs.HistoryRule.{mark_of, word_of}
use Rattle.shared_reads.proofs.FrontLaws.{front_onwards}
use Rattle.shared_reads.proofs.Adding.{adds_moves, added}
use Rattle.shared_reads.proofs.history.Reached.next.Goals as goal

pub compare_exchange-found-requires : goal.compare_exchange-found-requires
compare_exchange-found-requires c =
    let offer = c.plain-offer.ensures in
    let pen = c.no_pen-pen.ensures in
    let log : List Mark = c.again-seen.result.log in
    let from : log ≡ c.self.inside.seen.log = ap (λ s. s.log) c.again-seen.ensures in
    let book : c.again-seen.result.book ≡ c.history.inside.word.book = ap (λ s. s.book) c.again-seen.ensures ∙ (ap (λ (r : Reach). r.book) c.self.view_is ∙ (sym c.requires.history ∙ sym c.history.view_is)) in
    let len : length log ≡ c.self.inside.marks = ap (λ (ms : List Mark). length ms) from ∙ sym c.self.invariant.0 in
    let going : (list_told log).finished ≡ false = ap (λ (ms : List Mark). (list_told ms).finished) from ∙ (ap (λ (r : Reach). r.list.finished) c.self.view_is ∙ c.requires.going) in (
      ap (λ w. w.tracked) c.history.invariant,
      book,
      pen.0 ∙ book,
      offer.0,
      rw (ap (λ w. w.key) c.history.invariant, pen.1, offer.1, offer.3) (adds_moves log (mark_of c.args.deed.now) c.self.inside.marks len going),
    )

pub returns : goal.returns
returns c =
    let log : List Mark = c.again-seen.result.log in
    let mark : Mark = mark_of c.args.deed.now in
    let same : list_told log ≡ c.args.self.now.list = ap (λ s. list_told s.log) c.again-seen.ensures ∙ ap (λ (r : Reach). r.list) c.self.view_is in
    let grown = added _ _ _ c.if-found-marks.false c.compare_exchange-found.ensures.7 in
    let is : c.compare_exchange-found.new.seen.log ≡ log ++ mark ∷ [] = grown.0 ∙ ap (λ (m : Mark). log ++ m ∷ []) c.plain-offer.ensures.1 in
    let list : list_told c.compare_exchange-found.new.seen.log ≡ onwards c.args.self.now.list mark =
    ap list_told is ∙ (front_onwards log mark (ap (λ (f : Front). f.finished) same ∙ c.requires.going) ∙ ap (λ (f : Front). onwards f mark) same) in
    let book : c.compare_exchange-found.new.seen.book ≡ c.args.self.now.book =
    c.compare_exchange-found.ensures.0 ∙ (ap (λ s. s.book) c.again-seen.ensures ∙ ap (λ (r : Reach). r.book) c.self.view_is) in
    λ i. record { book = book i; list = list i }
