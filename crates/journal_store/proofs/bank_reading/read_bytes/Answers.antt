use Rattle.std.proofs.Common.{ℕ, List, ◌++◌, length, take, drop, sym, ap, ◌∙◌}
use Rattle.std.proofs.lemmas.Bool.{true≢false}
use Rattle.mld_io.specs.Disk.{bytes_of, seen}
use Rattle.journal_store.proofs.Reading.{closed_piece}
use Rattle.journal_store.proofs.bank_reading.read_bytes.Goals as goal

pub returns-then-not-is_opened-clause-bytes : goal.returns-then-not-is_opened-clause-bytes
returns-then-not-is_opened-clause-bytes g c log e =
    closed_piece c.read_piece.new.bytes.items (bytes_of c.args.side (seen log))
    (c.in_ok-read_piece.ensures.bytes log (c.in_ok-size.ensures.log ∙ e) ∙ ap (λ (items : List ℕ). items ++ take 1 (drop (length items) (bytes_of c.args.side (seen log)))) c.new-bytes.ensures.items)
    (λ begins. true≢false (sym (c.is_opened.ensures.1 (rw c.deref.ensures.value begins)) ∙ c.if-not-is_opened.true))
