use Rattle.std.proofs.Common.{refl, sym, ◌∙◌}
use Rattle.std.proofs.lemmas.Bool.{true≢false}
use Rattle.op_codec.proofs.PathReading.{path_refused_end, path_refused_count, path_refused_short, path_refused_spare, path_read}
use Rattle.op_codec.proofs.paths.read_path.Goals as goal

pub returns-in_default : goal.returns-in_default
returns-in_default c = path_refused_end c.args.at c.args.input.now c.requires (c.in_default.ensures.short.0 refl)

pub returns-then-count-gt-PATH_LIMIT : goal.returns-then-count-gt-PATH_LIMIT
returns-then-count-gt-PATH_LIMIT c =
    path_refused_count c.in-Ok.count c.args.at c.in-Ok.start c.args.input.now c.in-Ok.ensures.number c.if-count-gt-PATH_LIMIT.true

pub returns-in_default-take_number : goal.returns-in_default-take_number
returns-in_default-take_number c =
    path_refused_short c.in-Ok.count c.letter_bytes.result c.args.at c.in-Ok.start c.args.input.now c.letter_bytes.ensures.value c.in-Ok.ensures.number (c.in_default-take_number.ensures.short.0 refl)

pub returns-then-not-are_clear : goal.returns-then-not-are_clear
returns-then-not-are_clear c =
    path_refused_spare c.in-Ok.count c.letter_bytes.result c.in-Ok-take_number.number c.spare_worth-worth.result c.args.input.now c.args.at c.in-Ok.start c.in-Ok-take_number.next
    (record { size_is = c.letter_bytes.ensures.value; worth_is = c.spare_worth-worth.ensures.value; count_at = c.in-Ok.ensures.number; number_at = c.in-Ok-take_number.ensures.number; fits = c.in-Ok-take_number.ensures.fits })
    (λ z. true≢false (sym (c.are_clear.ensures.1 z) ∙ c.if-not-are_clear.true))

pub returns : goal.returns
returns c =
    rw c.path_of.ensures (path_read c.in-Ok.count c.letter_bytes.result c.in-Ok-take_number.number c.spare_worth-worth.result c.args.input.now c.args.at c.in-Ok.start c.in-Ok-take_number.next
    (record { size_is = c.letter_bytes.ensures.value; worth_is = c.spare_worth-worth.ensures.value; count_at = c.in-Ok.ensures.number; number_at = c.in-Ok-take_number.ensures.number; fits = c.in-Ok-take_number.ensures.fits })
    c.if-count-gt-PATH_LIMIT.false (c.are_clear.ensures.0 c.if-not-are_clear.false))
