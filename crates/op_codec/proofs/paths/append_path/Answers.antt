use Rattle.std.proofs.Common.{◌^◌, ◌<◌, sym, subst, arith}
use Rattle.op_codec.proofs.Appending.{on_ok}
use Rattle.op_codec.proofs.PathReading.{packed_fits, packed_below, path_appended}
use Rattle.op_codec.proofs.paths.append_path.Goals as goal

pub overflow_mul-number_of : goal.overflow_mul-number_of
overflow_mul-number_of c =
    let n : c.number_of.result < 2 ^ c.len-count.result = subst (λ k. c.number_of.result < 2 ^ k) (sym c.len-count.ensures.value) c.number_of.ensures.fits in
    let h = packed_below c.len-count.result c.number_of.result c.spare_worth.result c.len-count.ensures.at_most c.spare_worth.ensures.value n in
    omega (arith, h)

pub put_number-requires-clause-fits : goal.put_number-requires-clause-fits
put_number-requires-clause-fits c =
    let n : c.number_of.result < 2 ^ c.len-count.result = subst (λ k. c.number_of.result < 2 ^ k) (sym c.len-count.ensures.value) c.number_of.ensures.fits in
    packed_fits c.len-count.result c.number_of.result c.spare_worth.result c.letter_bytes.result c.spare_worth.ensures.value c.letter_bytes.ensures.value n

pub returns-clause-ok : goal.returns-clause-ok
returns-clause-ok c =
    on_ok c.put_number.result (path_appended c.args.out.now.items c.put_u8.new.out.items c.put_number.new.out.items c.args.path.now c.len-count.result c.number_of.result c.spare_worth.result c.letter_bytes.result
    c.len-count.ensures.value c.number_of.ensures.value c.spare_worth.ensures.value c.letter_bytes.ensures.value c.in_ok-put_u8.ensures.ok) c.put_number.ensures.ok
