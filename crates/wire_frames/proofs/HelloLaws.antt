-- A Hello of an id and a domain's name fits a frame.
use Rattle.std.proofs.Common.{ℕ, ◌≤◌, ◌&&◌, leb, IsTrue, List, length, arith, length-append}
use Rattle.std.proofs.lemmas.Bool.{and_parts, leb-true}
use Rattle.std.specs.List.{list_all}
use Rattle.std.specs.Str.{IsUtf8}
use Rattle.text_rules.specs.Domain.{is_domain, domain_limit, is_domain_byte}
use Rattle.mld_bytes.specs.Bytes.{u32_bytes, piece_bytes}
use Rattle.mld_bytes.proofs.Numbers.{length-u32_bytes}
use Rattle.op_codec.specs.Stored.{IsId}
use Rattle.wire_frames.specs.Frames.{IsHello, hello_format}

name_short : (text : List ℕ) → IsTrue (is_domain text) → length text ≤ domain_limit
unfolding is_domain
name_short text is =
    let both = and_parts (leb 1 (length text) && leb (length text) domain_limit) (list_all is_domain_byte text) is in
    leb-true (length text) domain_limit (and_parts (leb 1 (length text)) (leb (length text) domain_limit) both.0).1

pub hello_fits : (id domain : List ℕ) → IsId id → IsUtf8 domain → IsTrue (is_domain domain) → IsHello hello_format id domain
hello_fits id domain kept utf8 is =
    let short : length domain ≤ domain_limit = name_short domain is in
    let a = length-append id (piece_bytes domain) in
    let b = length-append (u32_bytes (length domain)) domain in
    let d = length-u32_bytes (length domain) in
    record { format_fits = omega arith; id_kept = kept; utf8 = utf8; size = omega (arith, short, kept, a, b, d) }
