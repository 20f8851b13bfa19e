-- Lists whose first elements are dropped.
use Rattle.std.proofs.Common.{◌≡◌, ◌∙◌, ℕ, ◌-◌, List, ◌++◌, length, take, drop, sym, ap}
use Rattle.std.proofs.Math.Seq.{take-append_seam}
use Rattle.std.proofs.lemmas.List.{length-drop}
use Rattle.mld_ops.specs.Entry.{EntryValue}

-- entries that are turned until the first of them stand last, and then cut off there
pub turned_front : (count : ℕ) (entries : List EntryValue) → take (length entries - count) (drop count entries ++ take count entries) ≡ drop count entries
turned_front count entries =
    let back = drop count entries in
    ap (λ (n : ℕ). take n (back ++ take count entries)) (sym (length-drop count entries)) ∙ take-append_seam back (take count entries)
