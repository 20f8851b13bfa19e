-- Writes of one piece, one after another.
use Rattle.std.proofs.Common.{ℕ, ◌+◌, ◌-◌, List, length, take, drop, Option}
use Rattle.std.proofs.Math.Seq.{take-add}
use Rattle.std.proofs.lemmas.List.{take_rest}
use Rattle.std.specs.Io.KnownBytes.{Appends}
use Rattle.std.proofs.KnownBytes.{Appends-trans}

-- the front up to i was written, and then n bytes of what follows
pub Appends-more : (old mid new : Option (List ℕ)) (piece : List ℕ) (i n : ℕ) → Appends old mid (take i piece) → Appends mid new (take n (take (length piece - i) (drop i piece)))
    → Appends old new (take (i + n) piece)
Appends-more old mid new piece i n first second =
    rw (take-add i n piece) (Appends-trans old mid new (take i piece) (take n (drop i piece)) first (rw (take_rest piece i) at second))
