-- What depends on the format of a side: its mark, its gates and the kinds of its records. What depends on the size of ticks
-- and of paths stands in `op_codec`.
use Rattle.std.specs.Prelude.{ℕ, ◌+◌, List, codes, length}
use Rattle.std.specs.Int.{w64, from_be_bytes}

-- the first bytes of a head
abbrev pub head_mark : List ℕ
head_mark = codes "mld1"

-- a gate that is open; a gate of any other byte is closed
abbrev pub open_gate : ℕ
open_gate = 1

-- a closed gate as it is written
abbrev pub closed_gate : ℕ
closed_gate = 0

-- the kind of a record that carries an entry
abbrev pub entry_record_kind : ℕ
entry_record_kind = 1

-- the kind of a fork
abbrev pub fork_kind : ℕ
fork_kind = 2

-- how many bytes a generation has
abbrev pub generation_size : ℕ
generation_size = 8

-- where the generation of a side stands: behind its gate and its mark
abbrev pub generation_place : ℕ
generation_place = 1 + length head_mark

-- the number that eight bytes are
unfoldable pub u64_number : List ℕ → ℕ
u64_number bytes = from_be_bytes w64 bytes
