-- How many calls of the device that write or sync are made. `meter` of each call of this crate cites it.
use Rattle.std.specs.Prelude.{ℕ}

-- an append makes four, a create and a swap six
abbrev pub append_calls : ℕ
append_calls = 4

abbrev pub create_calls : ℕ
create_calls = 6

abbrev pub swap_calls : ℕ
swap_calls = 6
