-- A record of what was done over a wire.
use Rattle.std.specs.Prelude.{◌≡◌, ℕ, ◌+◌, ◌≤◌, ◌==◌, reverse, vec_len, vec_capacity}
use Rattle.mld_io.specs.declared.wire_records.WireRecord.TheInside.{Inside}
use Rattle.std.specs.List.{list_any}
use Rattle.mld_io.specs.Wires.{is_open}

-- there is room to shut each connection that is open, and just the open ones are listed
pub record IsRecord (r : Inside) : Type 0 where
  pub room : vec_len r.calls + vec_len r.open_ones ≤ vec_capacity r.calls
  pub listed : (conn : ℕ) → list_any (λ c. c == conn) r.open_ones.items ≡ is_open conn (reverse r.calls.items)
