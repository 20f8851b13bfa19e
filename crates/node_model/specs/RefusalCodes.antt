-- The codes by which a connection is refused.
use Rattle.std.specs.Prelude.{ℕ}

-- a bad frame, a part that isn't the next one, or a whole that is no message
abbrev pub bad_frame_code : ℕ
bad_frame_code = 1

-- a frame that is too long
abbrev pub long_frame_code : ℕ
long_frame_code = 2

-- a Hello of another domain
abbrev pub other_domain_code : ℕ
other_domain_code = 3

-- a Hello of another format
abbrev pub other_format_code : ℕ
other_format_code = 4

-- a Hello with the node's own id
abbrev pub own_id_code : ℕ
own_id_code = 5

-- a frame that may not come on such a connection
abbrev pub misplaced_code : ℕ
misplaced_code = 6

-- a message that is too long would go on the connection
abbrev pub long_message_code : ℕ
long_message_code = 7

-- a range, or a snapshot, with ticks of the clone's own path that it never gave
abbrev pub foreign_tick_code : ℕ
foreign_tick_code = 8

-- a question for a leaf, where the clone's is too deep to be forked
abbrev pub deep_leaf_code : ℕ
deep_leaf_code = 9
