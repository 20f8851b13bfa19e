-- The bytes of a schedule and of its replies that stand alone, by name: a space stands between the parts of a line, and LF ends it.
-- The writers of replies cite it, and the readers of the words in a line.
use Rattle.std.specs.Prelude.{ℕ}
pub use Rattle.text_rules.specs.Marks.{space, line_feed as line_end}

-- `#`, with which a comment begins
abbrev pub hash_mark : ℕ
hash_mark = 35
