use Rattle.std.proofs.Common.{◌≡◌, ◌≤◌, ◌++◌, drop, take}
use Rattle.text_rules.specs.Escaped.{KeepsStart, escaped}
use Rattle.text_rules.proofs.escaped.append_escaped.Given as goal

-- what is written, with the piece that is not copied yet, is the front with its escapes
abbrev pub invariant-loop-i : goal.invariant-loop-i
invariant-loop-i l = record {
  begun : l.start ≤ l.i;
  told : l.out.items ++ drop l.start (take l.i l.lexical) ≡ l.fn.out.items ++ escaped (take l.i l.lexical);
  kept : KeepsStart l.fn.out.items l.out.items;
}
