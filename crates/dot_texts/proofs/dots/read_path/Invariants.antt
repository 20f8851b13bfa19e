use Rattle.dot_texts.proofs.DotTexts.{ReadsLetters}
use Rattle.dot_texts.proofs.dots.read_path.Given as goal

abbrev pub invariant-loop-byte : goal.invariant-loop-byte
invariant-loop-byte l = ReadsLetters l.letters l.byte-index l.path
