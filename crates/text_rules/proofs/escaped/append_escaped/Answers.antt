use Rattle.std.proofs.Common.{◌≡◌, ℕ, ◌-◌, List, [], ◌∷◌, ◌++◌, length, take, drop, ap, ◌∙◌, arith, Result, is_ok, Ok, Err, if◌then◌else◌}
use Rattle.std.proofs.lemmas.List.{take_rest}
use Rattle.std.specs.Result.{OnOk}
use Rattle.text_rules.specs.Escaped.{escaped}
use Rattle.text_rules.proofs.Appending.{plain_step, escape_step, last_piece, keeps_on}
use Rattle.text_rules.proofs.escaped.append_escaped.Goals as goal
use Rattle.text_rules.proofs.escaped.append_escaped.Goals.{in-Some+in_ok-append_escape, in_default}

pub loop-i-preserved : goal.loop-i-preserved
loop-i-preserved c =
    let before = c.args.out.now.items in
    let text = c.args.lexical.now in
    let inv = c.loop-i.invariant in
    elim c.match-escape_code.branch [
      | in-Some+in_ok-append_escape w ↦
          let grown = w.in_ok-append_escape.ensures.ok in
          let on = escape_step c.loop-i.out.items before text c.loop-i.start c.loop-i.i inv.begun c.loop-i-test.true inv.told w.in-Some.code w.append_escape.new.out.items w.in-Some.ensures grown in
          let kept = keeps_on before c.loop-i.out.items (take (c.loop-i.i - c.loop-i.start) (drop c.loop-i.start text) ++ 92 ∷ w.in-Some.code ∷ []) inv.kept in
          record {
            begun = omega arith;
            told = rw (w.start-is, w.out-is) on;
            kept = rw (w.out-is, grown) kept;
          }
      | in_default w ↦
          let on = plain_step c.loop-i.out.items before text c.loop-i.start c.loop-i.i inv.begun c.loop-i-test.true inv.told w.in_default.ensures in
          record {
            begun = omega arith;
            told = rw (w.start-is, w.out-is) on;
            kept = rw w.out-is inv.kept;
          }
    ]

last : {E : Type 0} (r : Result (Unit {0}) E) (now out rest wanted : List ℕ) → now ≡ (if is_ok r then out ++ rest else out) → out ++ rest ≡ wanted → OnOk r (now ≡ wanted)
last (Ok u) now out rest wanted h e = h ∙ e
last (Err f) now out rest wanted h e = tt

pub returns-clause-ok : goal.returns-clause-ok
returns-clause-ok c =
    let inv = c.loop-i.invariant in
    let out = c.loop-i.out.items in
    let text = c.args.lexical.now in
    let start = c.loop-i.start in
    last c.extend_from_slice.result c.extend_from_slice.new.self.items out (take (length text - start) (drop start text)) (c.args.out.now.items ++ escaped text) c.extend_from_slice.ensures.items
    (ap (λ l. out ++ l) (take_rest text start) ∙ last_piece out c.args.out.now.items text start c.loop-i.i (omega arith) inv.told)
