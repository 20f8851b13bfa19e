-- What a journal keeps of calls on its device.
use Rattle.std.specs.Prelude.{ℕ, Option, Result, Ok, Err, OnOk, IfOk}
use Rattle.std.proofs.Common.{sym, subst}
use Rattle.journal_store.specs.declared.device.Stop.{Stop}
use Rattle.journal_store.specs.declared.device.Stop.TheVariants.{Before, Within}
use Rattle.journal_store.specs.declared.faults.Why.{Why}
use Rattle.journal_store.specs.CallEnds.{KeepsEnd}

-- what is told of the place behind what was written, where it was
pub kept_end : {U : Type 0} (stop : ℕ) (closed : Option Why) (put : Result ℕ Stop) (stop' : ℕ) (closed' : Option Why) (result : Result U Why) (P : ℕ → Type 0) → KeepsEnd stop closed put stop' closed' result
    → IfOk put P → OnOk result (P stop')
kept_end stop closed (Ok end) stop' closed' result P s h = subst (λ (r : Result _ Why). OnOk r (P stop')) (sym s.2.1) (subst P (sym s.0) h)
kept_end stop closed (Err Before) stop' closed' result P s h = subst (λ (r : Result _ Why). OnOk r (P stop')) (sym s.2) tt
kept_end stop closed (Err (Within why)) stop' closed' result P s h = subst (λ (r : Result _ Why). OnOk r (P stop')) (sym s.2) tt
