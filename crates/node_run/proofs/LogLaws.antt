-- The log of a wire over which bytes are sent.
use Rattle.std.proofs.Common.{◌≡◌, ℕ, zero, suc, ◌+◌, ◌<◌, ◌≤◌, arith, get_or, Bool, true, if◌then◌else◌, List, [], ◌∷◌, ◌++◌, refl, sym, ◌∙◌, ap, subst, length, take, drop, Option, None, Some, Result, Ok, Err, OnErr}
use Rattle.std.proofs.lemmas.List.{take_all, take_more}
use Rattle.std.specs.Prelude.{option_map}
use Rattle.mld_io.specs.declared.events.WireCall.TheVariants as call
use Rattle.mld_io.specs.Wires.{WireLog, after_shut}
use Rattle.node_core.specs.node_model.declared.connections.Sent.{Sent}
use Rattle.node_core.specs.node_model.Events.{log_with, log_after}
use Rattle.node_run.specs.ServiceUnderWay.{Sends, SendsFront}

-- what is told where a log was told, and nothing where none was
pub told_map : (f : WireLog → WireLog) (old now : Option WireLog) → ((l : WireLog) → old ≡ Some l → now ≡ Some (f l)) → (old ≡ None → now ≡ None)
    → now ≡ option_map f old
told_map f None now told untold = untold refl
told_map f (Some l) now told untold = told l refl

-- what stays as it is
pub told_same : (old now : Option WireLog) → ((l : WireLog) → old ≡ Some l → now ≡ Some l) → (old ≡ None → now ≡ None) → now ≡ old
told_same None now told untold = untold refl
told_same (Some l) now told untold = told l refl

-- one after another
pub map_then : (f h : WireLog → WireLog) (old mid now : Option WireLog) → mid ≡ option_map f old → now ≡ option_map h mid → now ≡ option_map (λ l. h (f l)) old
map_then f h None mid now one two = two ∙ ap (option_map h) one
map_then f h (Some l) mid now one two = two ∙ ap (option_map h) one

-- behind a log that is known
pub logged_then : (log : WireLog) (h : WireLog → WireLog) (before mid now : Option WireLog) → mid ≡ option_map (λ b. log) before → now ≡ option_map h mid
    → now ≡ option_map (λ b. h log) before
logged_then log h before mid now one two = map_then (λ b. log) h before mid now one two

-- bytes, and then that the connection is shut
pub sent_shut : (one : Sent) (bytes : List ℕ) (old mid now : Option WireLog) → bytes ≡ one.piece → one.shut ≡ true → mid ≡ option_map (λ l. call.Sent one.conn bytes ∷ l) old
    → now ≡ option_map (after_shut one.conn) mid → now ≡ option_map (log_with one) old
sent_shut one bytes old mid now is shut sent closed =
    map_then (λ l. call.Sent one.conn one.piece ∷ l) (after_shut one.conn) old mid now
    (subst (λ (b : List ℕ). mid ≡ option_map (λ (l : WireLog). call.Sent one.conn b ∷ l) old) is sent) closed
    ∙ ap (λ (b : Bool). option_map (λ (l : WireLog). if b then after_shut one.conn (call.Sent one.conn one.piece ∷ l) else call.Sent one.conn one.piece ∷ l) old) (sym shut)

-- one more behind others
after_more : (sent : List Sent) (one : Sent) (log : WireLog) → log_after (sent ++ one ∷ []) log ≡ log_with one (log_after sent log)
after_more [] one log = refl
after_more (first ∷ sent) one log = after_more sent one (log_with first log)

map_same : (f h : WireLog → WireLog) → ((l : WireLog) → f l ≡ h l) → (old : Option WireLog) → option_map f old ≡ option_map h old
map_same f h same None = refl
map_same f h same (Some l) = ap (λ (x : WireLog). Some x) (same l)

-- what holds where it was refused
pub on_err : {A E P : Type 0} (result : Result A E) → P → OnErr result P
on_err (Ok value) holds = tt
on_err (Err fault) holds = holds

-- nothing is to be sent
pub sends_none : (log : Option WireLog) → Sends [] log log
sends_none None = refl
sends_none (Some l) = refl

module _ (sent : List Sent) (i : ℕ) (one : Sent) (few : i < length sent) (is : one ≡ get_or sent i one) where
  -- one more was sent
  pub sends_more : (old mid now : Option WireLog) → Sends (take i sent) old mid → now ≡ option_map (log_with one) mid → Sends (take (i + 1) sent) old now
  sends_more old mid now first next =
      let more : take (i + 1) sent ≡ take i sent ++ one ∷ [] = take_more sent i one few ∙ ap (λ (x : Sent). take i sent ++ x ∷ []) (sym is) in
      map_then (log_after (take i sent)) (log_with one) old mid now first next
      ∙ sym (map_same (log_after (take i sent ++ one ∷ [])) (λ l. log_with one (log_after (take i sent) l)) (after_more (take i sent) one) old)
      ∙ ap (λ (all : List Sent). option_map (log_after all) old) (sym more)

  -- or it wasn't
  pub sends_front : (old mid now : Option WireLog) → Sends (take i sent) old mid → now ≡ mid → SendsFront sent old now
  sends_front old mid now first same = record { front = take i sent; missed = one; rest = drop (suc i) sent; whole = parts sent i few is; sends = same ∙ first }
    where
      parts : (items : List Sent) (k : ℕ) → k < length items → one ≡ get_or items k one → items ≡ take k items ++ one ∷ drop (suc k) items
      parts [] k less at = absurd (omega (arith, less))
      parts (x ∷ xs) zero less at = ap (λ (y : Sent). y ∷ xs) (sym at)
      parts (x ∷ xs) (suc k) less at = ap (λ (l : List Sent). x ∷ l) (parts xs k (omega (arith, less)) at)

-- all was sent
pub sends_all : (sent : List Sent) (i : ℕ) (old now : Option WireLog) → length sent ≤ i → Sends (take i sent) old now → Sends sent old now
sends_all sent i old now all sends = subst (λ (items : List Sent). Sends items old now) (take_all i sent all) sends
