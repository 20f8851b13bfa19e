-- Laws of texts that lack a byte, and of texts that are split at the first byte of a kind.
use Rattle.std.specs.Prelude.{◌≡◌, ◌≢◌, ℕ, ◌+◌, ◌%◌, ◌^◌, ◌<◌, List, [], ◌∷◌, ◌++◌, Bool, false, true, IsTrue, nat_eq}
use Rattle.std.specs.List.{list_all}
use Rattle.std.specs.Fmt.{decimal}
use Rattle.std.proofs.Common.{refl, sym, ◌∙◌, subst, arith}
use Rattle.std.proofs.lemmas.Bool.{false≢true, and_parts, eq-eqb}
use Rattle.std.proofs.lemmas.Fmt.{decimal_by_steps}
use Rattle.schedule_model.specs.Characters.{space}
pub use Rattle.schedule_model.specs.Lacking.{Lacks}

-- two texts that lack it do so together
pub Lacks-append : (byte : ℕ) (front rest : List ℕ) → Lacks byte front → Lacks byte rest → Lacks byte (front ++ rest)
Lacks-append byte [] rest h k = k
Lacks-append byte (first ∷ front) rest h k = (h.0, Lacks-append byte front rest h.1 k)

-- both parts of a text lack what the whole lacks
pub Lacks_parts : (byte : ℕ) (front rest : List ℕ) → Lacks byte (front ++ rest) → Lacks byte front × Lacks byte rest
Lacks_parts byte [] rest h = (tt, h)
Lacks_parts byte (first ∷ front) rest h = let parts = Lacks_parts byte front rest h.1 in ((h.0, parts.0), parts.1)

-- what no byte of the text is, by a test that all of them pass
pub Lacks-from_test : (test : ℕ → Bool) (byte : ℕ) → test byte ≡ false → (text : List ℕ) → IsTrue (list_all test text) → Lacks byte text
Lacks-from_test test byte fails [] h = tt
Lacks-from_test test byte fails (first ∷ rest) h =
    let parts = and_parts (test first) (list_all test rest) h in
    (λ e. false≢true (sym fails ∙ subst (λ k. test k ≡ true) e parts.0), Lacks-from_test test byte fails rest parts.1)

-- the numbers that are written lack what is no digit
pub Lacks-decimal : (byte : ℕ) → ((digit : ℕ) → digit < 10 → 48 + digit ≢ byte) → (number : ℕ) → number < 2 ^ 64 → Lacks byte (decimal number)
Lacks-decimal byte other = decimal_by_steps (λ n ds. Lacks byte ds) (λ n h. (other n h, tt))
    (λ n ds h k. Lacks-append byte ds _ k (other (n % 10) (omega arith), tt))

-- so numbers are written without spaces
pub no_space : (number : ℕ) → number < 2 ^ 64 → Lacks space (decimal number)
no_space = Lacks-decimal space (λ digit h e. omega arith)

-- a text is split at its first such byte in one way
pub one_split : (byte : ℕ) (a b x y : List ℕ) → Lacks byte a → Lacks byte b → a ++ byte ∷ x ≡ b ++ byte ∷ y → (a ≡ b) × (x ≡ y)
one_split byte [] [] x y h k e = (refl, cc)
one_split byte [] (first ∷ b) x y h k e = absurd (k.0 (cc))
one_split byte (first ∷ a) [] x y h k e = absurd (h.0 (cc))
one_split byte (first ∷ a) (second ∷ b) x y h k e =
    let rest = one_split byte a b x y h.1 k.1 (cc) in
    (cc, rest.1)

-- texts with different first bytes differ
pub apart : {a b : ℕ} {x y line : List ℕ} → line ≡ a ∷ x → line ≡ b ∷ y → nat_eq a b ≡ false → ⊥
apart {a} {b} p q e = false≢true (sym e ∙ eq-eqb a b (cc))
