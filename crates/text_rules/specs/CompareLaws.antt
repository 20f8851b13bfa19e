-- Written forms compare as their first place that differs says: by ranks, or by bytes and then lengths. These hold for all values.
use Rattle.std.specs.Prelude.{◌≡◌, ℕ, suc, List, [], ◌∷◌, ◌++◌, ◌==◌, ◌≢◌, if◌then◌else◌, cond, refl}
use Rattle.std.proofs.Common.{sym, ap, subst, ◌∙◌, inl, inr, arith, append_assoc, ◌<◌, ◌+◌, ◌*◌, ltb, length, get_or}
use Rattle.std.proofs.lemmas.Bool.{cases_eq, cases_order, eq-eqb, ne_eqb}
use Rattle.std.proofs.lemmas.Bool.Decides.{nat_tests}
use Rattle.std.specs.Cmp.Lexicographic.{slice_cmp}
use Rattle.std.specs.Ordering.{nat_cmp, ordering_then}
use Rattle.std.specs.declared.cmp.Ordering.{Ordering}
use Rattle.std.specs.declared.cmp.Ordering.TheVariants.{Less, Equal, Greater}
use Rattle.text_rules.specs.Escaped.{escaped_byte, escaped}
use Rattle.text_rules.specs.Compare.{common, rank, rank_at}

-- two numbers compare as two others that stand the same way
pub same_ranks : (x y a b : ℕ) → (x < y → a < b) → (x ≡ y → a ≡ b) → (y < x → b < a) → nat_cmp a b ≡ nat_cmp x y
same_ranks x y a b f g h =
    elim (cases_order x y) as (λ _. nat_cmp a b ≡ nat_cmp x y) [
      | inl e ↦ let i = g e in grind (arith, nat_tests)
      | inr (inl e) ↦ let i = f e in grind (arith, nat_tests)
      | inr (inr e) ↦ let i = h e in grind (arith, nat_tests)
    ]

-- the byte that the second of two written bytes stands for
abbrev of_code : ℕ → ℕ
of_code k = if k == 110 then 10 else (if k == 114 then 13 else k)

-- how a byte is written, beside its rank: alone, or by a second byte behind a backslash
data Form : ℕ → Type 0 where
  alone : {x : ℕ} → x ≢ 34 → x ≢ 92 → escaped_byte x ≡ x ∷ [] → rank x ≡ x * 256 → Form x
  behind : {x : ℕ} (k : ℕ) → x ≡ of_code k → 0 < k → k < 256 → escaped_byte x ≡ 92 ∷ k ∷ [] → rank x ≡ 23552 + k → Form x

form : (x : ℕ) → Form x
form x =
    elim (cases_eq x 34) [
      | inl e ↦ subst (λ y. Form y) (sym e) (behind 34 refl (omega arith) (omega arith) refl refl)
      | inr a ↦ elim (cases_eq x 92) [
        | inl e ↦ subst (λ y. Form y) (sym e) (behind 92 refl (omega arith) (omega arith) refl refl)
        | inr b ↦ elim (cases_eq x 10) [
          | inl e ↦ subst (λ y. Form y) (sym e) (behind 110 refl (omega arith) (omega arith) refl refl)
          | inr c ↦ elim (cases_eq x 13) [
            | inl e ↦ subst (λ y. Form y) (sym e) (behind 114 refl (omega arith) (omega arith) refl refl)
            | inr d ↦ alone a b (plain_byte x a b c d) (plain_rank x a b c d)
          ]
        ]
      ]
    ]
  where
    plain_byte : (x : ℕ) → x ≢ 34 → x ≢ 92 → x ≢ 10 → x ≢ 13 → escaped_byte x ≡ x ∷ []
    plain_byte x a b c d = grind (arith, nat_tests)

    plain_rank : (x : ℕ) → x ≢ 34 → x ≢ 92 → x ≢ 10 → x ≢ 13 → rank x ≡ x * 256
    plain_rank x a b c d = grind (arith, nat_tests)

nat_less : (x y : ℕ) → x < y → nat_cmp x y ≡ Less
nat_less x y h = grind (arith, nat_tests)

nat_more : (x y : ℕ) → y < x → nat_cmp x y ≡ Greater
nat_more x y h = grind (arith, nat_tests)

-- where the first numbers differ, and two others stand as they do, nothing else counts
first_decides : (x y a b : ℕ) (o p : Ordering) → x ≢ y → (x < y → a < b) → (y < x → b < a) → ordering_then (nat_cmp x y) o ≡ ordering_then (nat_cmp a b) p
first_decides x y a b o p n f g =
    elim (cases_order x y) [
      | inl e ↦ absurd (n e)
      | inr (inl h) ↦ ap (λ q. ordering_then q o) (nat_less x y h) ∙ sym (ap (λ q. ordering_then q p) (nat_less a b (f h)))
      | inr (inr h) ↦ ap (λ q. ordering_then q o) (nat_more x y h) ∙ sym (ap (λ q. ordering_then q p) (nat_more a b (g h)))
    ]

-- two bytes as they are written compare by their ranks
by_forms : (x y : ℕ) (u v : List ℕ) → Form x → Form y → slice_cmp nat_cmp (escaped_byte x ++ u) (escaped_byte y ++ v) ≡ ordering_then (nat_cmp (rank x) (rank y)) (slice_cmp nat_cmp u v)
by_forms x y u v (alone a b e r) (alone c d f s) =
    rw (e, f, r, s) (ap (λ o. ordering_then o (slice_cmp nat_cmp u v)) (sym (same_ranks x y (x * 256) (y * 256) (λ h. omega arith) (λ h. omega arith) (λ h. omega arith))))
by_forms x y u v (alone a b e r) (behind k w m n f s) =
    rw (e, f, r, s) (first_decides x 92 (x * 256) (23552 + k) _ _ b (λ h. omega arith) (λ h. omega arith))
by_forms x y u v (behind k w m n e r) (alone c d f s) =
    rw (e, f, r, s) (first_decides 92 y (23552 + k) (y * 256) _ _ (λ h. d (sym h)) (λ h. omega arith) (λ h. omega arith))
by_forms x y u v (behind k w m n e r) (behind j z p q f s) =
    rw (e, f, r, s) (ap (λ o. ordering_then o (slice_cmp nat_cmp u v)) (sym (same_ranks k j (23552 + k) (23552 + j) (λ h. omega arith) (λ h. omega arith) (λ h. omega arith))))

-- the quote at the end of a lexical form against a byte of the other
end_before : (y : ℕ) (u v : List ℕ) (o : Ordering) → Form y → slice_cmp nat_cmp (34 ∷ u) (escaped_byte y ++ v) ≡ ordering_then (nat_cmp 8704 (rank y)) o
end_before y u v o (alone c d f s) = rw (f, s) (first_decides 34 y 8704 (y * 256) _ _ (λ h. c (sym h)) (λ h. omega arith) (λ h. omega arith))
end_before y u v o (behind j z p q f s) = rw (f, s) (first_decides 34 92 8704 (23552 + j) Equal o (omega arith) (λ h. omega arith) (λ h. omega arith))

end_after : (x : ℕ) (u v : List ℕ) (o : Ordering) → Form x → slice_cmp nat_cmp (escaped_byte x ++ u) (34 ∷ v) ≡ ordering_then (nat_cmp (rank x) 8704) o
end_after x u v o (alone c d f s) = rw (f, s) (first_decides x 34 (x * 256) 8704 _ _ c (λ h. omega arith) (λ h. omega arith))
end_after x u v o (behind j z p q f s) = rw (f, s) (first_decides 92 34 (23552 + j) 8704 Equal o (omega arith) (λ h. omega arith) (λ h. omega arith))

nat_tie : (x : ℕ) → nat_cmp x x ≡ Equal
nat_tie x = grind (arith, nat_tests)

-- a byte is told by its rank
rank_injective : (x y : ℕ) → Form x → Form y → rank x ≡ rank y → x ≡ y
rank_injective x y (alone a b e r) (alone c d f s) h = let i : x * 256 ≡ y * 256 = sym r ∙ h ∙ s in omega arith
rank_injective x y (alone a b e r) (behind k w m n f s) h = let i : x * 256 ≡ 23552 + k = sym r ∙ h ∙ s in absurd (omega arith)
rank_injective x y (behind k w m n e r) (alone c d f s) h = let i : 23552 + k ≡ y * 256 = sym r ∙ h ∙ s in absurd (omega arith)
rank_injective x y (behind k w m n e r) (behind j z p q f s) h = let i : 23552 + k ≡ 23552 + j = sym r ∙ h ∙ s in let l : k ≡ j = omega arith in w ∙ ap of_code l ∙ sym z

-- one step of two lexical forms that begin with a byte each, given the step behind them
escaped_step : (x y : ℕ) (a b : List ℕ) (o p : Ordering) → o ≡ ordering_then (nat_cmp (rank_at a (common a b)) (rank_at b (common a b))) p → ordering_then (nat_cmp (rank x) (rank y)) o ≡ ordering_then (nat_cmp (rank_at (x ∷ a) (common (x ∷ a) (y ∷ b))) (rank_at (y ∷ b) (common (x ∷ a) (y ∷ b)))) p
escaped_step x y a b o p h =
    elim (cases_eq x y) [
      | inl e ↦ rw (eq-eqb x y e) (ap (λ q. ordering_then q o) (ap (λ z. nat_cmp (rank x) (rank z)) (sym e) ∙ nat_tie (rank x)) ∙ h)
      | inr n ↦ rw (ne_eqb x y n) (first_decides (rank x) (rank y) (rank x) (rank y) o p (λ i. n (rank_injective x y (form x) (form y) i)) (λ i. i) (λ i. i))
    ]

-- literals compare by the rank at the first place where their lexical forms differ, then by what is behind their quotes
pub escaped_cmp : (a b u v : List ℕ) → slice_cmp nat_cmp (escaped a ++ 34 ∷ u) (escaped b ++ 34 ∷ v) ≡ ordering_then (nat_cmp (rank_at a (common a b)) (rank_at b (common a b))) (slice_cmp nat_cmp u v)
escaped_cmp [] [] u v = refl
escaped_cmp [] (y ∷ b) u v = rw (append_assoc (escaped_byte y) (escaped b) (34 ∷ v)) (end_before y u (escaped b ++ 34 ∷ v) (slice_cmp nat_cmp u v) (form y))
escaped_cmp (x ∷ a) [] u v = rw (append_assoc (escaped_byte x) (escaped a) (34 ∷ u)) (end_after x (escaped a ++ 34 ∷ u) v (slice_cmp nat_cmp u v) (form x))
escaped_cmp (x ∷ a) (y ∷ b) u v =
    rw (append_assoc (escaped_byte x) (escaped a) (34 ∷ u), append_assoc (escaped_byte y) (escaped b) (34 ∷ v))
    (by_forms x y (escaped a ++ 34 ∷ u) (escaped b ++ 34 ∷ v) (form x) (form y) ∙ escaped_step x y a b _ _ (escaped_cmp a b u v))

end_less : (b : List ℕ) (end : ℕ) → slice_cmp nat_cmp [] (b ++ end ∷ []) ≡ Less
end_less [] end = refl
end_less (y ∷ b) end = refl

end_more : (a : List ℕ) (end : ℕ) → slice_cmp nat_cmp (a ++ end ∷ []) [] ≡ Greater
end_more [] end = refl
end_more (x ∷ a) end = refl

common_none : (x y : ℕ) (a b : List ℕ) → x ≢ y → common (x ∷ a) (y ∷ b) ≡ 0
common_none x y a b n = rw (ne_eqb x y n) refl

not_less : (x y : ℕ) → x ≡ y → cond (ltb x y) Less Equal ≡ Equal
not_less x y e = grind (arith, nat_tests)

-- one step of two texts that begin with a byte each, given the step behind them
ended_step : (x y end : ℕ) (a b : List ℕ) (o : Ordering) → o ≡ ordering_then (nat_cmp (get_or a (common a b) end) (get_or b (common a b) end)) (nat_cmp (length a) (length b)) → ordering_then (nat_cmp x y) o ≡ ordering_then (nat_cmp (get_or (x ∷ a) (common (x ∷ a) (y ∷ b)) end) (get_or (y ∷ b) (common (x ∷ a) (y ∷ b)) end)) (nat_cmp (length (x ∷ a)) (length (y ∷ b)))
ended_step x y end a b o h =
    elim (cases_eq x y) [
      | inl e ↦ rw (eq-eqb x y e) (ap (λ q. ordering_then q o) (not_less x y e) ∙ h
          ∙ ap (λ q. ordering_then (nat_cmp (get_or a (common a b) end) (get_or b (common a b) end)) q) (same_ranks (suc (length a)) (suc (length b)) (length a) (length b) (λ i. omega arith) (λ i. omega arith) (λ i. omega arith)))
      | inr n ↦ first_decides x y x y o (nat_cmp (suc (length a)) (suc (length b))) n (λ i. i) (λ i. i)
          ∙ ap (λ k. ordering_then (nat_cmp (get_or (x ∷ a) k end) (get_or (y ∷ b) k end)) (nat_cmp (suc (length a)) (suc (length b)))) (sym (common_none x y a b n))
    ]

-- an end that both texts have, and then their lengths
pub ended_cmp : (a b : List ℕ) (end : ℕ) → slice_cmp nat_cmp (a ++ end ∷ []) (b ++ end ∷ []) ≡ ordering_then (nat_cmp (get_or a (common a b) end) (get_or b (common a b) end)) (nat_cmp (length a) (length b))
ended_cmp [] [] end = refl
ended_cmp [] (y ∷ b) end = ap (λ o. ordering_then (nat_cmp end y) o) (end_less b end ∙ sym (nat_less 0 (suc (length b)) (omega arith)))
ended_cmp (x ∷ a) [] end = ap (λ o. ordering_then (nat_cmp x end) o) (end_more a end ∙ sym (nat_more (suc (length a)) 0 (omega arith)))
ended_cmp (x ∷ a) (y ∷ b) end = ended_step x y end a b _ (ended_cmp a b end)

no_end : (y : ℕ) → Form y → 8704 ≡ rank y → ⊥
no_end y (alone c d f s) h = let i : 8704 ≡ y * 256 = h ∙ s in omega arith
no_end y (behind j z p q f s) h = let i : 8704 ≡ 23552 + j = h ∙ s in omega arith

-- where two lexical forms have the same rank at the end of what they have in common, they are one
pub same_from_rank : (a b : List ℕ) → rank_at a (common a b) ≡ rank_at b (common a b) → a ≡ b
same_from_rank [] [] e = refl
same_from_rank [] (y ∷ b) e = absurd (no_end y (form y) e)
same_from_rank (x ∷ a) [] e = absurd (no_end x (form x) (sym e))
same_from_rank (x ∷ a) (y ∷ b) e =
    elim (cases_eq x y) [
      | inl h ↦ let f = rw (eq-eqb x y h) at e in ap (λ z. z ∷ a) h ∙ ap (λ zs. y ∷ zs) (same_from_rank a b f)
      | inr n ↦ let f = rw (ne_eqb x y n) at e in absurd (n (rank_injective x y (form x) (form y) f))
    ]
