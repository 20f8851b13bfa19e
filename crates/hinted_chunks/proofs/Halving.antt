-- A list whose tail is moved, the last element first.
use Rattle.std.proofs.Common.{◌≡◌, ◌+◌, ◌≤◌, List, [], ◌∷◌, ◌++◌, length, min, reverse, take, drop, sym, subst, ap, ◌∙◌, inl, inr, arith, append_assoc}
use Rattle.std.proofs.Math.Seq.{take-append_seam, drop-append_seam}
use Rattle.std.proofs.lemmas.Bool.{cases_lt}
use Rattle.std.proofs.lemmas.List.{length-append, reverse-append, nil_from_length, append-nil, take_all, drop_all}
use Rattle.hinted_chunks.specs.ChunkLimits.{half_limit}

-- one more element is moved
pub moved_more : {X : Type 0} (old from rest to : List X) (x : X) → old ≡ from ++ reverse to → from ≡ rest ++ x ∷ [] → old ≡ rest ++ reverse (to ++ x ∷ [])
moved_more old from rest to x e f =
    e ∙ ap (λ zs. zs ++ reverse to) f ∙ append_assoc rest (x ∷ []) (reverse to) ∙ ap (λ zs. rest ++ zs) (sym (reverse-append to (x ∷ [])))

rest_nil : {X : Type 0} (old from back : List X) → old ≡ from ++ back → length old ≤ length from → back ≡ []
rest_nil old from back e l =
    let n : length old ≡ length from + length back = ap length e ∙ length-append from back in
    nil_from_length back (omega (arith, n, l))

pub moved_front : {X : Type 0} (old from back : List X) → old ≡ from ++ back → length from ≤ half_limit → min half_limit (length old) ≤ length from → from ≡ take half_limit old
moved_front old from back e l m = elim (cases_lt (length from) half_limit) [
  | inl s ↦
      let n = rest_nil old from back e (omega (arith, m, s)) in
      let o : old ≡ from = e ∙ ap (λ zs. from ++ zs) n ∙ append-nil from in
      sym (take_all half_limit old (subst (λ zs. length zs ≤ half_limit) (sym o) l) ∙ o)
  | inr s ↦
      let k : length from ≡ half_limit = omega (arith, l, s) in
      sym (ap (take half_limit) e ∙ subst (λ n. take n (from ++ back) ≡ from) k (take-append_seam from back))
]

pub moved_back : {X : Type 0} (old from back : List X) → old ≡ from ++ back → length from ≤ half_limit → min half_limit (length old) ≤ length from → back ≡ drop half_limit old
moved_back old from back e l m = elim (cases_lt (length from) half_limit) [
  | inl s ↦
      let n = rest_nil old from back e (omega (arith, m, s)) in
      let o : old ≡ from = e ∙ ap (λ zs. from ++ zs) n ∙ append-nil from in
      n ∙ sym (drop_all half_limit old (subst (λ zs. length zs ≤ half_limit) (sym o) l))
  | inr s ↦
      let k : length from ≡ half_limit = omega (arith, l, s) in
      sym (ap (drop half_limit) e ∙ subst (λ n. drop n (from ++ back) ≡ back) k (drop-append_seam from back))
]
