-- Lists as sets, and loops over ascending lists that keep some of the elements, each as another value.
use Rattle.std.proofs.Common.{◌≡◌, ℕ, ◌+◌, ◌<◌, ◌≤◌, List, [], ◌∷◌, ◌++◌, length, get_or, take, drop, map, ◌↔◌, inl, inr, refl, sym, ◌∙◌, ap, subst}
use Rattle.std.proofs.lemmas.List.{take_more, take_all, take-append-drop}
use Rattle.std.specs.List.{AllByRecursion}
use Rattle.std.specs.declared.cmp.Ordering.{Ordering}
use Rattle.std.specs.declared.cmp.Ordering.TheVariants.{Less}
use Rattle.tree_clock.specs.Lists.{Has, IsAscending}
use Rattle.mld_ops.proofs.AscendingLaws.{has_append, has_left, has_right, ascending_append, ascending_front, below_across, has_take_more}

-- what holds of each element, as of each member
pub of_member : {X : Type 0} (P : X → Type 0) (xs : List X) (x : X) → AllByRecursion P xs → Has xs x → P x
of_member P [] x all h = absurd h
of_member P (y ∷ xs) x all (inl e) = subst P e all.0
of_member P (y ∷ xs) x all (inr h) = of_member P xs x all.1 h

pub from_members : {X : Type 0} (P : X → Type 0) (xs : List X) → ((x : X) → Has xs x → P x) → AllByRecursion P xs
from_members P [] each = tt
from_members P (x ∷ xs) each = (each x (inl refl), from_members P xs (λ y h. each y (inr h)))

-- the members of a list of images
pub has_map : {X Y : Type 0} (f : X → Y) (xs : List X) (x : X) → Has xs x → Has (map f xs) (f x)
has_map f [] x h = absurd h
has_map f (y ∷ xs) x (inl e) = inl (ap f e)
has_map f (y ∷ xs) x (inr h) = inr (has_map f xs x h)

pub record Image {X Y : Type 0} (f : X → Y) (xs : List X) (y : Y) : Type 0 where
  pub of : X
  pub stands : Has xs of
  pub is : f of ≡ y

pub map_has : {X Y : Type 0} (f : X → Y) (xs : List X) (y : Y) → Has (map f xs) y → Image f xs y
map_has f [] y h = absurd h
map_has f (x ∷ xs) y (inl e) = record { of = x; stands = inl refl; is = e }
map_has f (x ∷ xs) y (inr h) = let i = map_has f xs y h in record { of = i.of; stands = inr i.stands; is = i.is }

-- a member that passes, and what it becomes
pub record Picked {X Y : Type 0} (f : X → Y) (P : X → Type 0) (xs : List X) (y : Y) : Type 0 where
  pub of : X
  pub stands : Has xs of
  pub passes : P of
  pub is : f of ≡ y

-- the second list has what becomes of those members of the first that pass, ascending
pub record Picks {X Y : Type 0} (S : Y → Y → Ordering) (f : X → Y) (P : X → Type 0) (xs : List X) (ys : List Y) : Type 0 where
  pub ascending : IsAscending S ys
  pub members : (y : Y) → Has ys y ↔ Picked f P xs y

module _ {X Y : Type 0} (S : Y → Y → Ordering) (f : X → Y) (P : X → Type 0) where
  pub picks_none : (xs : List X) (ys : List Y) → ys ≡ [] → Picks S f P (take 0 xs) ys
  picks_none xs ys e = rw e (record { ascending = tt; members = λ y. (λ h. absurd h, λ p. absurd p.stands) })

  pub picks_all : (xs : List X) (i : ℕ) (ys : List Y) → length xs ≤ i → Picks S f P (take i xs) ys → Picks S f P xs ys
  picks_all xs i ys l p = subst (λ (zs : List X). Picks S f P zs ys) (take_all i xs l) p

  -- one more element, which doesn't pass
  pub picks_skip : (xs : List X) (i : ℕ) (x : X) (ys : List Y) → i < length xs → x ≡ get_or xs i x → ¬ P x → Picks S f P (take i xs) ys
      → Picks S f P (take (i + 1) xs) ys
  picks_skip xs i x ys l e n p = record {
    ascending = p.ascending;
    members = λ y. (
      λ h. let m : Picked f P (take i xs) y = (p.members y).0 h in record { of = m.of; stands = (has_take_more xs i x m.of l).1 (inl m.stands); passes = m.passes; is = m.is },
      λ m. (p.members y).1 (record {
        of = m.of;
        stands = elim ((has_take_more xs i x m.of l).0 m.stands) [ inl h ↦ h | inr k ↦ absurd (n (subst P (sym (e ∙ k)) m.passes)) ];
        passes = m.passes;
        is = m.is;
      }),
    );
  }

  -- one more element, which passes
  pub picks_more : (R : X → X → Ordering) → ((a b : X) → R a b ≡ Less → S (f a) (f b) ≡ Less) → (xs : List X) (i : ℕ) (x : X) (ys : List Y) (y : Y)
      → IsAscending R xs → i < length xs → x ≡ get_or xs i x → y ≡ f x → P x → Picks S f P (take i xs) ys → Picks S f P (take (i + 1) xs) (ys ++ y ∷ [])
  picks_more R rises xs i x ys y a l e becomes passes p = record {
    ascending = ascending_append S ys (y ∷ []) p.ascending (tt, tt) (λ z w h k. elim k [ inl same ↦ subst (λ v. S z v ≡ Less) same (below z h) | inr none ↦ absurd none ]);
    members = λ z. (
      λ h. elim (has_append ys (y ∷ []) z h) [
        | inl k ↦ let m : Picked f P (take i xs) z = (p.members z).0 k in record { of = m.of; stands = (has_take_more xs i x m.of l).1 (inl m.stands); passes = m.passes; is = m.is }
        | inr k ↦ elim k [
          | inl same ↦ record { of = x; stands = (has_take_more xs i x x l).1 (inr (sym e)); passes = passes; is = sym becomes ∙ same }
          | inr none ↦ absurd none
        ]
      ],
      λ m. elim ((has_take_more xs i x m.of l).0 m.stands) [
        | inl h ↦ has_left ys (y ∷ []) z ((p.members z).1 (record { of = m.of; stands = h; passes = m.passes; is = m.is }))
        | inr k ↦ has_right ys (y ∷ []) z (inl (becomes ∙ ap f (e ∙ k) ∙ m.is))
      ],
    );
  }
    where
      front : IsAscending R (take i xs ++ get_or xs i x ∷ [])
      front = subst (λ (zs : List X). IsAscending R zs) (take_more xs i x l)
          (ascending_front R (take (i + 1) xs) (drop (i + 1) xs) (subst (λ (zs : List X). IsAscending R zs) (sym (take-append-drop (i + 1) xs)) a))

      below : (z : Y) → Has ys z → S z y ≡ Less
      below z h =
          let m : Picked f P (take i xs) z = (p.members z).0 h in
          let lower : R m.of x ≡ Less = below_across R (take i xs) (get_or xs i x ∷ []) m.of x front m.stands (inl (sym e)) in
          subst (λ (v : Y). S v y ≡ Less) m.is (subst (λ (v : Y). S (f m.of) v ≡ Less) (sym becomes) (rises m.of x lower))

-- the members that pass, as they are
pub picked_same : {X : Type 0} (S : X → X → Ordering) (P : X → Type 0) (xs ys : List X) → Picks S (λ x. x) P xs ys → (x : X) → Has ys x ↔ (Has xs x × P x)
picked_same S P xs ys p x = (
  λ h. let m : Picked (λ x. x) P xs x = (p.members x).0 h in (subst (λ y. Has xs y) m.is m.stands, subst P m.is m.passes),
  λ h. (p.members x).1 (record { of = x; stands = h.0; passes = h.1; is = refl }),
)
