-- The founded world is sound.
use Rattle.std.proofs.Common.{◌≡◌, ◌≢◌, ℕ, zero, suc, ◌-◌, ◌<◌, List, [], ◌∷◌, ◌++◌, inl, inr, refl, sym, ap, arith, subst, ltb, map, append-nil, replicate}
use Rattle.std.specs.List.{range_with_len}
use Rattle.std.proofs.lemmas.Bool.{cases_lt, cases_Bool, ltb-true, cases_order}
use Rattle.std.proofs.lemmas.List.{get_or_past}
use Rattle.std.proofs.lemmas.List.FromFn.{get_or-map-range_with_len, length-map-range_with_len}
use Rattle.tree_clock.specs.declared.dots.Range.{Range}
use Rattle.tree_clock.specs.Lists.{Has}
use Rattle.tree_clock.specs.Path.{IsPrefix, AreApart, zero_letter, one_letter}
use Rattle.tree_clock.proofs.PathLaws.{apart_symmetric}
use Rattle.mld_model.specs.Clone.{Clone, Absent, Live, Stored}
use Rattle.mld_model.specs.World.{clone_at, founded, founded_path, founded_clone, clone_count}
use Rattle.mld_model.specs.Sound.{Keeps, IsSoundClone, IsOpenGive, IsSound}

tails : (x : ℕ) (xs ys : List ℕ) → x ∷ xs ≡ x ∷ ys → xs ≡ ys
tails x xs ys e = cc

heads : (x y : ℕ) (xs ys : List ℕ) → x ∷ xs ≡ y ∷ ys → x ≡ y
heads x y xs ys e = cc

heads_differ : (xs ys : List ℕ) → ¬ (zero_letter ∷ xs ≡ one_letter ∷ ys)
heads_differ xs ys e = let h : zero_letter ≡ one_letter = heads zero_letter one_letter xs ys e in omega (arith, h)

-- a path that turns right before another does is no prefix of it
turns_not_below : (turn : ℕ) (width : ℕ) (more : List ℕ) → turn < width → ¬ IsPrefix (replicate turn zero_letter ++ one_letter ∷ []) (replicate width zero_letter ++ more)
turns_not_below turn zero more h p = omega (arith, h)
turns_not_below zero (suc width) more h p = heads_differ (replicate width zero_letter ++ more) p.0 p.1
turns_not_below (suc turn) (suc width) more h p = turns_not_below turn width more (omega (arith, h)) (p.0, tails zero_letter (replicate width zero_letter ++ more) ((replicate turn zero_letter ++ one_letter ∷ []) ++ p.0) p.1)

turns_not_above : (turn : ℕ) (width : ℕ) (more : List ℕ) → turn < width → ¬ IsPrefix (replicate width zero_letter ++ more) (replicate turn zero_letter ++ one_letter ∷ [])
turns_not_above turn zero more h p = omega (arith, h)
turns_not_above zero (suc width) more h p = heads_differ ((replicate width zero_letter ++ more) ++ p.0) [] (sym p.1)
turns_not_above (suc turn) (suc width) more h p = turns_not_above turn width more (omega (arith, h)) (p.0, tails zero_letter (replicate turn zero_letter ++ one_letter ∷ []) ((replicate width zero_letter ++ more) ++ p.0) p.1)

turns_apart : (turn : ℕ) (width : ℕ) (more : List ℕ) → turn < width → AreApart (replicate turn zero_letter ++ one_letter ∷ []) (replicate width zero_letter ++ more)
turns_apart turn width more h = record { not_below = turns_not_below turn width more h; not_above = turns_not_above turn width more h }

-- the leaves of the founded world are apart
founded_apart : (count one other : ℕ) → one < count → other < count → one ≢ other → AreApart (founded_path count one) (founded_path count other)
founded_apart count zero zero h k differ = absurd (differ refl)
founded_apart count zero (suc other) h k differ =
    let P : List ℕ → Type 0 = λ p. AreApart (replicate other zero_letter ++ one_letter ∷ []) p in
    apart_symmetric _ _ (subst P (append-nil (replicate (count - 1) zero_letter)) (turns_apart other (count - 1) [] (omega (arith, k))))
founded_apart count (suc one) zero h k differ =
    let P : List ℕ → Type 0 = λ p. AreApart (replicate one zero_letter ++ one_letter ∷ []) p in
    subst P (append-nil (replicate (count - 1) zero_letter)) (turns_apart one (count - 1) [] (omega (arith, h)))
founded_apart count (suc one) (suc other) h k differ = elim (cases_order one other) [
  | inl same ↦ absurd (differ (ap suc same))
  | inr unlike ↦ elim unlike [
    | inl before ↦ turns_apart one other (one_letter ∷ []) before
    | inr after ↦ apart_symmetric _ _ (turns_apart other one (one_letter ∷ []) after)
  ]
]

-- which clone of the founded world keeps what
founded_keeps : (count number : ℕ) (stored : Stored) → Keeps (founded_clone count number) stored
    → (number < count) × (record { path = founded_path count number; base = []; journal = [] } ≡ stored)
founded_keeps count number stored keeps = elim (cases_Bool (ltb number count)) [
  | inl below ↦ let P : Clone → Type 0 = λ c. Keeps c stored in
      let e : founded_clone count number ≡ Live (record { path = founded_path count number; base = []; journal = [] }) [] = rw below refl in
      (ltb-true number count below, subst P e keeps)
  | inr above ↦ let P : Clone → Type 0 = λ c. Keeps c stored in
      let e : founded_clone count number ≡ Absent = rw above refl in
      absurd (subst P e keeps)
]

-- where the clone is live, it holds nothing back
abbrev HoldsNothing : Clone → Type 0
HoldsNothing (Live stored held) = held ≡ []
HoldsNothing clone = Unit {0}

holds_nothing : (clone : Clone) (stored : Stored) (held : List Range) → HoldsNothing clone → clone ≡ Live stored held → held ≡ []
holds_nothing clone stored held nothing is = subst HoldsNothing is nothing

-- the founded world
module _ (domain : List ℕ) (properties : List (List ℕ)) (count : ℕ) where
  founded_at : (number : ℕ) (stored : Stored) → Keeps (clone_at (founded domain properties count) number) stored
      → (number < count) × (record { path = founded_path count number; base = []; journal = [] } ≡ stored)
  founded_at number stored keeps = elim (cases_lt number clone_count) [
    | inl inside ↦ let P : Clone → Type 0 = λ c. Keeps c stored in
        founded_keeps count number stored (subst P (get_or-map-range_with_len (founded_clone count) 0 clone_count number number Absent inside (omega arith)) keeps)
    | inr past ↦ let P : Clone → Type 0 = λ c. Keeps c stored in
        absurd (subst P (get_or_past (map (founded_clone count) (range_with_len 0 clone_count)) number Absent (omega (arith, past, length-map-range_with_len (founded_clone count) 0 clone_count))) keeps)
  ]

  -- each clone of the founded world holds nothing back
  founded_holds : (number : ℕ) → HoldsNothing (clone_at (founded domain properties count) number)
  founded_holds number = elim (cases_lt number clone_count) [
    | inl inside ↦ subst HoldsNothing (sym (get_or-map-range_with_len (founded_clone count) 0 clone_count number number Absent inside (omega arith))) (elim (cases_Bool (ltb number count)) [
      | inl below ↦ rw below refl
      | inr above ↦ rw above tt
    ])
    | inr past ↦ subst HoldsNothing (sym (get_or_past (map (founded_clone count) (range_with_len 0 clone_count)) number Absent (omega (arith, past, length-map-range_with_len (founded_clone count) 0 clone_count)))) tt
  ]

  -- no message was sent in the founded world, so no leaf is given and open
  founded_gives_none : (place id : ℕ) (path : List ℕ) (dots : List Range) → ¬ IsOpenGive (founded domain properties count) place id path dots
  founded_gives_none place id path dots opened = cc (opened.sent)

  -- the founded world is sound
  pub founded_sound : IsSound (founded domain properties count)
  founded_sound = record {
    lawful = tt;
    count = length-map-range_with_len (founded_clone count) 0 clone_count;
    apart = λ one other first second differ one_keeps other_keeps.
        let a = founded_at one first one_keeps in
        let b = founded_at other second other_keeps in
        let P : Stored → Type 0 = λ s. AreApart s.path second.path in
        let Q : Stored → Type 0 = λ s. AreApart (founded_path count one) s.path in
        subst P a.1 (subst Q b.1 (founded_apart count one other a.0 b.0 differ));
    clones = λ number stored keeps.
        let a = founded_at number stored keeps in
        let P : Stored → Type 0 = λ s. IsSoundClone [] s in
        subst P a.1 (record {
          closed = record { done = λ dot h. absurd h; causes = λ operation stands. absurd stands };
          journal = record { done = λ dot h. absurd h; causes = λ operation stands. absurd stands };
          own = λ operation stands. absurd stands;
          above = λ operation stands. absurd stands;
          below = λ operation stands. absurd stands;
        });
    held = λ number stored held live range h.
        absurd (subst (λ (ranges : List Range). Has ranges range) (holds_nothing (clone_at (founded domain properties count) number) stored held (founded_holds number) live) h);
    gives_held = λ place id path dots number stored opened. absurd (founded_gives_none place id path dots opened);
    gives_apart = λ place id path dots second other leaf known differ opened. absurd (founded_gives_none place id path dots opened);
    gives = λ place id path dots opened. absurd (founded_gives_none place id path dots opened);
    messages = λ message sent. absurd sent;
  }
