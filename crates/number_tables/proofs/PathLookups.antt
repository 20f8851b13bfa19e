-- Where a path's number is among ascending ones.
use Rattle.std.proofs.Common.{◌≡◌, ◌∙◌, ◌⊎◌, ◌↔◌, ℕ, ◌<◌, List, [], ◌∷◌, ◌++◌, true, false, length, get_or, nat_eq, Option, None, Some, if◌then◌else◌, refl, sym, subst, ap, inl, inr, arith}
use Rattle.std.proofs.lemmas.Bool.{true≢false}
use Rattle.std.proofs.lemmas.Cmp.{nat_list_cmp_total, nat_list_eq_equiv, tied_itself}
use Rattle.std.proofs.lemmas.List.{length-append}
use Rattle.std.proofs.lemmas.List.Quantifiers.{position-Some}
use Rattle.std.proofs.lemmas.Map.Keys.{IsDistinct-push}
use Rattle.std.proofs.lemmas.Map.Lookups.{exact_bytes}
use Rattle.std.proofs.lemmas.Option.{slice_get-get_or}
use Rattle.std.specs.Cmp.Lexicographic.{bytes_decides, pointwise, slice_cmp}
use Rattle.std.specs.List.{IsDistinct, slice_get}
use Rattle.std.specs.Ordering.{nat_cmp}
use Rattle.number_tables.specs.TableNumbers.{with_new_value}
use Rattle.tree_clock.specs.Lists.{Has, IsAscending}
use Rattle.chunked_list.specs.Parted.{IsParted, IsFirstOf}
use Rattle.number_tables.specs.declared.path_table.NumberedPath.{NumberedPath}
use Rattle.number_tables.specs.NumberedPaths.{numbered_path_cmp, is_before_path, IsPathTable}
use Rattle.number_tables.specs.TableNumbers.{number_of_path}
use Rattle.number_tables.proofs.Numbers.{placed_path}
use Rattle.number_tables.proofs.Seeking.{absent_any, first_has, first_member, found_any, get_new, get_old, get_push, none_by, one_inside, sought_divides}

abbrev path_at : NumberedPath → List ℕ
path_at place = place.path

abbrev number_at : NumberedPath → ℕ
number_at place = place.number

-- a path divides the paths with numbers
pub path_divides : (path : List ℕ) (places : List NumberedPath) → IsAscending numbered_path_cmp places → IsParted (is_before_path path) places
path_divides path places a = sought_divides (slice_cmp nat_cmp) nat_list_cmp_total path_at number_at path places a

-- the first that isn't before a path, where it is the path, has its number
pub path_found : (paths : List (List ℕ)) (places : List NumberedPath) (first : NumberedPath) (path : List ℕ) → IsPathTable paths places
    → IsFirstOf (is_before_path path) places (Some first) → pointwise nat_eq first.path path ≡ true → Some first.number ≡ number_of_path paths path
path_found paths places first path is f e =
    let same = (bytes_decides first.path path).0 e in
    let own = (is.members first).0 (first_member (is_before_path path) places first f) ∙ ap (λ p. Some p) same in
    sym (placed_path paths first.number path path is.apart own ((bytes_decides path path).1 refl))

-- a path that has a number stands with it
numbered : (paths : List (List ℕ)) (places : List NumberedPath) (path : List ℕ) (number : ℕ) → IsPathTable paths places → number_of_path paths path ≡ Some number
    → Has places (record { path = path; number = number })
numbered paths places path number is h =
    let at = position-Some (pointwise nat_eq path) paths number path h in
    let own : path ≡ get_or paths number path = (bytes_decides path (get_or paths number path)).0 at.1 in
    (is.members (record { path = path; number = number })).1 (slice_get-get_or paths number path at.0 ∙ ap (λ p. Some p) (sym own))

path_absent : (paths : List (List ℕ)) (places : List NumberedPath) (first : Option NumberedPath) (path : List ℕ) → IsPathTable paths places
    → IsFirstOf (is_before_path path) places first → ((found : NumberedPath) → first ≡ Some found → pointwise nat_eq found.path path ≡ false) → None ≡ number_of_path paths path
path_absent paths places first path is f other = none_by (number_of_path paths path) (λ number h. found number h)
  where
    found : (number : ℕ) → number_of_path paths path ≡ Some number → ⊥
    found number h =
        let has =
        first_has (slice_cmp nat_cmp) nat_list_cmp_total path_at number_at path places first (record { path = path; number = number }) is.ascending f
        (numbered paths places path number is h) (tied_itself nat_list_cmp_total path)
        in
        let same = exact_bytes has.0.path path has.2 in
        true≢false (sym ((bytes_decides has.0.path path).1 same) ∙ other has.0 has.1)

-- a path has no number where all are before it, or the first that isn't is another
pub path_absent_behind : (paths : List (List ℕ)) (places : List NumberedPath) (path : List ℕ) → IsPathTable paths places → IsFirstOf (is_before_path path) places None
    → None ≡ number_of_path paths path
path_absent_behind paths places path is f = path_absent paths places None path is f none_found
  where
    none_found : (found : NumberedPath) → None ≡ Some found → pointwise nat_eq found.path path ≡ false
    none_found found h = cc

pub path_absent_at : (paths : List (List ℕ)) (places : List NumberedPath) (first : NumberedPath) (path : List ℕ) → IsPathTable paths places
    → IsFirstOf (is_before_path path) places (Some first) → pointwise nat_eq first.path path ≡ false → None ≡ number_of_path paths path
path_absent_at paths places first path is f other = path_absent paths places (Some first) path is f other_found
  where
    other_found : (found : NumberedPath) → Some first ≡ Some found → pointwise nat_eq found.path path ≡ false
    other_found found h = subst (λ (w : NumberedPath). pointwise nat_eq w.path path ≡ false) (one_inside first found h) other

-- ---- no path

no_paths : IsPathTable [] []
unfolding IsDistinct
no_paths = record { apart = tt; few = omega arith; members = λ place. (λ h. absurd h, λ h. none place h); ascending = tt }
  where
    none : (place : NumberedPath) → slice_get {X = List ℕ} [] place.number ≡ Some place.path → ⊥
    none place h = cc

pub empty_paths : (paths : List (List ℕ)) (places : List NumberedPath) → paths ≡ [] → places ≡ [] → IsPathTable paths places
empty_paths paths places e f = subst (λ (ps : List (List ℕ)). IsPathTable ps places) (sym e) (subst (λ (ps : List NumberedPath). IsPathTable [] ps) (sym f) no_paths)

-- ---- a path more

module _ (paths : List (List ℕ)) (path : List ℕ) where
  numbered_more : (place : NumberedPath)
      → (slice_get (paths ++ path ∷ []) place.number ≡ Some place.path) ↔ ((slice_get paths place.number ≡ Some place.path) ⊎ (place ≡ record { path = path; number = length paths }))
  numbered_more place = (
    λ h. elim (get_new paths path place.path place.number h) [
      | inl k ↦ inl k
      | inr k ↦ inr (λ i. record { path = k.1 i; number = k.0 i })
    ],
    λ h. elim h [
      | inl k ↦ get_old paths path place.path place.number k
      | inr e ↦ subst (λ (w : NumberedPath). slice_get (paths ++ path ∷ []) w.number ≡ Some w.path) (sym e) (get_push paths path)
    ],
  )

  paths_more : (places more : List NumberedPath) (number : ℕ) → IsPathTable paths places → number_of_path paths path ≡ None → length paths < 4294967295 → number ≡ length paths
      → IsAscending numbered_path_cmp more → ((other : NumberedPath) → Has more other ↔ (Has places other ⊎ (other ≡ record { path = path; number = number })))
      → IsPathTable (paths ++ path ∷ []) more
  paths_more places more number is absent few f ascending members = record {
    apart = IsDistinct-push nat_list_eq_equiv paths path is.apart (absent_any (pointwise nat_eq path) paths absent);
    few = let l = length-append paths (path ∷ []) in omega (arith, few, l);
    members = λ place. (
      λ h. (numbered_more place).1 (elim ((members place).0 h) [
        | inl k ↦ inl ((is.members place).0 k)
        | inr k ↦ inr (k ∙ same)
      ]),
      λ h. (members place).1 (elim ((numbered_more place).0 h) [
        | inl k ↦ inl ((is.members place).1 k)
        | inr k ↦ inr (k ∙ sym same)
      ]),
    );
    ascending = ascending;
  }
    where
      same : ◌≡◌ {A = NumberedPath} (record { path = path; number = number }) (record { path = path; number = length paths })
      same = λ i. record { path = path; number = f i }

-- a path that is pushed, where the lists are told by what they are equal to
module _ (paths pushed : List (List ℕ)) (path : List ℕ) (places prepared more : List NumberedPath) (number : ℕ) (is : IsPathTable paths places)
    (pushed_is : pushed ≡ paths ++ path ∷ []) (prepared_is : prepared ≡ places) where
  pub ascend_prepared : IsAscending numbered_path_cmp prepared
  ascend_prepared = subst (λ (ps : List NumberedPath). IsAscending numbered_path_cmp ps) (sym prepared_is) is.ascending

  pub paths_pushed : number_of_path paths path ≡ None → length paths < 4294967295 → number ≡ length paths → IsAscending numbered_path_cmp more
      → ((other : NumberedPath) → Has more other ↔ (Has prepared other ⊎ (other ≡ record { path = path; number = number }))) → IsPathTable pushed more
  paths_pushed absent few f ascending members =
      subst (λ (ps : List (List ℕ)). IsPathTable ps more) (sym pushed_is)
      (paths_more paths path places more number is absent few f ascending
      (subst (λ (ps : List NumberedPath). (other : NumberedPath) → Has more other ↔ (Has ps other ⊎ (other ≡ record { path = path; number = number }))) prepared_is members))

  pub path_pushed : IsPathTable pushed more → number ≡ length paths → number_of_path pushed path ≡ Some number
  path_pushed table f =
      placed_path pushed number path path table.apart (ap (λ (ps : List (List ℕ)). slice_get ps number) pushed_is ∙ ap (λ n. slice_get (paths ++ path ∷ []) n) f ∙ get_push paths path)
      ((bytes_decides path path).1 refl)

-- an inserted path: it is there, or comes behind all others
pub path_inserted_old : (paths : List (List ℕ)) (path : List ℕ) (number : ℕ) → number_of_path paths path ≡ Some number → paths ≡ with_new_value (pointwise nat_eq) paths path
path_inserted_old paths path number h = sym (ap (λ b. if b then paths else paths ++ path ∷ []) (found_any (pointwise nat_eq path) paths number h))

pub path_inserted_new : (paths : List (List ℕ)) (path : List ℕ) → number_of_path paths path ≡ None → paths ++ path ∷ [] ≡ with_new_value (pointwise nat_eq) paths path
path_inserted_new paths path h = sym (ap (λ b. if b then paths else paths ++ path ∷ []) (absent_any (pointwise nat_eq path) paths h))
