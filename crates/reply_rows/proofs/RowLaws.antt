-- The order of rows in replies is total, and tells them apart, as the test whether two are the same does.
use Rattle.std.proofs.Common.{◌≡◌, ◌∙◌, ℕ, List, Bool, true, Option, sym, ap, refl}
use Rattle.std.specs.Bool.{Decides}
use Rattle.std.specs.Cmp.{IsTotalOrder}
use Rattle.std.specs.Cmp.Lexicographic.{slice_cmp}
use Rattle.std.specs.Ordering.{is_eq}
use Rattle.std.specs.declared.cmp.Ordering.{Ordering}
use Rattle.std.specs.declared.cmp.Ordering.TheVariants.{Less, Equal, Greater}
use Rattle.std.proofs.lemmas.Bool.{false≢true}
use Rattle.std.proofs.lemmas.Cmp.{tied_itself}
use Rattle.std.proofs.lemmas.Map.Lookups.{CmpEqualImpliesEq}
use Rattle.rdf_terms.specs.declared.terms.Term.{Term}
use Rattle.jrql_ast.specs.QueryAnswers.{place_cmp, reply_place_cmp}
use Rattle.jrql_ast.proofs.OneAnswer.{exact_list, exact_place, exact_reply_place, replies_total, values_total}
use Rattle.reply_rows.specs.Times.{is_same_row}
use Rattle.reply_rows.specs.Rising.{row_order}

pub rows_total : IsTotalOrder row_order
rows_total = replies_total

pub rows_exact : CmpEqualImpliesEq row_order
rows_exact = exact_list reply_place_cmp exact_reply_place

pub told_equal : (o : Ordering) → is_eq o ≡ true → o ≡ Equal
told_equal Less h = absurd (false≢true h)
told_equal Equal h = refl
told_equal Greater h = absurd (false≢true h)

pub rows_decide : (x y : List (Option Term)) → Decides (is_same_row x y) (x ≡ y)
rows_decide x y = (
  λ h. exact_list place_cmp exact_place x y (told_equal (slice_cmp place_cmp x y) h),
  λ e. ap is_eq (ap (slice_cmp place_cmp x) (sym e) ∙ tied_itself values_total x),
)
