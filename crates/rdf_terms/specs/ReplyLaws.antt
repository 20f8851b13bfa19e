-- The order of replies is total, and what it finds equal is the same. These hold for all values.
use Rattle.std.specs.Prelude.{◌≡◌, ◌↔◌}
use Rattle.std.proofs.Common.{subst}
use Rattle.std.specs.Cmp.{IsTotalOrder}
use Rattle.std.specs.declared.cmp.Ordering.TheVariants.{Equal}
use Rattle.std.proofs.lemmas.Cmp.{on_total, then_total, nat_cmp_total, int_cmp_total, tied_itself}
use Rattle.std.proofs.lemmas.Map.Lookups.{CmpEqualImpliesEq}
use Rattle.rdf_terms.specs.declared.terms.Term.{Term}
use Rattle.rdf_terms.specs.OrderLaws.{term_total, term_exact, both_equal}
use Rattle.rdf_terms.specs.ReplyOrder.{reply_rank, reply_number, reply_cmp}

-- the order of replies is total
pub reply_total : IsTotalOrder reply_cmp
unfolding reply_cmp
reply_total = then_total (on_total reply_rank nat_cmp_total) (then_total (on_total reply_number int_cmp_total) term_total)

-- terms that compare alike are one
pub reply_exact : CmpEqualImpliesEq reply_cmp
unfolding reply_cmp
reply_exact a b h = term_exact a b (both_equal _ _ (both_equal _ _ h).1).1

-- they compare alike exactly where they are one
pub reply_equal : (a b : Term) → (reply_cmp a b ≡ Equal) ↔ (a ≡ b)
reply_equal a b = (reply_exact a b, λ e. subst (λ t. reply_cmp a t ≡ Equal) e (tied_itself reply_total a))
