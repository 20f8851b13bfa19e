use Rattle.std.proofs.Common.{List, ℕ, IsTrue, subst, sym}
use Rattle.text_rules.specs.Domain.{is_domain}
use Rattle.node_core.proofs.greeting.hello.Goals as goal

pub write_frame-requires : goal.write_frame-requires
write_frame-requires g c = c.are_kept.ensures.hello (subst (λ (text : List ℕ). IsTrue (is_domain text)) (sym c.in_ok-domain.ensures) c.domain.ensures.name)
