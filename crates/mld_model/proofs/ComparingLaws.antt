-- Laws of comparing.
use Rattle.std.proofs.Common.{◌≡◌, ◌↔◌, refl}
use Rattle.mld_model.specs.Reply.{Reply, Same, Less, More, Apart}
use Rattle.mld_model.specs.Comparing.{ComparesBy}

-- what is within another just where something else is compares as that
pub compares_alike : {Within Back Inside Outside : Type 0} → Within ↔ Inside → Back ↔ Outside → (reply : Reply) → ComparesBy Within Back reply → ComparesBy Inside Outside reply
compares_alike one two Same h = (one.0 h.0, two.0 h.1)
compares_alike one two Less h = (one.0 h.0, λ back. h.1 (two.1 back))
compares_alike one two More h = (λ within. h.0 (one.1 within), two.0 h.1)
compares_alike one two Apart h = (λ within. h.0 (one.1 within), λ back. h.1 (two.1 back))
compares_alike one two other h = absurd h

-- two compare in one way
pub compares_once : (Within Back : Type 0) → (reply other : Reply) → ComparesBy Within Back reply → ComparesBy Within Back other → reply ≡ other
compares_once Within Back Same Same h k = refl
compares_once Within Back Same Less h k = absurd (k.1 h.1)
compares_once Within Back Same More h k = absurd (k.0 h.0)
compares_once Within Back Same Apart h k = absurd (k.0 h.0)
compares_once Within Back Same other h k = absurd k
compares_once Within Back Less Same h k = absurd (h.1 k.1)
compares_once Within Back Less Less h k = refl
compares_once Within Back Less More h k = absurd (k.0 h.0)
compares_once Within Back Less Apart h k = absurd (k.0 h.0)
compares_once Within Back Less other h k = absurd k
compares_once Within Back More Same h k = absurd (h.0 k.0)
compares_once Within Back More Less h k = absurd (h.0 k.0)
compares_once Within Back More More h k = refl
compares_once Within Back More Apart h k = absurd (k.1 h.1)
compares_once Within Back More other h k = absurd k
compares_once Within Back Apart Same h k = absurd (h.0 k.0)
compares_once Within Back Apart Less h k = absurd (h.0 k.0)
compares_once Within Back Apart More h k = absurd (h.1 k.1)
compares_once Within Back Apart Apart h k = refl
compares_once Within Back Apart other h k = absurd k
compares_once Within Back reply other h k = absurd h
