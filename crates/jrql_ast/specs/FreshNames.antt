-- The names of fresh subjects (RDF 1.1 Concepts, section 3.5).
use Rattle.std.specs.Prelude.{ℕ, ◌+◌, ◌*◌, List, ◌++◌, codes}
use Rattle.std.specs.Fmt.{decimal}
use Rattle.tree_clock.specs.declared.dots.Dot.{Dot}
use Rattle.tree_clock.specs.Dot.{dot_text}

-- the IRI of a fresh subject: in the domain, at the dot of the update, with a number
abbrev pub fresh_iri : List ℕ → Dot → ℕ → List ℕ
fresh_iri domain dot number =
    codes "http://" ++ (domain ++ (codes "/.well-known/genid/" ++ (dot_text dot ++ (codes "." ++ decimal number))))

-- that of the subject of a number, of so many, for the solution of a number
abbrev pub fresh_name : List ℕ → Dot → ℕ → ℕ → ℕ → List ℕ
fresh_name domain dot count solution subject = fresh_iri domain dot (solution * count + subject)
