-- Which refusals each constructor may make.
use Rattle.rdf_terms.specs.declared.faults.TermFault.{TermFault}
use Rattle.rdf_terms.specs.declared.faults.TermFault.TheVariants.{BadIri, BadType, BadTag, TooLong, NoMemory}

-- what an IRI may be refused for
abbrev pub MayRefuseIri : TermFault → Type 0
MayRefuseIri BadIri = Unit {0}
MayRefuseIri BadType = ⊥
MayRefuseIri BadTag = ⊥
MayRefuseIri TooLong = ⊥
MayRefuseIri NoMemory = Unit {0}

-- what a literal with a datatype may be refused for
abbrev pub MayRefuseTyped : TermFault → Type 0
MayRefuseTyped BadIri = ⊥
MayRefuseTyped BadType = Unit {0}
MayRefuseTyped BadTag = ⊥
MayRefuseTyped TooLong = Unit {0}
MayRefuseTyped NoMemory = Unit {0}

-- what a literal with a language tag may be refused for
abbrev pub MayRefuseTagged : TermFault → Type 0
MayRefuseTagged BadIri = ⊥
MayRefuseTagged BadType = ⊥
MayRefuseTagged BadTag = Unit {0}
MayRefuseTagged TooLong = Unit {0}
MayRefuseTagged NoMemory = Unit {0}
