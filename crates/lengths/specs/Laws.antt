-- That paces and gates keep the laws of a kind of length.
use Rattle.lengths.specs.Kinds.{LawfulKind, paces, gates}

-- both kinds keep every law, for all codes
abbrev pub KindsLawful : Type 0
KindsLawful = LawfulKind paces × LawfulKind gates
