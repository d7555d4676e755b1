-- The chains of a sheet: the streets that leave a junction, or enter it, from the lowest on, each record linked to the next.
use Rattle.std.specs.Prelude.{◌≡◌, ℕ, ◌+◌, ◌<◌, Bool, ◌&&◌, List, Option, ◌==◌, nat_lt}
use Rattle.maps.specs.Graph.{Street, Graph, tail_of, head_of}
use Rattle.formats.specs.Bytes.{two_at}
use Rattle.formats.specs.Scan.{lowest_in}
use Rattle.sheet.specs.declared.records.Chain.{Chain}
use Rattle.sheet.specs.declared.records.Chain.TheVariants.{Leaving, Entering}
use Rattle.sheet.specs.Layout.{junction_record, slot_record}

-- where the link of a chain stands among the links of a record
abbrev pub link_place : Chain → ℕ
link_place Leaving = 0
link_place Entering = 2

-- the link of a chain in the record of junction v, and in that of slot e
abbrev pub first_link : List ℕ → Chain → ℕ → ℕ
first_link bs c v = two_at bs (junction_record v + link_place c)

abbrev pub next_link : List ℕ → Chain → ℕ → ℕ
next_link bs c e = two_at bs (slot_record bs e + 6 + link_place c)

-- the end of a street at which the chain runs, 0 where the street is absent
abbrev pub end_of : Chain → Option Street → ℕ
end_of Leaving o = tail_of o
end_of Entering o = head_of o

-- street e is on the chain of junction v
abbrev pub OnChain : Graph → Chain → ℕ → ℕ → Type 0
OnChain g c v e = (0 < v) × (end_of c (g.street e) ≡ v)

-- the same as a test
abbrev pub on_chain : Graph → Chain → ℕ → ℕ → Bool
on_chain g c v e = nat_lt 0 v && end_of c (g.street e) == v

-- the lowest street above a on the chain of v, 0 for none: what a link should hold
abbrev pub lowest_on : Graph → Chain → ℕ → ℕ → ℕ
lowest_on g c v a = lowest_in (on_chain g c v) a g.slots
