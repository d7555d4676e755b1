-- What name, ask and replan leave in the tables of an oracle.
use Rattle.std.specs.Prelude.{ℕ, ◌+◌, min, [], ◌∷◌, ◌++◌}
use Rattle.tables.specs.declared.Tables.{Tables}

-- v stands at the end of the transit list
abbrev pub with_name : Tables → ℕ → Tables
with_name x v = record x { transit = record { items = x.transit.items ++ v ∷ [] } }

-- one ask more is answered
abbrev pub with_ask : Tables → Tables
with_ask x = record x { tally = min (x.tally + 1) 65535 }

-- the transit list is empty
abbrev pub unnamed : Tables → Tables
unnamed x = record x { transit = record { items = [] } }
