-- What the tables of an oracle hold.
use Rattle.std.specs.Prelude.{ℕ, ◌-◌, Bool, List, [], get_or, take, slice_index_or}
use Rattle.walks.specs.Runs.{Table}
use Rattle.trees.specs.Marks.{closed_in}
use Rattle.trees.specs.Trees.{table_of}
use Rattle.calls.specs.Moments.{Moment}
use Rattle.tables.specs.declared.Tables.{Tables}
use Rattle.tables.specs.declared.TreeRecord.{TreeRecord}
use Rattle.tables.specs.declared.Holders.{Holders}

-- the transit list
abbrev pub transit_of : Tables → List ℕ
transit_of x = x.transit.items

-- which slots are closed
abbrev pub closed_of : Tables → ℕ → Bool
closed_of x = closed_in x.closed

-- the moment that the tables of a plan (false) or of an index (true) stand for
abbrev pub moment_of : Bool → Tables → Moment
moment_of built x = record { built = built; listed = transit_of x; closed = closed_of x; tally = x.tally }

-- what stands past the end of a table
abbrev pub no_record : TreeRecord
no_record = record { tree = record { slots = []; lengths = [] }; closed = 0 }

abbrev pub no_holders : Holders
no_holders = record { positions = []; count = 0 }

-- the tree at position i, counted from 1, and the number of closed streets that it keeps
abbrev pub tree_in : List TreeRecord → ℕ → Table
tree_in rs i = table_of (get_or rs (i - 1) no_record).tree

abbrev pub count_in : List TreeRecord → ℕ → ℕ
count_in rs i = (get_or rs (i - 1) no_record).closed

-- the positions of a row of the inverted index
abbrev pub list_of : Holders → List ℕ
list_of h = take h.count h.positions

-- the positions that the inverted index keeps for slot e, counted from 1
abbrev pub holders_in : List Holders → ℕ → List ℕ
holders_in hs e = list_of (slice_index_or hs (e - 1) no_holders)
