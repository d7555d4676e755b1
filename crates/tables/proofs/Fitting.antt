-- Tables that fit a map.
use Rattle.std.proofs.Common.{Bool}
use Rattle.maps.specs.Graph.{Graph}
use Rattle.calls.specs.Fitting.{FitsMap}
use Rattle.tables.specs.declared.Tables.{Tables}
use Rattle.tables.specs.Tables.{moment_of}

-- plan or index makes no difference to what fits
pub fits_built : (G : Graph) (b d : Bool) (x : Tables) → FitsMap G (moment_of b x) → FitsMap G (moment_of d x)
fits_built G b d x f = record { few = f.few; all_on_map = f.all_on_map; different = f.different; streets = f.streets; small = f.small }
