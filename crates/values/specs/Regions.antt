-- Regions, and their plain numbers.
use Rattle.std.specs.Prelude.{ℕ}
use Rattle.domain.specs.declared.attributes.Bounds.{Bounds}
use Rattle.values.specs.declared.region.PlainRegion.{PlainRegion}
use Rattle.values.specs.declared.region.Region.{Region}

-- the plain numbers of a region of these bounds, with this stamp and so many records
abbrev pub region_of : Bounds → ℕ → ℕ → PlainRegion
region_of b s n = record { bounds = b; stamp = s; count = n }

-- the plain numbers of a region
abbrev pub plain_of : Region → PlainRegion
plain_of r = region_of r.area.bounds r.stamp r.count
