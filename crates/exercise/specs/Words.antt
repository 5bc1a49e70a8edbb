-- Boxes written as numbers.
use Rattle.std.specs.Prelude.{ℕ, List, ◌≢◌}
use Rattle.std.specs.List.{flat_map}
use Rattle.domain.specs.declared.attributes.Bounds.{Bounds}
use Rattle.domain.specs.Attributes.{six_of}

-- the numbers of boxes, one box after another
abbrev pub numbers_of : List Bounds → List ℕ
numbers_of bs = flat_map six_of bs

-- the numbers are not those of any boxes
abbrev pub NoBoxes : List ℕ → Type 0
NoBoxes numbers = (bs : List Bounds) → numbers_of bs ≢ numbers
