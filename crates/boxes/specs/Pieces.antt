-- The plain numbers of boxes that may be absent, of lists of boxes, and of pieces.
use Rattle.std.specs.Prelude.{ℕ, List, map, take, Option, Result}
use Rattle.std.specs.Option.{option_map}
use Rattle.std.specs.Result.{result_ok}
use Rattle.domain.specs.declared.attributes.Bounds.{Bounds}
use Rattle.domain.specs.Attributes.{cells_of}
use Rattle.boxes.specs.declared.cell_box.CellBox.{CellBox}
use Rattle.boxes.specs.declared.cell_box.pieces.Pieces.{Pieces}

-- the numbers of a box that may be absent
abbrev pub bounds_of : Option CellBox → Option Bounds
bounds_of o = option_map (λ b. b.bounds) o

-- the cells of a box
abbrev pub box_cells : CellBox → ℕ
box_cells b = cells_of b.bounds

-- the numbers of boxes, in order
abbrev pub bounds_of_each : List CellBox → List Bounds
bounds_of_each bs = map (λ (b : CellBox). b.bounds) bs

-- the pieces of a list, in order
abbrev pub pieces_of : Pieces → List Bounds
pieces_of p = bounds_of_each (take p.len p.boxes)

-- the pieces that a call gives, if it does not find too many
abbrev pub pieces_given : {E : Type 0} → Result Pieces E → Option (List Bounds)
pieces_given r = option_map pieces_of (result_ok r)
