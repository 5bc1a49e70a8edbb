use Rattle.std.proofs.Common.{◌≡◌, map, drop}
use Rattle.boxes.specs.Cuts.{cut_order}
use Rattle.boxes.specs.Pieces.{pieces_of}
use Rattle.boxes.specs.Splits.{split_from}
use Rattle.boxes.proofs.cell_box.CellBox.split.Given as goal

-- the regions that are left make of the pieces so far what all of them make of the question
abbrev pub invariant-loop-region : goal.invariant-loop-region
invariant-loop-region g l =
    split_from cut_order (pieces_of l.pieces) (map g.R.HasBounds.bounds (drop l.region-index l.regions))
    ≡ split_from cut_order (pieces_of l.initial.pieces) (map g.R.HasBounds.bounds l.regions)
