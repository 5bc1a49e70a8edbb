use Rattle.std.proofs.Common.{[], drop}
use Rattle.boxes.specs.Cuts.{cut_order}
use Rattle.boxes.specs.Pieces.{bounds_of_each, pieces_of}
use Rattle.boxes.specs.Splits.{cut_all_in}
use Rattle.boxes.proofs.Appending.{Leads}
use Rattle.boxes.proofs.cell_box.pieces.Pieces.cut_by.Given as goal

-- what the region leaves of the pieces that are left is added to what it left of those before
abbrev pub invariant-loop-piece : goal.invariant-loop-piece
invariant-loop-piece l =
    Leads [] (cut_all_in cut_order (pieces_of l.self) l.region)
    (pieces_of l.pieces) (cut_all_in cut_order (bounds_of_each (drop l.piece-index l.piece-items)) l.region)
