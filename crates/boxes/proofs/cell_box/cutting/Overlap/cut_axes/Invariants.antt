use Rattle.std.proofs.Common.{drop}
use Rattle.boxes.specs.Cuts.{remnants}
use Rattle.boxes.specs.Pieces.{pieces_of}
use Rattle.boxes.proofs.Appending.{Leads}
use Rattle.boxes.proofs.cell_box.cutting.Overlap.cut_axes.Given as goal

abbrev pub invariant-loop-axis : goal.invariant-loop-axis
invariant-loop-axis l =
    Leads (pieces_of l.initial.out) (remnants l.order l.initial.rest.piece.bounds l.initial.rest.by)
    (pieces_of l.out) (remnants (drop l.axis-index l.order) l.rest.piece.bounds l.rest.by)
