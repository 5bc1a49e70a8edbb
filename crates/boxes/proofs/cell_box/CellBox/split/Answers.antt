use Rattle.std.proofs.Common.{◌≡◌, List, map, Some}
use Rattle.domain.specs.declared.attributes.Bounds.{Bounds}
use Rattle.boxes.specs.Cuts.{cut_order}
use Rattle.boxes.specs.Pieces.{pieces_of}
use Rattle.boxes.specs.Splits.{split_of}
use Rattle.boxes.proofs.Regions.{row_end}
use Rattle.boxes.proofs.Remainders.{split_remainder}
use Rattle.boxes.proofs.cell_box.CellBox.split.Goals as goal

pub returns-clause-remainder : goal.returns-clause-remainder
returns-clause-remainder g c =
    let q : Bounds = c.args.self.bounds in
    let rs : List Bounds = map g.R.HasBounds.bounds c.args.regions.now in
    let ps : List Bounds = pieces_of c.loop-region.pieces in
    let is : split_of q rs ≡ Some ps =
    row_end g.R.HasBounds.bounds cut_order c.args.regions.now c.loop-region.region-index _ ps c.loop-region.invariant c.of-pieces.ensures.value c.loop-region-test.false in
    split_remainder q rs ps c.args.self.ok is
