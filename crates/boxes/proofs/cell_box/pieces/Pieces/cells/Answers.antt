use Rattle.std.proofs.Common.{List, length, ap, ◌∙◌, arith}
use Rattle.boxes.specs.declared.cell_box.CellBox.{CellBox}
use Rattle.boxes.proofs.Appending.{pieces_fit}
use Rattle.boxes.proofs.Places.{cells_bounded, cells_by_box}
use Rattle.domain.specs.Cells.{total_cells}
use Rattle.std.proofs.lemmas.List.{length-map}
use Rattle.boxes.proofs.cell_box.pieces.Pieces.cells.Goals as goal

pub total-requires : goal.total-requires
total-requires c =
    let bs : List CellBox = c.as_slice.result.now in
    omega (
      arith,
      cells_by_box bs,
      cells_bounded bs,
      length-map bs (λ (b : CellBox). b.bounds),
      ap length c.as_slice.ensures.value,
      pieces_fit c.args.self.now,
    )

pub returns : goal.returns
returns c = record { value = c.total.ensures.value ∙ (cells_by_box c.as_slice.result.now ∙ ap total_cells c.as_slice.ensures.value) }
