use Rattle.std.proofs.Common.{◌≡◌, ◌*◌, sym, ◌∙◌, rules}
use Rattle.domain.specs.Attributes.{cells_of}
use Rattle.boxes.proofs.Counting.{cells_of_box}
use Rattle.boxes.proofs.cell_box.CellBox.cells.Goals as goal

pub returns-clause-count : goal.returns-clause-count
returns-clause-count c =
    let is : c.width.result * c.width-2.result * c.width-3.result ≡ cells_of c.args.self.bounds = search rules in
    is ∙ sym (cells_of_box c.args.self.bounds c.args.self.ok)
