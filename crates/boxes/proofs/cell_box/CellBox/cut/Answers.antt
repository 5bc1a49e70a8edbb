use Rattle.std.proofs.Common.{◌≡◌, [], ◌∷◌, rules, sym, subst}
use Rattle.boxes.specs.Cuts.{cut_of}
use Rattle.boxes.specs.Pieces.{pieces_of}
use Rattle.boxes.specs.Splits.{Remainder}
use Rattle.boxes.proofs.Remainders.{cut_remainder}
use Rattle.boxes.proofs.cell_box.CellBox.cut.Goals as goal

pub returns-clause-remainder : goal.returns-clause-remainder
returns-clause-remainder c =
    let is : pieces_of c.cut_into.new.out ≡ cut_of c.args.self.bounds c.args.by = search rules in
    subst (Remainder c.args.self.bounds (c.args.by ∷ [])) (sym is) (cut_remainder c.args.self.bounds c.args.by c.args.self.ok)
