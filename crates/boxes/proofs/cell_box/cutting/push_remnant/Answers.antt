use Rattle.boxes.specs.Pieces.{pieces_of}
use Rattle.boxes.proofs.Appending.{appended_none, pieces_fit}
use Rattle.boxes.proofs.cell_box.cutting.push_remnant.Goals as goal

pub returns-in-None : goal.returns-in-None
returns-in-None c = record { after = simp c.in-None.is (appended_none (pieces_of c.args.out.now) (pieces_fit c.args.out.now)) }
