use Rattle.std.proofs.Common.{sym, subst}
use Rattle.domain.specs.Attributes.{LawfulSpan, limit_of}
use Rattle.boxes.proofs.Lawfulness.{lawful_along}
use Rattle.boxes.proofs.cell_box.CellBox.along.Goals as goal

pub returns-clause-lawful : goal.returns-clause-lawful
returns-clause-lawful c =
    subst (LawfulSpan (limit_of c.args.axis)) (sym c.along.ensures.value) (lawful_along c.args.axis c.args.self.bounds c.args.self.ok)
