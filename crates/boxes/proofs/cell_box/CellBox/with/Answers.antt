use Rattle.std.proofs.Common.{sym, subst}
use Rattle.domain.specs.Attributes.{Lawful}
use Rattle.boxes.proofs.Lawfulness.{lawful_with}
use Rattle.boxes.proofs.cell_box.CellBox.with.Goals as goal

pub invariant_of-result : goal.invariant_of-result
invariant_of-result c =
    record { ok = subst Lawful (sym c.with.ensures.value) (lawful_with c.args.axis c.args.span c.args.self.bounds c.requires c.args.self.ok) }
