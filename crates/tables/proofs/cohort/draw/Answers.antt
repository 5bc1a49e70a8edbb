use Rattle.std.proofs.Common.{take, IfOk, sym, subst, arith}
use Rattle.boxes.proofs.Counting.{cells_of_box}
use Rattle.boxes.proofs.Lawfulness.{cells_fit}
use Rattle.sources.proofs.Answering.{answered_selected}
use Rattle.sources.proofs.Collecting.{collection_of_lawful}
use Rattle.sources.specs.Selections.{LawfulRelation, Selected}
use Rattle.tables.proofs.cohort.draw.Goals as goal

pub returns-clause-selected : goal.returns-clause-selected
returns-clause-selected c =
    let lawful = subst LawfulRelation (sym c.new-table.ensures.records) (collection_of_lawful c.args.records.now) in
    subst (λ rs. IfOk c.query-answer.result (λ k. Selected c.args.area.bounds rs (take k c.query-answer.new.out))) c.new-table.ensures.records
    (answered_selected _ _ _ _ _ lawful c.query-answer.ensures.answers)

pub returns-clause-charge : goal.returns-clause-charge
returns-clause-charge c = omega (arith, cells_fit c.args.area.bounds c.args.area.ok, cells_of_box c.args.area.bounds c.args.area.ok)
