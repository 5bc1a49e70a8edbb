use Rattle.boxes.proofs.Division.{cut_order_complete, split_divides_in_any_order}
use Rattle.boxes.proofs.cell_box.cutting.cut_order.Goals as goal

pub returns-clause-complete : goal.returns-clause-complete
returns-clause-complete c = cut_order_complete

pub returns-clause-divides_in_any_order : goal.returns-clause-divides_in_any_order
returns-clause-divides_in_any_order c = split_divides_in_any_order
