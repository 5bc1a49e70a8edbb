use Rattle.boxes.proofs.Appending.{appended_then, appended_stop, appended_err, appended_named}
use Rattle.boxes.proofs.cell_box.cutting.Overlap.cut_axis.Goals as goal

pub returns-in_err-push_remnant-clause-after : goal.returns-in_err-push_remnant-clause-after
returns-in_err-push_remnant-clause-after c =
    appended_err c.from_residual.result c.from_residual.ensures.0
    (appended_stop _ _ _ (appended_named c.cut_along-lower.ensures.first c.in_err-push_remnant.ensures.after))

pub returns-in_err-push_remnant-2-clause-after : goal.returns-in_err-push_remnant-2-clause-after
returns-in_err-push_remnant-2-clause-after c =
    appended_err c.from_residual-in_err-push_remnant-2.result c.from_residual-in_err-push_remnant-2.ensures.0
    (appended_then _ _ _
    (appended_named c.cut_along-lower.ensures.first c.in_ok-push_remnant.ensures.after)
    (appended_named c.cut_along-lower.ensures.second c.in_err-push_remnant-2.ensures.after))

pub returns-clause-after : goal.returns-clause-after
returns-clause-after c =
    appended_then _ _ _
    (appended_named c.cut_along-lower.ensures.first c.in_ok-push_remnant.ensures.after)
    (appended_named c.cut_along-lower.ensures.second c.in_ok-push_remnant-2.ensures.after)
