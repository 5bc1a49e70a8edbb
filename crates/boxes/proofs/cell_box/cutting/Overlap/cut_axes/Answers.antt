use Rattle.std.proofs.Common.{◌≡◌, ℕ, ◌+◌, ◌<◌, List, ◌++◌, length, get_or, drop, sym, ◌∙◌}
use Rattle.std.proofs.lemmas.List.{at_drop_more, at_drop_all}
use Rattle.domain.specs.declared.attributes.Axis.{Axis}
use Rattle.domain.specs.declared.attributes.Axis.TheVariants.{Birth}
use Rattle.domain.specs.declared.attributes.Bounds.{Bounds}
use Rattle.boxes.specs.Cuts.{narrowed, remnants, remnants_along}
use Rattle.boxes.proofs.Appending.{leads_more, leads_stop, leads_end, appended_err, pieces_fit}
use Rattle.boxes.proofs.cell_box.cutting.Overlap.cut_axes.Goals as goal

-- the remnants along the attributes that are left, by those along the next one
next : (order : List Axis) (i : ℕ) (p b : Bounds) → i < length order
    → remnants (drop i order) p b ≡ remnants_along (get_or order i Birth) p b ++ remnants (drop (i + 1) order) (narrowed (get_or order i Birth) p b) b
next order i p b = at_drop_more (λ axes. remnants axes p b) order i Birth

pub returns-in_err-rest : goal.returns-in_err-rest
returns-in_err-rest c = record {
  after =
      appended_err c.from_residual.result c.from_residual.ensures.0
      (leads_stop _ _ _ _ c.loop-axis.invariant _ _
      (next c.args.order.now c.loop-axis.axis-index c.loop-axis.rest.piece.bounds c.loop-axis.rest.by c.loop-axis-test.true)
      c.in_err-rest.ensures.after);
}

pub loop-axis-preserved : goal.loop-axis-preserved
loop-axis-preserved c =
    let order : List Axis = c.args.order.now in
    let i : ℕ = c.loop-axis.axis-index in
    let a : Axis = get_or order i Birth in
    let p : Bounds = c.loop-axis.rest.piece.bounds in
    let b : Bounds = c.loop-axis.rest.by in
    let left : c.in_ok-rest.rest.piece.bounds ≡ narrowed a p b = c.in_ok-rest.ensures.ok.0 in
    let same : c.in_ok-rest.rest.by ≡ b = c.in_ok-rest.ensures.ok.1 in
    leads_more _ _ _ _ c.loop-axis.invariant (remnants_along a p b) _
    (next order i p b c.loop-axis-test.true ∙ λ k. remnants_along a p b ++ remnants (drop (i + 1) order) (sym left k) (sym same k))
    c.in_ok-rest.ensures.after

pub returns : goal.returns
returns c = record {
  after =
      leads_end _ _ _ _ c.loop-axis.invariant
      (at_drop_all (λ axes. remnants axes c.loop-axis.rest.piece.bounds c.loop-axis.rest.by) c.args.order.now c.loop-axis.axis-index c.loop-axis-test.false)
      (pieces_fit c.loop-axis.out);
}
