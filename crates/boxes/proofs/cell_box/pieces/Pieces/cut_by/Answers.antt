use Rattle.std.proofs.Common.{◌≡◌, ℕ, ◌+◌, ◌<◌, List, ◌++◌, length, drop, get_or, sym, ap, ◌∙◌}
use Rattle.std.proofs.lemmas.List.{at_drop_more, at_drop_all}
use Rattle.domain.specs.declared.attributes.Bounds.{Bounds}
use Rattle.boxes.specs.declared.cell_box.CellBox.{CellBox}
use Rattle.boxes.specs.Cuts.{cut_of, cut_order}
use Rattle.boxes.specs.Pieces.{bounds_of_each, pieces_of}
use Rattle.boxes.specs.Splits.{cut_all_in}
use Rattle.boxes.proofs.Appending.{leads_more, leads_stop, leads_end, appended_broken, appended_unbroken, given_err, pieces_fit}
use Rattle.boxes.proofs.cell_box.pieces.Pieces.cut_by.Goals as goal

-- what the region leaves of the pieces that are left, by what it leaves of the next one
next : (bs : List CellBox) (i : ℕ) (b : CellBox) (r : Bounds) → i < length bs → b ≡ get_or bs i b
    → cut_all_in cut_order (bounds_of_each (drop i bs)) r ≡ cut_of b.bounds r ++ cut_all_in cut_order (bounds_of_each (drop (i + 1) bs)) r
next bs i b r here is =
    at_drop_more (λ ps. cut_all_in cut_order (bounds_of_each ps) r) bs i b here
    ∙ ap (λ p. cut_of p.bounds r ++ cut_all_in cut_order (bounds_of_each (drop (i + 1) bs)) r) (sym is)

pub returns-in_err-cut_into : goal.returns-in_err-cut_into
returns-in_err-cut_into c = record {
  value =
      given_err c.from_residual.result c.from_residual.ensures.0
      ∙ appended_broken _ (pieces_of c.cut_into.new.out)
      (leads_stop _ _ _ _ c.loop-piece.invariant _ _
      (next c.as_slice-piece-items.result.now c.loop-piece.piece-index c.piece-item.result c.args.region c.loop-piece-test.true c.piece-item.is)
      c.in_err-cut_into.ensures.after);
}

pub loop-piece-preserved : goal.loop-piece-preserved
loop-piece-preserved c =
    leads_more _ _ _ _ c.loop-piece.invariant _ _
    (next c.as_slice-piece-items.result.now c.loop-piece.piece-index c.piece-item.result c.args.region c.loop-piece-test.true c.piece-item.is)
    c.in_ok-cut_into.ensures.after

pub returns : goal.returns
returns c = record {
  value =
      appended_unbroken _ (pieces_of c.loop-piece.pieces)
      (leads_end _ _ _ _ c.loop-piece.invariant
      (at_drop_all (λ bs. cut_all_in cut_order (bounds_of_each bs) c.args.region) c.as_slice-piece-items.result.now c.loop-piece.piece-index c.loop-piece-test.false)
      (pieces_fit c.loop-piece.pieces));
}
