use Rattle.std.proofs.Common.{◌≡◌, ◌+◌, ◌≤◌, true, List, [], ◌∷◌, ◌++◌, length, take, set, sym, ap, ◌∙◌, subst, arith, length-append}
use Rattle.std.proofs.lemmas.List.{map-append, take_more_set, take_at}
use Rattle.std.proofs.lemmas.Bool.{lt-leb}
use Rattle.domain.specs.declared.attributes.Bounds.{Bounds}
use Rattle.boxes.specs.Pieces.{bounds_of_each, pieces_of}
use Rattle.boxes.specs.Splits.{Appended}
use Rattle.boxes.proofs.Appending.{appended_all, pieces_length}
use Rattle.boxes.proofs.cell_box.pieces.Pieces.push.Goals as goal

pub returns : goal.returns
returns c =
    let before : List Bounds = pieces_of c.args.self.now in
    let one : List Bounds = c.args.piece.bounds ∷ [] in
    let fits : c.args.self.now.len ≤ 32 = c.args.self.now.fits in
    let whole : length c.args.self.now.boxes ≡ 32 = c.args.self.now.places in
    let room : length (before ++ one) ≤ 32 = simp length-append (omega (arith, pieces_length c.args.self.now)) in
    let is : bounds_of_each (take (c.args.self.now.len + 1) (set c.args.self.now.boxes c.args.self.now.len c.args.piece)) ≡ before ++ one =
    ap bounds_of_each (take_more_set c.args.self.now.boxes c.args.self.now.len c.args.piece (omega arith)) ∙ map-append _ _ _ in
    record { after = subst (λ xs. Appended before one xs true) (sym is) (appended_all before one room) }

pub returns-then-self-eq-MAX_PIECES : goal.returns-then-self-eq-MAX_PIECES
returns-then-self-eq-MAX_PIECES c =
    let before : List Bounds = pieces_of c.args.self.now in
    let full : length before ≡ 32 = omega (arith, pieces_length c.args.self.now) in
    record {
      after = record {
        pieces = sym (take_at before (c.args.piece.bounds ∷ []) 32 full);
        fits = sym (lt-leb _ _ (simp length-append (omega arith)));
      };
    }
