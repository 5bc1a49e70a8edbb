-- Lists that are written place by place, and the numbers of boxes.
use Rattle.std.proofs.Common.{◌≡◌, ℕ, ◌+◌, ◌*◌, ◌<◌, ◌≤◌, List, [], ◌∷◌, ◌++◌, length, get_or, take, drop, set, sum_by, Some, sym, refl, ap, ◌∙◌, append_assoc, arith, length-take}
use Rattle.std.proofs.lemmas.List.{drop_more, length-map, map_push, set_at, take_all, take_more}
use Rattle.std.proofs.lemmas.Bool.{cond-true, le-leb}
use Rattle.std.proofs.lemmas.List.Sums.{sum_by-cons}
use Rattle.boxes.specs.declared.cell_box.CellBox.{CellBox}
use Rattle.domain.specs.declared.attributes.Bounds.{Bounds}
use Rattle.domain.specs.Cells.{total_cells}
use Rattle.boxes.specs.Pieces.{box_cells, bounds_of_each}
use Rattle.boxes.specs.Plans.{plan_list}
use Rattle.boxes.proofs.Lawfulness.{cells_fit}

-- a list that is written from the front, and behind it holds what it held: one item more
pub put_next : {X : Type 0} (found before : List X) {list : List X} (i : ℕ) (x : X) → i ≡ length found → list ≡ found ++ drop i before → i < length before
    → set list i x ≡ (found ++ x ∷ []) ++ drop (i + 1) before
put_next found before i x front so_far room =
    ap (λ ys. set ys i x) (so_far ∙ ap (λ ys. found ++ ys) (drop_more before i x room))
    ∙ (set_at found _ (drop (i + 1) before) x i (sym front) ∙ sym (append_assoc found (x ∷ []) (drop (i + 1) before)))

-- where the numbers of boxes are written, one box after another
pub written_more : (pieces : List CellBox) (before list : List Bounds) (i : ℕ) (b : CellBox) → i < length pieces → b ≡ get_or pieces i b
    → (length pieces ≤ length before) × (list ≡ bounds_of_each (take i pieces) ++ drop i before)
    → set list i b.bounds ≡ bounds_of_each (take (i + 1) pieces) ++ drop (i + 1) before
written_more pieces before list i b here is so_far =
    let front : length (bounds_of_each (take i pieces)) ≡ i = simp (length-map, length-take) (omega arith) in
    let more = ap bounds_of_each (take_more pieces i b here) ∙ map_push (λ (x : CellBox). x.bounds) (take i pieces) (get_or pieces i b) in
    put_next (bounds_of_each (take i pieces)) before i b.bounds (sym front) so_far.1 (omega (arith, so_far.0))
    ∙ (λ j. (bounds_of_each (take i pieces) ++ (is j).bounds ∷ []) ++ drop (i + 1) before)
    ∙ sym (ap (λ ys. ys ++ drop (i + 1) before) more)

-- and where all boxes are written, it is the plan
pub plan_written : (pieces : List CellBox) (ps before list : List Bounds) (i : ℕ) → bounds_of_each pieces ≡ ps → length pieces ≤ i → i ≤ length pieces
    → (length pieces ≤ length before) × (list ≡ bounds_of_each (take i pieces) ++ drop i before) → list ≡ plan_list (Some ps) before
plan_written pieces ps before list i known past within so_far =
    let long : length ps ≡ length pieces = ap length (sym known) ∙ length-map pieces (λ b. b.bounds) in
    let at : i ≡ length ps = omega (arith, long) in
    let room : length ps ≤ length before = omega (arith, long, so_far.0) in
    let written = ap bounds_of_each (take_all i pieces past) ∙ known in
    so_far.1 ∙ ((λ j. written j ++ drop (at j) before) ∙ sym (cond-true _ _ _ (le-leb _ _ room)))

-- the cells of boxes, added up box by box
pub cells_by_box : (bs : List CellBox) → sum_by box_cells bs ≡ total_cells (bounds_of_each bs)
cells_by_box [] = refl
cells_by_box (b ∷ bs) = sum_by-cons box_cells b bs ∙ ap (λ n. box_cells b + n) (cells_by_box bs)

-- each of them has no more cells than the domain
pub cells_bounded : (bs : List CellBox) → total_cells (bounds_of_each bs) ≤ length bs * 17694720
cells_bounded [] = omega arith
cells_bounded (b ∷ bs) = omega (arith, cells_bounded bs, cells_fit b.bounds b.ok)
