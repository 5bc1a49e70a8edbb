-- A split by a row of regions, at the end of the row.
use Rattle.std.proofs.Common.{◌≡◌, ℕ, ◌≤◌, List, map, length, drop, Some, sym, ap, ◌∙◌}
use Rattle.std.proofs.lemmas.List.{drop_all}
use Rattle.domain.specs.declared.attributes.Axis.{Axis}
use Rattle.domain.specs.declared.attributes.Bounds.{Bounds}
use Rattle.boxes.specs.Splits.{split_from}

-- the regions that are left make of the pieces at hand what the whole row makes of those at the start, and none is left
pub row_end : {X : Type 0} (f : X → Bounds) (order : List Axis) (xs : List X) (i : ℕ) (start ps : List Bounds)
    → split_from order ps (map f (drop i xs)) ≡ split_from order start (map f xs)
    → {all : List Bounds} → start ≡ all → length xs ≤ i → split_from order all (map f xs) ≡ Some ps
row_end f order xs i start ps inv begins past =
    ap (λ bs. split_from order bs (map f xs)) (sym begins) ∙ (sym inv ∙ ap (λ ys. split_from order ps (map f ys)) (drop_all i xs past))
