-- Splitting a question by regions.
use Rattle.std.specs.Prelude.{◌≡◌, ℕ, ◌≤◌, Bool, if◌then◌else◌, List, [], ◌∷◌, ◌++◌, length, take, Some, None, Option, option_and_then, nat_le}
use Rattle.std.specs.List.{flat_map}
use Rattle.domain.specs.declared.attributes.Axis.{Axis}
use Rattle.domain.specs.declared.attributes.Bounds.{Bounds}
use Rattle.domain.specs.Attributes.{cells_of}
use Rattle.domain.specs.Cells.{Apart, Disjoint, Divides, count, missing, total_cells}
use Rattle.boxes.specs.Cuts.{Complete, cut_in, cut_order}

-- the most pieces that may stand after a region
abbrev pub max_pieces : ℕ
max_pieces = 32

-- every piece cut by one region, in order
abbrev pub cut_all_in : List Axis → List Bounds → Bounds → List Bounds
cut_all_in order ps r = flat_map (λ p. cut_in order p r) ps

-- the pieces that stand after a region; None where they are too many
abbrev pub unbroken : List Bounds → Option (List Bounds)
unbroken ps = if nat_le (length ps) max_pieces then Some ps else None

-- the pieces after each region in turn has cut every one of them; None where too many stand after one of the regions
abbrev pub split_from : List Axis → List Bounds → List Bounds → Option (List Bounds)
split_from order ps [] = Some ps
split_from order ps (r ∷ rs) = option_and_then (λ qs. split_from order qs rs) (unbroken (cut_all_in order ps r))

-- SPLIT: the remainder boxes of a question, by regions in place order; None where the split is broken
abbrev pub split_of : Bounds → List Bounds → Option (List Bounds)
split_of q rs = split_from cut_order (q ∷ []) rs

-- What the boxes `ps` are that a question leaves to be bought where regions are held.
pub record Remainder (q : Bounds) (rs ps : List Bounds) : Type 0 where
  -- each missing cell lies in exactly one of them, and no other cell in any
  pub divides : Divides ps (missing q rs)
  -- so their cells add up to the missing ones, counted over the whole domain
  pub count : total_cells ps ≡ count (missing q rs)
  -- which are never more than the question has
  pub bound : total_cells ps ≤ cells_of q
  -- they are disjoint from each other and from the regions
  pub disjoint : Disjoint ps
  pub apart : Apart ps rs

-- `more` was to be added to the pieces `before`; there is room for 32, and the first 32 of all stand
pub record Appended (before more after : List Bounds) (ok : Bool) : Type 0 where
  pub pieces : after ≡ take max_pieces (before ++ more)
  pub fits : ok ≡ nat_le (length (before ++ more)) max_pieces

-- whatever the order of cutting: if every attribute has its turn, the pieces of an unbroken split divide the missing cells
abbrev pub DividesInAnyOrder : Type 0
DividesInAnyOrder =
    (order : List Axis) → Complete order → (q : Bounds) (rs ps : List Bounds)
    → split_from order (q ∷ []) rs ≡ Some ps → Divides ps (missing q rs)
