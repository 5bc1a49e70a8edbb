-- The worked examples of the course on cells, cutting, covering and splitting, and on months.
use Rattle.std.specs.Prelude.{◌≡◌, ℕ, [], ◌∷◌, map, Some}
use Rattle.std.specs.Option.{option_map}
use Rattle.domain.specs.declared.attributes.Bounds.{Bounds}
use Rattle.domain.specs.declared.attributes.Cell.{Cell}
use Rattle.domain.specs.declared.attributes.Span.{Span}
use Rattle.domain.specs.Attributes.{Lawful, cells_of, whole_domain}
use Rattle.domain.specs.Calendar.{rank_of}
use Rattle.domain.specs.Cells.{Covers, ShareCell, total_cells}
use Rattle.boxes.specs.Cuts.{cut_of}
use Rattle.boxes.specs.Splits.{split_of}

-- the range l..h
abbrev pub to : ℕ → ℕ → Span
to l h = record { low = l; high = h }

abbrev pub box : Span → Span → Span → Bounds
box x y z = record { birth = x; service = y; band = z }

-- the same range in every attribute
abbrev pub cube : Span → Bounds
cube s = box s s s

abbrev pub last_question : Bounds
last_question = box (to 780 959) (to 0 240) (to 5 8)

abbrev pub last_region : Bounds
last_region = box (to 720 839) (to 120 240) (to 5 8)

pub record WorkedExamples : Type 0 where
  -- the whole domain has 17,694,720 cells
  pub domain : cells_of whole_domain ≡ 17694720
  -- a box with equal ends has one
  pub single : (c : Cell) → cells_of (box (to c.birth c.birth) (to c.service c.service) (to c.band c.band)) ≡ 1
  -- a region across a corner of the question leaves three boxes
  pub corner : map cells_of (cut_of (box (to 100 199) (to 0 99) (to 3 5)) (box (to 150 249) (to 50 149) (to 0 4))) ≡ 15000 ∷ 7500 ∷ 2500 ∷ []
  -- a region that shares no cell with the question leaves the question
  pub apart : (q r : Bounds) → (ShareCell q r → ⊥) → split_of q (r ∷ []) ≡ Some (q ∷ [])
  -- a region that covers the question leaves no box
  pub covered : (q r : Bounds) → Lawful q → Covers r q → split_of q (r ∷ []) ≡ Some []
  -- a cell cut out of the middle leaves six boxes
  pub middle : map cells_of (cut_of (cube (to 4 6)) (cube (to 5 5))) ≡ 9 ∷ 9 ∷ 3 ∷ 3 ∷ 1 ∷ 1 ∷ []
  -- the last split leaves two boxes, and 144,480 cells in them
  pub last : option_map (map cells_of) (split_of last_question (last_region ∷ [])) ≡ Some (115680 ∷ 28800 ∷ [])
  pub sum : option_map total_cells (split_of last_question (last_region ∷ [])) ≡ Some 144480
  -- January 1960 has the birth rank 720
  pub january : rank_of (record { year = 1960; month = 1 }) ≡ Some 720
