-- What the statement of a question says.
use Rattle.std.specs.Prelude.{◌≡◌, ◌+◌, List, Some}
use Rattle.domain.specs.declared.attributes.Bounds.{Bounds}
use Rattle.domain.specs.Attributes.{cells_of}
use Rattle.domain.specs.Cells.{count, missing}
use Rattle.boxes.specs.Pieces.{pieces_of}
use Rattle.boxes.specs.Splits.{split_of}
use Rattle.exercise.specs.declared.statement.Statement.{Statement}

pub record Stated (q : Bounds) (rs : List Bounds) (s : Statement) : Type 0 where
  -- the pieces are the remainder boxes
  pub split : split_of q rs ≡ Some (pieces_of s.pieces)
  -- the charge is the number of the question's cells in no region
  pub charge : s.charge ≡ count (missing q rs)
  -- what is saved is the rest of the question
  pub saved : s.charge + s.saved ≡ cells_of q
