use Rattle.std.proofs.Common.{◌≡◌, ◌≤◌, ◌++◌, length, take, drop}
use Rattle.boxes.specs.Pieces.{bounds_of_each}
use Rattle.boxes.proofs.cell_box.pieces.Pieces.write_to.Given as goal

abbrev pub invariant-loop-place : goal.invariant-loop-place
invariant-loop-place l = (length l.pieces ≤ length l.initial.list) × (l.list ≡ bounds_of_each (take l.place l.pieces) ++ drop l.place l.initial.list)
