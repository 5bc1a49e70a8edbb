use Rattle.std.proofs.Common.{refl}
use Rattle.worked.proofs.Facts.{apart_leaves, covered_leaves_none, single_cell}
use Rattle.worked.proofs.worked_examples.Goals as goal

pub returns-clause-worked_examples : goal.returns-clause-worked_examples
returns-clause-worked_examples c = record {
  domain = refl;
  single = single_cell;
  corner = refl;
  apart = apart_leaves;
  covered = covered_leaves_none;
  middle = refl;
  last = refl;
  sum = refl;
  january = refl;
}
