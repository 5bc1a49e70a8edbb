-- Selections: which records of a list lie in a box, and when two lists have the same records.
use Rattle.std.specs.Prelude.{◌≡◌, Bool, IsTrue, ◌↔◌, List, ◌++◌, length, count_by, filter, All, Contains}
use Rattle.std.specs.List.{flat_map}
use Rattle.domain.specs.declared.attributes.Bounds.{Bounds}
use Rattle.domain.specs.declared.attributes.Cell.{Cell}
use Rattle.domain.specs.Cells.{Divides}
use Rattle.sources.specs.declared.record.Record.{Record}
use Rattle.sources.specs.Pairs.{Distinct}
use Rattle.sources.specs.Records.{LawfulRecord, blank, cell_of, inside}

-- SELECTION: the records of a list that lie in a box, in the order of the list
unfoldable pub selection : Bounds → List Record → List Record
selection b rs = filter (inside b) rs

-- SAME RECORDS: each as often in the one list as in the other, in whatever order. Every test passes as many of both
unfoldable pub SameRecords : List Record → List Record → Type 0
SameRecords xs ys = (test : Record → Bool) → count_by test xs ≡ count_by test ys

-- LAWFUL RELATION: the records that a source may have
pub record LawfulRelation (relation : List Record) : Type 0 where
  -- no record stands twice
  pub distinct : Distinct relation
  -- every number is at least 1, and every attribute in its span
  pub members : All LawfulRecord relation

-- SELECTED: the records of the answer are those of the relation that lie in the box, each once, in plain words
pub record Selected (b : Bounds) (relation answer : List Record) : Type 0 where
  -- a record stands in the answer exactly if it is in the relation and in the box
  pub exactly : (r : Record) → Contains answer r ↔ (Contains relation r × IsTrue (inside b r))
  -- and none stands twice
  pub once : Distinct answer

-- What is true of every selection, and of lists that have the same records.
pub record SelectionLaws : Type 0 where
  -- to have the records of a selection from a lawful relation is to have the relation's records in the box, each once
  pub each_once : (b : Bounds) (relation answer : List Record) → LawfulRelation relation → SameRecords answer (selection b relation) ↔ Selected b relation answer
  -- boxes that divide some cells divide the records in these cells
  pub divided : (bs : List Bounds) (test : Cell → Bool) (rs : List Record) → Divides bs test → SameRecords (flat_map (λ b. selection b rs) bs) (filter (λ r. test (cell_of r)) rs)
  -- lists that have the same records are as long, and have the same records where more are added or some are left out
  pub counted : (xs ys : List Record) → SameRecords xs ys → length xs ≡ length ys
  pub appended : (xs ys zs ws : List Record) → SameRecords xs ys → SameRecords zs ws → SameRecords (xs ++ zs) (ys ++ ws)
  pub filtered : (test : Record → Bool) (xs ys : List Record) → SameRecords xs ys → SameRecords (filter test xs) (filter test ys)
  -- no lawful relation has the blank record, so a blank place is never an answer
  pub never_blank : (relation : List Record) → LawfulRelation relation → Contains relation blank → ⊥
