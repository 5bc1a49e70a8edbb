-- What a question does to a table, and answers.
use Rattle.std.specs.Prelude.{◌≡◌, ℕ, List, length, Result}
use Rattle.domain.specs.declared.attributes.Bounds.{Bounds}
use Rattle.domain.specs.declared.refusals.Refusal.{Refusal}
use Rattle.domain.specs.Attributes.{cells_of}
use Rattle.sources.specs.declared.record.Record.{Record}
use Rattle.sources.specs.Answers.{answer_of, buffer_of}
use Rattle.sources.specs.Collections.{Rising}
use Rattle.sources.specs.Meters.{raised_by}
use Rattle.sources.specs.Selections.{selection}
use Rattle.tables.specs.declared.table.Table.{Table}

-- the table t is asked about a box, with a buffer that holds `before`; it answers r, leaves the buffer `after`, and is then u
pub record TableSteps (t : Table) (b : Bounds) (before : List Record) (r : Result ℕ Refusal) (after : List Record) (u : Table) : Type 0 where
  -- the records found are those in the box, in the order in which the table has them
  pub value : r ≡ answer_of (selection b t.records.now) (length before)
  pub buffer : after ≡ buffer_of (selection b t.records.now) before
  -- and that is the order of their numbers
  pub rises : Rising (selection b t.records.now)
  -- the table reads the same list, and has charged the cells of the box
  pub records : u.records ≡ t.records
  pub charge : u.meter.reading ≡ raised_by t.meter.reading (cells_of b)
