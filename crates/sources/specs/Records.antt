-- Records: members of a scheme.
use Rattle.std.specs.Prelude.{◌≤◌, Bool, IsTrue, ◌&&◌, nat_le}
use Rattle.domain.specs.declared.attributes.Bounds.{Bounds}
use Rattle.domain.specs.declared.attributes.Cell.{Cell}
use Rattle.domain.specs.Attributes.{whole_domain}
use Rattle.domain.specs.Cells.{holds}
use Rattle.sources.specs.declared.record.Record.{Record}

-- the blank record
abbrev pub blank : Record
blank = record { number = 0; birth = 0; service = 0; band = 0; pension = 0 }

-- the cell of a record
abbrev pub cell_of : Record → Cell
cell_of r = record { birth = r.birth; service = r.service; band = r.band }

-- the record lies in the box
abbrev pub inside : Bounds → Record → Bool
inside b r = holds b (cell_of r)

-- a record that a source may have: numbered from 1, every attribute in its span
abbrev pub LawfulRecord : Record → Type 0
LawfulRecord r = (1 ≤ r.number) × IsTrue (inside whole_domain r)

-- the test of `LawfulRecord`
abbrev pub is_lawful_record : Record → Bool
is_lawful_record r = nat_le 1 r.number && inside whole_domain r
