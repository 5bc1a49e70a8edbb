-- Months and ranges as the course writes them.
use Rattle.std.specs.Prelude.{ℕ, ◌/◌, ◌%◌, List, ◌++◌, codes, decimal}
use Rattle.domain.specs.declared.attributes.Span.{Span}
use Rattle.domain.specs.declared.calendar.YearMonth.{YearMonth}

-- a year, a hyphen and a month of two digits at least
abbrev pub year_month_text : YearMonth → List ℕ
year_month_text m = decimal m.year ++ (codes "-" ++ (decimal (m.month / 10) ++ decimal (m.month % 10)))

-- two ends, joined by two full stops
abbrev pub numbers_text : Span → List ℕ
numbers_text s = decimal s.low ++ (codes ".." ++ decimal s.high)
