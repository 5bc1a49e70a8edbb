-- Boxes as the course writes them.
use Rattle.std.specs.Prelude.{ℕ, List, [], ◌++◌, Some, None, codes, decimal, Option}
use Rattle.domain.specs.declared.attributes.Bounds.{Bounds}
use Rattle.domain.specs.declared.attributes.Span.{Span}
use Rattle.domain.specs.declared.calendar.YearMonth.{YearMonth}
use Rattle.domain.specs.Attributes.{cells_of}
use Rattle.domain.specs.Calendar.{month_of}
use Rattle.domain.specs.Text.{year_month_text, numbers_text}

-- a month, and nothing where there is none
abbrev pub text_of : Option YearMonth → List ℕ
text_of None = []
text_of (Some m) = year_month_text m

-- the month of a birth rank
abbrev pub month_text : ℕ → List ℕ
month_text rank = text_of (month_of rank)

-- two months, joined by two full stops
abbrev pub months_text : Span → List ℕ
months_text s = month_text s.low ++ (codes ".." ++ month_text s.high)

-- a box by its three ranges, with its cells
abbrev pub box_line : List ℕ → List ℕ → List ℕ → ℕ → List ℕ
box_line born served band cells =
    codes "born " ++ (born ++ (codes " served " ++ (served ++ (codes " band " ++ (band ++ (codes ", " ++ (decimal cells ++ codes " cells")))))))

abbrev pub box_text : Bounds → List ℕ
box_text b = box_line (months_text b.birth) (numbers_text b.service) (numbers_text b.band) (cells_of b)
