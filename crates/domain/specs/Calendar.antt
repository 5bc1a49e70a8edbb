-- Months and birth ranks: the months from January 1900 to December 2027 are numbered from 0.
use Rattle.std.specs.Prelude.{ℕ, ◌+◌, ◌-◌, ◌*◌, ◌/◌, ◌%◌, Bool, if◌then◌else◌, ◌&&◌, Some, None, Option, nat_le, nat_lt}
use Rattle.domain.specs.declared.calendar.YearMonth.{YearMonth}

-- a month from January 1900 to December 2027
abbrev pub in_calendar : YearMonth → Bool
in_calendar m = (nat_le 1900 m.year && nat_le m.year 2027) && (nat_le 1 m.month && nat_le m.month 12)

-- the birth rank of a month
abbrev pub rank_of : YearMonth → Option ℕ
rank_of m = if in_calendar m then Some (12 * (m.year - 1900) + m.month - 1) else None

-- the month of a birth rank
abbrev pub month_of : ℕ → Option YearMonth
month_of n = if nat_lt n 1536 then Some (record { year = 1900 + n / 12; month = n % 12 + 1 }) else None
