-- Meters: what has been charged.
use Rattle.std.specs.Prelude.{ℕ, ◌+◌, ◌-◌, ◌^◌, min}

-- the end of a meter of 64 bits
abbrev pub meter_end : ℕ
meter_end = 2 ^ 64 - 1

-- a meter that is raised by n: by no more than is left to its end, where it stops
abbrev pub raised_by : ℕ → ℕ → ℕ
raised_by meter n = meter + min n (meter_end - meter)
