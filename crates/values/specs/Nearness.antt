-- How near a region lies to a question.
use Rattle.std.specs.Prelude.{◌≡◌, ℕ, ◌+◌, ◌-◌, max, min}
use Rattle.domain.specs.declared.attributes.Bounds.{Bounds}
use Rattle.domain.specs.declared.attributes.Span.{Span}

-- the lower end and the upper end of a range, added up
abbrev pub sum_of : Span → ℕ
sum_of s = s.low + s.high

-- how far apart two ranges lie: the difference of these sums, larger less smaller
abbrev pub difference_of : Span → Span → ℕ
difference_of s t = max (sum_of s) (sum_of t) - min (sum_of s) (sum_of t)

-- DISTANCE: the differences along the attributes, added up
abbrev pub distance_of : Bounds → Bounds → ℕ
distance_of a b = difference_of a.birth b.birth + difference_of a.service b.service + difference_of a.band b.band

-- the greatest distance of two boxes: 2 × 1,535 + 2 × 719 + 2 × 15
abbrev pub farthest : ℕ
farthest = 4538

-- NEARNESS: the greatest distance less the distance
abbrev pub nearness_of : Bounds → Bounds → ℕ
nearness_of a b = farthest - distance_of a b

-- along each attribute the two boxes have equal sums
abbrev pub SameSums : Bounds → Bounds → Type 0
SameSums a b = (sum_of a.birth ≡ sum_of b.birth) × (sum_of a.service ≡ sum_of b.service) × (sum_of a.band ≡ sum_of b.band)

-- the range of one value
abbrev pub one : ℕ → Span
one x = record { low = x; high = x }

-- The worked examples of the course on nearness.
pub record NearnessExamples : Type 0 where
  -- a region is nearest to a question about its own box
  pub nearest : (b : Bounds) → nearness_of b b ≡ 4538
  -- and the first cell of the domain is farthest from the last
  pub farthest : nearness_of (record { birth = one 0; service = one 0; band = one 0 }) (record { birth = one 1535; service = one 719; band = one 15 }) ≡ 0
