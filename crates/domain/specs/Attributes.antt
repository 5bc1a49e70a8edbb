-- The three attributes, and the six plain numbers of a box: a closed range in each.
use Rattle.std.specs.Prelude.{ℕ, ◌+◌, ◌-◌, ◌*◌, ◌<◌, ◌≤◌, min, max, Bool, if◌then◌else◌, ◌&&◌, List, [], ◌∷◌, Some, None, Option, nat_le, nat_lt}
use Rattle.domain.specs.declared.attributes.Axis.{Axis}
use Rattle.domain.specs.declared.attributes.Axis.TheVariants.{Birth, Service, Band}
use Rattle.domain.specs.declared.attributes.Bounds.{Bounds}
use Rattle.domain.specs.declared.attributes.Span.{Span}
use Rattle.domain.specs.declared.refusals.Refusal.{Refusal}
use Rattle.domain.specs.declared.refusals.Refusal.TheVariants.{InvalidRange, ReversedRange}

-- how many values an attribute has: 0 up to one below this
abbrev pub limit_of : Axis → ℕ
limit_of Birth = 1536
limit_of Service = 720
limit_of Band = 16

-- the range along an attribute
abbrev pub span_of : Axis → Bounds → Span
span_of Birth b = b.birth
span_of Service b = b.service
span_of Band b = b.band

-- the same numbers with another range along an attribute
abbrev pub with_span : Axis → Span → Bounds → Bounds
with_span Birth s b = record { birth = s; service = b.service; band = b.band }
with_span Service s b = record { birth = b.birth; service = s; band = b.band }
with_span Band s b = record { birth = b.birth; service = b.service; band = s }

-- the six numbers, in the order of the attributes
abbrev pub six_of : Bounds → List ℕ
six_of b = b.birth.low ∷ b.birth.high ∷ b.service.low ∷ b.service.high ∷ b.band.low ∷ b.band.high ∷ []

-- the whole span of an attribute, and the whole domain
abbrev pub whole_span : Axis → Span
whole_span a = record { low = 0; high = limit_of a - 1 }

abbrev pub whole_domain : Bounds
whole_domain = record { birth = whole_span Birth; service = whole_span Service; band = whole_span Band }

-- a range of an attribute with n values: its ends in order, both in the span
abbrev pub LawfulSpan : ℕ → Span → Type 0
LawfulSpan n s = (s.low ≤ s.high) × (s.high < n)

-- LAWFUL: the six numbers make a box
abbrev pub Lawful : Bounds → Type 0
Lawful b = LawfulSpan (limit_of Birth) b.birth × LawfulSpan (limit_of Service) b.service × LawfulSpan (limit_of Band) b.band

-- both ends are in the span of an attribute with n values
abbrev pub in_span : ℕ → Span → Bool
in_span n s = nat_lt s.low n && nat_lt s.high n

abbrev pub all_in_span : Bounds → Bool
all_in_span b = in_span (limit_of Birth) b.birth && (in_span (limit_of Service) b.service && in_span (limit_of Band) b.band)

-- the lower end is at or below the upper end
abbrev pub in_order : Span → Bool
in_order s = nat_le s.low s.high

abbrev pub all_in_order : Bounds → Bool
all_in_order b = in_order b.birth && (in_order b.service && in_order b.band)

-- why six numbers make no box: a number out of span is told before a lower end above its upper end
abbrev pub refusal_of : Bounds → Option Refusal
refusal_of b = if all_in_span b then (if all_in_order b then None else Some ReversedRange) else Some InvalidRange

-- how many values a range has
abbrev pub width_of : Span → ℕ
width_of s = s.high + 1 - s.low

-- how many cells lawful bounds have: the product of the three widths
abbrev pub cells_of : Bounds → ℕ
cells_of b = width_of b.birth * width_of b.service * width_of b.band

-- the two ranges have a value in common
abbrev pub shares : Span → Span → Bool
shares s t = nat_le (max s.low t.low) (min s.high t.high)

-- the two boxes have a value in common along each attribute
abbrev pub meet : Bounds → Bounds → Bool
meet a b = shares a.birth b.birth && (shares a.service b.service && shares a.band b.band)
