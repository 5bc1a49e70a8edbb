-- Cutting a piece by a box.
use Rattle.std.specs.Prelude.{◌+◌, ◌-◌, min, max, if◌then◌else◌, List, [], ◌∷◌, ◌++◌, Some, None, Option, Contains, nat_lt}
use Rattle.std.specs.Option.{option_map, option_to_list}
use Rattle.domain.specs.declared.attributes.Axis.{Axis}
use Rattle.domain.specs.declared.attributes.Axis.TheVariants.{Birth, Service, Band}
use Rattle.domain.specs.declared.attributes.Bounds.{Bounds}
use Rattle.domain.specs.declared.attributes.Span.{Span}
use Rattle.domain.specs.Attributes.{meet, span_of, with_span}

-- what is left of a range below another one, if that begins above its beginning
abbrev pub lower_span : Span → Span → Option Span
lower_span p b = if nat_lt p.low b.low then Some (record { low = p.low; high = b.low - 1 }) else None

-- what is left of a range above another one, if that ends below its end
abbrev pub upper_span : Span → Span → Option Span
upper_span p b = if nat_lt b.high p.high then Some (record { low = b.high + 1; high = p.high }) else None

-- a range narrowed to another one
abbrev pub narrow_span : Span → Span → Span
narrow_span p b = record { low = max p.low b.low; high = min p.high b.high }

-- the lower remnant of a piece along one attribute
abbrev pub lower_of : Axis → Bounds → Bounds → Option Bounds
lower_of a p b = option_map (λ s. with_span a s p) (lower_span (span_of a p) (span_of a b))

-- the upper remnant of a piece along one attribute
abbrev pub upper_of : Axis → Bounds → Bounds → Option Bounds
upper_of a p b = option_map (λ s. with_span a s p) (upper_span (span_of a p) (span_of a b))

-- the remnants along one attribute, the lower before the upper
abbrev pub remnants_along : Axis → Bounds → Bounds → List Bounds
remnants_along a p b = option_to_list (lower_of a p b) ++ option_to_list (upper_of a p b)

-- a piece narrowed to a box along one attribute
abbrev pub narrowed : Axis → Bounds → Bounds → Bounds
narrowed a p b = with_span a (narrow_span (span_of a p) (span_of a b)) p

-- the remnants in the order found: along one attribute after another, the piece being narrowed before the next is taken
abbrev pub remnants : List Axis → Bounds → Bounds → List Bounds
remnants [] p b = []
remnants (a ∷ order) p b = remnants_along a p b ++ remnants order (narrowed a p b) b

-- what a cut along the attributes of a list leaves of a piece: the piece itself where the box does not meet it
abbrev pub cut_in : List Axis → Bounds → Bounds → List Bounds
cut_in order p b = if meet p b then remnants order p b else p ∷ []

-- the attributes in the order of cutting
abbrev pub cut_order : List Axis
cut_order = Birth ∷ Service ∷ Band ∷ []

abbrev pub cut_of : Bounds → Bounds → List Bounds
cut_of p b = cut_in cut_order p b

-- every attribute stands in the list
abbrev pub Complete : List Axis → Type 0
Complete order = (a : Axis) → Contains order a
