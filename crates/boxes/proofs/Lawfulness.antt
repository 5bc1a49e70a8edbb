-- Boxes keep their ends in order and in span.
use Rattle.std.proofs.Common.{ℕ, ◌*◌, ◌≤◌, mul-le-mul, arith}
use Rattle.domain.specs.declared.attributes.Axis.{Axis}
use Rattle.domain.specs.declared.attributes.Axis.TheVariants.{Birth, Service, Band}
use Rattle.domain.specs.declared.attributes.Bounds.{Bounds}
use Rattle.domain.specs.declared.attributes.Span.{Span}
use Rattle.domain.specs.Attributes.{Lawful, LawfulSpan, cells_of, limit_of, span_of, with_span}

pub lawful_with : (a : Axis) (s : Span) (b : Bounds) → LawfulSpan (limit_of a) s → Lawful b → Lawful (with_span a s b)
lawful_with Birth s b h l = (h, l.1, l.2)
lawful_with Service s b h l = (l.0, h, l.2)
lawful_with Band s b h l = (l.0, l.1, h)

pub lawful_along : (a : Axis) (b : Bounds) → Lawful b → LawfulSpan (limit_of a) (span_of a b)
lawful_along Birth b l = l.0
lawful_along Service b l = l.1
lawful_along Band b l = l.2

-- no box has more cells than the domain
pub product_fits : (x y z : ℕ) → x ≤ 1536 → y ≤ 720 → z ≤ 16 → x * y * z ≤ 17694720
product_fits x y z p q r = mul-le-mul (mul-le-mul p q) r

pub cells_fit : (b : Bounds) → Lawful b → cells_of b ≤ 17694720
cells_fit b l = product_fits _ _ _ (omega arith) (omega arith) (omega arith)
