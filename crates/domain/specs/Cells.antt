-- Cells: which box holds which, and how many there are.
use Rattle.std.specs.Prelude.{◌≡◌, ℕ, zero, suc, ◌+◌, ◌≤◌, Bool, true, false, IsFalse, IsTrue, not, ◌&&◌, ◌||◌, List, [], ◌∷◌, nat_le}
use Rattle.domain.specs.declared.attributes.Axis.TheVariants.{Birth, Service, Band}
use Rattle.domain.specs.declared.attributes.Bounds.{Bounds}
use Rattle.domain.specs.declared.attributes.Cell.{Cell}
use Rattle.domain.specs.declared.attributes.Span.{Span}
use Rattle.domain.specs.Attributes.{cells_of, limit_of}

-- the value lies in the closed range
abbrev pub within : Span → ℕ → Bool
within s x = nat_le s.low x && nat_le x s.high

-- the cell lies in the box
abbrev pub holds : Bounds → Cell → Bool
holds b c = within b.birth c.birth && (within b.service c.service && within b.band c.band)

-- some cell lies in both boxes
abbrev pub ShareCell : Bounds → Bounds → Type 0
ShareCell a b = (c : Cell) × IsTrue (holds a c) × IsTrue (holds b c)

-- every cell of the second box lies in the first
abbrev pub Covers : Bounds → Bounds → Type 0
Covers a b = (c : Cell) → IsTrue (holds b c) → IsTrue (holds a c)

-- some box of the list holds the cell
abbrev pub covered : List Bounds → Cell → Bool
covered [] c = false
covered (b ∷ bs) c = holds b c || covered bs c

-- the cell lies in the question and in no region
abbrev pub missing : Bounds → List Bounds → Cell → Bool
missing q rs c = holds q c && not (covered rs c)

-- 1 for a test that passes, 0 for one that fails
abbrev pub indicator : Bool → ℕ
indicator true = 1
indicator false = 0

-- how many boxes of the list hold the cell
abbrev pub holders : List Bounds → Cell → ℕ
holders [] c = 0
holders (b ∷ bs) c = indicator (holds b c) + holders bs c

-- f 0 + .. + f (n - 1)
unfoldable pub sum_below : ℕ → (ℕ → ℕ) → ℕ
sum_below zero f = 0
sum_below (suc n) f = sum_below n f + f n

-- the sum of f over every cell of the domain
unfoldable pub sum_cells : (Cell → ℕ) → ℕ
sum_cells f =
    sum_below (limit_of Birth) (λ x.
    sum_below (limit_of Service) (λ y.
    sum_below (limit_of Band) (λ z. f (record { birth = x; service = y; band = z }))))

-- COUNT: how many cells of the domain pass a test
abbrev pub count : (Cell → Bool) → ℕ
count test = sum_cells (λ c. indicator (test c))

-- the cells of the boxes, added up
abbrev pub total_cells : List Bounds → ℕ
total_cells [] = 0
total_cells (b ∷ bs) = cells_of b + total_cells bs

-- DIVISION: each cell that passes the test lies in exactly one of the boxes, and no other cell in any
abbrev pub Divides : List Bounds → (Cell → Bool) → Type 0
Divides bs test = (c : Cell) → holders bs c ≡ indicator (test c)

-- no cell lies in two of the boxes
abbrev pub Disjoint : List Bounds → Type 0
Disjoint bs = (c : Cell) → holders bs c ≤ 1

-- no cell lies both in a box of the one list and in a box of the other
abbrev pub Apart : List Bounds → List Bounds → Type 0
Apart xs ys = (c : Cell) → IsTrue (covered xs c) → IsFalse (covered ys c)
