-- Sums over the domain: the cells of a box are a count.
use Rattle.std.proofs.Common.{◌≡◌, ℕ, zero, suc, ◌+◌, ◌-◌, ◌*◌, ◌<◌, ◌≤◌, min, Bool, true, false, ◌&&◌, List, [], ◌∷◌, sym, refl, ap, ◌∙◌, mul_assoc, mul-zero, mul-add, arith}
use Rattle.std.proofs.lemmas.Bool.Decides.{nat_tests}
use Rattle.std.specs.List.{All}
use Rattle.std.proofs.lemmas.List.Elements.{All-head, All-tail}
use Rattle.domain.specs.declared.attributes.Bounds.{Bounds}
use Rattle.domain.specs.declared.attributes.Cell.{Cell}
use Rattle.domain.specs.declared.attributes.Span.{Span}
use Rattle.domain.specs.Attributes.{Lawful, width_of, cells_of}
use Rattle.domain.specs.Cells.{within, holds, indicator, holders, sum_below, sum_cells, count, total_cells}

pub indicator_and : (x y : Bool) → indicator (x && y) ≡ indicator x * indicator y
indicator_and true true = refl
indicator_and true false = refl
indicator_and false true = refl
indicator_and false false = refl

sum_same : (n : ℕ) (f g : ℕ → ℕ) → ((k : ℕ) → f k ≡ g k) → sum_below n f ≡ sum_below n g
unfolding sum_below
sum_same zero f g h = refl
sum_same (suc n) f g h = omega (arith, sum_same n f g h, h n)

sum_add : (n : ℕ) (f g : ℕ → ℕ) → sum_below n (λ k. f k + g k) ≡ sum_below n f + sum_below n g
unfolding sum_below
sum_add zero f g = refl
sum_add (suc n) f g = omega (arith, sum_add n f g)

sum_zero : (n : ℕ) → sum_below n (λ k. 0) ≡ 0
unfolding sum_below
sum_zero zero = refl
sum_zero (suc n) = omega (arith, sum_zero n)

sum_times : (n m : ℕ) (f : ℕ → ℕ) → sum_below n (λ k. m * f k) ≡ m * sum_below n f
unfolding sum_below
sum_times zero m f = sym (mul-zero m)
sum_times (suc n) m f = omega (arith, sum_times n m f, mul-add m (sum_below n f) (f n))

sum_bound : (n : ℕ) (f g : ℕ → ℕ) → ((k : ℕ) → f k ≤ g k) → sum_below n f ≤ sum_below n g
unfolding sum_below
sum_bound zero f g h = omega arith
sum_bound (suc n) f g h = omega (arith, sum_bound n f g h, h n)

-- how many values below n a range has
values_below : (n : ℕ) (s : Span) → sum_below n (λ k. indicator (within s k)) ≡ min n (s.high + 1) - s.low
unfolding sum_below
values_below zero s = omega arith
values_below (suc n) s = let e = values_below n s in grind (arith, nat_tests)

values : (n : ℕ) (s : Span) → s.high < n → sum_below n (λ k. indicator (within s k)) ≡ width_of s
values n s h = values_below n s ∙ omega arith

-- sums over the cells
pub cells_same : (f g : Cell → ℕ) → ((c : Cell) → f c ≡ g c) → sum_cells f ≡ sum_cells g
unfolding sum_cells
cells_same f g h = sum_same 1536 _ _ (λ x. sum_same 720 _ _ (λ y. sum_same 16 _ _ (λ z. h (record { birth = x; service = y; band = z }))))

pub cells_add : (f g : Cell → ℕ) → sum_cells (λ c. f c + g c) ≡ sum_cells f + sum_cells g
unfolding sum_cells
cells_add f g = sum_same 1536 _ _ (λ x. sum_same 720 _ _ (λ y. sum_add 16 _ _) ∙ sum_add 720 _ _) ∙ sum_add 1536 _ _

pub cells_bound : (f g : Cell → ℕ) → ((c : Cell) → f c ≤ g c) → sum_cells f ≤ sum_cells g
unfolding sum_cells
cells_bound f g h = sum_bound 1536 _ _ (λ x. sum_bound 720 _ _ (λ y. sum_bound 16 _ _ (λ z. h (record { birth = x; service = y; band = z }))))

pub cells_zero : sum_cells (λ c. 0) ≡ 0
unfolding sum_cells
cells_zero = sum_same 1536 _ _ (λ x. sum_same 720 _ _ (λ y. sum_zero 16) ∙ sum_zero 720) ∙ sum_zero 1536

-- a product, summed over its factors one after another
triple : (x y z : Bool) → indicator (x && (y && z)) ≡ indicator x * (indicator y * indicator z)
triple x y z = indicator_and x (y && z) ∙ ap (λ n. indicator x * n) (indicator_and y z)

product_sum : (l m n : ℕ) (f g h : ℕ → ℕ)
    → sum_below l (λ x. sum_below m (λ y. sum_below n (λ z. f x * (g y * h z)))) ≡ sum_below l f * (sum_below m g * sum_below n h)
product_sum l m n f g h =
    let G : ℕ = sum_below m g in
    let H : ℕ = sum_below n h in
    sum_same l _ (λ x. (G * H) * f x) (λ x.
    sum_same m _ (λ y. (f x * H) * g y) (λ y.
    sum_same n _ (λ z. (f x * g y) * h z) (λ z. sym (mul_assoc (f x) (g y) (h z)))
    ∙ (sum_times n (f x * g y) h ∙ omega arith))
    ∙ (sum_times m (f x * H) g ∙ omega arith))
    ∙ (sum_times l (G * H) f ∙ omega arith)

-- the cells of a box
pub cells_of_box : (b : Bounds) → Lawful b → count (holds b) ≡ cells_of b
unfolding sum_cells
cells_of_box b l =
    let f : ℕ → ℕ = λ x. indicator (within b.birth x) in
    let g : ℕ → ℕ = λ y. indicator (within b.service y) in
    let h : ℕ → ℕ = λ z. indicator (within b.band z) in
    sum_same 1536 _ _ (λ x. sum_same 720 _ _ (λ y. sum_same 16 _ _ (λ z. triple (within b.birth x) (within b.service y) (within b.band z))))
    ∙ (product_sum 1536 720 16 f g h
    ∙ (ap (λ n. n * (sum_below 720 g * sum_below 16 h)) (values 1536 b.birth l.0.1)
    ∙ (ap (λ n. width_of b.birth * (n * sum_below 16 h)) (values 720 b.service l.1.1)
    ∙ (ap (λ n. width_of b.birth * (width_of b.service * n)) (values 16 b.band l.2.1)
    ∙ sym (mul_assoc (width_of b.birth) (width_of b.service) (width_of b.band))))))

-- the cells of boxes, added up: each cell counts as often as boxes hold it
pub cells_of_all : (bs : List Bounds) → All Lawful bs → total_cells bs ≡ sum_cells (holders bs)
cells_of_all [] l = sym cells_zero
cells_of_all (b ∷ bs) l =
    ap (λ n. n + total_cells bs) (sym (cells_of_box b (All-head Lawful b bs l)))
    ∙ (ap (λ n. count (holds b) + n) (cells_of_all bs (All-tail Lawful b bs l))
    ∙ sym (cells_add (λ c. indicator (holds b c)) (holders bs)))
