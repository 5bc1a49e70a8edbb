-- Numbers read in sixes.
use Rattle.std.proofs.Common.{◌≡◌, ℕ, zero, suc, ◌*◌, ◌%◌, ◌<◌, List, [], ◌∷◌, ◌++◌, length, take, drop, flat_map, map, refl, sym, ap, ◌∙◌, arith, length-drop, take-append-drop}
use Rattle.std.proofs.lemmas.List.{nil_from_length}
use Rattle.std.proofs.lemmas.List.Folds.{flat_map-map}
use Rattle.std.specs.Simd.{first_chunks}
use Rattle.domain.specs.declared.attributes.Bounds.{Bounds}
use Rattle.domain.specs.Attributes.{six_of}
use Rattle.exercise.specs.Words.{NoBoxes, numbers_of}

pub numbers_length : (bs : List Bounds) → length (numbers_of bs) ≡ 6 * length bs
numbers_length [] = refl
numbers_length (b ∷ bs) = omega (arith, numbers_length bs)

-- numbers with some left over are not those of any boxes
pub left_over : (numbers : List ℕ) → 0 < length numbers % 6 → NoBoxes numbers
left_over numbers some bs h = omega (arith, ap length h, numbers_length bs)

sixes_joined : (k : ℕ) (xs : List ℕ) → length xs ≡ 6 * k → flat_map (λ six. six) (first_chunks 6 k xs) ≡ xs
sixes_joined zero xs h = sym (nil_from_length xs h)
sixes_joined (suc k) xs h = ap (λ ys. take 6 xs ++ ys) (sixes_joined k (drop 6 xs) (omega (arith, length-drop 6 xs))) ∙ take-append-drop 6 xs

-- boxes that are made of the sixes of numbers have these numbers
pub numbers_of_sixes : (bs : List Bounds) (k : ℕ) (xs : List ℕ) → length xs ≡ 6 * k → map six_of bs ≡ first_chunks 6 k xs → numbers_of bs ≡ xs
numbers_of_sixes bs k xs h e = sym (flat_map-map (λ six. six) six_of bs) ∙ (ap (flat_map (λ six. six)) e ∙ sixes_joined k xs h)
