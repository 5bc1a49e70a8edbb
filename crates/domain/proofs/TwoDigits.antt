-- What `{:02}` writes of a number below 256.
use Rattle.std.proofs.Common.{◌≡◌, ℕ, ◌+◌, ◌<◌, ◌^◌, ◌-◌, ◌/◌, ◌%◌, false, [], ◌∷◌, ◌++◌, decimal, length, refl, ap, ◌∙◌, arith, ⊎_elim, eq-zero-or-pos, length-append}
use Rattle.std.proofs.Padding.{padded_integral_zeros}
use Rattle.std.proofs.lemmas.Fmt.{decimal_digit, decimal_nonempty, decimal_step}
use Rattle.std.specs.Fmt.{format_spec, padded_integral}

pub two_digits : (n : ℕ) → n < 256 → padded_integral (format_spec 32 0 4 2 (2 ^ 64 - 1)) false [] (decimal n) ≡ decimal (n / 10) ++ decimal (n % 10)
two_digits n small = ⊎_elim
    (λ one.
    let low : n % 10 ≡ n = omega arith in
    padded_integral_zeros _ (decimal n) refl refl ∙ rw (one, low, decimal_digit n (omega arith), decimal_digit 0 (omega arith)) refl)
    (λ two.
    let units : decimal (n % 10) ≡ (48 + n % 10) ∷ [] = decimal_digit (n % 10) (omega arith) in
    let whole : decimal n ≡ decimal (n / 10) ++ ((48 + n % 10) ∷ []) = decimal_step n (omega arith) (omega arith) in
    let none : 2 - length (decimal n) ≡ 0 = omega (arith, decimal_nonempty (n / 10) (omega arith), ap length whole, length-append (decimal (n / 10)) ((48 + n % 10) ∷ [])) in
    padded_integral_zeros _ (decimal n) refl refl ∙ rw (none, units, whole) refl)
    (eq-zero-or-pos (n / 10))
