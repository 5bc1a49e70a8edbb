-- Planning a question: the remainder boxes, written into a list.
use Rattle.std.specs.Prelude.{ℕ, if◌then◌else◌, List, ◌++◌, length, drop, Some, None, Ok, Err, Option, Result, nat_le}
use Rattle.domain.specs.declared.attributes.Bounds.{Bounds}
use Rattle.domain.specs.declared.refusals.Refusal.{Refusal}
use Rattle.domain.specs.declared.refusals.Refusal.TheVariants.{SplitTooLarge, ListTooShort}

-- what a plan answers for a split and a list of n places: a broken split comes before a list that is too short
abbrev pub plan_answer : Option (List Bounds) → ℕ → Result ℕ Refusal
plan_answer None n = Err SplitTooLarge
plan_answer (Some ps) n = if nat_le (length ps) n then Ok (length ps) else Err ListTooShort

-- what the list holds after: the pieces in its first places, or what it held before
abbrev pub plan_list : Option (List Bounds) → List Bounds → List Bounds
plan_list None list = list
plan_list (Some ps) list = if nat_le (length ps) (length list) then ps ++ drop (length ps) list else list
