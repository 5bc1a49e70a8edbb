-- Answers as the course writes them.
use Rattle.std.specs.Prelude.{ℕ, List, [], ◌∷◌, ◌++◌, length, codes, decimal}
use Rattle.std.specs.List.{flat_map}
use Rattle.sources.specs.declared.record.Record.{Record}

-- the numbers of records, each after a space
abbrev pub members_text : List Record → List ℕ
members_text rs = flat_map (λ r. codes " " ++ decimal r.number) rs

-- how many records are answered and, if there are any, their numbers
abbrev pub answer_text : List Record → List ℕ
answer_text [] = codes "answer 0"
answer_text (r ∷ rs) = codes "answer " ++ (decimal (length (r ∷ rs)) ++ (codes ":" ++ members_text (r ∷ rs)))
