-- Answers: what a question leaves, in its result and in its buffer.
use Rattle.std.specs.Prelude.{◌≡◌, ℕ, if◌then◌else◌, List, ◌++◌, length, drop, replicate, Ok, Err, Result, nat_le}
use Rattle.domain.specs.declared.attributes.Bounds.{Bounds}
use Rattle.domain.specs.declared.refusals.Refusal.{Refusal}
use Rattle.domain.specs.declared.refusals.Refusal.TheVariants.{BufferTooShort}
use Rattle.sources.specs.declared.record.Record.{Record}
use Rattle.sources.specs.Records.{blank}
use Rattle.sources.specs.Selections.{SameRecords, selection}

-- the answer, where these records are found and the buffer has n places: how many they are, if they fit
abbrev pub answer_of : List Record → ℕ → Result ℕ Refusal
answer_of found n = if nat_le (length found) n then Ok (length found) else Err BufferTooShort

-- the buffer after: the records in its first places and the others as they were, if they fit; if not, every place blank
abbrev pub buffer_of : List Record → List Record → List Record
buffer_of found before =
    if nat_le (length found) (length before)
    then found ++ drop (length found) before
    else replicate (length before) blank

-- ANSWERS: a question about a box, to a source that has the relation
pub record Answers (relation : List Record) (b : Bounds) (before : List Record) (r : Result ℕ Refusal) (after : List Record) : Type 0 where
  -- some records are found, in the source's own order
  pub found : List Record
  -- they make the answer and the buffer
  pub value : r ≡ answer_of found (length before)
  pub buffer : after ≡ buffer_of found before
  -- and they are the records of the relation that lie in the box, each once
  pub selects : SameRecords found (selection b relation)
