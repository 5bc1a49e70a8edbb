-- The numbers of the refusals.
use Rattle.std.specs.Prelude.{ℕ}
use Rattle.domain.specs.declared.refusals.Refusal.{Refusal}
use Rattle.domain.specs.declared.refusals.Refusal.TheVariants.{LineTooLong, UnknownKeyword, RepeatedKeyword, InvalidRange, ReversedRange, BufferTooShort, NoSuchRegion, SplitTooLarge, ListTooShort}

abbrev pub number_of : Refusal → ℕ
number_of LineTooLong = 9
number_of UnknownKeyword = 10
number_of RepeatedKeyword = 11
number_of InvalidRange = 12
number_of ReversedRange = 13
number_of BufferTooShort = 14
number_of NoSuchRegion = 15
number_of SplitTooLarge = 16
number_of ListTooShort = 17
