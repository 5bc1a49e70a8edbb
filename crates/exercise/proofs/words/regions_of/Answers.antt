use Rattle.std.proofs.Common.{sym, ◌∙◌, arith, rules, map-id}
use Rattle.std.proofs.lemmas.Bool.{eqb-false, eqb-true}
use Rattle.std.proofs.lemmas.Iterator.{YieldsList-from_map_by, YieldsList-from_slice}
use Rattle.std.proofs.lemmas.Iterator.Consumers.{map_from_collect}
use Rattle.std.proofs.lemmas.Result.{IfOk-at_ok}
use Rattle.domain.specs.Attributes.{six_of}
use Rattle.exercise.proofs.Sixes.{left_over, numbers_of_sixes}
use Rattle.exercise.proofs.words.regions_of.Goals as goal

pub returns-then-not-is_empty : goal.returns-then-not-is_empty
returns-then-not-is_empty c =
    let some = eqb-false _ _ (sym c.if-not-is_empty.ensures) in
    record { made = left_over c.args.numbers.now (omega (arith, some, c.as_chunks.ensures.back_len)) }

pub returns : goal.returns
returns c =
    let none = eqb-true _ _ (sym c.if-not-is_empty.ensures) in
    let made = IfOk-at_ok _ c.in_ok-collect.was (map_from_collect _ c.collect.ensures.ran (YieldsList-from_map_by _ six_of (λ six. six) (YieldsList-from_slice c.as_chunks.result.0.now cc) c.map.ensures.closure (λ x r q k. search rules))) in
    record { made = numbers_of_sixes _ _ c.args.numbers.now (omega (arith, none, c.as_chunks.ensures.back_len)) (made ∙ (map-id _ ∙ c.as_chunks.ensures.front)) }
