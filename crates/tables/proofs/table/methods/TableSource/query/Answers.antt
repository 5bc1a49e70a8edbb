use Rattle.std.proofs.Common.{rules}
use Rattle.sources.proofs.Collecting.{selection_rises}
use Rattle.sources.proofs.Sameness.{same_refl}
use Rattle.tables.proofs.table.methods.TableSource.query.Goals as goal

pub returns-clause-answers : goal.returns-clause-answers
returns-clause-answers c = record { found = _; value = c.select.ensures.value; buffer = c.select.ensures.after; selects = same_refl _ }

pub returns-clause-steps : goal.returns-clause-steps
returns-clause-steps c = search (rules, selection_rises)
