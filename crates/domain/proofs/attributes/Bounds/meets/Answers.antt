use Rattle.std.proofs.Common.{◌≡◌, rules}
use Rattle.std.proofs.lemmas.Bool.Decides.{Decides-at}
use Rattle.domain.specs.Attributes.{meet}
use Rattle.domain.proofs.Meeting.{meet_decides}
use Rattle.domain.proofs.attributes.Bounds.meets.Goals as goal

pub returns-then-meets-2-clause-cases : goal.returns-then-meets-2-clause-cases
returns-then-meets-2-clause-cases c =
    let is : c.meets-then-meets-2.result ≡ meet c.args.self c.args.other = search rules in
    Decides-at _ _ is (meet_decides c.args.self c.args.other)
