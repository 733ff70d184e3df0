use Rattle.std.proofs.Common.{rules}
use Rattle.names.proofs.Cases.{exact}
use Rattle.names.proofs.numbered.FromNumber.from_number.Goals as goal

pub returns-clause-exact : goal.returns-clause-exact
returns-clause-exact g c = exact g.Self.Numbered.number g.Self.FromNumber.cases c.args.figure c.case_at.result g.met.Self.FromNumber.found (search rules)
