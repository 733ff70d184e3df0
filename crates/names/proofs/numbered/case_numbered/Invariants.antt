use Rattle.std.proofs.Common.{◌≡◌, drop}
use Rattle.names.specs.Numbered.{numbered}
use Rattle.names.proofs.numbered.case_numbered.Given as goal

abbrev pub invariant-loop-case : goal.invariant-loop-case
invariant-loop-case g l = numbered g.T.Numbered.number l.n (drop l.case-index l.cases) ≡ numbered g.T.Numbered.number l.n l.cases
