use Rattle.std.proofs.Common.{rules}
use Rattle.records.proofs.Exact.{exactly}
use Rattle.records.proofs.reading.record_at.Goals as goal

pub returns-in_err-word_at-clause-exact : goal.returns-in_err-word_at-clause-exact
returns-in_err-word_at-clause-exact c = exactly c.args.section.now c.args.position c.from_residual.result (λ i. (c.type_inv.section i).fits) (search rules)

pub returns-clause-exact : goal.returns-clause-exact
returns-clause-exact c = exactly c.args.section.now c.args.position c.transpose.result (λ i. (c.type_inv.section i).fits) (search rules)
