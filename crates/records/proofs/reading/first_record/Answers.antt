use Rattle.std.proofs.Common.{rules}
use Rattle.records.proofs.Exact.{exactly_first}
use Rattle.records.proofs.reading.first_record.Goals as goal

pub returns-in_err-word_at-clause-exact : goal.returns-in_err-word_at-clause-exact
returns-in_err-word_at-clause-exact c = exactly_first c.args.section.now c.from_residual.result (λ i. (c.type_inv.section i).fits) (search rules)

pub returns-clause-exact : goal.returns-clause-exact
returns-clause-exact c = exactly_first c.args.section.now c.from_word.result (λ i. (c.type_inv.section i).fits) (search rules)
