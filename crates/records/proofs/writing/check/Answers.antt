use Rattle.std.proofs.Common.{rules, Ok}
use Rattle.records.proofs.Exact.{check_encodable}
use Rattle.records.proofs.writing.check.Goals as goal

pub returns-in_err-word_of_value-clause-encodable : goal.returns-in_err-word_of_value-clause-encodable
returns-in_err-word_of_value-clause-encodable c = check_encodable c.args.value.now c.from_residual.result (search rules) c.in_err-word_of_value.ensures.shape

pub returns-clause-encodable : goal.returns-clause-encodable
returns-clause-encodable c = check_encodable c.args.value.now (Ok tt) (search rules) c.in_ok-word_of_value.ensures.shape
