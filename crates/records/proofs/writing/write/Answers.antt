use Rattle.std.proofs.Common.{rules, ◌++◌, drop, Ok, ap, ◌∙◌}
use Rattle.records.proofs.Exact.{be_encoding, written_encoded}
use Rattle.records.proofs.writing.write.Goals as goal

pub returns-in_err-word-clause-encoded : goal.returns-in_err-word-clause-encoded
returns-in_err-word-clause-encoded c = written_encoded c.args.value.now c.args.buffer.now _ c.from_residual.result (search rules) (search rules) c.in_err-word.ensures.shape

pub returns-clause-buffer : goal.returns-clause-buffer
returns-clause-buffer c = c.put_word.ensures ∙ ap (λ bs. bs ++ drop 16 c.args.buffer.now) (be_encoding c.args.value.now c.in_ok-word.word c.in_ok-word.ensures.word.1)

pub returns-clause-encoded : goal.returns-clause-encoded
returns-clause-encoded c = written_encoded c.args.value.now c.args.buffer.now _ (Ok tt) (search rules) (returns-clause-buffer c) c.in_ok-word.ensures.shape
