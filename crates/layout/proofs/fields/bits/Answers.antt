use Rattle.std.proofs.Common.{◌≡◌, ◌*◌, ◌%◌, ◌^◌, arith}
use Rattle.std.proofs.lemmas.Nat.{and_mask, one_shl}
use Rattle.layout.proofs.fields.bits.Goals as goal

pub returns : goal.returns
returns c =
    let e : (1 * 2 ^ c.args.width) % 2 ^ 128 ≡ 2 ^ c.args.width = one_shl c.args.width 128 (omega arith) in
    rw e (and_mask _ _)
