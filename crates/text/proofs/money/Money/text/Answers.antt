use Rattle.std.proofs.Common.{◌/◌, ap, length, arith}
use Rattle.std.proofs.lemmas.Fmt.{length-decimal-le}
use Rattle.text.proofs.money.Money.text.Goals as goal

pub push_decimals-requires : goal.push_decimals-requires
push_decimals-requires c =
    let d = length-decimal-le 17 (c.unsigned_abs-units.result / 400) (omega arith) (omega arith) (omega arith) in
    omega (arith, d, ap length c.format.ensures.text, c.push_str.ensures.len, c.push_str-2.ensures.len, ap length c.new-text.ensures)
