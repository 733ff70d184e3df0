use Rattle.std.proofs.Common.{◌≡◌, ◌-◌, ◌++◌, length, drop, replicate, pos, sym, ap, ◌∙◌, arith, length-take}
use Rattle.std.proofs.lemmas.List.{drop-replicate}
use Rattle.values.proofs.figure.filled.Goals as goal

pub returns : goal.returns
returns g c =
    let xs = c.args.front in
    let zeros = replicate 11 (pos 0) in
    let n : length xs ≡ g.row.N = omega (arith, ap length c.copy_from_slice.ensures.after, c.copy_from_slice.ensures.len, length-take g.row.N zeros, c.requires) in
    ap (λ ys. ys ++ drop g.row.N zeros) c.copy_from_slice.ensures.after ∙ ap (λ ys. xs ++ ys) (drop-replicate g.row.N 11 (pos 0)) ∙ ap (λ m. xs ++ replicate (11 - m) (pos 0)) (sym n)
