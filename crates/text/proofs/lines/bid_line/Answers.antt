use Rattle.std.proofs.Common.{◌≡◌, ℕ, List, ◌++◌, codes, decimal, append_assoc, rules}
use Rattle.names.specs.Names.{list_number}
use Rattle.text.specs.Text.{field, money}
use Rattle.text.proofs.lines.bid_line.Goals as goal

-- what six calls leave, one behind the other
line : (a b c d e f l n p q : List ℕ) → a ≡ codes "bid" → b ≡ a ++ field l → c ≡ b ++ field n → d ≡ c ++ field p → e ≡ d ++ field q → f ≡ e ++ codes "\n" → f ≡ codes "bid" ++ (field l ++ (field n ++ (field p ++ (field q ++ codes "\n"))))
line a b c d e f l n p q ea eb ec ed ee ef = simp (ef, ee, ed, ec, eb, ea, append_assoc)

pub returns : goal.returns
returns c =
    let x = c.args.line.now in
    line c.push_str.new.self.bytes c.push_field.new.text.bytes c.push_field-2.new.text.bytes c.push_field-3.new.text.bytes c.push_field-4.new.text.bytes c.push.new.self.bytes
    (decimal (list_number x.list)) (decimal x.number) (money x.payment) (money x.deduction)
    (search rules) (search rules) (search rules) (search rules) (search rules) (search rules)
