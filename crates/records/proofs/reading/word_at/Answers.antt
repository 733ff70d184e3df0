use Rattle.std.proofs.Common.{◌≡◌, ◌+◌, ◌*◌, ◌/◌, ◌<◌, ◌≤◌, length, get_or, drop, Some, Ok, sym, ap, ◌∙◌, arith, length-drop, length-take}
use Rattle.std.specs.Int.{from_be_bytes, w128}
use Rattle.records.specs.Reading.{bytes_at}
use Rattle.records.proofs.Bytes.{be_number, chunk_at}
use Rattle.records.proofs.Exact.{word_whole}
use Rattle.records.proofs.reading.word_at.Goals as goal

pub returns-in-Some : goal.returns-in-Some
returns-in-Some c =
    let s = c.args.section.now in
    let p = c.args.position in
    let bs = c.in-Some.bytes.now in
    let l : p < length s / 16 = omega (arith, c.in-Some.ensures.lookup.3.0, c.as_chunks.ensures.front_len) in
    let room : 16 * p + 16 ≤ length s = omega arith in
    let e : bs ≡ bytes_at s p = c.in-Some.ensures.lookup.1 ∙ ap (λ xs. get_or xs p bs) c.as_chunks.ensures.front ∙ chunk_at 16 (length s / 16) p s bs l in
    let n : length (bytes_at s p) ≡ 16 = length-take 16 (drop (16 * p) s) ∙ omega (arith, length-drop (16 * p) s) in
    ap (λ w. Ok (Some w)) (c.from_be_bytes.ensures ∙ ap (from_be_bytes w128) e ∙ be_number (bytes_at s p) n) ∙ sym (word_whole s p room)
