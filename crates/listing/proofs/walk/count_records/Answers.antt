use Rattle.std.proofs.Common.{◌≡◌, Some, refl, arith, rules}
use Rattle.layout.specs.Layout.{kind_number}
use Rattle.listing.proofs.Walks.{count_small, room, walk_blank, walk_kind, walk_start}
use Rattle.listing.proofs.walk.count_records.Goals as goal

pub loop-record-init : goal.loop-record-init
loop-record-init c = walk_start _ _ _ _ refl c.requires.first c.requires.none

pub note-requires : goal.note-requires
note-requires c =
    let e = c.in_ok-record.ensures in
    let some : c.in_ok-record.field-0 ≡ Some c.in-Some.record = search rules in
    let r = room c.args.reader.now.section.now _ _ c.loop-record.reader.position _ c.loop-record.tally.counts c.in_ok-record.field-0 c.in-Some.record c.loop-record.invariant e.answer some e.section e.position in
    omega (arith, r, count_small _ _ _ _ (kind_number c.in-Some-kind.kind) c.loop-record.invariant)

pub loop-record-preserved-in-Some-kind : goal.loop-record-preserved-in-Some-kind
loop-record-preserved-in-Some-kind c =
    let e = c.in_ok-record.ensures in
    let some : c.in_ok-record.field-0 ≡ Some c.in-Some.record = search rules in
    walk_kind c.args.reader.now.section.now _ _ c.loop-record.reader.position _ c.loop-record.tally.counts c.in_ok-record.field-0 c.in-Some.record c.loop-record.invariant e.answer some e.section e.position c.in-Some-kind.kind _ c.in-Some-kind.ensures c.note.ensures

pub loop-record-preserved : goal.loop-record-preserved
loop-record-preserved c =
    let e = c.in_ok-record.ensures in
    let some : c.in_ok-record.field-0 ≡ Some c.in-Some.record = search rules in
    walk_blank c.args.reader.now.section.now _ _ c.loop-record.reader.position _ c.loop-record.tally.counts c.in_ok-record.field-0 c.in-Some.record c.loop-record.invariant e.answer some e.section e.position c.in_default-kind.ensures
