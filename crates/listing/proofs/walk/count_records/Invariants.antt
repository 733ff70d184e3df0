use Rattle.std.proofs.Common.{◌-◌, ◌*◌, length}
use Rattle.listing.proofs.Walks.{Walked}
use Rattle.listing.proofs.walk.count_records.Given as goal

abbrev pub invariant-loop-record : goal.invariant-loop-record
invariant-loop-record l = Walked l.fn.reader.section.now l.reader.section.now l.reader.position l.tally.counts

abbrev pub decreases-loop-record : goal.decreases-loop-record
decreases-loop-record l = length l.reader.section.now - 16 * l.reader.position
