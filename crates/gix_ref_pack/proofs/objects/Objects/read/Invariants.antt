use Rattle.std.proofs.Common.{◌≡◌, List, length}
use Rattle.gix_ref_hash.specs.declared.hash.ObjectId.{ObjectId}
use Rattle.gix_ref_pack.specs.KnownObjects.{end_by, end_in}
use Rattle.gix_ref_pack.specs.TableRows.{BeginsWithRows}
use Rattle.gix_ref_pack.specs.declared.objects.Row.{Row}
use Rattle.gix_ref_pack.proofs.objects.Objects.read.Given as goal

abbrev pub decreases-loop-rest : goal.decreases-loop-rest
decreases-loop-rest l = length l.rest

-- the lines so far, and what they make of the table
abbrev pub invariant-loop-rest : goal.invariant-loop-rest
invariant-loop-rest l = (rows : List Row) × BeginsWithRows l.table rows l.rest × (l.number ≡ length rows) × ((id : ObjectId) → end_in l.objects id ≡ end_by rows id)
