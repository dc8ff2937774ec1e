use Rattle.std.proofs.Common.{◌≡◌, ℕ, List, Ok, drop, subst}
use Rattle.gix_ref_hash.specs.declared.hash.Kind.{Kind}
use Rattle.gix_ref_name.specs.Names.{full_ref_bytes}
use Rattle.gix_ref_target.specs.PackedRecords.{record_named}
use Rattle.gix_ref_packed_text.specs.Windows.{AreFound}
use Rattle.gix_ref_packed.specs.FileSearches.{FindsInFile}
use Rattle.gix_ref_packed.specs.InOrder.{in_order}
use Rattle.gix_ref_packed.proofs.AreRecords.{passed_records}
use Rattle.gix_ref_packed.proofs.FoundInOrder.{found_in_order}
use Rattle.gix_ref_packed.proofs.packed.unsorted.Unsorted.find.Goals as goal

pub returns-in-Ok-find_first-clause-finds : goal.returns-in-Ok-find_first-clause-finds
returns-in-Ok-find_first-clause-finds g c = λ honest.
    let s = c.sort_if_worn.new.self in
    let same = c.in-Ok.ensures.same in
    let t = drop s.start (g.R.ReadAt.bytes s.reader) in
    let n = full_ref_bytes c.args.name in
    let found = c.in-Ok-find_first.found in
    let rs = passed_records s.kind t (s.are_records honest) in
    let is : AreFound (record_named n rs.0) found = subst (λ (m : List ℕ). AreFound (record_named m rs.0) found) c.to_path-wanted.ensures.bytes (c.in-Ok-find_first.ensures.found honest rs.0 rs.1) in
    let here = found_in_order s.kind t n rs.0 rs.1 found is in
    let text : t ≡ drop c.args.self.now.start (g.R.ReadAt.bytes c.args.self.now.reader) = λ i. drop (same.1 i) (same.0 i) in
    subst (λ (k : Kind). FindsInFile k (in_order k (drop c.args.self.now.start (g.R.ReadAt.bytes c.args.self.now.reader))) n (Ok found)) same.2
    (subst (λ (u : List ℕ). FindsInFile s.kind (in_order s.kind u) n (Ok found)) text here)
