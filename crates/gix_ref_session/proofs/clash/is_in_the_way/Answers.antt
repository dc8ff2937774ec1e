use Rattle.std.proofs.Common.{◌∙◌, Bool, inl, subst, IfOk, List, ℕ}
use Rattle.std.specs.Prelude.{IfErr, MatchBool}
use Rattle.gix_ref_name.specs.Names.{full_bytes}
use Rattle.gix_ref_queries.specs.Resolving.{targets_in}
use Rattle.gix_ref_queries.proofs.Names.{same_records}
use Rattle.gix_ref_session.specs.Clashes.{HasFreeFolders, IsBelowTaken, IsListFailure, IsNameFailure, ListsNone, ListsOne, SeesBelow, SeesBelowTaken, SeesFreeBefore, SeesFreeFolders, front_below}
use Rattle.gix_ref_session.proofs.ClashLemmas.{err_map, folder_name, clear_found, list_name_before, told, way_found}
use Rattle.gix_ref_session.proofs.SeenClashes.{clashes_by}
use Rattle.gix_ref_session.proofs.clash.is_in_the_way.Goals as goal

pub returns-then-branch-clause-clashes : goal.returns-then-branch-clause-clashes
returns-then-branch-clause-clashes g c h records are edits names is =
    let find = targets_in g.F.Files.means c.args.store.now records in
    inl (subst (λ (name : List ℕ). IsBelowTaken find edits name) c.to_path-path.ensures.bytes (c.in_ok-is_below_one.ensures.below h records are edits names c.if-branch.true))

pub returns-clause-clashes : goal.returns-clause-clashes
returns-clause-clashes g c h records are edits names =
    let F = g.F.Files in
    let old = c.args.store.now in
    let mid = c.is_below_one.new.store in
    let looked = c.is_below_one.ensures.unchanged in
    way_found F.honest F.means old mid looked F.faults records edits (full_bytes c.args.name.now) c.has_below.result h
    (subst (λ (p : List ℕ). IfOk c.has_below.result (λ any. MatchBool any (ListsOne F.honest F.means F.faults mid records p) (ListsNone F.honest F.means mid records p))) (c.deref.ensures.value ∙ c.in_ok-prefix.ensures)
    (c.has_below.ensures.lists h records (same_records F.honest F.means old mid records looked h are)))

pub returns-clause-clear : goal.returns-clause-clear
returns-clause-clear g c h records are edits names free =
    let F = g.F.Files in
    let old = c.args.store.now in
    let mid = c.is_below_one.new.store in
    let looked = c.is_below_one.ensures.unchanged in
    clear_found F.honest F.means old mid looked F.faults records edits (full_bytes c.args.name.now) c.has_below.result h
    (subst (λ (name : List ℕ). HasFreeFolders (targets_in F.means old records) edits name) c.to_path-path.ensures.bytes
    (c.in_ok-is_below_one.ensures.free h records are edits names (λ folder of lt. free folder (c.common_prefix_len.ensures folder of lt)) c.if-branch.false))
    (subst (λ (p : List ℕ). IfOk c.has_below.result (λ any. MatchBool any (ListsOne F.honest F.means F.faults mid records p) (ListsNone F.honest F.means mid records p))) (c.deref.ensures.value ∙ c.in_ok-prefix.ensures)
    (c.has_below.ensures.lists h records (same_records F.honest F.means old mid records looked h are)))

pub returns-clause-fails : goal.returns-clause-fails
returns-clause-fails g c =
    let F = g.F.Files in
    let G = g.F.Reader.ReadAt in
    let old = c.args.store.now in
    let mid = c.is_below_one.new.store in
    let name = full_bytes c.args.name.now in
    err_map c.has_below.result (IsListFailure F.honest F.means F.faults G mid (front_below name)) (IsNameFailure F.honest F.means F.faults G old name)
    (subst (λ (p : List ℕ). IfErr c.has_below.result (IsListFailure F.honest F.means F.faults G mid p)) (c.deref.ensures.value ∙ c.in_ok-prefix.ensures) c.has_below.ensures.fails)
    (list_name_before F.honest F.means old mid c.is_below_one.ensures.unchanged F.faults G name)

pub returns-in_err-is_below_one-clause-fails : goal.returns-in_err-is_below_one-clause-fails
returns-in_err-is_below_one-clause-fails g c =
    let F = g.F.Files in
    let G = g.F.Reader.ReadAt in
    let old = c.args.store.now in
    let name = full_bytes c.args.name.now in
    let fatal = c.in_err-is_below_one.field-0.0 in
    told c.from_residual.result fatal (IsNameFailure F.honest F.means F.faults G old name) c.from_residual.ensures.1
    (folder_name G F.honest F.means F.faults old name c.to_path-path.result.now fatal c.to_path-path.ensures.bytes c.in_err-is_below_one.ensures.fails)

pub returns-then-branch-clause-seen : goal.returns-then-branch-clause-seen
returns-then-branch-clause-seen g c h edits names =
    let F = g.F.Files in
    let old = c.args.store.now in
    let from = c.common_prefix_len.result in
    let path = c.to_path-path.result.now in
    inl (subst (λ (name : List ℕ). SeesBelowTaken F.means old edits name) c.to_path-path.ensures.bytes
    (subst (λ (below : Bool). MatchBool below (SeesBelowTaken F.means old edits path) (SeesFreeBefore F.means old edits from path → SeesFreeFolders F.means old edits path)) c.if-branch.true (c.in_ok-is_below_one.ensures.seen h edits names)))

pub returns-clause-seen : goal.returns-clause-seen
returns-clause-seen g c h edits names =
    let F = g.F.Files in
    let old = c.args.store.now in
    let mid = c.is_below_one.new.store in
    let from = c.common_prefix_len.result in
    let path = c.to_path-path.result.now in
    let free = subst (λ (below : Bool). MatchBool below (SeesBelowTaken F.means old edits path) (SeesFreeBefore F.means old edits from path → SeesFreeFolders F.means old edits path)) c.if-branch.false (c.in_ok-is_below_one.ensures.seen h edits names) in
    clashes_by F.honest F.means F.faults old mid c.is_below_one.ensures.unchanged h edits c.args.last.now (full_bytes c.args.name.now) c.has_below.result
    (λ last. subst (λ (name : List ℕ). SeesFreeFolders F.means old edits name) c.to_path-path.ensures.bytes (free (λ folder of lt. last folder (c.common_prefix_len.ensures folder of lt))))
    (subst (λ (p : List ℕ). IfOk c.has_below.result (SeesBelow F.honest F.means F.faults mid p)) (c.deref.ensures.value ∙ c.in_ok-prefix.ensures) (c.has_below.ensures.seen h))
