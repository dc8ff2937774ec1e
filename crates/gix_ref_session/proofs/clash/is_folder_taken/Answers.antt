use Rattle.gix_ref_name.specs.Names.{full_ref_bytes}
use Rattle.gix_ref_queries.specs.Resolving.{IsUnreadBy, targets_in}
use Rattle.gix_ref_session.specs.Clashes.{IsFindFailure, IsFolderUnread, IsTakenAt}
use Rattle.gix_ref_session.proofs.ClashLemmas.{err_map, fails, find_map, folder_by}
use Rattle.gix_ref_session.proofs.SeenClashes.{folder_seen}
use Rattle.gix_ref_session.proofs.clash.is_folder_taken.Goals as goal

pub returns-in-Some-clause-taken : goal.returns-in-Some-clause-taken
returns-in-Some-clause-taken g c h records are edits names =
    let find = targets_in g.F.Files.means c.args.store.now records in
    folder_by find edits c.args.name.now c.args.at (full_ref_bytes c.in-Some.folder) c.is_taken.result c.in-Some.ensures (c.is_taken.ensures.taken h records are edits names)

pub returns-in-None-clause-taken : goal.returns-in-None-clause-taken
returns-in-None-clause-taken g c h records are edits names =
    let find = targets_in g.F.Files.means c.args.store.now records in
    fails (IsTakenAt find edits c.args.at c.args.name.now) (λ has. c.in-None.ensures has.0 has.1)

pub returns-in-Some-clause-fails : goal.returns-in-Some-clause-fails
returns-in-Some-clause-fails g c =
    let F = g.F.Files in
    let G = g.F.Reader.ReadAt in
    let old = c.args.store.now in
    let folder = full_ref_bytes c.in-Some.folder in
    err_map c.is_taken.result (IsFindFailure (IsUnreadBy G F.honest F.means F.faults old folder)) (IsFindFailure (IsFolderUnread F.honest F.means F.faults G old c.args.name.now)) c.is_taken.ensures.fails (find_map (λ error u. (folder, c.in-Some.ensures.0, u)))

pub returns-in-Some-clause-seen : goal.returns-in-Some-clause-seen
returns-in-Some-clause-seen g c h edits names =
    folder_seen g.F.Files.means c.args.store.now edits c.args.name.now c.args.at (full_ref_bytes c.in-Some.folder) c.is_taken.result c.in-Some.ensures (c.is_taken.ensures.seen h edits names)

pub returns-in-None-clause-seen : goal.returns-in-None-clause-seen
returns-in-None-clause-seen g c h edits names = λ folder here. absurd (c.in-None.ensures folder here)
