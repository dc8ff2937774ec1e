use Rattle.gix_ref_session.proofs.NameLists.{folder_at}
use Rattle.gix_ref_session.proofs.clash.folder_before.Goals as goal

pub returns-in-Ok : goal.returns-in-Ok
returns-in-Ok c =
    let e = c.in-Ok.ensures in
    folder_at c.args.name.now _ c.args.at c.if-at-name.false c.if-name-at-ne47.false e.0 e.1
