use Rattle.std.proofs.Common.{rules, ◌≡◌, map, subst, sym}
use Rattle.std.specs.Prelude.{is_ok, Decides}
use Rattle.std.specs.List.{Contains}
use Rattle.gix_ref_edits.specs.RefEdits.{name_of}
use Rattle.gix_ref_session.proofs.NameLists.{edited_by, searched}
use Rattle.gix_ref_session.proofs.clash.is_edited.Goals as goal

pub returns : goal.returns
returns c edits are =
    let is : c.is_ok.result ≡ is_ok c.binary_search.result = search rules in
    subst (λ b. Decides b (Contains (map name_of edits) c.args.name.now)) (sym is) (edited_by edits c.args.edited.now c.args.name are _ (searched c.args.edited.now c.args.name are.sorted c.binary_search.result c.binary_search.ensures.bound c.binary_search.ensures.position))
