use Rattle.std.proofs.Common.{◌≡◌, get_or, rules}
use Rattle.gix_ref_edits.specs.RefEdits.{name_of}
use Rattle.gix_ref_session.proofs.NamedLemmas.{held_at}
use Rattle.gix_ref_session.proofs.named.is_named.Goals as goal

pub returns-then-eq_bytes-clause-named : goal.returns-then-eq_bytes-clause-named
returns-then-eq_bytes-clause-named c updates =
    let held = c.args.held.now in
    let first = c.index-held-at.result in
    let same : name_of (get_or held c.args.at first).now ≡ name_of c.args.edit.now = search rules in
    held_at held c.args.at first (name_of c.args.edit.now) c.if-at-held.true same
