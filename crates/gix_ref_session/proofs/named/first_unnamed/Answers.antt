use Rattle.std.proofs.Common.{◌≡◌, subst, sym, rules}
use Rattle.gix_ref_name.specs.Names.{full_bytes}
use Rattle.gix_ref_edits.specs.RefEdits.{name_of}
use Rattle.gix_ref_edits.specs.declared.transaction.RefEdit.{RefEdit}
use Rattle.gix_ref_session.specs.Named.{IsNamed, IsSwitched, IsUnnamed}
use Rattle.gix_ref_session.proofs.NamedLemmas.{lent, named_more, switched_at}
use Rattle.gix_ref_session.proofs.named.first_unnamed.Goals as goal

pub returns-then-not-is_named : goal.returns-then-not-is_named
returns-then-not-is_named c =
    let held = lent c.args.held.now in
    let edits = c.args.edits.now in
    let item = c.index-edits-at.result in
    let not : IsUnnamed held item = search rules in
    subst (λ (e : RefEdit). IsSwitched held edits (name_of e)) (sym c.index-edits-at.is)
    (switched_at held edits c.loop-at.at item c.loop-at-test.true (subst (IsUnnamed held) c.index-edits-at.is not))

pub loop-at-preserved : goal.loop-at-preserved
loop-at-preserved c =
    let held = lent c.args.held.now in
    let item = c.index-edits-at.result in
    let is : IsNamed held item = search rules in
    named_more held c.args.edits.now c.loop-at.at item c.loop-at-test.true c.loop-at.invariant (subst (IsNamed held) c.index-edits-at.is is)
