use Rattle.std.proofs.Common.{ap, sym, subst, Option}
use Rattle.std.specs.Prelude.{is_some}
use Rattle.gix_ref_name.specs.declared.name.FullName.{FullName}
use Rattle.gix_ref_packed.specs.Buffers.{buffer_kind, buffer_text}
use Rattle.gix_ref_pack.specs.LooseObjects.{IsKeyName, key_for}
use Rattle.gix_ref_pack.proofs.Choosing.{no_record}
use Rattle.gix_ref_pack.proofs.pack.has_record.Goals as goal

pub returns-clause-chosen : goal.returns-clause-chosen
returns-clause-chosen c rs holds =
    let key = key_for c.args.namespace.now c.args.name.now in
    let bad = subst (λ (o : Option FullName). IsKeyName key o) c.in-None.is c.in_ok-key.ensures in
    sym (ap is_some (no_record (buffer_kind c.args.records.now) rs (buffer_text c.args.records.now) key holds bad))
