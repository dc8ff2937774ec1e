use Rattle.std.proofs.Common.{ap, ◌∙◌}
use Rattle.gix_ref_name.specs.Namespaces.{stripped}
use Rattle.gix_ref_lookup.specs.StoreLayout.{namespace_text}
use Rattle.gix_ref_lookup.proofs.find.candidate.find_key.Goals as goal

pub returns-in_ok-to_owned-in-Ok-Some-clause-seen : goal.returns-in_ok-to_owned-in-Ok-Some-clause-seen
returns-in_ok-to_owned-in-Ok-Some-clause-seen g c h kind =
    let o = rw c.in-Ok-Some.field-0-is at (c.in-Ok-Some.ensures.seen h kind) in
    record {
      name = c.packed_reference.ensures.name ∙ ap (stripped (namespace_text c.args.namespace.now)) c.in_ok-to_owned-in-Ok-Some.ensures;
      searched = record {
        of_kind = o.of_kind;
        text = o.text;
        searched = o.searched;
        has = record {
          found = c.in-Ok-Some.found;
          hits = o.has;
          target = c.packed_reference.ensures.target;
          peeled = c.packed_reference.ensures.peeled;
        };
      };
    }
