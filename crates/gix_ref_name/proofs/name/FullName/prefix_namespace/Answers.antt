use Rattle.std.proofs.Common.{◌≡◌, ◌++◌, true, false, nat_eq, sym, ◌∙◌, rules}
use Rattle.std.specs.List.{starts_with}
use Rattle.gix_ref_name.specs.Names.{full_bytes}
use Rattle.gix_ref_name.specs.Namespaces.{namespace_bytes}
use Rattle.gix_ref_name.proofs.FrontLemmas.{with-has, with-new, stripped-append}
use Rattle.gix_ref_name.proofs.name.FullName.prefix_namespace.Goals as goal

pub returns-then-starts_with-clause-ok : goal.returns-then-starts_with-clause-ok
returns-then-starts_with-clause-ok c =
    let has : starts_with nat_eq (full_bytes c.args.self.now) (namespace_bytes c.args.namespace.now) ≡ true = search rules in
    sym (with-has (namespace_bytes c.args.namespace.now) (full_bytes c.args.self.now) has)

pub returns-clause-ok : goal.returns-clause-ok
returns-clause-ok c =
    let new : starts_with nat_eq (full_bytes c.args.self.now) (namespace_bytes c.args.namespace.now) ≡ false = search rules in
    let whole : c.extend_from_slice.new.self.items ≡ namespace_bytes c.args.namespace.now ++ full_bytes c.args.self.now = search rules in
    whole ∙ sym (with-new (namespace_bytes c.args.namespace.now) (full_bytes c.args.self.now) new)

pub returns-clause-back : goal.returns-clause-back
returns-clause-back c =
    let whole : c.extend_from_slice.new.self.items ≡ namespace_bytes c.args.namespace.now ++ full_bytes c.args.self.now = search rules in
    λ new. stripped-append (namespace_bytes c.args.namespace.now) _ (full_bytes c.args.self.now) whole c.args.self.now.valid
