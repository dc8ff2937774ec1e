use Rattle.std.proofs.Common.{codes, nat_eq, drop, take, length, ◌-◌, ◌∙◌, refl}
use Rattle.std.specs.List.{starts_with, ends_with}
use Rattle.std.proofs.lemmas.Slice.Eq.{starts_is, ends_is}
use Rattle.std.proofs.lemmas.Bool.Decides.{Decides-eqb}
use Rattle.gix_ref_name.proofs.namespace.Namespace.to_path.Goals as goal

pub returns-clause-begins : goal.returns-clause-begins
returns-clause-begins c =
    let n = c.args.self.now.bytes.items in
    let front = codes "refs/namespaces/" in
    (drop (length front) n, c.as_slice.ensures.value ∙ (starts_is Decides-eqb n front (starts_with nat_eq n front) refl).0 c.args.self.now.begins)

pub returns-clause-ends : goal.returns-clause-ends
returns-clause-ends c =
    let n = c.args.self.now.bytes.items in
    let end = codes "/" in
    (take (length n - length end) n, c.as_slice.ensures.value ∙ (ends_is Decides-eqb n end (ends_with nat_eq n end) refl).0 c.args.self.now.ends)
