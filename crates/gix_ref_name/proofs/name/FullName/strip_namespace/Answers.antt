use Rattle.std.proofs.Common.{◌≡◌, ◌≢◌, ◌++◌, ℕ, List, true, None, length, take, drop, sym, ◌∙◌, ap, rules}
use Rattle.std.specs.Option.{is_some}
use Rattle.gix_ref_name.specs.NameGrammar.{partial_error}
use Rattle.gix_ref_name.specs.Names.{full_bytes}
use Rattle.gix_ref_name.specs.Namespaces.{namespace_bytes}
use Rattle.gix_ref_name.proofs.FrontLemmas.{stripped-append, stripped-bad, stripped-none, moved_front}
use Rattle.gix_ref_name.proofs.name.FullName.strip_namespace.Goals as goal

pub returns-in_default : goal.returns-in_default
returns-in_default c =
    let apart : (r : List ℕ) → c.as_slice.result.now ≢ c.to_path.result.now ++ r = c.in_default.ensures in
    let names : c.as_slice.result.now ≡ full_bytes c.args.self.now = c.as_slice.ensures.value in
    let spaces : c.to_path.result.now ≡ namespace_bytes c.args.namespace.now = c.to_path.ensures.bytes in
    sym (stripped-none (namespace_bytes c.args.namespace.now) (full_bytes c.args.self.now) (λ r e. apart r (names ∙ e ∙ ap (λ v. v ++ r) (sym spaces))))

pub returns-then-is_some : goal.returns-then-is_some
returns-then-is_some c =
    let whole : full_bytes c.args.self.now ≡ namespace_bytes c.args.namespace.now ++ c.in-Some.rest.now = search rules in
    let bad : is_some (partial_error c.in-Some.rest.now) ≡ true = search rules in
    sym (stripped-bad (namespace_bytes c.args.namespace.now) (full_bytes c.args.self.now) c.in-Some.rest.now whole bad)

pub returns : goal.returns
returns c =
    let whole : full_bytes c.args.self.now ≡ namespace_bytes c.args.namespace.now ++ c.in-Some.rest.now = search rules in
    let valid : partial_error c.in-Some.rest.now ≡ None = search rules in
    let spaces : c.to_path-front.result.now ≡ namespace_bytes c.args.namespace.now = c.to_path-front.ensures.bytes in
    c.truncate.ensures.items
    ∙ ap (take (length c.in-Some.rest.now)) (c.rotate_left.ensures.items ∙ ap (λ v. drop (length v) (full_bytes c.args.self.now) ++ take (length v) (full_bytes c.args.self.now)) spaces)
    ∙ moved_front (namespace_bytes c.args.namespace.now) (full_bytes c.args.self.now) c.in-Some.rest.now whole
    ∙ sym (stripped-append (namespace_bytes c.args.namespace.now) (full_bytes c.args.self.now) c.in-Some.rest.now whole valid)
