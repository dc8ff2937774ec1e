use Rattle.std.proofs.Common.{◌≡◌, ◌∙◌, List, false, true, sym, ap, subst, bytes_eq}
use Rattle.std.specs.List.{list_any}
use Rattle.gix_ref_name.specs.Names.{full_bytes, full_ref_bytes}
use Rattle.gix_ref_name.specs.declared.name.FullName.{FullName}
use Rattle.gix_ref_store.specs.Store.{meaning_of}
use Rattle.gix_ref_follow.proofs.Steps.{any_named, leads_back}
use Rattle.gix_ref_follow.proofs.chain.arrive.Goals as goal

pub returns-then-is_reached-clause-refused : goal.returns-then-is_reached-clause-refused
returns-then-is_reached-clause-refused g c =
    let name = full_bytes c.args.next.name in
    let place = (meaning_of c.args.store.now).place in
    let again = sym c.if-is_reached.ensures in
    leads_back name c.args.reached.now.items (place (full_ref_bytes c.as_ref.result)) (place (full_bytes c.args.reference.now.name)) c.cycle.result
    (subst (λ (names : List FullName). list_any (λ (n : FullName). bytes_eq name (full_bytes n)) names ≡ true) c.deref.ensures.value again) (ap place c.as_ref.ensures) c.cycle.ensures

pub returns-clause-first : goal.returns-clause-first
returns-clause-first g c =
    let name = full_bytes c.args.next.name in
    let first = sym c.if-is_reached.ensures in
    sym (any_named name c.args.reached.now.items)
    ∙ subst (λ (names : List FullName). list_any (λ (n : FullName). bytes_eq name (full_bytes n)) names ≡ false) c.deref.ensures.value first
