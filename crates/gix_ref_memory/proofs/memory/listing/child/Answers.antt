use Rattle.std.proofs.Common.{◌≡◌, List, ℕ, sym, ◌∙◌, subst}
use Rattle.std.specs.Prelude.{Contains}
use Rattle.gix_ref_memory.proofs.ListingLemmas.{rest_is, slash_found, nothing_in}
use Rattle.gix_ref_memory.proofs.memory.listing.child.Goals as goal
use Rattle.gix_ref_memory.proofs.memory.listing.child.Goals.{in_default-via-in-Some+then-not-is_empty+else-not-contains, in_default-via-in-Some+else-not-is_empty, in_default-via-in_default}

pub returns-in_default : goal.returns-in_default
returns-in_default c name good is =
    elim c.in_default.branch [
      | in_default-via-in-Some+then-not-is_empty+else-not-contains w ↦
          let same : w.in-Some.name.now ≡ name = rest_is c.args.folder.now w.in-Some.name.now name (sym w.in-Some.ensures ∙ is) in
          good.1 (subst (λ (n : List ℕ). Contains n 47) same (slash_found w.in-Some.name.now (sym w.if-not-contains.ensures.value)))
      | in_default-via-in-Some+else-not-is_empty w ↦
          let same : w.in-Some.name.now ≡ name = rest_is c.args.folder.now w.in-Some.name.now name (sym w.in-Some.ensures ∙ is) in
          good.0 (sym same ∙ nothing_in w.in-Some.name.now (sym w.if-not-is_empty.ensures))
      | in_default-via-in_default w ↦ w.in_default.ensures name is
    ]
