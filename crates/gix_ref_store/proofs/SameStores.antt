-- A store that is the same except for what its files hold.
use Rattle.std.proofs.Common.{◌≡◌, sym, ◌∙◌, subst}
use Rattle.gix_ref_store.specs.Store.{IsSameStore}
use Rattle.gix_ref_store.specs.declared.file.store.Store.{Store}

-- what holds of one value holds of the same
pub at_same : {A : Type 0} (P : A → Type 0) {x y : A} → x ≡ y → P y → P x
at_same P same holds = subst P (sym same) holds

-- from one call to the next
pub same_on : {F : Type 0} (first mid last : Store F) → IsSameStore first mid → IsSameStore mid last → IsSameStore first last
same_on first mid last a b = record {
  dirs = b.dirs ∙ a.dirs;
  namespace = b.namespace ∙ a.namespace;
  of_kind = b.of_kind ∙ a.of_kind;
  reflogs = b.reflogs ∙ a.reflogs;
  composes = b.composes ∙ a.composes;
  prohibits = b.prohibits ∙ a.prohibits;
  threshold = b.threshold ∙ a.threshold;
}
