-- What a walk of the folders of a store found.
use Rattle.std.proofs.Common.{◌≡◌, ℕ, List, sym, subst}
use Rattle.std.specs.List.{All}
use Rattle.gix_ref_files.specs.Files.{FaultCounts}
use Rattle.gix_ref_theory.specs.Views.{View}
use Rattle.gix_ref_lookup.specs.Lookups.{Among}
use Rattle.gix_ref_lookup.specs.declared.settings.Settings.{Settings}
use Rattle.gix_ref_listing.specs.LooseListings.{IsFoundIn, IsLooseListed}
use Rattle.gix_ref_listing.specs.PlainSettings.{plain}
use Rattle.gix_ref_listing.specs.Walks.{Holds, IsFileOrMet}
use Rattle.gix_ref_listing.specs.WholeListings.{IsWalkOf}
use Rattle.gix_ref_listing.specs.declared.list.LooseNames.{LooseNames}
use Rattle.gix_ref_listing.proofs.PlainListings.{loose_of_plain, all_plain}

pub walk_of : (settings : Settings) (view : View) (before now : FaultCounts) (names : LooseNames) (prefix : List ℕ) → names.prefix.items ≡ prefix →
    ((name : List ℕ) → IsLooseListed settings view prefix name → Among (Holds name) names.found.entries) → All (IsFileOrMet before now) names.found.entries → All (IsFoundIn settings view prefix) names.found.entries →
    IsWalkOf (plain settings) view before now names
walk_of settings view before now names prefix same finds files there = record {
  finds = λ name listed. finds name (loose_of_plain settings view prefix name (subst (λ (p : List ℕ). IsLooseListed (plain settings) view p name) same listed));
  files = files;
  there = subst (λ (p : List ℕ). All (IsFoundIn (plain settings) view p) names.found.entries) (sym same) (all_plain settings view prefix names.found.entries there);
}
