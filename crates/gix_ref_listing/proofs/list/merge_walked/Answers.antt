use Rattle.std.proofs.Common.{sym, ap, subst, List, ℕ, [], Some}
use Rattle.gix_ref_packed_text.specs.Prefixes.{records_prefixed}
use Rattle.gix_ref_listing.specs.OwnRecords.{own_records}
use Rattle.gix_ref_listing.specs.Listings.{merged_listing}
use Rattle.gix_ref_listing.specs.WholeListings.{AreHeldOf, IsAskedOf, key_in}
use Rattle.gix_ref_listing.specs.PlainSettings.{plain}
use Rattle.gix_ref_listing.specs.PackedTexts.{IsTextOf}
use Rattle.gix_ref_listing.proofs.OwedLemmas.{under_names}
use Rattle.gix_ref_listing.proofs.PlainListings.{same_own, to_plain, owes_to_plain}
use Rattle.gix_ref_listing.proofs.Listing.{found_rises, listing_is, all_names}
use Rattle.gix_ref_listing.proofs.list.merge_walked.Goals as goal

pub returns-clause-lists : goal.returns-clause-lists
returns-clause-lists c view before now walk records held =
    let settings = c.args.settings in
    let es = c.args.names.found.entries in
    let prefix = c.args.names.prefix.items in
    let asked : IsAskedOf (key_in settings prefix) records c.in_ok-records.records = subst (λ (p : List ℕ). IsAskedOf (key_in settings p) records c.in_ok-records.records) c.deref.ensures.value
    (c.in_ok-records.ensures.asked records (subst (λ (p : List ℕ). AreHeldOf (key_in settings p) c.args.packed records) (sym c.deref.ensures.value) held)) in
    let rs = records_prefixed (key_in settings prefix) asked.held in
    record {
      listed = merged_listing es (own_records (plain settings) rs);
      is = listing_is (plain settings) view records asked.held prefix asked.ascending asked.named es (found_rises es c.len.ensures.ordered) walk.finds walk.there;
      names = all_names before now es (own_records (plain settings) rs) walk.files;
      yet = to_plain settings record { found = c.args.names.found; packed = c.of-packed.result } (merged_listing es (own_records (plain settings) rs))
          (own_records settings rs, c.of-packed.ensures.ahead rs asked.yet, ap (merged_listing es) (sym (same_own settings rs)));
    }

pub returns-clause-owes : goal.returns-clause-owes
returns-clause-owes c view before now walk =
    let settings = c.args.settings in
    let prefix = c.args.names.prefix.items in
    let named = under_names (plain settings) view prefix c.args.names.found.entries walk.there in (
      record { there = walk.there; files = walk.files; finds = walk.finds },
      λ text given.
          let asked = subst (λ (p : List ℕ). IsTextOf (key_in settings p) c.args.packed text) (sym c.deref.ensures.value) given in
          owes_to_plain settings text (Some []) record { found = c.args.names.found; packed = c.of-packed.result }
          (record { found = named; packed = c.of-packed.ensures.owes text (Some []) (c.in_ok-records.ensures.owes settings text asked) }),
    )
