use Rattle.std.proofs.Common.{sym, ◌∙◌, subst, IsSome}
use Rattle.gix_ref_name.specs.Names.{full_bytes}
use Rattle.gix_ref_listing.specs.Walks.{Holds, IsFileOfName}
use Rattle.gix_ref_listing.proofs.WalkLemmas.{file_stays, file_holds, known_holds, file_is_file, file_there}
use Rattle.gix_ref_listing.proofs.walk.Root.take_file.Goals as goal
use Rattle.gix_ref_lookup.specs.Lookups.{Among}

pub returns-in_ok-insert-clause-stays : goal.returns-in_ok-insert-clause-stays
returns-in_ok-insert-clause-stays c = file_stays _ c.in-Some.field-0.name c.in-Some.field-0.path c.args.found.now.entries c.insert.new.self.entries c.in_ok-insert.ensures.entries (sym c.contains_key.ensures ∙ c.if-not-contains_key.true)

pub returns-in_ok-insert-clause-holds : goal.returns-in_ok-insert-clause-holds
returns-in_ok-insert-clause-holds c listed =
    let own = rw c.in-Some.is at c.in_ok-name.ensures in
    let key = c.in_ok-key.ensures.items_if_clones_equal (λ x y e. e) ∙ c.to_path.ensures.bytes in
    subst (λ n. Among (Holds n) c.insert.new.self.entries) (key ∙ (own.1 ∙ listed.1)) (file_holds _ c.in-Some.field-0.name c.in-Some.field-0.path c.args.found.now.entries c.insert.new.self.entries c.in_ok-insert.ensures.entries)

pub returns-else-not-contains_key-clause-holds : goal.returns-else-not-contains_key-clause-holds
returns-else-not-contains_key-clause-holds c listed =
    let own = rw c.in-Some.is at c.in_ok-name.ensures in
    let key = c.in_ok-key.ensures.items_if_clones_equal (λ x y e. e) ∙ c.to_path.ensures.bytes in
    subst (λ n. Among (Holds n) c.args.found.now.entries) (key ∙ (own.1 ∙ listed.1)) (known_holds c.args.found.now.entries c.in_ok-key.key (sym c.contains_key.ensures ∙ c.if-not-contains_key.false))

pub returns-in_ok-insert-clause-files : goal.returns-in_ok-insert-clause-files
returns-in_ok-insert-clause-files c before now all = file_is_file _ c.in-Some.field-0.name c.in-Some.field-0.path c.args.found.now.entries c.insert.new.self.entries c.in_ok-insert.ensures.entries before now all

pub returns-in_ok-insert-clause-there : goal.returns-in_ok-insert-clause-there
returns-in_ok-insert-clause-there c view there others all =
    let own = rw c.in-Some.is at c.in_ok-name.ensures in
    let key = c.in_ok-key.ensures.items_if_clones_equal (λ x y e. e) ∙ c.to_path.ensures.bytes in
    let file : IsFileOfName c.args.self view (full_bytes c.in-Some.field-0.name) c.in-Some.field-0.path.items = record {
      own = own.0;
      disk = c.args.disk.now;
      is = own.2;
      asked = own.1;
      there = subst (λ p. IsSome (view p)) (sym own.2) there;
    } in
    file_there _ c.in-Some.field-0.name c.in-Some.field-0.path c.args.found.now.entries c.insert.new.self.entries c.in_ok-insert.ensures.entries others c.args.self view all (sym key)
    (subst (λ n. IsFileOfName c.args.self view n c.in-Some.field-0.path.items) (sym key) file)
