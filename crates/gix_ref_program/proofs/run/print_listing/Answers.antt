use Rattle.std.proofs.Common.{◌≡◌, ◌∙◌, List, ℕ, sym, ap, subst}
use Rattle.gix_ref_files.proofs.Meeting.{fewer_same}
use Rattle.std.specs.Option.{option_map}
use Rattle.gix_ref_store.specs.Listings.{AreHeldFor}
use Rattle.gix_ref_store.specs.Store.{files_of}
use Rattle.gix_ref_store.proofs.Walked.{read_for, records_on, refused_before, walked_on}
use Rattle.gix_ref_program.specs.Runs.{ListRan, ListRanAmong, Prints, prefix_asked}
use Rattle.gix_ref_program.specs.Runs.Ran.{Said}
use Rattle.gix_ref_program.specs.declared.outcome.Outcome.{Outcome}
use Rattle.gix_ref_program.proofs.Listing.{follows_walked, listed_from, no_listing}
use Rattle.gix_ref_program.proofs.Printing.{said, prints_more}
use Rattle.gix_ref_program.proofs.run.print_listing.Goals.{in-Some, in-None}
use Rattle.gix_ref_program.proofs.run.print_listing.Goals as goal

pub returns-in-Ok-open_packed_prefixed-clause-prints : goal.returns-in-Ok-open_packed_prefixed-clause-prints
returns-in-Ok-open_packed_prefixed-clause-prints g c =
    let F = g.F.Files in
    let G = g.F.Reader.ReadAt in
    let opened = c.in-Ok-open_packed_prefixed in
    let start = c.args.store.now in
    let mid = c.walk_prefixed.new.self in
    let now = c.open_packed_prefixed.new.self in
    let new = c.print_among.new.store in
    let names = c.in-Ok.names in
    let prefix = c.match-prefix.prefix.now in
    let before = g.W.Write.contents c.args.out.now in
    let after = g.W.Write.contents c.print_among.new.out in
    let asked : prefix_asked start (option_map (λ text. text.now) c.args.prefix) ≡ prefix = elim c.match-prefix.branch [
      | in-Some w ↦ rw w.in-Some.is (sym (ap (λ p. p.now) w.prefix-is))
      | in-None w ↦ rw w.in-None.is (sym (ap (λ p. p.now) w.prefix-is ∙ w.prefix_of_all-prefix.ensures))
    ] in
    let walked = λ (h : F.honest). walked_on F.honest F.means F.faults start mid now names (c.in-Ok.ensures.walks h) opened.ensures.unchanged (fewer_same _ _ opened.ensures.no_fault) in
    subst (λ (p : List ℕ). Prints (ListRan F.honest F.means F.faults G start new p) before after c.print_among.result) (sym asked)
    (prints_more (ListRanAmong F.honest F.means F.faults now new names c.as_ref.result) (ListRan F.honest F.means F.faults G start new prefix) before after c.print_among.result
    (listed_from F.honest F.means F.faults G start now new prefix names c.as_ref.result c.in-Ok.ensures.judged c.in-Ok.ensures.asked walked
    (λ h records are.
    subst (λ (p : List ℕ). AreHeldFor now p c.as_ref.result records) (sym c.in-Ok.ensures.asked)
    (read_for F.honest F.means mid now prefix opened.packed c.as_ref.result records opened.ensures.unchanged c.as_ref.ensures.value (opened.ensures.holds h records (records_on F.honest F.means start mid records h c.in-Ok.ensures.unchanged are))))
    (λ h. follows_walked F.honest F.means F.faults h start mid now prefix names opened.packed c.as_ref.result c.in-Ok.ensures.unchanged c.in-Ok.ensures.asked c.as_ref.ensures.value (opened.ensures.asked h) (walked h)))
    c.print_among.ensures.prints)

pub returns-in-Err-clause-prints : goal.returns-in-Err-clause-prints
returns-in-Err-clause-prints g c =
    let F = g.F.Files in
    let G = g.F.Reader.ReadAt in
    let start = c.args.store.now in
    let new = c.walk_prefixed.new.self in
    let prefix = c.match-prefix.prefix.now in
    let refused = c.refused.ensures in
    let before = g.W.Write.contents c.args.out.now in
    let after = g.W.Write.contents c.print.new.out in
    let asked : prefix_asked start (option_map (λ text. text.now) c.args.prefix) ≡ prefix = elim c.match-prefix.branch [
      | in-Some w ↦ rw w.in-Some.is (sym (ap (λ p. p.now) w.prefix-is))
      | in-None w ↦ rw w.in-None.is (sym (ap (λ p. p.now) w.prefix-is ∙ w.prefix_of_all-prefix.ensures))
    ] in
    let does = ListRan F.honest F.means F.faults G start new prefix in
    subst (λ (p : List ℕ). Prints (ListRan F.honest F.means F.faults G start new p) before after c.print.result) (sym asked)
    (said does before after c.print.result c.refused.result
    (subst (λ (o : Outcome). does (Said o)) (sym refused.1) (no_listing F.honest F.means F.faults G start new prefix c.in-Err.error c.in-Err.ensures.judged, refused.2)) c.print.ensures.status c.print.ensures.printed)

pub returns-in-Err-open_packed_prefixed-clause-prints : goal.returns-in-Err-open_packed_prefixed-clause-prints
returns-in-Err-open_packed_prefixed-clause-prints g c =
    let F = g.F.Files in
    let G = g.F.Reader.ReadAt in
    let start = c.args.store.now in
    let mid = c.walk_prefixed.new.self in
    let new = c.open_packed_prefixed.new.self in
    let prefix = prefix_asked start (option_map (λ text. text.now) c.args.prefix) in
    let why = c.in-Err-open_packed_prefixed in
    let printing = c.print-in-Err-open_packed_prefixed in
    let refused = c.refused-in-Err-open_packed_prefixed.ensures in
    let does = ListRan F.honest F.means F.faults G start new prefix in
    said does (g.W.Write.contents c.args.out.now) (g.W.Write.contents printing.new.out) printing.result c.refused-in-Err-open_packed_prefixed.result
    (subst (λ (o : Outcome). does (Said o)) (sym refused.1)
    ((λ h. (refused_before F.honest F.means start mid why.error h c.in-Ok.ensures.unchanged (why.ensures.refused h), (F.faults (files_of mid), c.in-Ok.ensures.counts, why.ensures.failed h))), refused.2)) printing.ensures.status printing.ensures.printed
