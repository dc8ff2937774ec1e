use Rattle.std.proofs.Common.{◌≡◌, ◌-◌, ◌+◌, ⊎_elim, suc, List, Err, true, refl, arith, sym, ◌∙◌, ap, subst}
use Rattle.gix_ref_target.specs.Targets.{target_value}
use Rattle.gix_ref_target.specs.PackedRecords.{Record}
use Rattle.gix_ref_store.specs.Lookup.{AreAskedIn}
use Rattle.gix_ref_packed_text.specs.declared.raw.Reference.{Reference}
use Rattle.gix_ref_follow.specs.Following.{HitsByName, IsStep, Leads, at_of, follow, is_one_of}
use Rattle.gix_ref_name.specs.Names.{full_bytes}
use Rattle.gix_ref_follow.specs.Followed.{bytes_of_names, finds_in, HitsNext, RefusesStep, Follows, IsNotFollowed}
use Rattle.gix_ref_follow.proofs.Steps.{id_of, follow_object, follow_none, follow_on, follows_refused, leads_more, one_of_more}
use Rattle.gix_ref_follow.proofs.Stores.{asked_on, still_on, hits_on, not_followed_on, looks_up, same_finds}
use Rattle.gix_ref_follow.proofs.chain.follow_among.Goals as goal

pub returns-in-Some-clause-followed : goal.returns-in-Some-clause-followed
returns-in-Some-clause-followed g c h records are =
    let find = finds_in g.F.Files.means c.args.asks_records c.args.store.now records in
    let i = c.loop.counter in
    let reached = bytes_of_names c.loop.reached.items in
    let at = at_of c.loop.reference in
    let left : 5 - i ≡ suc (4 - i) = omega (arith, c.loop-test.true) in
    c.loop.invariant.followed h records are
    ∙ (ap (λ n. follow find n reached at) left
    ∙ follow_object find (4 - i) reached at c.in-Some.id (id_of (target_value c.loop.reference.target) c.in-Some.id c.in-Some.ensures))

pub returns-in-Err-clause-followed : goal.returns-in-Err-clause-followed
returns-in-Err-clause-followed g c h records are =
    let x = c.loop.invariant in
    let e = c.in-Err.ensures in
    let honest = g.F.Files.honest in
    let means = g.F.Files.means in
    let first = c.args.store.now in
    let asks = c.args.asks_records in
    let mid = c.loop.store in
    let find = finds_in means asks first records in
    let i = c.loop.counter in
    let reached = bytes_of_names c.loop.reached.items in
    let start = at_of c.args.reference.now in
    let at = at_of c.loop.reference in
    let error = c.in-Err.error in
    let left : 5 - i ≡ suc (4 - i) = omega (arith, c.loop-test.true) in
    let asked = asked_on {R = g.row.F-Reader.Denot} {G = g.F.Reader.ReadAt} honest means asks first mid c.args.asked.now c.loop.asked x.unchanged x.asked h records are in
    let refused = subst (λ (f : HitsByName). RefusesStep f reached at error) (same_finds honest means asks first mid records x.unchanged h) (e.refused h records asked) in
    let ends = follows_refused find start at i (4 - i) reached error (omega (arith, c.loop-test.true)) (x.leads h records are) (x.followed h records are ∙ ap (λ n. follow find n reached at) left) refused in
    subst (λ (r : Reference). Follows find start (at_of r) (Err error)) (sym e.kept) ends

pub returns-in-Err-clause-failed : goal.returns-in-Err-clause-failed
returns-in-Err-clause-failed g c =
    let x = c.loop.invariant in
    let e = c.in-Err.ensures in
    let honest = g.F.Files.honest in
    let means = g.F.Files.means in
    let faults = g.F.Files.faults in
    let first = c.args.store.now in
    let asks = c.args.asks_records in
    let new = c.take_step.new.store in
    let error = c.in-Err.error in
    subst (λ (r : Reference). IsNotFollowed {R = g.row.F-Reader.Denot} {G = g.F.Reader.ReadAt} honest means faults asks first new c.args.asked.now c.args.reference.now r error) (sym e.kept)
    (not_followed_on {R = g.row.F-Reader.Denot} {G = g.F.Reader.ReadAt} honest means asks first c.loop.store c.args.asked.now c.loop.asked x.unchanged x.asked faults new c.args.reference.now c.loop.reference (bytes_of_names c.loop.reached.items)
    error x.no_fault x.passed e.failed)

pub returns-clause-failed : goal.returns-clause-failed
returns-clause-failed g c =
    let five : c.loop.counter ≡ 5 = omega (arith, c.loop-test.false) in (
      refl,
      λ h readers. subst (λ n. Leads (HitsNext {R = g.row.F-Reader.Denot} {G = g.F.Reader.ReadAt} g.F.Files.means c.args.asks_records c.args.store.now c.args.asked.now) n c.args.reference.now c.loop.reference) five (c.loop.invariant.hits h readers),
    )

pub returns-clause-followed : goal.returns-clause-followed
returns-clause-followed g c h records are =
    let find = finds_in g.F.Files.means c.args.asks_records c.args.store.now records in
    let reached = bytes_of_names c.loop.reached.items in
    let at = at_of c.loop.reference in
    let none : 5 - c.loop.counter ≡ 0 = omega (arith, c.loop-test.false) in
    c.loop.invariant.followed h records are ∙ (ap (λ n. follow find n reached at) none ∙ follow_none find reached at)

pub loop-preserved : goal.loop-preserved
loop-preserved g c =
    let x = c.loop.invariant in
    let e = c.in-Ok.ensures in
    let honest = g.F.Files.honest in
    let means = g.F.Files.means in
    let first = c.args.store.now in
    let asks = c.args.asks_records in
    let mid = c.loop.store in
    let new = c.take_step.new.store in
    let i = c.loop.counter in
    let reached = bytes_of_names c.loop.reached.items in
    let at = at_of c.loop.reference in
    let next = at_of c.take_step.new.reference in
    let left : 5 - i ≡ suc (5 - (i + 1)) = omega (arith, c.loop-test.true) in
    let asked = asked_on {R = g.row.F-Reader.Denot} {G = g.F.Reader.ReadAt} honest means asks first mid c.args.asked.now c.loop.asked x.unchanged x.asked in
    let step = λ (h : honest) (records : List Record) (are : AreAskedIn {R = g.row.F-Reader.Denot} {G = g.F.Reader.ReadAt} means first c.args.asked.now records). subst (λ (f : HitsByName). IsStep f at next) (same_finds honest means asks first mid records x.unchanged h) (e.moved h records (asked h records are)) in
    record {
      followed = λ h records are.
          let find = finds_in means asks first records in
          x.followed h records are
          ∙ (ap (λ n. follow find n reached at) left
          ∙ (follow_on find (5 - (i + 1)) reached at next (step h records are) e.first
          ∙ ap (λ names. follow find (5 - (i + 1)) names next) (sym e.reached)));
      leads = λ h records are. leads_more (IsStep (finds_in means asks first records)) i (at_of c.args.reference.now) at next (x.leads h records are) (step h records are);
      hits = λ h readers. leads_more (HitsNext {R = g.row.F-Reader.Denot} {G = g.F.Reader.ReadAt} means asks first c.args.asked.now) i c.args.reference.now c.loop.reference c.take_step.new.reference (x.hits h readers)
          (hits_on {R = g.row.F-Reader.Denot} {G = g.F.Reader.ReadAt} honest means asks first mid c.args.asked.now c.loop.asked x.unchanged x.asked h c.loop.reference c.take_step.new.reference (e.hit h ((x.asked h).readers readers)));
      passed = λ h readers name one.
          let hit = hits_on {R = g.row.F-Reader.Denot} {G = g.F.Reader.ReadAt} honest means asks first mid c.args.asked.now c.loop.asked x.unchanged x.asked h c.loop.reference c.take_step.new.reference (e.hit h ((x.asked h).readers readers)) in
          ⊎_elim
          (λ (before : is_one_of name reached ≡ true). x.passed h readers name before)
          (λ (here : name ≡ full_bytes c.take_step.new.reference.name). (c.take_step.new.reference, i, (c.loop.reference, x.hits h readers, hit), sym here))
          (one_of_more name (full_bytes c.take_step.new.reference.name) reached (subst (λ names. is_one_of name names ≡ true) e.reached one));
      asked = λ h. still_on {R = g.row.F-Reader.Denot} {G = g.F.Reader.ReadAt} honest means asks first mid c.args.asked.now c.loop.asked x.unchanged x.asked c.take_step.new.asked h (e.asked h);
      no_fault = e.no_fault ∙ x.no_fault;
      unchanged = looks_up honest means first mid new x.unchanged c.take_step.ensures.unchanged;
    }
