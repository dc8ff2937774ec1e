use Rattle.std.proofs.Common.{◌≡◌, ◌++◌, ◌∙◌, List, ap, sym, rules, length, drop, vec_len, arith}
use Rattle.std.proofs.lemmas.List.{map-id}
use Rattle.std.proofs.lemmas.Iterator.Adapters.{YieldsList-from_vec}
use Rattle.std.proofs.lemmas.Iterator.Consumers.{YieldsList-so_far}
use Rattle.gix_ref_listing.specs.declared.error.Error.{Error}
use Rattle.gix_ref_pack.specs.LooseObjects.{fault_in, faults_among, loose_in}
use Rattle.gix_ref_pack.proofs.Choosing.{every_error, fault_more, faults_stay, first_faults, map_more, map_none}
use Rattle.gix_ref_pack.proofs.pack.loose_objects.Goals as goal

pub loop-item-preserved-in-Continue-1 : goal.loop-item-preserved-in-Continue-1
loop-item-preserved-in-Continue-1 c =
    let seen = c.loop-item.yielded in
    let item = c.in-Some.item in
    record {
      found = map_more loose_in seen c.loop-item.found.items c.push.new.self.items item c.in-Some-loose_of.loose c.in_ok-push-in-Ok.ensures.items c.loop-item.invariant.found (ap loose_in c.in-Ok.is ∙ (sym c.loose_of.ensures ∙ c.in-Some-loose_of.is));
      broken = faults_stay c.args.broken.now.items c.loop-item.broken.items seen item c.loop-item.invariant.broken (ap fault_in c.in-Ok.is);
    }

pub loop-item-preserved-in_default : goal.loop-item-preserved-in_default
loop-item-preserved-in_default c =
    let seen = c.loop-item.yielded in
    let item = c.in-Some.item in
    record {
      found = map_none loose_in seen c.loop-item.found.items item c.loop-item.invariant.found (ap loose_in c.in-Ok.is ∙ (sym c.loose_of.ensures ∙ c.in_default.is));
      broken = faults_stay c.args.broken.now.items c.loop-item.broken.items seen item c.loop-item.invariant.broken (ap fault_in c.in-Ok.is);
    }

pub loop-item-preserved : goal.loop-item-preserved
loop-item-preserved c =
    let seen = c.loop-item.yielded in
    let item = c.in-Some.item in
    record {
      found = map_none loose_in seen c.loop-item.found.items item c.loop-item.invariant.found (ap loose_in c.in-Err.is);
      broken = fault_more c.args.broken.now.items c.loop-item.broken.items c.push-in-Err.new.self.items seen item c.in-Err.error c.in_ok-push-in-Err.ensures.items c.loop-item.invariant.broken (ap fault_in c.in-Err.is);
    }

pub returns-in_err-push-in-Ok-clause-some : goal.returns-in_err-push-in-Ok-clause-some
returns-in_err-push-in-Ok-clause-some c =
    let items = c.args.items.items in
    let seen = c.loop-item.yielded in
    let broken = c.loop-item.broken.items in
    let long : vec_len c.args.items ≡ length items = omega arith in
    let rest = c.into_iter-item-iterator.ensures.into_iter_gives in
    let so_far = YieldsList-so_far (YieldsList-from_vec items rest.0 (rest.1 ∙ long)) seen c.loop-item.item-iterator c.loop-item.yielded_by in
    every_error c.from_residual.result ((more : List Error) × (broken ++ more ≡ c.args.broken.now.items ++ faults_among items))
    (faults_among (drop (length seen) items), first_faults c.args.broken.now.items broken seen items c.loop-item.invariant.broken (sym (map-id seen) ∙ so_far))

pub returns-in_err-push-in-Err-clause-some : goal.returns-in_err-push-in-Err-clause-some
returns-in_err-push-in-Err-clause-some c =
    let items = c.args.items.items in
    let seen = c.loop-item.yielded in
    let long : vec_len c.args.items ≡ length items = omega arith in
    let rest = c.into_iter-item-iterator.ensures.into_iter_gives in
    let so_far = YieldsList-so_far (YieldsList-from_vec items rest.0 (rest.1 ∙ long)) seen c.loop-item.item-iterator c.loop-item.yielded_by in
    let same : c.push-in-Err.new.self.items ≡ c.loop-item.broken.items = search rules in
    every_error c.from_residual-in_err-push-in-Err.result ((more : List Error) × (c.push-in-Err.new.self.items ++ more ≡ c.args.broken.now.items ++ faults_among items))
    (faults_among (drop (length seen) items), first_faults c.args.broken.now.items c.push-in-Err.new.self.items seen items (same ∙ c.loop-item.invariant.broken) (sym (map-id seen) ∙ so_far))
