use Rattle.std.proofs.Common.{◌≡◌, ◌++◌, subst, sym, ◌∙◌, rules, codes, append_assoc}
use Rattle.gix_ref_name.specs.NameGrammar.{IsPartialName, IsFullName}
use Rattle.gix_ref_name.proofs.CandidateNames.{remote_named}
use Rattle.gix_ref_name.proofs.name.candidates.remote_head.Goals as goal

pub invariant_of-result : goal.invariant_of-result
invariant_of-result c =
    let p = c.to_partial_path-path.result.now in
    let front = c.remotes_front-front.result.now in
    let whole : c.extend_from_slice-3.new.self.items ≡ (front ++ p) ++ codes "/HEAD" = search rules in
    record { valid = subst IsPartialName (sym (whole ∙ append_assoc front p (codes "/HEAD"))) (remote_named p front c.to_partial_path-path.ensures.valid c.remotes_front-front.ensures).partial }

pub returns-clause-valid : goal.returns-clause-valid
returns-clause-valid c =
    let p = c.to_partial_path-path.result.now in
    let front = c.remotes_front-front.result.now in
    let whole : c.extend_from_slice-3.new.self.items ≡ (front ++ p) ++ codes "/HEAD" = search rules in
    subst IsFullName (sym (whole ∙ append_assoc front p (codes "/HEAD"))) (remote_named p front c.to_partial_path-path.ensures.valid c.remotes_front-front.ensures).full
