use Rattle.std.proofs.Common.{◌≡◌, ◌++◌, subst, sym, rules}
use Rattle.gix_ref_name.specs.NameGrammar.{IsPartialName, IsFullName}
use Rattle.gix_ref_name.specs.Names.{partial_ref_bytes}
use Rattle.gix_ref_name.proofs.CandidateNames.{named_behind}
use Rattle.gix_ref_name.proofs.name.candidates.with_prefix.Goals as goal

pub invariant_of-result : goal.invariant_of-result
invariant_of-result c =
    let whole : c.extend_from_slice-2.new.self.items ≡ c.args.front.now ++ partial_ref_bytes c.args.name = search rules in
    record { valid = subst IsPartialName (sym whole) (named_behind (partial_ref_bytes c.args.name) c.args.front.now c.args.name.valid c.requires).partial }

pub returns-clause-valid : goal.returns-clause-valid
returns-clause-valid c =
    let whole : c.extend_from_slice-2.new.self.items ≡ c.args.front.now ++ partial_ref_bytes c.args.name = search rules in
    subst IsFullName (sym whole) (named_behind (partial_ref_bytes c.args.name) c.args.front.now c.args.name.valid c.requires).full
