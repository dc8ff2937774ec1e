use Rattle.std.specs.List.{filter}
use Rattle.gix_ref_pack.specs.KeptObjects.{AreKeptFor}
use Rattle.gix_ref_pack.specs.KnownObjects.{is_known}
use Rattle.gix_ref_pack.specs.declared.pack.Loose.{Loose}
use Rattle.gix_ref_pack.proofs.pack.edits_of.Given as goal

-- the edits of the references so far whose objects are known
abbrev pub invariant-loop-name : goal.invariant-loop-name
invariant-loop-name l = AreKeptFor (filter (λ (r : Loose). is_known l.objects r.id) l.yielded) l.edits.items
