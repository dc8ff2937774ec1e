use Rattle.std.proofs.Common.{ap, rules}
use Rattle.gix_ref_name.specs.Names.{full_ref_bytes}
use Rattle.gix_ref_store.specs.Lookup.{settings_of, view_in}
use Rattle.gix_ref_queries.specs.Resolving.{target_read}
use Rattle.gix_ref_queries.proofs.Names.{looks_none, saw_none, saw_some}
use Rattle.gix_ref_queries.proofs.resolve.read_name.Goals as goal

pub returns-in-Ok-Some-clause-reads : goal.returns-in-Ok-Some-clause-reads
returns-in-Ok-Some-clause-reads g c h records are = ap target_read (rw c.in-Ok-Some.field-0-is at (c.in-Ok-Some.ensures.found h records are)).1

pub returns-in-Ok-None-clause-reads : goal.returns-in-Ok-None-clause-reads
returns-in-Ok-None-clause-reads g c h records are = ap target_read (rw c.in-Ok-None.field-0-is at (c.in-Ok-None.ensures.found h records are))

pub returns-in-Err : goal.returns-in-Err
returns-in-Err g c = record {
  reads = λ h records are. _;
  seen = λ h. tt;
  failed = record {
    mid = c.args.store.now;
    new = c.find_full.new.self;
    looked = looks_none g.F.Files.honest g.F.Files.means c.args.store.now;
    fails = c.in-Err.ensures.failed;
    told = search rules;
  };
  no_fault = _;
  unchanged = c.find_full.ensures.unchanged;
}

pub returns-in-Ok-Some-clause-seen : goal.returns-in-Ok-Some-clause-seen
returns-in-Ok-Some-clause-seen g c h =
    saw_some {G = g.F.Reader.ReadAt} (settings_of c.args.store.now) (view_in g.F.Files.means c.args.store.now) (full_ref_bytes c.args.name) c.in-Ok-Some.found (rw c.in-Ok-Some.field-0-is at (c.in-Ok-Some.ensures.seen h))

pub returns-in-Ok-None-clause-seen : goal.returns-in-Ok-None-clause-seen
returns-in-Ok-None-clause-seen g c h =
    saw_none {G = g.F.Reader.ReadAt} (settings_of c.args.store.now) (view_in g.F.Files.means c.args.store.now) (full_ref_bytes c.args.name) (rw c.in-Ok-None.field-0-is at (c.in-Ok-None.ensures.seen h))
