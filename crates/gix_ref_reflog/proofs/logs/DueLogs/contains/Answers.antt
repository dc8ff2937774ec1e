use Rattle.std.proofs.Common.{◌∙◌, sym, false, map, ℕ}
use Rattle.std.specs.Prelude.{Vec}
use Rattle.std.specs.declared.alloc.Global.{Global}
use Rattle.gix_ref_reflog.specs.internal.SeenLogs.{last_path}
use Rattle.gix_ref_reflog.proofs.LogPaths.{among_both, key_found}
use Rattle.gix_ref_reflog.proofs.logs.DueLogs.contains.Goals as goal

pub returns-else-is_last : goal.returns-else-is_last
returns-else-is_last c =
    let s = c.args.self.now in
    let q = c.args.path.now in
    among_both q (last_path s.last) (map (λ (p : Vec ℕ Global). p.items) s.earlier.keys) false c.contains.result
    (sym c.if-is_last.false ∙ c.is_last.ensures) (c.contains.ensures ∙ key_found q s.earlier.keys)
